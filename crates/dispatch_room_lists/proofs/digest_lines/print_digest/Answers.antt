use Rattle.std.proofs.Common.{inl, inr, refl}
use Rattle.dispatch_room_lists.proofs.RefusalLemmas.{refused_by}
use Rattle.dispatch_room_lists.proofs.digest_lines.print_digest.Goals as goal

pub returns-in-Ok : goal.returns-in-Ok
returns-in-Ok g c = record {
  ready = c.digest_of_room.ensures.ready;
  clean = c.digest_of_room.ensures.trusted;
  same = c.digest_of_room.ensures.same;
  printed = inr (
    c.digest_of.result,
    c.digest_of.ensures.is_one,
    λ clean terminals room is. rw (c.in-Ok.ensures.known clean terminals room is) at c.digest_of.ensures.written,
    rw c.as_slice.ensures at c.print_digits.ensures,
  );
}

pub returns-in-Err : goal.returns-in-Err
returns-in-Err g c = record {
  ready = c.digest_of_room.ensures.ready;
  clean = c.digest_of_room.ensures.trusted;
  same = c.digest_of_room.ensures.same;
  printed =
      inl
      (c.refused.result, refl, rw c.refused.ensures (refused_by c.in-Err.refusal c.in-Err.ensures.unavailable), refl);
}
