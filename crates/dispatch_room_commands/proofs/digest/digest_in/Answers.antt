use Rattle.std.proofs.Common.{Err, MatchResult, Ok, Result, refl}
use Rattle.std.specs.Result.{IsErrAnd}
use Rattle.dispatch_room_commands.proofs.digest.digest_in.Goals as goal

on_err : {T E : Type 0} (r : Result T E) (P : T → Type 0) (Q A : E → Type 0) → IsErrAnd r A
    → ((e : E) → A e → Q e) → MatchResult r P Q
on_err (Ok x) P Q A is by = absurd is
on_err (Err e) P Q A is by = by e is

pub returns-in_err-room : goal.returns-in_err-room
returns-in_err-room g c =
    on_err c.from_residual.result _ _ _ c.from_residual.ensures.1
    (λ fault is. (rw is c.in_err-room.ensures.fault, refl))

pub returns : goal.returns
returns g c = record {
  opened = c.in_ok-room.room;
  last = c.print_digest-done.new.room;
  opens = c.in_ok-room.ensures.room;
  prints = c.print_digest-done.ensures;
  closed = c.close.ensures;
}
