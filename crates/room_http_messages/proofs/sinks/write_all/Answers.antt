use Rattle.std.proofs.Common.{take, drop, sym, arith}
use Rattle.std.proofs.lemmas.List.{take-append-drop}
use Rattle.std.proofs.Math.Seq.{take-add}
use Rattle.room_http_messages.proofs.StreamLemmas.{Appends-keeps, Appends-more, Appends-zero}
use Rattle.room_http_messages.proofs.StreamLemmas.{took_some, took_zero, whole_rest}
use Rattle.room_http_messages.proofs.StreamLemmas.{length-whole_rest}
use Rattle.room_http_messages.proofs.sinks.write_all.Goals as goal

pub writes-preserved : goal.writes-preserved
writes-preserved g c = record {
  within = omega (arith, c.in-Ok.ensures.bound, length-whole_rest c.args.bytes.now c.writes.written);
  held =
      rw (take-add c.writes.written c.in-Ok.count c.args.bytes.now)
      (Appends-more _ _ _ _ _ c.writes.invariant.held (rw whole_rest at c.in-Ok.ensures.bytes));
  sound = took_some _ _ _ _ c.writes.invariant.sound c.in-Ok.ensures.failed c.in-Ok.count-test.1;
}

pub returns-in-Err : goal.returns-in-Err
returns-in-Err g c = record {
  all = tt;
  part = (
    take c.writes.written c.args.bytes.now,
    drop c.writes.written c.args.bytes.now,
    sym (take-append-drop c.writes.written c.args.bytes.now),
    Appends-keeps _ _ _ _ c.writes.invariant.held c.in-Err.ensures.bytes,
    rw c.writes.invariant.sound at c.in-Err.ensures.failed,
  );
}

pub returns-in-Ok-eq0 : goal.returns-in-Ok-eq0
returns-in-Ok-eq0 g c = record {
  all = tt;
  part = (
    take c.writes.written c.args.bytes.now,
    drop c.writes.written c.args.bytes.now,
    sym (take-append-drop c.writes.written c.args.bytes.now),
    Appends-zero _ _ _ _ _ _ c.writes.invariant.held c.in-Ok-eq0.ensures.bytes c.in-Ok-eq0.field-0-test,
    took_zero _ _ _ _ c.writes.invariant.sound c.in-Ok-eq0.ensures.failed c.in-Ok-eq0.field-0-test
        (omega (arith, c.writes-test.true, length-whole_rest c.args.bytes.now c.writes.written)),
  );
}
