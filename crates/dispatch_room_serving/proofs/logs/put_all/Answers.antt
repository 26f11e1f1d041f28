use Rattle.std.proofs.Common.{arith, drop, sym, take}
use Rattle.std.proofs.lemmas.List.{take-append-drop}
use Rattle.std.proofs.Math.Seq.{take-add}
use Rattle.room_http_messages.proofs.StreamLemmas.{Appends-keeps, Appends-more, Appends-zero}
use Rattle.room_http_messages.proofs.StreamLemmas.{whole_rest, length-whole_rest}
use Rattle.dispatch_room_serving.proofs.logs.put_all.Goals as goal
use Rattle.dispatch_room_serving.proofs.logs.put_all.Goals.{in-Ok, in-Err}

pub returns-in-Ok-eq0 : goal.returns-in-Ok-eq0
returns-in-Ok-eq0 g c =
    let none = rw c.in-Ok-eq0.is at c.write.ensures.bytes in (
      take c.tries.written c.args.bytes.now,
      (drop c.tries.written c.args.bytes.now, sym (take-append-drop c.tries.written c.args.bytes.now)),
      Appends-zero _ _ _ _ _ _ c.tries.invariant.held none c.in-Ok-eq0.field-0-test,
    )

pub returns-in-Err-2 : goal.returns-in-Err-2
returns-in-Err-2 g c = (
  take c.tries.written c.args.bytes.now,
  (drop c.tries.written c.args.bytes.now, sym (take-append-drop c.tries.written c.args.bytes.now)),
  Appends-keeps _ _ _ _ c.tries.invariant.held c.in-Err-2.ensures.bytes,
)

pub tries-preserved : goal.tries-preserved
tries-preserved g c = elim c.match-write.branch [
  | in-Ok w ↦ record {
    within = omega (arith, w.written-is, w.in-Ok.ensures.bound, length-whole_rest c.args.bytes.now c.tries.written);
    held =
        rw w.written-is
        (rw (take-add c.tries.written w.in-Ok.count c.args.bytes.now)
        (Appends-more _ _ _ _ _ c.tries.invariant.held (rw whole_rest at w.in-Ok.ensures.bytes)));
  }
  | in-Err w ↦ record {
    within = omega (arith, w.written-is, c.tries.invariant.within);
    held = rw w.written-is (Appends-keeps _ _ _ _ c.tries.invariant.held w.in-Err.ensures.bytes);
  }
]

pub returns : goal.returns
returns g c = (
  take c.tries.written c.args.bytes.now,
  (drop c.tries.written c.args.bytes.now, sym (take-append-drop c.tries.written c.args.bytes.now)),
  c.tries.invariant.held,
)
