use Rattle.std.proofs.Common.{arith, append-nil, [], Err}
use Rattle.std.proofs.lemmas.Result.{err_from_is_err_and}
use Rattle.room_http_messages.proofs.ReadingLemmas.{Reads-trans, part-append, first_found}
use Rattle.room_http_messages.proofs.message_reader.read_message.Goals as goal

pub reads-init : goal.reads-init
reads-init g c =
    let needs = rw (c.bytes.ensures.value) at c.in-Needs.ensures in
    record {
      read = c.looks.invariant.read;
      sound = c.looks.invariant.sound;
      room = needs.1;
      part = needs.2;
      spent = omega arith;
      begun = λ _. needs.0;
    }

pub read_once-requires-clause-part : goal.read_once-requires-clause-part
read_once-requires-clause-part g c =
    rw append-nil at
    (c.reads.invariant.part [] (rw (append-nil c.reads.inbox, ← c.bytes-in-reads.ensures.value) c.reads-test.true))

pub reads-preserved : goal.reads-preserved
reads-preserved g c =
    let more = c.in_ok-read_once.ensures.says in
    record {
      read = Reads-trans _ _ c.reads.invariant.read c.read_once.ensures.read;
      sound = more.2;
      room = c.reads.invariant.room;
      part = part-append _ _ _ more.1.0 more.1.1 c.reads.invariant.part;
      spent = omega (arith, c.reads.invariant.spent, more.0);
      begun = λ same. absurd (omega (arith, c.reads.invariant.spent, more.0, same));
    }

pub returns-in_err-read_once : goal.returns-in_err-read_once
returns-in_err-read_once g c =
    let p = err_from_is_err_and c.from_residual.result c.from_residual.ensures.1 in
    let read = Reads-trans _ _ c.reads.invariant.read c.read_once.ensures.read in
    let says = c.in_err-read_once.ensures.says in
    rw (p.1, p.2) (record { read = read; says = says; first = first_found _ _ _ _ _ _ _ (Err _) read.same says })
