use Rattle.std.proofs.Common.{sym, ap, ◌∙◌, ◌++◌, arith, length-append}
use Rattle.dispatch_room_journal.specs.Chains.{sha256_digits}
use Rattle.dispatch_room_journal.specs.RecordFronts.{front_of, number_in, sized_front}
use Rattle.dispatch_room_journal.proofs.FrontLemmas.{front_short, front_sized, number_stays}
use Rattle.dispatch_room_journal.proofs.FrontLemmas.{stays_by}
use Rattle.dispatch_room_journal.proofs.record_fronts.look_at.Goals as goal

pub returns-then-bytes-lt1 : goal.returns-then-bytes-lt1
returns-then-bytes-lt1 c = c.if-bytes-lt1.true

pub returns-then-bytes-lt-HEADER : goal.returns-then-bytes-lt-HEADER
returns-then-bytes-lt-HEADER c = (
  c.if-bytes-lt1.false,
  omega (arith, c.if-bytes-lt-HEADER.true),
  front_short sha256_digits c.args.link.now.check c.args.link.now.has_ended c.args.bytes.now c.if-bytes-lt1.false
      c.if-bytes-lt-HEADER.true,
)

pub returns : goal.returns
returns c =
    let text = c.args.bytes.now in
    let link = c.args.link.now in
    let long = c.if-bytes-lt-HEADER.false in
    let sized = sized_front sha256_digits link.check link.has_ended in
    stays_by (front_of sha256_digits link.check link.has_ended)
    (λ t. sized t c.number_in.result)
    link.has_ended text c.sized_front.result
    (λ more.
    front_sized sha256_digits link.check link.has_ended (text ++ more) (omega (arith, long, length-append text more))
    ∙ ap (sized (text ++ more)) (number_stays text more long ∙ sym c.number_in.ensures))
    (front_sized sha256_digits link.check link.has_ended text long ∙ ap (sized text) (sym c.number_in.ensures))
    c.sized_front.ensures
