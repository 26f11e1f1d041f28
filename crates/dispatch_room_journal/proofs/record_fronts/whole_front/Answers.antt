use Rattle.std.proofs.Common.{sym, ap, take, ◌∙◌}
use Rattle.std.specs.Str.{bytes_eq}
use Rattle.dispatch_room_journal.specs.Chains.{header, next_check, sha256_digits}
use Rattle.dispatch_room_journal.specs.RecordFronts.{comes_next}
use Rattle.dispatch_room_journal.specs.declared.record_headers.TheConstants.{HEADER}
use Rattle.dispatch_room_journal.proofs.FrontLemmas.{whole_again, whole_other, whole_next}
use Rattle.dispatch_room_journal.proofs.record_fronts.whole_front.Goals as goal

pub returns-then-not-comes_next : goal.returns-then-not-comes_next
returns-then-not-comes_next c =
    let link = c.args.link.now in
    whole_again sha256_digits link.check link.has_ended c.args.bytes.now c.args.size c.requires.whole
    (ap (comes_next link.has_ended) (sym c.body_of-body.ensures) ∙ sym c.comes_next.ensures ∙ c.if-not-comes_next.true)

pub returns-then-has_line : goal.returns-then-has_line
returns-then-has_line c =
    let link = c.args.link.now in
    let text = c.args.bytes.now in
    let size = c.args.size in
    let next = c.check_after-check.ensures ∙ ap (next_check sha256_digits link.check) c.body_of-body.ensures in
    let line = c.as_slice.ensures.value ∙ c.header_of-header.ensures ∙ ap (header size) next in
    rw next
    (whole_next sha256_digits link.check link.has_ended text size c.requires.whole c.requires.some
    (ap (comes_next link.has_ended) (sym c.body_of-body.ensures) ∙ sym c.comes_next.ensures ∙ c.if-not-comes_next.false)
    (sym (c.has_line.ensures ∙ ap (bytes_eq (take HEADER text)) line) ∙ c.if-has_line.true))

pub returns-else-has_line : goal.returns-else-has_line
returns-else-has_line c =
    let link = c.args.link.now in
    let text = c.args.bytes.now in
    let size = c.args.size in
    let next = c.check_after-check.ensures ∙ ap (next_check sha256_digits link.check) c.body_of-body.ensures in
    let line = c.as_slice.ensures.value ∙ c.header_of-header.ensures ∙ ap (header size) next in
    whole_other sha256_digits link.check link.has_ended text size c.requires.whole
    (ap (comes_next link.has_ended) (sym c.body_of-body.ensures) ∙ sym c.comes_next.ensures ∙ c.if-not-comes_next.false)
    (sym (c.has_line.ensures ∙ ap (bytes_eq (take HEADER text)) line) ∙ c.if-has_line.false)
