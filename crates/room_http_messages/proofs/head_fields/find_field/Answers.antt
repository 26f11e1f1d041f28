use Rattle.std.proofs.Common.{refl, ◌∙◌, sym, get_or}
use Rattle.room_http_messages.specs.HeadFields.{values_of}
use Rattle.room_http_messages.proofs.FieldLemmas.{FoundIs-more, FoundIs-less, same_name}
use Rattle.room_http_messages.proofs.head_fields.find_field.Goals as goal
use Rattle.room_http_messages.proofs.head_fields.find_field.Goals.{then-eq_ignore_ascii_case}
use Rattle.room_http_messages.proofs.head_fields.find_field.Goals.{else-eq_ignore_ascii_case}

pub loop-header-init : goal.loop-header-init
unfolding values_of
loop-header-init c = refl

pub loop-header-preserved : goal.loop-header-preserved
loop-header-preserved c =
    elim c.if-eq_ignore_ascii_case.branch [
      | then-eq_ignore_ascii_case w ↦ rw (w.found-is, w.with-found.ensures)
          (FoundIs-more c.args.buf.now c.args.name.now c.args.headers.now c.loop-header.header-index _
          c.loop-header.found c.requires c.loop-header-test.true
          (sym (same_name c.args.buf.now c.args.name.now _ (get_or c.args.headers.now c.loop-header.header-index _) _
          c.of.ensures c.eq_ignore_ascii_case.ensures.test) ∙ w.if-eq_ignore_ascii_case.true)
          c.loop-header.invariant)
      | else-eq_ignore_ascii_case w ↦ rw w.found-is
          (FoundIs-less c.args.buf.now c.args.name.now c.args.headers.now c.loop-header.header-index _
          c.loop-header.found c.loop-header-test.true
          (sym (same_name c.args.buf.now c.args.name.now _ (get_or c.args.headers.now c.loop-header.header-index _) _
          c.of.ensures c.eq_ignore_ascii_case.ensures.test) ∙ w.if-eq_ignore_ascii_case.false)
          c.loop-header.invariant)
    ]
