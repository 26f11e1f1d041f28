use Rattle.std.proofs.Common.{◌∙◌, sym, refl, get_or, codes}
use Rattle.room_http_messages.specs.ConnectionOptions.{is_close_field}
use Rattle.room_http_messages.proofs.FieldLemmas.{close_field, closes_by_field, no_field_more}
use Rattle.room_http_messages.proofs.FieldLemmas.{same_name, some_field}
use Rattle.room_http_messages.proofs.connection.is_closing.Goals as goal
use Rattle.room_http_messages.proofs.connection.is_closing.Goals.{else-eq_ignore_ascii_case-via-then-eq_ignore_ascii_case+else-has_option}
use Rattle.room_http_messages.proofs.connection.is_closing.Goals.{else-eq_ignore_ascii_case-via-else-eq_ignore_ascii_case}

pub returns-then-has_option : goal.returns-then-has_option
returns-then-has_option c =
    sym (closes_by_field c.args.minor _
    (some_field is_close_field c.args.buf.now c.args.headers.now c.loop-header.header-index _ c.loop-header-test.true
    (close_field c.args.buf.now (get_or c.args.headers.now c.loop-header.header-index _) _ _
    (same_name c.args.buf.now (codes "connection") _ (get_or c.args.headers.now c.loop-header.header-index _) _
    c.of.ensures c.eq_ignore_ascii_case.ensures.test)
    (rw c.of-then-eq_ignore_ascii_case.ensures at c.has_option.ensures)
    ∙ rw (c.if-eq_ignore_ascii_case.true, c.if-has_option.true) refl)))

pub loop-header-preserved : goal.loop-header-preserved
loop-header-preserved c =
    elim c.else-eq_ignore_ascii_case.branch [
      | else-eq_ignore_ascii_case-via-then-eq_ignore_ascii_case+else-has_option w ↦
          no_field_more is_close_field c.args.buf.now c.args.headers.now c.loop-header.header-index _
          c.loop-header-test.true
          (close_field c.args.buf.now (get_or c.args.headers.now c.loop-header.header-index _) _ _
          (same_name c.args.buf.now (codes "connection") _ (get_or c.args.headers.now c.loop-header.header-index _) _
          c.of.ensures c.eq_ignore_ascii_case.ensures.test)
          (rw w.of-then-eq_ignore_ascii_case.ensures at w.has_option.ensures)
          ∙ rw (w.if-eq_ignore_ascii_case.true, w.if-has_option.false) refl)
          c.loop-header.invariant
      | else-eq_ignore_ascii_case-via-else-eq_ignore_ascii_case w ↦
          no_field_more is_close_field c.args.buf.now c.args.headers.now c.loop-header.header-index _
          c.loop-header-test.true
          (close_field c.args.buf.now (get_or c.args.headers.now c.loop-header.header-index _) _ _
          (same_name c.args.buf.now (codes "connection") _ (get_or c.args.headers.now c.loop-header.header-index _) _
          c.of.ensures c.eq_ignore_ascii_case.ensures.test) refl
          ∙ rw w.if-eq_ignore_ascii_case.false refl)
          c.loop-header.invariant
    ]
