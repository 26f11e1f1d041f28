use Rattle.std.proofs.Common.{◌∙◌, sym, map, refl}
use Rattle.std.specs.Prelude.{◌==◌}
use Rattle.httparse.specs.Spans.{header_bytes}
use Rattle.room_http_messages.proofs.RuleLemmas.{breaks_host, breaks_coding, breaks_length}
use Rattle.room_http_messages.proofs.RuleLemmas.{breaks_expectation, breaks_limit, breaks_none}
use Rattle.room_http_messages.proofs.RuleLemmas.{second_fails, first_fails, is_other, not_too_long}
use Rattle.room_http_messages.proofs.RuleLemmas.{too_long}
use Rattle.room_http_messages.proofs.head_rules.check_head.Goals as goal

pub returns-then-is_host_fault : goal.returns-then-is_host_fault
returns-then-is_host_fault c =
    breaks_host c.args.minor (map (header_bytes c.args.buf.now) c.args.headers.now)
    (sym (c.is_host_fault.ensures _ _ c.find_field.ensures) ∙ c.if-is_host_fault.true)

pub returns-then-is_there : goal.returns-then-is_there
returns-then-is_there c =
    breaks_coding c.args.minor (map (header_bytes c.args.buf.now) c.args.headers.now)
    (sym (c.is_host_fault.ensures _ _ c.find_field.ensures) ∙ c.if-is_host_fault.false)
    (sym (c.is_there.ensures _ _ c.find_field-2.ensures) ∙ c.if-is_there.true)

pub returns-in_default : goal.returns-in_default
returns-in_default c =
    breaks_length c.args.minor (map (header_bytes c.args.buf.now) c.args.headers.now)
    (sym (c.is_host_fault.ensures _ _ c.find_field.ensures) ∙ c.if-is_host_fault.false)
    (sym (c.is_there.ensures _ _ c.find_field-2.ensures) ∙ c.if-is_there.false)
    c.in_default.ensures

pub returns-then-is_there-2 : goal.returns-then-is_there-2
returns-then-is_there-2 c =
    breaks_expectation c.args.minor (map (header_bytes c.args.buf.now) c.args.headers.now)
    (sym (c.is_host_fault.ensures _ _ c.find_field.ensures) ∙ c.if-is_host_fault.false)
    (sym (c.is_there.ensures _ _ c.find_field-2.ensures) ∙ c.if-is_there.false)
    c.in-Some.ensures.0 (rw c.if-minor-eq1.true refl)
    (sym (c.is_there-then-minor-eq1.ensures _ _ c.find_field-then-minor-eq1.ensures) ∙ c.if-is_there-2.true)

pub returns-then-length-gt-BODY_LIMIT : goal.returns-then-length-gt-BODY_LIMIT
returns-then-length-gt-BODY_LIMIT c =
    breaks_limit c.args.minor (map (header_bytes c.args.buf.now) c.args.headers.now)
    (sym (c.is_host_fault.ensures _ _ c.find_field.ensures) ∙ c.if-is_host_fault.false)
    (sym (c.is_there.ensures _ _ c.find_field-2.ensures) ∙ c.if-is_there.false)
    c.in-Some.ensures.0
    (elim c.else-minor-eq1.branch [
      | goal.else-minor-eq1-via-then-minor-eq1+else-is_there-2 w ↦ second_fails (c.args.minor == 1)
          (sym (w.is_there-then-minor-eq1.ensures _ _ w.find_field-then-minor-eq1.ensures) ∙ w.if-is_there-2.false)
      | goal.else-minor-eq1-via-else-minor-eq1 w ↦ first_fails _ _
          (is_other c.args.minor w.if-minor-eq1.false)
    ])
    (too_long _ _ c.in-Some.ensures.1 c.if-length-gt-BODY_LIMIT.true)

pub returns : goal.returns
returns c =
    let fits = not_too_long _ _ c.in-Some.ensures.1 c.if-length-gt-BODY_LIMIT.false in (
      breaks_none c.args.minor (map (header_bytes c.args.buf.now) c.args.headers.now)
          (sym (c.is_host_fault.ensures _ _ c.find_field.ensures) ∙ c.if-is_host_fault.false)
          (sym (c.is_there.ensures _ _ c.find_field-2.ensures) ∙ c.if-is_there.false)
          c.in-Some.ensures.0
          (elim c.else-minor-eq1.branch [
            | goal.else-minor-eq1-via-then-minor-eq1+else-is_there-2 w ↦ second_fails (c.args.minor == 1)
                (sym (w.is_there-then-minor-eq1.ensures _ _ w.find_field-then-minor-eq1.ensures)
                ∙ w.if-is_there-2.false)
            | goal.else-minor-eq1-via-else-minor-eq1 w ↦ first_fails _ _
                (is_other c.args.minor w.if-minor-eq1.false)
          ])
          fits.0,
      fits.1,
      c.if-length-gt-BODY_LIMIT.false,
    )
