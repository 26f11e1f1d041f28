use Rattle.std.proofs.Common.{◌≡◌, refl, rules, [], if◌then◌else◌}
use Rattle.httpdate.specs.Date.{date_text}
use Rattle.room_http.specs.ReplyMessages.{line}
use Rattle.room_http.proofs.HeadLines.{status_added}
use Rattle.room_http.proofs.reply_messages.render.Goals as goal
use Rattle.room_http.proofs.reply_messages.render.Goals.{then-head_only, else-head_only}

pub returns-clause-ok : goal.returns-clause-ok
unfolding line
returns-clause-ok c =
    let sent : c.if-head_only.shown.now ≡ (if c.args.head_only then [] else c.as_slice-content.result.now) =
    elim c.if-head_only.branch [
      | then-head_only w ↦ rw (w.shown-is, w.if-head_only.true) refl
      | else-head_only w ↦ rw (w.shown-is, w.if-head_only.false) refl
    ] in (
      date_text c.unwrap-date.result,
      (c.unwrap-date.result, search rules, refl),
      rw (
        c.in_ok-extend_from_slice.ensures.items,
        c.into_bytes-bytes.ensures.value,
        c.in_ok-push_str.ensures.bytes,
        c.in_ok-put_closing.ensures,
        c.in_ok-put_allow.ensures,
        c.in_ok-put_field-3.ensures,
        c.in_ok-put_field-2.ensures,
        c.in_ok-put_field.ensures,
        status_added _ _ _ c.in_ok-write.ensures.bytes,
        c.in_ok-head.ensures.bytes,
        c.status_of-status.ensures,
        sent,
        c.as_slice-content.ensures.value,
        c.in_ok-content.ensures,
      )
          refl,
    )
