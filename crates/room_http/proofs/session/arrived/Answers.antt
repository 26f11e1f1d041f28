use Rattle.std.proofs.Common.{refl, ◌≡◌}
use Rattle.room_http_messages.specs.declared.read_faults.Unread.TheVariants.{Refused}
use Rattle.room_http.specs.Arrivals.{message, refused}
use Rattle.room_http.proofs.StreamLemmas.{just_message}
use Rattle.room_http.proofs.session.arrived.Goals as goal

pub returns-in-Ok-clause-ok : goal.returns-in-Ok-clause-ok
returns-in-Ok-clause-ok c =
    let whole = rw c.in-Ok.is at c.requires in (
      message whole.0,
      rw c.in-Ok.is whole.1,
      (
        c.message.ensures whole.0 whole.2,
        just_message c.args.inbox.now c.bytes.result.now c.in-Ok.layout whole.0 whole.1 whole.2 whole.3.content.1
            c.bytes.ensures.value c.bytes.ensures.fits,
      ),
    )

pub returns-in-Err-Refused-clause-ok : goal.returns-in-Err-Refused-clause-ok
returns-in-Err-Refused-clause-ok c =
    let r = c.in-Err-Refused.refusal in
    let head_only = c.in-Err-Refused.head_only in
    let why : c.in-Err-Refused.field-0 ≡ Refused r head_only = rw c.in-Err-Refused.is at c.in-Err-Refused.field-0-is in
    (refused r head_only, rw (c.in-Err-Refused.is, why) refl, (refl, refl))
