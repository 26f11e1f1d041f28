use Rattle.std.proofs.Common.{◌∙◌, ap, sym}
use Rattle.serde_json.specs.View.{view}
use Rattle.room_http_requests.specs.BodyFields.{has_members}
use Rattle.room_http_requests.proofs.BodyLemmas.{not_exact}
use Rattle.room_http_requests.proofs.bodies.ask_with_body.Goals as goal

pub returns-then-not-has_members : goal.returns-then-not-has_members
returns-then-not-has_members c =
    not_exact c.args.target.now (view c.args.fields.now)
    (ap (λ n. has_members n (view c.args.fields.now)) (sym c.members.ensures)
    ∙ sym c.has_members.ensures ∙ c.if-not-has_members.true)
