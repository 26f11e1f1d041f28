use Rattle.std.proofs.Common.{◌∙◌, ap, sym}
use Rattle.std.specs.Prelude.{nat_eq}
use Rattle.room_http_requests.specs.BodyFields.{are_so_many}
use Rattle.room_http_requests.proofs.FieldLemmas.{members_count-view}
use Rattle.room_http_requests.proofs.body_fields.has_members.Goals as goal

pub returns-in-Some : goal.returns-in-Some
returns-in-Some c =
    ap (λ n. nat_eq n c.args.count) (c.len.ensures.len ∙ sym (members_count-view c.in-Some.members.now.entries))
    ∙ ap (are_so_many c.args.count) c.in-Some.ensures
