use Rattle.std.proofs.Common.{refl, sym, ◌∙◌, ◌≡◌}
use Rattle.std.proofs.lemmas.Option.{IfSome_then}
use Rattle.std.specs.Prelude.{filter}
use Rattle.room_store_cache.proofs.RecentLaws.{since_put}
use Rattle.room_store_cache.specs.RecentIncidents.{opened_since}
use Rattle.room_store_cache.proofs.recent_incidents.RecentIncidentsView.apply.Goals as goal

pub returns-in-Some : goal.returns-in-Some
returns-in-Some c room in_order recent =
    let known = c.in-Some.known in
    let i = c.in-PutIncident.incident in
    let here : known.incidents
    ≡ filter (opened_since known.from) room.incidents = rw (sym c.take.ensures.value ∙ c.in-Some.is) at recent in
    rw c.in-PutIncident.is (IfSome_then c.with.result c.with.ensures
    (λ x made.
    rw made.0 (made.1 ∙ since_put known.from i _ known.incidents room.incidents refl in_order.incidents here)))
