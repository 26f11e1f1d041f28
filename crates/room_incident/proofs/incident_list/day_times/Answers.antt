use Rattle.std.proofs.Common.{Ok, ap, of_z, refl, sym, to_z, w64, ℤ, ◌∙◌, ◌≡◌}
use Rattle.std.proofs.lemmas.Int.{to_z-of_z}
use Rattle.room_types.specs.declared.answers.Answer.TheVariants as answer
use Rattle.room_model.specs.DayTimes.{show_times}
use Rattle.room_model.specs.Decisions.{show}
use Rattle.room_model.specs.RoomSlices.{room_of}
use Rattle.room_incident.proofs.RowLaws.{owned_incidents}
use Rattle.room_incident.proofs.incident_list.day_times.Goals as goal

pub times-requires : goal.times-requires
times-requires c =
    let slice = c.args.slice.now in (slice.division, owned_incidents slice.division slice.rows slice.agrees)

pub returns-clause-decides : goal.returns-clause-decides
returns-clause-decides c plan =
    let slice = c.args.slice.now in
    let d = slice.division in
    let room = room_of plan slice.rows in
    let shown : show (answer.Times c.in_ok-times.times) ≡ show_times d c.args.from c.args.to room =
    c.in_ok-times.ensures.times d room refl (owned_incidents d slice.rows slice.agrees)
    ∙ (ap (λ (z : ℤ). show_times d z (to_z w64 (of_z w64 c.args.to)) room) (to_z-of_z w64 c.args.from c.ranges.from)
    ∙ ap (λ (z : ℤ). show_times d c.args.from z room) (to_z-of_z w64 c.args.to c.ranges.to)) in
    sym shown ∙ ap (λ x. Ok x) (sym c.show.ensures)
