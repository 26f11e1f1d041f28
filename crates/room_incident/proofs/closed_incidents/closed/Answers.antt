use Rattle.std.proofs.Common.{Ok, ap, sym, w64, ◌∙◌}
use Rattle.std.proofs.lemmas.Int.{to_z-of_z}
use Rattle.room_types.specs.declared.answers.Answer.TheVariants as answer
use Rattle.room_types.specs.declared.answers.ClosedPage.{ClosedPage}
use Rattle.room_model.specs.ClosedIncidents.{page_of, show_closed}
use Rattle.room_model.specs.Decisions.{show}
use Rattle.room_model.specs.RoomSlices.{room_of}
use Rattle.room_incident.proofs.ClosedLaws.{pages_so}
use Rattle.room_incident.proofs.closed_incidents.closed.Goals as goal

pub returns : goal.returns
unfolding show_closed
returns c plan =
    let slice = c.args.slice.now in
    let page = rw (to_z-of_z w64 c.args.from c.ranges.from, to_z-of_z w64 c.args.to c.ranges.to) at
    c.in_ok-page.ensures.page in
    let room = room_of plan slice.rows in
    let whole = page ∙ ap page_of (pages_so slice.division c.args.from c.args.to c.args.search.now room) in
    sym (ap (λ (p : ClosedPage). show (answer.Closed p)) whole) ∙ ap (λ x. Ok x) (sym c.show.ensures)
