use Rattle.std.proofs.Common.{FitsSigned, List, ap, rules, subst, true, w64, ◌∙◌, ◌≡◌}
use Rattle.std.proofs.lemmas.Int.{to_z-of_z}
use Rattle.room_place.specs.Plans.{has_division}
use Rattle.room_place.specs.declared.plans.Area.{Area}
use Rattle.room_model.specs.DayTimes.{show_times}
use Rattle.room_model.specs.Decisions.{answer_of}
use Rattle.room_model.specs.Room.{Room}
use Rattle.room_store.specs.StoredRoom.{IsRoom}
use Rattle.room_store.proofs.KnownLaws.{knows_nothing}
use Rattle.room_store.proofs.StoreLaws.{room_left}
use Rattle.dispatch_room_archive.specs.TimesReport.{report_in}
use Rattle.dispatch_room_archive.proofs.DayReportLemmas.{times_change_nothing, times_shown}
use Rattle.dispatch_room_archive.proofs.times_report.report_of.Goals as goal

pub returns-in-Ok-clause-report : goal.returns-in-Ok-clause-report
returns-in-Ok-clause-report g c clean terminals held is =
    let division = c.args.division in
    let from = c.in-Some.from in
    let to = c.in-Some.to in
    let has : has_division c.args.room.now.plan.areas division ≡ true = search rules in
    let addressed = ap (λ (areas : List Area). has_division areas division) is.plan ∙ has in
    let from_fits : FitsSigned w64 from = search rules in
    let to_fits : FitsSigned w64 to = search rules in
    let stated = (rw (to_z-of_z w64 from from_fits, to_z-of_z w64 to to_fits) at c.in-Ok.ensures.bytes clean terminals
    held is addressed) in
    let report : c.in-Ok.report.items ≡ report_in (answer_of (show_times division from to held)) = search rules in
    ((from, to), c.in-Some.ensures.span, report ∙ times_shown division from to held)

pub returns-in-Ok-clause-same : goal.returns-in-Ok-clause-same
returns-in-Ok-clause-same g c clean terminals held is =
    let division = c.args.division in
    let has : has_division c.args.room.now.plan.areas division ≡ true = search rules in
    let addressed = ap (λ (areas : List Area). has_division areas division) is.plan ∙ has in
    subst (λ (r : Room). IsRoom g.S.Store c.act.new.self terminals r) (times_change_nothing division _ _ held)
    (c.in-Ok.ensures.ok clean terminals held is addressed)

pub returns-in-Err-clause-same : goal.returns-in-Err-clause-same
returns-in-Err-clause-same g c clean terminals held is =
    room_left g.S.Store c.args.room.now c.act.new.self terminals held (c.in-Err.ensures.err clean) c.act.ensures.plan
    (rw c.act.ensures.known is.known) (knows_nothing c.act.new.self.cache held c.in-Err.ensures.failed) is
