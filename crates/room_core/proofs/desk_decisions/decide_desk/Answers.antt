use Rattle.std.proofs.Common.{ap, inl, inr, subst, sym, ◌∙◌, ◌≡◌}
use Rattle.room_model.proofs.OwnDesk.{single_equal, single_own}
use Rattle.room_model.proofs.WorkingLaw.{desk_working}
use Rattle.room_model.specs.RoomSlices.{room_of}
use Rattle.room_model.specs.Step.{DecidesAsked, single_asks}
use Rattle.room_core.proofs.desk_decisions.decide_desk.Goals as goal

pub returns-clause-decides : goal.returns-clause-decides
returns-clause-decides c r formed planned read =
    let d = c.args.slice.now.division in
    let a = c.args.ask.now in
    let at = c.args.at in
    let here = ap (λ plan. single_asks d a at (room_of plan c.args.slice.now.rows)) (sym planned) in
    let asked : single_asks d a at (room_of r.plan c.args.slice.now.rows) ≡ single_asks d a at r = elim read [
      | inl e ↦ ap (single_asks d a at) e ∙ desk_working d r formed a at
      | inr e ↦ ap (single_asks d a at) e ∙ single_own d r formed.order a at
    ] in
    subst (λ decided. DecidesAsked a decided c.decide.result) (here ∙ asked) c.decide.ensures

pub returns-clause-apart : goal.returns-clause-apart
returns-clause-apart c r other formed planned read order same =
    subst (λ decided. DecidesAsked c.args.ask.now decided c.decide.result)
    (single_equal c.args.slice.now.division c.args.ask.now c.args.at r other formed.order order same)
    (returns-clause-decides c r formed planned read)
