use Rattle.std.proofs.Common.{subst, sym, ◌∙◌}
use Rattle.std.proofs.lemmas.Bool.{false≢true}
use Rattle.room_model.specs.RoomSlices.{room_of}
use Rattle.room_store_check_rows.specs.Misfits.{DetectsOf}
use Rattle.room_store_check_rows.proofs.TerminalFaults.{terminals_detected, unordered}
use Rattle.room_store_check_rows.proofs.terminal_checks.terminals_fault.Goals as goal

pub returns-then-not-are_keyed-clause-detected : goal.returns-then-not-are_keyed-clause-detected
returns-then-not-are_keyed-clause-detected c =
    unordered (room_of c.args.plan.now.areas c.args.rows.now) c.args.terminals.now
    (λ keyed. false≢true (sym c.if-not-are_keyed.true ∙ c.are_keyed.ensures.1 keyed))

pub returns-clause-detected : goal.returns-clause-detected
returns-clause-detected c =
    let keyed = c.are_keyed.ensures.0 c.if-not-are_keyed.false in
    subst (DetectsOf (room_of c.args.plan.now.areas c.args.rows.now) c.args.terminals.now) (sym c.fault_by.ensures)
    (terminals_detected c.args.plan.now.areas c.args.rows.now c.args.terminals.now c.in_ok-crews.crews keyed
    c.as_slice-in_order.ensures.keyed c.in_ok-crews.ensures)
