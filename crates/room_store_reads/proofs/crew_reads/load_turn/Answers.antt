use Rattle.std.proofs.Common.{rules, sym, ◌∙◌, ◌≡◌}
use Rattle.room_store_reads.proofs.CrewReads.{turn_of_order}
use Rattle.room_store_reads.proofs.crew_reads.load_turn.Goals as goal

pub returns-clause-row : goal.returns-clause-row
returns-clause-row g c clean config room h formed turns there =
    let v = c.args.vehicle.now in
    let order : c.in-Some.order ≡ v.last_order = search rules in
    turn_of_order v.callsign room order (c.in_ok-last.ensures.turn clean config room h turns) ∙ sym c.not_ended.ensures
