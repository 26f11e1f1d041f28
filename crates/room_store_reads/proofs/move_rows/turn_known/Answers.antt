use Rattle.std.proofs.Common.{None, Some, ap, subst, sym, ◌∙◌, ◌≡◌}
use Rattle.std.proofs.lemmas.Result.{IfOk-weaker}
use Rattle.std.specs.Prelude.{filter, true, ◌&&◌, ◌==◌}
use Rattle.room_types.specs.Codes.{is_mobilised}
use Rattle.room_types.specs.declared.tables.Vehicle.{Vehicle}
use Rattle.room_model.specs.Queries.{held}
use Rattle.room_model.specs.WorkingRows.{is_last_turn}
use Rattle.room_store_reads.proofs.MoveReads.{same_vehicle, unheld}
use Rattle.room_store_reads.proofs.move_rows.turn_known.Goals as goal

pub returns-in-Some : goal.returns-in-Some
unfolding held
returns-in-Some c =
    IfOk-weaker c.last_known.result _ _ (λ x is room v in_order fleet there on.
    let own : c.owned_row.result
    ≡ held c.args.division c.args.callsign.now room =
    rw (c.copied-vehicle.ensures ∙ c.get-2.ensures, c.get.ensures, fleet.rows.vehicles) at c.owned_row.ensures in
    let same : v ≡ c.in-Some.vehicle = same_vehicle _ v _ (own ∙ there) c.in-Some.is in
    is room in_order fleet.turns (subst (λ w. is_mobilised w.status ≡ true) same on)
    ∙ (λ i. filter (λ t. t.division == c.args.division && is_last_turn (Some (sym same i)) t) room.turns))
    c.last_known.ensures

pub returns-in-None : goal.returns-in-None
unfolding held
returns-in-None c room v in_order fleet there on =
    let own : c.owned_row.result
    ≡ held c.args.division c.args.callsign.now room =
    rw (c.copied-vehicle.ensures ∙ c.get-2.ensures, c.get.ensures, fleet.rows.vehicles) at c.owned_row.ensures in
    unheld _ v (own ∙ there) c.in-None.is
