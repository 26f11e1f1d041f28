use Rattle.std.proofs.Common.{Ok, ap, refl, sym, w64, ◌∙◌}
use Rattle.std.proofs.lemmas.Int.{to_z-of_z}
use Rattle.room_model.specs.RoomSlices.{room_of}
use Rattle.room_incident.proofs.ClassLaws.{class_times_so}
use Rattle.room_incident.proofs.RowLaws.{owned_incidents}
use Rattle.room_incident.proofs.class_times.day_class_times.Goals as goal

pub returns : goal.returns
returns c plan =
    let slice = c.args.slice.now in
    let d = slice.division in
    let owned = owned_incidents d slice.rows slice.agrees in
    sym (class_times_so d c.args.from c.args.to (room_of plan slice.rows) slice.rows.incidents refl owned
    _ _ _ _ _ _ _ _
    (to_z-of_z w64 c.args.from c.ranges.from)
    (to_z-of_z w64 c.args.to c.ranges.to)
    c.of.ensures c.of-2.ensures c.of-3.ensures c.class_line.ensures c.class_line-2.ensures c.class_line-3.ensures)
    ∙ ap (λ x. Ok x) (sym c.show.ensures)
