use Rattle.std.proofs.Common.{rules, ◌∙◌}
use Rattle.room_alloc.proofs.ViewLaws.{vehicles_shown}
use Rattle.room_alloc.proofs.desk_views.vehicles.Goals as goal

pub returns : goal.returns
returns c plan =
    let slice = c.args.slice.now in
    vehicles_shown slice.division slice.rows slice.agrees plan ∙ search rules
