use Rattle.std.proofs.Common.{rules, ◌∙◌}
use Rattle.room_alloc.proofs.ViewLaws.{points_shown}
use Rattle.room_alloc.proofs.desk_views.points.Goals as goal

pub returns : goal.returns
returns c plan =
    let slice = c.args.slice.now in
    points_shown slice.division slice.rows slice.agrees plan c.args.at ∙ search rules
