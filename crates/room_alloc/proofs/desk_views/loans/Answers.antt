use Rattle.std.proofs.Common.{rules, ◌∙◌}
use Rattle.room_alloc.proofs.ViewLaws.{loans_shown}
use Rattle.room_alloc.proofs.desk_views.loans.Goals as goal

pub returns : goal.returns
returns c plan =
    let slice = c.args.slice.now in
    loans_shown slice.division slice.rows slice.agrees plan ∙ search rules
