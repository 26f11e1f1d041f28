use Rattle.std.proofs.Common.{rules, ◌∙◌}
use Rattle.room_alloc.proofs.ViewLaws.{offers_shown}
use Rattle.room_alloc.proofs.desk_views.offers.Goals as goal

pub returns : goal.returns
returns c plan =
    let slice = c.args.slice.now in
    offers_shown slice.division slice.rows slice.agrees plan ∙ search rules
