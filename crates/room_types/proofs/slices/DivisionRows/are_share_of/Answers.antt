use Rattle.std.proofs.Common.{◌≡◌, rules}
use Rattle.std.proofs.lemmas.Bool.Decides.{Decides-at}
use Rattle.room_types.specs.Slices.{is_share}
use Rattle.room_types.proofs.ShareLaws.{share_decides}
use Rattle.room_types.proofs.slices.DivisionRows.are_share_of.Goals as goal

pub returns-then-assignments_agree-clause-share : goal.returns-then-assignments_agree-clause-share
unfolding is_share
returns-then-assignments_agree-clause-share c =
    let test : c.turns_agree-turns_agree.result ≡ is_share c.args.division c.args.self.now = search rules in
    Decides-at _ _ test (share_decides _ _ c.vehicles_agree-vehicles_agree.ensures.in_order
    c.assignments_agree-assignments_agree.ensures.in_order c.turns_agree-turns_agree.ensures.in_order)

pub returns-else-assignments_agree-clause-share : goal.returns-else-assignments_agree-clause-share
unfolding is_share
returns-else-assignments_agree-clause-share c =
    Decides-at _ _ (search rules) (share_decides c.args.division c.args.self.now
    c.vehicles_agree-vehicles_agree.ensures.in_order c.assignments_agree-assignments_agree.ensures.in_order
    c.turns_agree-turns_agree.ensures.in_order)
