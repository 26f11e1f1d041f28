use Rattle.std.proofs.Common.{◌≡◌, rules}
use Rattle.std.proofs.lemmas.Bool.Decides.{Decides-at}
use Rattle.room_types.specs.Crews.{is_crew}
use Rattle.room_types.proofs.CrewLaws.{crew_decides}
use Rattle.room_types.proofs.crews.CrewRows.are_crew.Goals as goal

pub returns-then-are_own-clause-crew : goal.returns-then-are_own-clause-crew
unfolding is_crew
returns-then-are_own-clause-crew c =
    let test : c.sent_agrees.result ≡ is_crew c.args.self.now = search rules in
    Decides-at _ _ test (crew_decides c.args.self.now)

pub returns-else-are_own-clause-crew : goal.returns-else-are_own-clause-crew
unfolding is_crew
returns-else-are_own-clause-crew c =
    let test : c.are_own.result ≡ is_crew c.args.self.now = search rules in
    Decides-at _ _ test (crew_decides c.args.self.now)
