use Rattle.std.proofs.Common.{subst, sym}
use Rattle.dispatch_room_cli.proofs.MatchLemmas.{counted}
use Rattle.dispatch_room_cli.specs.AskedTasks.{IsCount, given_in}
use Rattle.dispatch_room_cli.proofs.argument_parser.connections_of.Goals as goal

pub returns : goal.returns
returns c =
    subst (IsCount (given_in c.args.given.now)) (sym c.unwrap_or.ensures)
    (counted (given_in c.args.given.now) c.count.result c.count.ensures)
