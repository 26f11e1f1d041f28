use Rattle.dispatch_room_cli.proofs.MatchLemmas.{is_matched}
use Rattle.dispatch_room_cli.specs.AskedTasks.{given_in}
use Rattle.dispatch_room_cli.proofs.argument_parser.task_of.Goals as goal

pub returns-clause-asked : goal.returns-clause-asked
returns-clause-asked c =
    is_matched c.args.matches.now c.in-Some.name.now (given_in c.in-Some.given.now) c.task_by.result
    c.in-Some.ensures.name c.in-Some.ensures.rows c.task_by.ensures.asked
