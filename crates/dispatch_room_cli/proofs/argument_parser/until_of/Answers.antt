use Rattle.std.proofs.Common.{codes}
use Rattle.dispatch_room_cli.proofs.MatchLemmas.{limited, unlimited}
use Rattle.dispatch_room_cli.specs.AskedTasks.{given_in}
use Rattle.dispatch_room_cli.proofs.argument_parser.until_of.Goals as goal

pub returns : goal.returns
returns c =
    limited (given_in c.args.given.now) (codes "until") 0 4102444799 c.in_ok-number.number c.new.result
    c.in_ok-number.ensures c.new.ensures

pub returns-in_err-number : goal.returns-in_err-number
returns-in_err-number c =
    rw c.from_residual.ensures
    (unlimited (given_in c.args.given.now) (codes "until") 0 4102444799 c.in_err-number.ensures)
