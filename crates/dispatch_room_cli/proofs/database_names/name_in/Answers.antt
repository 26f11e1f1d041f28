use Rattle.dispatch_room_cli.proofs.DatabaseNameLemmas.{split_name, whole_name}
use Rattle.dispatch_room_cli.proofs.database_names.name_in.Goals as goal

pub returns-in-Some : goal.returns-in-Some
returns-in-Some c = split_name c.args.path.now _ _ c.in-Some.ensures.cases

pub returns-in-None : goal.returns-in-None
returns-in-None c = whole_name c.args.path.now c.in-None.ensures.cases
