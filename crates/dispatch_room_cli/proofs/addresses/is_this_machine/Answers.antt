use Rattle.dispatch_room_cli.proofs.AddressLemmas.{by_name}
use Rattle.dispatch_room_cli.proofs.addresses.is_this_machine.Goals as goal

pub returns-in-None : goal.returns-in-None
returns-in-None c = by_name c.args.text.now c.is_localhost.result c.in-None.ensures.none c.is_localhost.ensures
