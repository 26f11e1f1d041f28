use Rattle.std.specs.Str.Parse.{ExplainsUnsignedError, HasUnsignedDigitsIfOk, ParsesUnsigned}
use Rattle.dispatch_room_cli.proofs.MatchLemmas.{number_read}
use Rattle.dispatch_room_cli.proofs.argument_parser.count.Goals as goal

pub returns : goal.returns
returns c =
    number_read (λ bs r. ParsesUnsigned 64 10 bs r × ExplainsUnsignedError 10 bs r × HasUnsignedDigitsIfOk bs r) 64
    (λ text r read. read.0) c.args.given.now c.args.name.now c.get_one.result c.get_one.ensures.none
    c.get_one.ensures.value
