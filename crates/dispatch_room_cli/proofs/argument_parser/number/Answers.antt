use Rattle.std.proofs.Common.{Result, subst, sym, ℕ, ◌≡◌}
use Rattle.std.specs.Prelude.{MatchResult}
use Rattle.std.specs.Str.Parse.{ExplainsUnsignedError, HasUnsignedDigitsIfOk, ParsesUnsigned}
use Rattle.dispatch_room_cli.proofs.MatchLemmas.{number_read, or_mistake}
use Rattle.dispatch_room_cli.specs.AskedTasks.{HasNoNumber, HasNumber, given_in}
use Rattle.dispatch_room_cli.specs.declared.argument_parser.Mistake.{Mistake}
use Rattle.dispatch_room_cli.specs.declared.argument_parser.Mistake.TheVariants.{NoCommand}
use Rattle.dispatch_room_cli.proofs.argument_parser.number.Goals as goal

pub returns : goal.returns
returns c =
    let given = given_in c.args.given.now in
    let name = c.args.name.now in
    subst (λ (r : Result ℕ Mistake). MatchResult r (HasNumber given 16 name)
    (λ m. (m ≡ NoCommand) × HasNoNumber given 16 name)) (sym c.ok_or.ensures.value)
    (or_mistake given name c.get_one.result NoCommand
    (number_read (λ bs r. ParsesUnsigned 16 10 bs r × ExplainsUnsignedError 10 bs r × HasUnsignedDigitsIfOk bs r) 16
    (λ text r read. read.0) c.args.given.now name c.get_one.result c.get_one.ensures.none c.get_one.ensures.value))
