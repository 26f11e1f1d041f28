use Rattle.std.proofs.Common.{◌∙◌}
use Rattle.clap.specs.Matches.{found_of}
use Rattle.clap.proofs.WalkLemmas.{one_text-rows}
use Rattle.dispatch_room_cli.proofs.argument_parser.flag.Goals as goal

pub returns : goal.returns
returns c =
    let rows = one_text-rows (found_of c.args.given.now) c.args.name.now in (
      λ is. c.get_flag.ensures.value (rows ∙ is),
      λ is. c.get_flag.ensures.other (rows ∙ is),
      λ is. c.get_flag.ensures.none (rows ∙ is),
    )
