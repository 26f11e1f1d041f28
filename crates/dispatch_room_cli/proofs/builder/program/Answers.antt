use Rattle.std.proofs.Common.{ap, true, ◌∙◌}
use Rattle.clap.specs.Simple.{Shape, app_of_fields, on_top}
use Rattle.dispatch_room_cli.proofs.BuilderLemmas.{is_program}
use Rattle.dispatch_room_cli.proofs.builder.program.Goals as goal

pub returns : goal.returns
returns c =
    is_program c.subcommand_required.result c.in_ok-commands.commands.items c.in_ok-program.program
    (ap app_of_fields c.subcommand_required.ensures
    ∙ ap (on_top (λ (s : Shape). record s { subcommand_required = true })) (ap app_of_fields c.version.ensures
    ∙ ap (on_top (λ (s : Shape). record s { has_version = true })) (ap app_of_fields c.after_help.ensures
    ∙ (ap app_of_fields c.about.ensures ∙ c.new.ensures.app))))
    c.in_ok-commands.ensures c.in_ok-program.ensures
