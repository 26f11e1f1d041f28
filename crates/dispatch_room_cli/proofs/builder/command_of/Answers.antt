use Rattle.std.proofs.Common.{ap, ◌∙◌}
use Rattle.clap.specs.Simple.{app_of_fields}
use Rattle.dispatch_room_cli.proofs.BuilderLemmas.{is_command}
use Rattle.dispatch_room_cli.proofs.builder.command_of.Goals as goal

pub returns : goal.returns
returns c =
    is_command c.args.form.now c.after_help.result c.in_ok-args.args.items c.in_ok-command.command
    (ap app_of_fields c.after_help.ensures ∙ (ap app_of_fields c.about.ensures ∙ c.new.ensures.app))
    (rw (c.after_help.ensures, c.about.ensures) c.new.ensures.local)
    c.in_ok-args.ensures c.in_ok-command.ensures
