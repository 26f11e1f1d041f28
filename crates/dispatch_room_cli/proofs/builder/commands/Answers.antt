use Rattle.std.proofs.Common.{arith, length, subst, sym, take, take_all, ◌+◌, ◌≤◌}
use Rattle.dispatch_room_cli.proofs.BuilderLemmas.{commands_more, no_commands}
use Rattle.dispatch_room_cli.specs.CommandForms.{AreCommands}
use Rattle.dispatch_room_cli.proofs.builder.commands.Goals as goal

pub loop-form-init : goal.loop-form-init
loop-form-init c = no_commands _ c.new-commands.ensures.items

pub loop-form-preserved : goal.loop-form-preserved
loop-form-preserved c =
    let more = commands_more c.args.forms.now c.loop-form.commands.items c.loop-form.form-index _
    c.in_ok-command_of.field-0 c.loop-form-test.true c.loop-form.invariant c.in_ok-command_of.ensures in
    subst (AreCommands (take (c.loop-form.form-index + 1) c.args.forms.now)) (sym c.in_ok-push.ensures.items) more

pub returns : goal.returns
returns c =
    let past : length c.args.forms.now ≤ c.loop-form.form-index = omega (arith, c.loop-form-test.false) in
    rw (take_all c.loop-form.form-index c.args.forms.now past) at c.loop-form.invariant
