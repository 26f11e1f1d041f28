use Rattle.std.proofs.Common.{arith, length, subst, sym, take, take_all, ◌+◌, ◌≤◌}
use Rattle.dispatch_room_cli.proofs.BuilderLemmas.{args_more, no_args}
use Rattle.dispatch_room_cli.specs.CommandForms.{AreArgs}
use Rattle.dispatch_room_cli.proofs.builder.args_of.Goals as goal

pub loop-word-init : goal.loop-word-init
loop-word-init c = no_args _ c.new-args.ensures.items

pub loop-word-preserved : goal.loop-word-preserved
loop-word-preserved c =
    let more = args_more c.args.words.now c.loop-word.args.items c.loop-word.word-index _ c.arg_of.result
    c.loop-word-test.true c.loop-word.invariant c.arg_of.ensures in
    subst (AreArgs (take (c.loop-word.word-index + 1) c.args.words.now)) (sym c.in_ok-push.ensures.items) more

pub returns : goal.returns
returns c =
    let past : length c.args.words.now ≤ c.loop-word.word-index = omega (arith, c.loop-word-test.false) in
    rw (take_all c.loop-word.word-index c.args.words.now past) at c.loop-word.invariant
