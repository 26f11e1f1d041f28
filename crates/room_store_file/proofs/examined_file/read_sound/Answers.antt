use Rattle.std.proofs.Common.{subst, sym, ◌∙◌}
use Rattle.std.proofs.lemmas.Result.{IfErr-weaker, IfOk-weaker}
use Rattle.sqlite.specs.Held.{state}
use Rattle.room_store_file.proofs.TakeLaws.{has_tables}
use Rattle.room_store_file.proofs.ExaminedLaws.{no_plan_new, read_fault, stands_new}
use Rattle.room_store_file.proofs.ExaminedLaws.{storage_reported, weighed}
use Rattle.room_store_file.specs.ExaminedFile.{Weighs}
use Rattle.room_store_file.proofs.examined_file.read_sound.Goals as goal

pub returns-in-Ok-clause-room : goal.returns-in-Ok-clause-room
returns-in-Ok-clause-room g c clean =
    let whole = c.in-Ok.whole in
    let trees = (state g.S.Store c.args.conn.now).now.trees in
    let stands = stands_new c.args.tables trees _ _ c.requires.new (c.in-Ok.ensures.stands clean) in
    IfOk-weaker c.judge.result _ _ (λ x sound. rw sound.0 (record { stands = stands; amount = sound.1 }))
    c.judge.ensures.sound

pub returns-in-Ok-clause-wrong : goal.returns-in-Ok-clause-wrong
returns-in-Ok-clause-wrong g c clean =
    let whole = c.in-Ok.whole in
    let now = (state g.S.Store c.args.conn.now).now in
    let stands = stands_new c.args.tables now.trees _ _ c.requires.new (c.in-Ok.ensures.stands clean) in
    IfErr-weaker c.judge.result _ _
    (weighed now (has_tables c.args.tables now.schema c.requires.tables c.requires.new) whole.config.plan whole.rows
    whole.config.terminals.items stands) c.judge.ensures.wrong

pub returns-in-Err-clause-wrong : goal.returns-in-Err-clause-wrong
returns-in-Err-clause-wrong g c clean =
    let now = (state g.S.Store c.args.conn.now).now in
    rw c.from.ensures (read_fault now (has_tables c.args.tables now.schema c.requires.tables c.requires.new)
    c.in-Err.fault (λ is. no_plan_new c.args.tables now.trees c.requires.new (c.in-Err.ensures.no_plan clean is)))

pub returns-in-Ok-clause-why : goal.returns-in-Ok-clause-why
returns-in-Ok-clause-why g c clean =
    let whole = c.in-Ok.whole in
    IfErr-weaker c.judge.result _ _
    (λ e h storage. absurd (subst (Weighs whole.config.plan.areas whole.rows whole.config.terminals.items) storage h))
    c.judge.ensures.wrong

pub returns-in-Err-clause-why : goal.returns-in-Err-clause-why
returns-in-Err-clause-why g c clean storage =
    c.in-Err.ensures.why clean (storage_reported c.in-Err.fault (sym c.from.ensures ∙ storage))
