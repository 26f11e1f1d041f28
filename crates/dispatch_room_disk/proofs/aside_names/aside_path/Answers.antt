use Rattle.std.proofs.Common.{◌∙◌, append_assoc}
use Rattle.std.proofs.lemmas.Bool.{ne_eqb}
use Rattle.std.proofs.lemmas.List.{append-nil}
use Rattle.std.proofs.lemmas.Result.{IfOk-weaker}
use Rattle.dispatch_room_disk.proofs.aside_names.aside_path.Goals as goal

pub returns-then-number-eq0 : goal.returns-then-number-eq0
returns-then-number-eq0 c =
    IfOk-weaker c.format.result _ _ (λ s h. h ∙ rw c.if-number-eq0.true (simp (append_assoc, append-nil)))
    c.format.ensures.ok

pub returns : goal.returns
returns c =
    let some = ne_eqb c.args.number 0 (λ is. c.if-number-eq0.false is) in
    IfOk-weaker c.format-2.result _ _ (λ s h. h ∙ rw some (simp append_assoc)) c.format-2.ensures.ok
