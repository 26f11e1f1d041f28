use Rattle.std.proofs.Common.{ap, arith, drop, false, length, length-drop, not, sym, true, ◌&&◌}
use Rattle.std.proofs.Common.{◌+◌, ◌-◌, ◌∙◌, ◌∷◌, ◌≡◌, ◌≤◌}
use Rattle.std.proofs.lemmas.List.{drop_more, take_all}
use Rattle.std.specs.List.{list_all}
use Rattle.room_types.specs.declared.fleet.Terminal.{Terminal}
use Rattle.room_store_writes.specs.TerminalHolders.{has_token}
use Rattle.room_store.specs.StoreCreation.{have_own_tokens, may_use}
use Rattle.room_store.proofs.store_creation.are_new.Goals as goal

pub loop-index-preserved : goal.loop-index-preserved
loop-index-preserved c =
    let terminals = c.args.terminals.now in
    let at = c.loop-index.index in
    let terminal = c.index-terminals-index.result in
    let later = drop (at + 1) terminals in
    let more : drop at terminals
    ≡ terminal ∷ later = rw c.index-terminals-index.is (drop_more terminals at _ c.loop-index-test.true) in
    let past : length later ≤ length terminals - (at + 1) = omega (arith, length-drop (at + 1) terminals) in
    let none : has_token terminal.token later
    ≡ false =
    sym (ap (has_token terminal.token) (take_all _ later past))
    ∙ (sym c.has_token.ensures ∙ c.if-has_token.false) in
    let may = λ (t : Terminal). may_use c.args.plan.now.areas t.who in
    let one : may terminal ≡ true = sym c.may_use.ensures ∙ c.if-not-may_use.false in
    record {
      users = sym (ap (list_all may) more ∙ ap (λ b. b && list_all may later) one) ∙ c.loop-index.invariant.users;
      tokens =
          sym (ap have_own_tokens more ∙ ap (λ b. not b && have_own_tokens later) none) ∙ c.loop-index.invariant.tokens;
    }
