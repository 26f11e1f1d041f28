use Rattle.std.proofs.Common.{ap, length, not, subst, sym, ◌∙◌}
use Rattle.room_types.proofs.KeyedLaws.{keyed_filter}
use Rattle.room_types.specs.KeyedRows.{IsKeyed}
use Rattle.room_model.proofs.EnrolLaws.{tokens_total}
use Rattle.room_model.specs.FleetRows.{terminal_key, token_cmp}
use Rattle.dispatch_room_tasks.specs.ReplacedTerminals.{AreFree, IsFirstFault, is_listed}
use Rattle.dispatch_room_tasks.specs.ReplacedTerminals.{kept_beside}
use Rattle.dispatch_room_tasks.proofs.replaced_terminals.find_others.Goals as goal

pub returns-in-Ok-clause-ok : goal.returns-in-Ok-clause-ok
returns-in-Ok-clause-ok g c clean config room h =
    let all = c.in_ok-terminals.ensures.terminals clean config room h in (
      subst (λ ts. AreFree c.args.plan.now.areas ts c.args.listed.now (length c.args.listed.now))
          (c.as_slice.ensures.value ∙ all) (rw c.in-None.is at c.first_refused.ensures),
      c.in-Ok.ensures ∙ ap (kept_beside c.args.listed.now) (c.as_slice-in-None.ensures.value ∙ all),
    )

pub returns-in-Ok-clause-keyed : goal.returns-in-Ok-clause-keyed
returns-in-Ok-clause-keyed g c =
    subst (IsKeyed token_cmp terminal_key)
    (sym (c.in-Ok.ensures ∙ ap (kept_beside c.args.listed.now) c.as_slice-in-None.ensures.value))
    (keyed_filter token_cmp terminal_key tokens_total (λ t. not (is_listed c.args.listed.now t.who)) _
    c.in_ok-terminals.ensures.keyed)

pub returns-in-Some-clause-why : goal.returns-in-Some-clause-why
returns-in-Some-clause-why g c clean config room h =
    subst (λ ts. IsFirstFault c.args.plan.now.areas ts c.args.listed.now c.in-Some.row c.in-Some.fault)
    (c.as_slice.ensures.value ∙ c.in_ok-terminals.ensures.terminals clean config room h) c.in-Some.ensures
