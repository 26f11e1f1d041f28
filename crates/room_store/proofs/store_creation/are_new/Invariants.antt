use Rattle.std.proofs.Common.{drop, ◌≡◌}
use Rattle.std.specs.List.{list_all}
use Rattle.room_types.specs.declared.fleet.Terminal.{Terminal}
use Rattle.room_store.specs.StoreCreation.{have_own_tokens, may_use}
use Rattle.room_store.proofs.store_creation.are_new.Given as goal

abbrev pub invariant-loop-index : goal.invariant-loop-index
invariant-loop-index l =
    let may = λ (t : Terminal). may_use l.plan.areas t.who in
    record {
      users : list_all may (drop l.index l.terminals) ≡ list_all may l.terminals;
      tokens : have_own_tokens (drop l.index l.terminals) ≡ have_own_tokens l.terminals;
    }
