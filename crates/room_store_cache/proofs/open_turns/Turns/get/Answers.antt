use Rattle.std.proofs.Common.{None, Some, subst, sym, ◌∙◌, ◌≡◌}
use Rattle.std.specs.Prelude.{IfSome}
use Rattle.room_types.specs.Keys.{numbered_cmp, turn_key}
use Rattle.room_types.specs.KeyedRows.{row_at}
use Rattle.room_store_cache.proofs.open_turns.Turns.get.Goals as goal

pub returns : goal.returns
returns c room are =
    subst (λ o.
    IfSome o (λ t. (row_at numbered_cmp turn_key room.turns c.args.key.now ≡ Some t) × (t.ended ≡ None)))
    (sym (c.copied.ensures ∙ c.get.ensures)) (are c.args.key.now)
