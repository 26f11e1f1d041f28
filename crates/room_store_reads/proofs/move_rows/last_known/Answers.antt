use Rattle.std.proofs.Common.{ap, refl, sym, ◌∙◌, ◌≡◌}
use Rattle.std.proofs.lemmas.Result.{IfOk-weaker}
use Rattle.room_types.specs.KeyLemmas.{numbered_total}
use Rattle.room_types.specs.KeyedRows.{listed as list_of}
use Rattle.room_types.specs.Keys.{numbered_cmp, owns_turn, turn_key}
use Rattle.room_store_reads.proofs.KeyedUnions.{only_found}
use Rattle.room_store_reads.proofs.MoveReads.{no_turn}
use Rattle.room_store_reads.proofs.ReadFilters.{filter_never, filter_own}
use Rattle.room_store_reads.proofs.move_rows.last_known.Goals as goal

pub returns-in-Some-known_turn : goal.returns-in-Some-known_turn
returns-in-Some-known_turn c =
    IfOk-weaker c.listed.result _ _ (λ x is room in_order turns on.
    let known = rw c.in-Some-known_turn.is at c.known_turn.ensures room turns in
    is ∙ ap list_of c.owned_row.ensures
    ∙ only_found numbered_cmp turn_key numbered_total (owns_turn c.args.division) room.turns c.in-Some.key _
    in_order.turns (sym known.0)
    ∙ filter_own _ _ _ room.turns (λ t owned. sym (c.last_key.ensures t ∙ rw c.in-Some.is refl)))
    c.listed.ensures.rows

pub returns-in_default : goal.returns-in_default
returns-in_default c room in_order turns on =
    c.new-in_default.ensures
    ∙ sym (filter_never (owns_turn c.args.division) _ room.turns
    (λ t. c.last_key.ensures t ∙ no_turn c.last_key.result c.in_default.not-Some t))
