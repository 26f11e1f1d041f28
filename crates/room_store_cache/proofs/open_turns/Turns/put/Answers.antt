use Rattle.std.proofs.Common.{ap, sym, ◌∙◌, ◌≡◌}
use Rattle.room_model.specs.Room.{Room}
use Rattle.room_types.specs.Keys.{numbered_cmp, turn_key}
use Rattle.room_types.specs.KeyedRows.{put_row}
use Rattle.room_store_cache.proofs.FleetLaws.{HasMet, met_dropped, met_kept, met_made, met_read}
use Rattle.room_store_cache.proofs.FleetLaws.{none_if}
use Rattle.room_store_cache.proofs.RecentLaws.{where_err, where_ok}
use Rattle.room_store_cache.specs.OpenTurns.{AreTurnsOf}
use Rattle.room_store_cache.specs.declared.open_turns.Turns.{Turns}
use Rattle.room_store_cache.proofs.open_turns.Turns.put.Goals as goal
use Rattle.room_store_cache.proofs.open_turns.Turns.put.Goals.{then-is_some-via-else-is_some+then-is_err}
use Rattle.room_store_cache.proofs.open_turns.Turns.put.Goals.{then-is_some-via-then-is_some}

pub returns-then-is_some : goal.returns-then-is_some
returns-then-is_some c =
    let t = c.args.turn.now in
    let known = c.args.self.now.kept in
    let same : c.then-is_some.self.kept ≡ known = elim c.then-is_some.branch [
      | then-is_some-via-then-is_some w ↦ ap (λ (x : Turns). x.kept) w.self-is
      | then-is_some-via-else-is_some+then-is_err w ↦
          ap (λ (x : Turns). x.kept) w.self-is
          ∙ where_err w.put.result (sym w.is_err.ensures.value ∙ w.if-is_err.true) w.put.ensures.err
    ] in
    let all : (before after : Room) → HasMet t before after → AreTurnsOf known before
    → AreTurnsOf c.take.new.self after = λ before after met are.
    rw (c.take.ensures.removed, c.key.ensures, same)
    (met_dropped t before after met known are c.as_slice-in_order.ensures.keyed) in
    record {
      read = λ room are here. all room room (met_read t room here) are;
      made = λ room are. all room _ (met_made t room) are;
    }

pub returns-else-is_err : goal.returns-else-is_err
returns-else-is_err c =
    let t = c.args.turn.now in
    let known = c.args.self.now.kept in
    let made : c.put.new.self
    ≡ put_row numbered_cmp turn_key known t =
    where_ok c.put.result (sym c.is_err.ensures.value ∙ c.if-is_err.false) c.put.ensures.ok in
    let is_open = none_if t.ended (sym c.is_some.ensures ∙ c.if-is_some.false) in
    let all : (before after : Room) → HasMet t before after → AreTurnsOf known before
    → AreTurnsOf c.put.new.self after =
    λ before after met are. rw made (met_kept t before after met known are is_open) in
    record {
      read = λ room are here. all room room (met_read t room here) are;
      made = λ room are. all room _ (met_made t room) are;
    }
