-- What a call is decided by, once its serial and its place were looked up.
use Rattle.std.proofs.Common.{Err, List, None, Option, Some, not, refl, sym, ℕ, ◌∙◌, ◌≡◌}
use Rattle.room_place.specs.Plans.{division_of}
use Rattle.room_place.specs.declared.plans.Area.{Area}
use Rattle.room_types.specs.KeyedRows.{row_at}
use Rattle.room_types.specs.Keys.{call_key, pair_cmp}
use Rattle.room_types.specs.declared.answers.Answer.TheVariants.{Called}
use Rattle.room_types.specs.declared.asks.NewCall.{NewCall}
use Rattle.room_types.specs.declared.refusal_statuses.Refusal.TheVariants.{OutsideArea}
use Rattle.room_types.specs.declared.refusal_statuses.Refusal.TheVariants.{SerialReused}
use Rattle.room_types.specs.declared.tables.Call.{Call}
use Rattle.room_model.specs.Calls.{same_call, take_call}
use Rattle.room_model.specs.Decisions.{Verdict, refuse_if, show}
use Rattle.room_model.specs.Queries.{kept_call}
use Rattle.room_model.specs.Room.{Room}

pub kept_is : (position serial : ℕ) (room : Room)
    → row_at pair_cmp call_key room.calls (position, serial) ≡ kept_call position serial room
unfolding kept_call
kept_is position serial room = refl

-- A call, by its place in these areas and by what is kept at its serial.
module _ (new : NewCall) (areas : List Area) (room : Room) (planned : room.plan ≡ areas)
    (found : Option Call)
    (row : found ≡ row_at pair_cmp call_key room.calls (new.position, new.serial)) where
  kept_at : (o : Option Call) → found ≡ o → kept_call new.position new.serial room ≡ o
  kept_at o is = sym (kept_is new.position new.serial room) ∙ sym row ∙ is

  -- one that is kept is answered again
  pub answered_again : (kept : Call) (answered : Verdict) → found ≡ Some kept
      → answered ≡ refuse_if (not (same_call kept new)) SerialReused
      (show (Called kept.division kept.given kept.linked)) → answered ≡ take_call new room
  answered_again kept answered is gives = gives ∙ rw (kept_at (Some kept) is) refl

  module _ (division : Option ℕ) (placed : division ≡ division_of areas new.place) where
    place_is : (o : Option ℕ) → division ≡ o → division_of room.plan new.place ≡ o
    place_is o is = rw planned (sym placed ∙ is)

    -- a new one is refused where it is outside,
    pub nowhere : found ≡ None → division ≡ None → Err OutsideArea ≡ take_call new room
    nowhere none outside = rw (kept_at None none, place_is None outside) refl

    -- and else it is the division's that it is placed in
    pub is_new : found ≡ None → kept_call new.position new.serial room ≡ None
    is_new none = kept_at None none

    pub placed_in : (d : ℕ) → division ≡ Some d → division_of room.plan new.place ≡ Some d
    placed_in d there = place_is (Some d) there
