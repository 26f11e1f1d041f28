-- A fleet enrolled row after row, and enrolled again after whatever came in between.
use Rattle.std.specs.Prelude.{List, [], ◌∷◌, ◌≡◌, ◌⊎◌}
use Rattle.room_types.specs.declared.asks.Event.{Event}
use Rattle.room_types.specs.declared.fleet.FleetRow.{FleetRow}
use Rattle.room_types.specs.declared.fleet.RowFate.{RowFate}
use Rattle.room_types.specs.declared.fleet.RowFate.TheVariants.{Added, Refused, Same}
use Rattle.room_types.specs.declared.fleet.Terminal.{Terminal}
use Rattle.room_model.specs.FleetRows.{fate_of, room_enrolled, terminals_enrolled}
use Rattle.room_model.specs.Room.{Room}
use Rattle.room_model.specs.Step.{room_after}
use Rattle.room_types.specs.declared.refusal_statuses.Refusal.TheVariants as refusal

-- the room and its terminals after these rows
abbrev pub enrolled : List FleetRow → Room → List Terminal → Room × List Terminal
enrolled [] r ts = (r, ts)
enrolled (x ∷ xs) r ts = enrolled xs (room_enrolled r ts x) (terminals_enrolled r ts x)

-- what becomes of each of them
abbrev pub fates_of : List FleetRow → Room → List Terminal → List RowFate
fates_of [] r ts = []
fates_of (x ∷ xs) r ts =
    fate_of r ts x ∷ fates_of xs (room_enrolled r ts x) (terminals_enrolled r ts x)

-- ---- a fleet again
-- what reaches a room and its terminals: an event, or a row of any fleet
pub data Reaching : Type 0 where
  Sent : Event → Reaching
  Imported : FleetRow → Reaching

-- the room and its terminals after all of it
abbrev pub since : List Reaching → Room → List Terminal → Room × List Terminal
since [] r ts = (r, ts)
since (Sent e ∷ xs) r ts = since xs (room_after e r) ts
since (Imported x ∷ xs) r ts = since xs (room_enrolled r ts x) (terminals_enrolled r ts x)

-- what may become of a row that had this fate, when it is enrolled again later: where its token was
-- another's, a vehicle may have its callsign by then
abbrev pub MayBecome : RowFate → RowFate → Type 0
MayBecome Added fate = fate ≡ Same
MayBecome Same fate = fate ≡ Same
MayBecome (Refused refusal.TokenTaken) fate =
    (fate ≡ Refused refusal.TokenTaken) ⊎ (fate ≡ Refused refusal.CallsignTaken)
MayBecome (Refused why) fate = fate ≡ Refused why

-- each row's fate, and its later one
abbrev pub MayAllBecome : List RowFate → List RowFate → Type 0
MayAllBecome [] [] = Unit {0}
MayAllBecome (f ∷ fs) (g ∷ gs) = MayBecome f g × MayAllBecome fs gs
MayAllBecome [] (g ∷ gs) = ⊥
MayAllBecome (f ∷ fs) [] = ⊥

-- the rows of a fleet had these fates, and are enrolled again now: that changes nothing
pub record AreAgain (xs : List FleetRow) (first : List RowFate) (now : Room × List Terminal)
    : Type 0 where
  pub fates : MayAllBecome first (fates_of xs now.0 now.1)
  pub unchanged : enrolled xs now.0 now.1 ≡ now
