-- Rows that are enrolled one after another until the room has a head's digest.
use Rattle.std.proofs.Common.{Bool, Err, IfOk, IsTrue, List, Ok, Result, [], arith, false, inl, inr}
use Rattle.std.proofs.Common.{length, refl, subst, suc, take, true, zero, ℕ, ◌≤◌, ◌↔◌}
use Rattle.std.proofs.Math.Nat.{eq-or-lt_of_le}
use Rattle.std.proofs.Common.{◌+◌, ◌++◌, ◌<◌, ◌∙◌, ◌∷◌, ◌≡◌, ◌⊎◌}
use Rattle.sqlite_trees.specs.declared.store.Store.{Ghosts}
use Rattle.room_types.specs.declared.fleet.FleetRow.{FleetRow}
use Rattle.room_types.specs.declared.fleet.RowFate.{RowFate}
use Rattle.room_types.specs.declared.fleet.RowFate.TheVariants.{Added, Refused, Same}
use Rattle.room_types.specs.declared.fleet.Terminal.{Terminal}
use Rattle.room_model.specs.Digests.{DigitsOf, IsHeadOf}
use Rattle.room_model.specs.FleetRows.{room_by, room_enrolled, terminals_by, terminals_enrolled}
use Rattle.room_model.specs.Fleets.{enrolled}
use Rattle.room_model.specs.Room.{Room}
use Rattle.room_model.specs.declared.digests.StartDigest.{StartDigest}
use Rattle.room_store.proofs.EnrolledLaws.{after_row, enrolled_more}
use Rattle.room_store.specs.FleetEnrolment.{HasEnrolled, room_after_rows, terminals_after_rows}
use Rattle.room_store.specs.StoredRoom.{IsReady, IsRoom}
use Rattle.room_store.specs.declared.store.Store.{Store}
use Rattle.dispatch_room_journal.specs.declared.replay_faults.ReplayFault.{ReplayFault}
use Rattle.dispatch_room_lists.specs.ListedRows.{FindsHead, IsMetAfter, IsNoMore}
use Rattle.dispatch_room_lists.specs.declared.followed_rows.Stage.{Stage}
use Rattle.dispatch_room_lists.specs.StoodRooms.{GoesOn, StageGoesOn, digits_in}
use Rattle.dispatch_room_journal.proofs.FaultLemmas.{not_both}
use Rattle.room_tables_schema.specs.FileConnections.{IsClean}

-- a store that went on twice
pub goes_on : {S : Type 0} (g : Ghosts S) (old mid new : Store S) → GoesOn g old mid → GoesOn g mid new
    → GoesOn g old new
goes_on g old mid new first second = record {
  ready = second.ready;
  zone = second.zone ∙ first.zone;
  trusted = λ clean. first.trusted (second.trusted clean);
}

-- a stage whose store went on, and whose setting is the same
pub stage_goes : {S : Type 0} (g : Ghosts S) (old new : Stage S) → GoesOn g old.room new.room
    → new.setting ≡ old.setting → StageGoesOn g old new
stage_goes g old new goes same =
    record { ready = goes.ready; set = λ serves is. rw (goes.zone, same) is; trusted = goes.trusted }

-- a stage that was not worked on
pub stage_stays : {S : Type 0} (g : Ghosts S) (stage : Stage S) → IsReady g stage.room → StageGoesOn g stage stage
stage_stays g stage ready = record { ready = ready; set = λ serves is. is; trusted = λ clean. clean }

-- a room that was looked at, whether it has the digest of a head
pub found : {S : Type 0} (g : Ghosts S) (old new : Store S) (head : StartDigest) (is_changed : Bool)
    (looked : Result Bool ReplayFault)
    → (IsClean g new.conn → IfOk looked (λ is. (terminals : List Terminal) (room : Room)
    → IsRoom g old terminals room → (IsTrue is ↔ IsHeadOf (digits_in old) head terminals room)))
    → IfOk looked (FindsHead g old new head is_changed)
found g old new head is_changed (Ok is) says = record {
  met = λ clean yes terminals room stands. (says clean terminals room stands).0 yes;
  unmet = λ clean no changed terminals room stands met.
      not_both is no ((says clean terminals room stands).1 met);
}
found g old new head is_changed (Err fault) says = tt

-- the vehicle of a row was added
abbrev pub is_added : RowFate → Bool
is_added Added = true
is_added Same = false
is_added (Refused why) = false

pub unadded : (fate : RowFate) (row : FleetRow) (room : Room) (terminals : List Terminal) → is_added fate ≡ false
    → (terminals_by fate row terminals ≡ terminals) × (room_by fate row room ≡ room)
unadded Added row room terminals not = absurd (cc)
unadded Same row room terminals not = (refl, refl)
unadded (Refused why) row room terminals not = (refl, refl)

-- an enrolment of one row that failed: it was done, or not
pub one_row : {S : Type 0} (g : Ghosts S) (old new : Store S) (row : FleetRow) (was is : List RowFate)
    (terminals : List Terminal) (room : Room) → HasEnrolled g old new (row ∷ []) was is terminals room
    → IsRoom g new terminals room
    ⊎ IsRoom g new (terminals_enrolled room terminals row) (room_enrolled room terminals row)
one_row g old new row was is terminals room done = by_count done.count done.within done.stands where
  by_count : (count : ℕ) → count ≤ 1
      → IsRoom g new (terminals_after_rows (take count (row ∷ [])) room terminals)
      (room_after_rows (take count (row ∷ [])) room terminals)
      → IsRoom g new terminals room
      ⊎ IsRoom g new (terminals_enrolled room terminals row) (room_enrolled room terminals row)
  by_count zero few stands = inl stands
  by_count (suc zero) few stands = inr stands
  by_count (suc (suc more)) few stands = absurd (omega (arith, few))

module _ (digits : DigitsOf) (head : StartDigest) (rows : List FleetRow) (terminals : List Terminal)
    (room : Room) where
  -- No fewer rows lead to the head's digest, and so many neither where the last of them changed
  -- nothing.
  pub record IsUnmet (count : ℕ) (is_changed : Bool) : Type 0 where
    pub fewest : (fewer : ℕ) → fewer < count → ¬ IsMetAfter digits head rows terminals room fewer
    pub here : is_changed ≡ false → ¬ IsMetAfter digits head rows terminals room count

  pub begins : IsUnmet 0 true
  begins = record { fewest = λ fewer less. absurd (omega (arith, less)); here = λ not. absurd (cc) }

  pub unmet_here : (is_changed : Bool) (count : ℕ) → IsUnmet count is_changed
      → (is_changed ≡ true → ¬ IsMetAfter digits head rows terminals room count)
      → ¬ IsMetAfter digits head rows terminals room count
  unmet_here true count unmet new = new refl
  unmet_here false count unmet new = unmet.here refl

  earlier : (fewer count : ℕ) → fewer < count + 1 → (fewer < count) ⊎ (fewer ≡ count)
  earlier fewer count less =
      let below : fewer ≤ count = omega (arith, less) in
      elim (eq-or-lt_of_le below) [
        | inl same ↦ inr same
        | inr before ↦ inl before
      ]

  -- one row more is no more than are due where so many don't lead to the digest
  pub no_more : (count : ℕ) → count < length rows
      → ((fewer : ℕ) → fewer < count → ¬ IsMetAfter digits head rows terminals room fewer)
      → ¬ IsMetAfter digits head rows terminals room count
      → IsNoMore digits head rows terminals room (count + 1)
  no_more count some fewest not = record {
    within = omega (arith, some);
    fewest = λ fewer less. elim (earlier fewer count less) [
      | inl sooner ↦ fewest fewer sooner
      | inr now ↦ rw now not
    ];
  }

  -- a row more
  pub unmet_more : (is_changed added : Bool) (count : ℕ) (row : FleetRow)
      → take (count + 1) rows ≡ take count rows ++ row ∷ []
      → IsUnmet count is_changed
      → ¬ IsMetAfter digits head rows terminals room count
      → (added ≡ false
      → (terminals_enrolled (room_after_rows (take count rows) room terminals)
      (terminals_after_rows (take count rows) room terminals) row
      ≡ terminals_after_rows (take count rows) room terminals)
      × (room_enrolled (room_after_rows (take count rows) room terminals)
      (terminals_after_rows (take count rows) room terminals) row
      ≡ room_after_rows (take count rows) room terminals))
      → IsUnmet (count + 1) added
  unmet_more is_changed added count row more unmet not same = record {
    fewest = λ fewer less. elim (earlier fewer count less) [
      | inl before ↦ unmet.fewest fewer before
      | inr now ↦ rw now not
    ];
    here = λ none met.
        not (subst
        (λ (p : Room × List Terminal). IsHeadOf digits head p.1 p.0)
        (enrolled_more rows count row more room terminals ∙ stays (same none))
        met);
  } where
    stays : (terminals_enrolled (room_after_rows (take count rows) room terminals)
        (terminals_after_rows (take count rows) room terminals) row
        ≡ terminals_after_rows (take count rows) room terminals)
        × (room_enrolled (room_after_rows (take count rows) room terminals)
        (terminals_after_rows (take count rows) room terminals) row
        ≡ room_after_rows (take count rows) room terminals)
        → after_row row (enrolled (take count rows) room terminals) ≡ enrolled (take count rows) room terminals
    stays is = rw (is.0, is.1) refl
