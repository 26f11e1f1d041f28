-- The life of a room's file: services, imports, changes of terminals and of plans, one after
-- another, each from what the one before left, or from what a stop of it may leave.
use Rattle.std.specs.Prelude.{All, Err, IsTrue, List, Ok, Option, Result, [], map, take, ℕ, ◌+◌}
use Rattle.std.specs.Prelude.{◌++◌, ◌∷◌, ◌≡◌, ◌⊎◌}
use Rattle.std.specs.List.{flat_map}
use Rattle.sqlite.specs.Held.{Held, state}
use Rattle.sqlite_trees.specs.declared.store.Store.{Ghosts}
use Rattle.room_types.specs.declared.fleet.RowFate.{RowFate}
use Rattle.room_model.specs.Fleets.{fates_of}
use Rattle.room_http.specs.Promises.{AreSentOnce}
use Rattle.room_http.specs.Runs.{events_of}
use Rattle.room_store_writes.specs.Transactions.{IsSettled}
use Rattle.room_tables.specs.RoomsInTables.{Stands}
use Rattle.room_tables_schema.specs.FileConnections.{IsClean}
use Rattle.dispatch_room_csv.specs.declared.fleet_file.FleetLine.{FleetLine}
use Rattle.dispatch_room_exit.specs.declared.exit_status.Done.{Done}
use Rattle.dispatch_room_exit.specs.declared.exit_status.Failure.{Failure}
use Rattle.dispatch_room_tasks.specs.ChangedTerminals.{HasChanged}
use Rattle.dispatch_room_tasks.specs.Deeds.{AreHeard, AreSound, Contents, Deed, Enrolled, Given}
use Rattle.dispatch_room_tasks.specs.Deeds.{Listed, Planned, Sent, contents_after}
use Rattle.dispatch_room_tasks.specs.Enrolment.{HasImportedIn}
use Rattle.dispatch_room_tasks.specs.OpenedRoom.{HoldsNone}
use Rattle.dispatch_room_tasks.specs.ReplacedTerminals.{HasReplaced}
use Rattle.dispatch_room_tasks.specs.ReplannedRoom.{HasReplanned}
use Rattle.dispatch_room_tasks.specs.RowOutcomes.{good_rows}
use Rattle.dispatch_room_serving.specs.Starts.{AreOneRun, AreStarts, IsTrusted, Start, left_by}
use Rattle.dispatch_room_serving.specs.Starts.{whole_of}

-- An episode of a file's life, with the database that it found and the one that it left: a service,
-- which may have begun again and again; an import of a fleet's lines, which reported these fates of
-- its good rows; a change of terminals or of the plan, and what came of it; or a command that
-- opened no room, for this.
pub data Episode (S : Type 0) : Type 0 where
  Service : Start S → List (Start S) → Episode S
  Import : Held S → Held S → List FleetLine → List RowFate → Episode S
  Change : Held S → Held S → Deed → Result (Unit {0}) Failure → Episode S
  Nothing : Held S → Held S → Failure → Episode S

-- the last of some starts
abbrev pub last_of : {S : Type 0} → Start S → List (Start S) → Start S
last_of first [] = first
last_of first (next ∷ more) = last_of next more

abbrev pub found_by : {S : Type 0} → Episode S → Held S
found_by (Service first more) = first.found
found_by (Import found left lines fates) = found
found_by (Change found left deed done) = found
found_by (Nothing found left failure) = found

abbrev pub left_after : {S : Type 0} → Episode S → Held S
left_after (Service first more) = (left_by (last_of first more)).conn
left_after (Import found left lines fates) = left
left_after (Change found left deed done) = left
left_after (Nothing found left failure) = left

-- ---- what was done
-- Of a fleet's good rows the first ones were enrolled: those whose fates were reported, or, where
-- the import was stopped, one more.
pub record AreRows (lines : List FleetLine) (fates : List RowFate) (deeds : List Deed)
    (now : Contents) : Type 0 where
  pub count : ℕ
  pub reported : fates
      ≡ fates_of (take count (good_rows lines)) now.room now.config.terminals
  pub enrolled : (deeds ≡ map Enrolled (take count (good_rows lines)))
      ⊎ (deeds ≡ map Enrolled (take (count + 1) (good_rows lines)))

-- the change was made; or, where it failed, it was made or not
abbrev pub IsMade : Deed → Result (Unit {0}) Failure → List Deed → Type 0
IsMade deed (Ok done) deeds = deeds ≡ deed ∷ []
IsMade deed (Err failure) deeds = (deeds ≡ []) ⊎ (deeds ≡ deed ∷ [])

module _ {S : Type 0} (g : Ghosts S) where
  -- The change was asked for, and this came of it.
  abbrev pub Makes : Held S → Held S → Deed → Result (Unit {0}) Failure → Type 0
  Makes found left (Given who token) done = HasChanged g found left who token done
  Makes found left (Listed listed) done = HasReplaced g found left listed done
  Makes found left (Planned file) done = HasReplanned g found left file done
  Makes found left other done = ⊥

  -- the episode was so, and the disk gave back what was written
  abbrev pub IsEpisode : Episode S → Type 0
  IsEpisode (Service first more) =
      (came_text : ℕ → List ℕ → List ℕ) × (response_text : List ℕ → List ℕ)
      × AreStarts g came_text response_text (first ∷ more) × All (IsTrusted g) (first ∷ more)
  IsEpisode (Import found left lines fates) = IsClean g left
      × (before after : Option (List ℕ)) × (done : Result Done Failure)
      × (made : HasImportedIn g found left lines before after done)
      × (made.imported.fates ≡ fates)
  IsEpisode (Change found left deed done) = IsClean g left × Makes found left deed done
  IsEpisode (Nothing found left failure) = IsClean g left × IsSettled (state g found)
      × (none : HoldsNone g found failure) × (none.released ≡ left)

  -- What is found next: what a stop may leave, or the open database that was left.
  abbrev pub IsFoundAfter : Held S → Held S → Type 0
  IsFoundAfter left next = (state g left).may_leave (state g next).now.trees
      ⊎ ((next ≡ left) × IsTrue (state g left).is_open)

  -- from a database that was found to the one that is found at the end
  abbrev pub IsLife : List (Episode S) → Held S → Held S → Type 0
  IsLife [] from end = end ≡ from
  IsLife (episode ∷ episodes) from end = (found_by episode ≡ from) × IsEpisode episode
      × ((next : Held S) × IsFoundAfter (left_after episode) next × IsLife episodes next end)

  -- What was done in an episode, from what the file held. A service is one run of its messages, which
  -- keeps the promises.
  abbrev pub AreDeedsOf : Episode S → List Deed → Contents → Type 0
  AreDeedsOf (Service first more) deeds now =
      (one : AreOneRun g now.config.terminals first.setting (first ∷ more) now.room)
      × (deeds ≡ map Sent (events_of (whole_of one.done)))
  AreDeedsOf (Import found left lines fates) deeds now = AreRows lines fates deeds now
  AreDeedsOf (Change found left deed done) deeds now = IsMade deed done deeds
  AreDeedsOf (Nothing found left failure) deeds now = deeds ≡ []

  -- each episode found what those before it led to, and did these deeds
  abbrev pub AreDone : List (Episode S) → List (List Deed) → Contents → Type 0
  AreDone [] [] now = Unit {0}
  AreDone [] (deeds ∷ others) now = ⊥
  AreDone (episode ∷ episodes) [] now = ⊥
  AreDone (episode ∷ episodes) (deeds ∷ others) now =
      Stands (state g (found_by episode)).now.trees now.config now.room
      × AreDeedsOf episode deeds now × AreDone episodes others (contents_after deeds now)

  -- All that was done is one list of deeds, which leads to what is found at the end. After each of
  -- them the room is well-formed, the terminals fit it, and no vehicle is sent to two incidents.
  pub record IsOneList (episodes : List (Episode S)) (first : Contents) (end : Held S) : Type 0 where
    pub each : List (List Deed)
    pub done : AreDone episodes each first
    pub heard : AreHeard (flat_map (λ deeds. deeds) each) first
    pub stands : let last = contents_after (flat_map (λ deeds. deeds) each) first in
        Stands (state g end).now.trees last.config last.room
    pub sound : (before rest : List Deed) → flat_map (λ deeds. deeds) each ≡ before ++ rest
        → AreSound (contents_after before first)
        × AreSentOnce (contents_after before first).room

  -- Whatever life a file had, from a well-formed room: it is one list of deeds.
  abbrev pub LifeIsOneList : Type 0
  LifeIsOneList =
      (episodes : List (Episode S)) (from end : Held S) (first : Contents)
      → IsLife episodes from end → AreSound first
      → Stands (state g from).now.trees first.config first.room
      → IsOneList episodes first end
