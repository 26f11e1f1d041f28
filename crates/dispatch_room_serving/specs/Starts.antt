-- Starts of a room's service, one after another: each finds what a stop of the one before may
-- leave, or what that left.
use Rattle.std.specs.Prelude.{◌≡◌, ◌⊎◌, ⊤, ℕ, List, [], ◌∷◌, ◌++◌, All, Bool, Option, Result}
use Rattle.jiff.specs.Placed.{IsPosixZone}
use Rattle.sqlite.specs.Held.{Held, state}
use Rattle.sqlite.specs.State.{HasCleanDisk}
use Rattle.sqlite_trees.specs.declared.store.Store.{Ghosts}
use Rattle.room_types.specs.declared.fleet.Terminal.{Terminal}
use Rattle.room_model.specs.Room.{Room}
use Rattle.room_model.specs.declared.digests.StartDigest.{StartDigest}
use Rattle.room_http.specs.ServedTrace.{AreFirstIn}
use Rattle.room_http.specs.Promises.{Promises}
use Rattle.room_http.specs.Runs.{Exchange, IsRun, arrivals_of, room_by}
use Rattle.room_http_time.specs.Days.{zone_of}
use Rattle.room_http.specs.declared.settings.HttpSettings.{HttpSettings}
use Rattle.room_store.specs.StoredRoom.{IsKept, IsRoom}
use Rattle.room_store.specs.declared.store.Store.{Store}
use Rattle.dispatch_room_exit.specs.declared.exit_status.Done.{Done}
use Rattle.dispatch_room_exit.specs.declared.exit_status.Failure.{Failure}
use Rattle.dispatch_room_tasks.specs.OpenedRoom.{OpensRoom}
use Rattle.dispatch_room_serving.specs.Connections.{AreAttended, AreJoined, AreKept, Conversation}
use Rattle.dispatch_room_serving.specs.Connections.{GoOnBefore, HasServed, Service, connected}
use Rattle.dispatch_room_serving.specs.Connections.{together}
use Rattle.dispatch_room_serving.specs.ServedRoom.{Looks, LooksOnly, ServesRoom}
use Rattle.room_tables_schema.specs.FileConnections.{IsClean}

-- A start: the database that was found, the store that was opened in it, what the service was set
-- to, the calls that came, and where serving stood before the first of them, and where it ended or
-- was stopped.
pub record Start (S : Type 0) : Type 0 where
  pub found : Held S
  pub opened : Store S
  pub setting : HttpSettings
  pub calls : List (Option (Conversation S))
  pub first : Service S
  pub last : Service S

-- the connections of a start, and the store at its end
abbrev pub connections : {S : Type 0} → Start S → List (Conversation S)
connections s = connected s.calls

abbrev pub left_by : {S : Type 0} → Start S → Store S
left_by s = s.last.stage.store

-- what was exchanged on the connections of a start, and what a stop of it left done, though no
-- answer to it was written
pub record Exchanged : Type 0 where
  pub written : List Exchange
  pub not_written : List Exchange

-- all of it, one after another
abbrev pub all_of : Exchanged → List Exchange
all_of x = x.written ++ x.not_written

abbrev pub whole_of : List Exchanged → List Exchange
whole_of [] = []
whole_of (x ∷ xs) = all_of x ++ whole_of xs

-- it holds of the last of these
abbrev pub OfLast : {X : Type 0} → (X → Type 0) → List X → Type 0
OfLast Holds [] = ⊤
OfLast Holds (x ∷ []) = Holds x
OfLast Holds (x ∷ y ∷ more) = OfLast Holds (y ∷ more)

-- One exchange, with what arrived next on the last connection: the room has acted on it, and its
-- answer was not written, since memory or storage failed or the program was stopped.
pub record IsUnwritten {S : Type 0} (cs : List (Conversation S)) (dialogues : List (List Exchange))
    (x : Exchange) : Type 0 where
  pub c : Conversation S
  pub earlier : List (Conversation S)
  pub is_last : cs ≡ earlier ++ c ∷ []
  pub dialogue : List Exchange
  pub earlier_dialogues : List (List Exchange)
  pub is_dialogue : dialogues ≡ earlier_dialogues ++ dialogue ∷ []
  pub next : AreFirstIn c.course c.before.left c.before.given c.after.given
      (arrivals_of dialogue ++ x.arrival ∷ [])

module _ {S : Type 0} (g : Ghosts S) where
  -- The room that the tables stood for was opened, looked at, and served to these calls.
  pub record IsStart (came_text : ℕ → List ℕ → List ℕ) (response_text : List ℕ → List ℕ)
      (s : Start S) : Type 0 where
    pub opens : IsClean g s.opened.conn → OpensRoom g s.found s.opened
    pub in_zone : IsPosixZone s.opened.plan.zone (zone_of s.setting.zone)
    pub looks : Looks g s.opened s.first.stage.store
    pub attended : AreAttended g s.setting came_text response_text s.calls s.first s.last
    pub kept : AreKept g s.setting came_text response_text (connections s) s.first
        (HasCleanDisk (state g (left_by s).conn))
    -- after each connection but the last more was served
    pub go_on : GoOnBefore (connections s)
    -- what was opened is kept as the first call comes, if one does
    pub begins_kept : (s.calls ≡ [])
        ⊎ (IsClean g s.first.stage.store.conn → IsKept g s.opened
        → IsKept g s.first.stage.store)

  -- A start follows another: it finds what a stop of that one may leave, or, as a part that begins
  -- while the room is served, the database that the one before left. It serves the paths of history
  -- if that one did.
  abbrev pub Follows : Start S → Start S → Type 0
  Follows before s = ((state g (left_by before).conn).may_leave (state g s.found).now.trees
      ⊎ (s.found ≡ (left_by before).conn))
      × (s.setting.history ≡ before.setting.history)

  -- these starts, each after the one before
  abbrev pub AreStarts : (ℕ → List ℕ → List ℕ) → (List ℕ → List ℕ) → List (Start S) → Type 0
  AreStarts came_text response_text [] = ⊤
  AreStarts came_text response_text (s ∷ []) = IsStart came_text response_text s
  AreStarts came_text response_text (s ∷ next ∷ more) = IsStart came_text response_text s
      × Follows s next × AreStarts came_text response_text (next ∷ more)

  -- the disk gave back what was written, up to the end of the start
  abbrev pub IsTrusted : Start S → Type 0
  IsTrusted s = HasCleanDisk (state g (left_by s).conn)

  module _ (terminals : List Terminal) where
    -- The start opened this room, and so much was exchanged.
    pub record IsDone (s : Start S) (done : Exchanged) (room : Room) : Type 0 where
      pub opened : IsRoom g s.opened terminals room
      pub joined : AreJoined g s.setting terminals (connections s) (left_by s) room
      pub written : together joined.dialogues ≡ done.written
      pub not_written : (done.not_written ≡ [])
          ⊎ ((x : Exchange) × (done.not_written ≡ x ∷ [])
          × IsUnwritten (connections s) joined.dialogues x)

    -- each start opened the room that those before it led to
    abbrev pub AreDone : List (Start S) → List Exchanged → Room → Type 0
    AreDone [] [] room = ⊤
    AreDone [] (x ∷ more) room = ⊥
    AreDone (s ∷ starts) [] room = ⊥
    AreDone (s ∷ starts) (x ∷ more) room =
        IsDone s x room × AreDone starts more (room_by (all_of x) room)

    -- The starts are one run from this room, in this setting, and it keeps the promises.
    pub record AreOneRun (setting : HttpSettings) (starts : List (Start S)) (room : Room) : Type 0 where
      pub done : List Exchanged
      pub each : AreDone starts done room
      pub run : IsRun setting terminals (whole_of done) room
      pub promises : Promises terminals (whole_of done) room

  -- What serving gives once it has ended is a start of what was found, and the store at its end is
  -- closed.
  abbrev pub ServedIsAStart : Type 0
  ServedIsAStart =
      (wants : Bool) (begun_text : StartDigest → List ℕ) (came_text : ℕ → List ℕ → List ℕ)
      (response_text : List ℕ → List ℕ) (history : Bool) (found : Held S)
      (old new : Store S → Service S) (renews : Bool) (most : ℕ)
      (worked : Result Done Failure × Held S)
      → ((store : Store S) → (old store).stage.store ≡ store)
      → ((store : Store S) → (new store).stage.store ≡ store)
      → ServesRoom g wants begun_text came_text response_text history found old new renews most
      worked
      → (s : Start S) × IsStart came_text response_text s × (s.found ≡ found)
      × ((left_by s).conn ≡ worked.1) × (s.setting.history ≡ history)

  -- And so it is while it is served, after every number of calls: a room may be stopped at each.
  abbrev pub ServingIsAStart : Type 0
  ServingIsAStart =
      (came_text : ℕ → List ℕ → List ℕ) (response_text : List ℕ → List ℕ) (found : Held S)
      (opened : Store S) (setting : HttpSettings) (first now : Service S) (count : ℕ)
      → (IsClean g opened.conn → OpensRoom g found opened)
      → IsPosixZone opened.plan.zone (zone_of setting.zone) → LooksOnly g opened first.stage.store
      → (served : HasServed g setting came_text response_text first now count)
      → IsStart came_text response_text (record {
        found = found;
        opened = opened;
        setting = setting;
        calls = served.calls;
        first = first;
        last = now;
      })
