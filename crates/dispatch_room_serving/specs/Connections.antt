-- What is served on connections, one after another.
use Rattle.std.specs.Prelude.{◌≡◌, ◌≢◌, ◌⊎◌, ◌≤◌, ◌+◌, ⊤, ℕ, List, [], ◌∷◌, ◌++◌, Bool, true, false}
use Rattle.std.specs.Prelude.{All, filter_map, flat_map, length, map, option_and_then, option_map}
use Rattle.std.specs.Prelude.{Option, None, Some, Result, Ok, Err}
use Rattle.sqlite_trees.specs.declared.store.Store.{Ghosts}
use Rattle.room_types.specs.declared.fleet.Terminal.{Terminal}
use Rattle.room_model.specs.Room.{Room}
use Rattle.room_http.specs.declared.settings.HttpSettings.{HttpSettings}
use Rattle.room_model.specs.Rooms.{machine}
use Rattle.room_store.specs.StoredRoom.{IsKept, IsRoom, LeavesOneOf}
use Rattle.room_store.specs.declared.store.Store.{Store}
use Rattle.room_store_cache.specs.Cache.{KnowsNothing}
use Rattle.room_http.specs.ServedTrace.{AreFirstIn, ServedTrace}
use Rattle.room_http.specs.KeptMessages.{ActsOnEach, KeepsEach, Tapes}
use Rattle.room_http.specs.Promises.{Promises}
use Rattle.room_http.specs.Runs.{Exchange, IsRun, room_by}
use Rattle.room_http.specs.ServedRuns.{Served}
use Rattle.room_http.specs.Session.{Finish, MissesNone, ReadsAtMost, ServeIs, Sides}
use Rattle.room_http.specs.Dialogues.{IsUnserved, Stays}
use Rattle.room_http.specs.declared.session.ServeEnd.{ServeEnd}
use Rattle.room_http.specs.declared.session.ServeEnd.TheVariants as end
use Rattle.dispatch_room_exit.specs.declared.exit_status.Done.{Done}
use Rattle.dispatch_room_exit.specs.declared.exit_status.Done.TheVariants.{Whole}
use Rattle.dispatch_room_exit.specs.declared.exit_status.Failure.{Failure}
use Rattle.dispatch_room_exit.specs.declared.exit_status.Failure.TheVariants.{Journal, Memory}
use Rattle.dispatch_room_exit.specs.declared.exit_status.Failure.TheVariants.{Storage}
use Rattle.room_http_messages.specs.Streams.{Grows}
use Rattle.dispatch_room_serving.specs.Callers.{Opening}
use Rattle.room_tables_schema.specs.FileConnections.{IsClean}

-- how many reads a connection has at most
abbrev pub most_reads : ℕ
most_reads = 100000

-- where serving stands between two connections: what is known of the moments given and of what the
-- observer keeps, whether it has failed, and the store
pub record Stage (S : Type 0) : Type 0 where
  pub given : Option (List ℕ)
  pub kept : Option (List ℕ)
  pub has_failed : Bool
  pub store : Store S

-- A connection that was served: its sides before and after, its course, what was left unread, how
-- serving it ended, and the store, what the observer keeps and whether it has failed, before and
-- after it.
pub record Conversation (S : Type 0) : Type 0 where
  pub before : Sides
  pub after : Finish
  pub course : ServedTrace
  pub unread : Option (List ℕ)
  pub end : ServeEnd
  pub from : Store S
  pub store : Store S
  pub kept : Option (List ℕ)
  pub keeps : Option (List ℕ)
  pub had_failed : Bool

-- what is known of all that is served, at one moment: the calls that came, what was written to
-- them, and where serving stands
pub record Service (S : Type 0) : Type 0 where
  pub heard : Option (List (Option Opening))
  pub written : Option (List (Option (List ℕ)))
  pub stage : Stage S

-- a store that is no longer sound serves no more
abbrev pub fault_of_store : Bool → Option Failure
fault_of_store true = None
fault_of_store false = Some Storage

-- why no more is served after a connection that ended so, by whether the store is sound; `None` if
-- more is served
abbrev pub fault_by : ServeEnd → Bool → Option Failure
fault_by end.Memory is_sound = Some Memory
fault_by end.JournalFailed is_sound = Some Journal
fault_by end.Closed is_sound = fault_of_store is_sound
fault_by end.Cut is_sound = fault_of_store is_sound
fault_by end.ReadFault is_sound = fault_of_store is_sound
fault_by end.WriteFault is_sound = fault_of_store is_sound
fault_by end.ClockFault is_sound = fault_of_store is_sound
fault_by end.ReadsSpent is_sound = fault_of_store is_sound

module _ {S : Type 0} where
  -- what a connection began with
  abbrev pub opening_of : Conversation S → Opening
  opening_of c = record { left = c.before.left; held = c.before.held }

  -- where serving stood before it, and stands after it
  abbrev pub stage_before : Conversation S → Stage S
  stage_before c = record {
    given = c.before.given;
    kept = c.kept;
    has_failed = c.had_failed;
    store = c.from;
  }

  abbrev pub stage_after : Conversation S → Stage S
  stage_after c = record {
    given = c.after.given;
    kept = c.keeps;
    has_failed = c.after.observer_failed;
    store = c.store;
  }

  -- what is known of the moments, of what the observer keeps and of what was written, before it and
  -- after it
  abbrev pub tapes_before : Conversation S → Tapes
  tapes_before c = record { given = c.before.given; kept = c.kept; held = c.before.held }

  abbrev pub tapes_after : Conversation S → Tapes
  tapes_after c = record { given = c.after.given; kept = c.keeps; held = c.after.held }

  -- why no more is served after it; `None` if more is
  abbrev pub fault_after : Conversation S → Option Failure
  fault_after c = fault_by c.end c.store.is_sound

  -- the calls of which a connection came
  abbrev pub connected : List (Option (Conversation S)) → List (Conversation S)
  connected calls = filter_map (λ call. call) calls

  -- more is served after it
  abbrev pub GoesOn : Conversation S → Type 0
  GoesOn c = fault_after c ≡ None

  -- and after each of these
  abbrev pub GoOn : List (Option (Conversation S)) → Type 0
  GoOn calls = All GoesOn (connected calls)

  -- and after each of these but the last
  abbrev pub GoOnBefore : List (Conversation S) → Type 0
  GoOnBefore [] = ⊤
  GoOnBefore (c ∷ []) = ⊤
  GoOnBefore (c ∷ d ∷ cs) = GoesOn c × GoOnBefore (d ∷ cs)

  -- How serving `most` calls ended. Well: all came, or only these, where it may end earlier
  -- (`renews`), and after each of them serving could go on. With a fault: it is that of the last,
  -- after which no more is served.
  abbrev pub EndsAs : Bool → List (Option (Conversation S)) → ℕ → Result Done Failure → Type 0
  EndsAs renews calls most (Ok done) =
      (done ≡ Whole) × (length calls ≤ most) × (renews ≡ false → length calls ≡ most) × GoOn calls
  EndsAs renews calls most (Err fault) =
      (before : List (Option (Conversation S))) × (last : Conversation S)
      × (calls ≡ before ++ Some last ∷ []) × (length calls ≤ most) × GoOn before
      × (fault_after last ≡ Some fault)

-- all that was exchanged, one after another
abbrev pub together : List (List Exchange) → List Exchange
together dialogues = flat_map (λ xs. xs) dialogues

module _ {S : Type 0} (g : Ghosts S) (setting : HttpSettings) (terminals : List Terminal) where
  -- on the connection these exchanges were served, from this room
  pub record IsServed (c : Conversation S) (xs : List Exchange) (room : Room) : Type 0 where
    pub served : Served setting (AreFirstIn c.course c.before.left c.before.given c.after.given)
        c.before.held c.after.held (IsKept g c.from) (IsRoom g c.store) (LeavesOneOf g c.store)
        terminals room
    pub exchanged : served.exchanges ≡ xs

  -- on each connection its exchanges were served, from the room that the one before left
  abbrev pub AreServed : List (Conversation S) → List (List Exchange) → Room → Type 0
  AreServed [] [] room = ⊤
  AreServed [] (xs ∷ more) room = ⊥
  AreServed (c ∷ cs) [] room = ⊥
  AreServed (c ∷ cs) (xs ∷ more) room = IsServed c xs room × AreServed cs more (room_by xs room)

  -- The connections are joined: all their exchanges, one after another, are one run from this room.
  -- It leads to the room that the store stands for at the end, and keeps the promises.
  pub record AreJoined (cs : List (Conversation S)) (last : Store S) (room : Room) : Type 0 where
    pub dialogues : List (List Exchange)
    pub served : AreServed cs dialogues room
    pub run : IsRun setting terminals (together dialogues) room
    pub after : IsRoom g last terminals (room_by (together dialogues) room)
    pub promises : Promises terminals (together dialogues) room

-- where an observer keeps so much of a message at its moment, and of an answer
module _ {S : Type 0} (g : Ghosts S) (setting : HttpSettings) (came_text : ℕ → List ℕ → List ℕ)
    (response_text : List ℕ → List ℕ) where
  -- It was served as one connection is, from where serving stood, and observed. The observer fails
  -- only where something can't be kept. The zone of the plan stays. What the store holds afterwards
  -- is kept, unless it is shut.
  pub record IsNext (stage : Stage S) (c : Conversation S) : Type 0 where
    pub begins : stage_before c ≡ stage
    pub reads : ReadsAtMost most_reads c.before.reads c.after.reads
    pub dialogue : ServeIs machine setting c.before c.after (IsClean g c.store.conn)
        (IsRoom g c.from)
        (Stays (IsKept g c.from) (IsRoom g c.store) (LeavesOneOf g c.store))
        (IsUnserved machine setting (IsKept g c.from) (IsRoom g c.store) (LeavesOneOf g c.store))
        (KnowsNothing c.store.cache) c.course most_reads c.end
    pub none_missed : MissesNone c.before.left c.unread c.before.given c.after.given c.end
    pub observed : KeepsEach came_text response_text
        (IsClean g c.store.conn → IsKept g c.from → IsKept g c.store)
        (ActsOnEach machine setting (IsClean g c.store.conn) (IsRoom g c.from)
        (IsRoom g c.store)) c.before.left
        (tapes_before c) (tapes_after c) c.end c.course
    pub failed : c.end ≢ end.JournalFailed → c.after.observer_failed ≡ c.had_failed
    pub same_zone : c.store.plan.zone ≡ c.from.plan.zone
    pub trusted : IsClean g c.store.conn → IsClean g c.from.conn
    pub kept : IsClean g c.store.conn
        → IsKept g c.store ⊎ (c.store.is_sound ≡ false)

  -- each was served from where the one before left serving; there it stands at the end
  abbrev pub AreNext : List (Conversation S) → Stage S → Stage S → Type 0
  AreNext [] stage last = last ≡ stage
  AreNext (c ∷ cs) stage last = IsNext stage c × AreNext cs (stage_after c) last

  -- what was done with these calls: each was heard and written to, served in its turn, and joined
  -- to the others
  pub record AreAttended (calls : List (Option (Conversation S)))
      (old new : Service S) : Type 0 where
    pub heard : Grows old.heard new.heard (map (option_map opening_of) calls)
    pub written : Grows old.written new.written (map (λ c. c.after.held) (connected calls))
    pub in_turn : AreNext (connected calls) old.stage new.stage
    pub trusted : IsClean g new.stage.store.conn
        → IsClean g old.stage.store.conn
    pub joined : IsClean g new.stage.store.conn
        → (terminals : List Terminal) (room : Room) → IsRoom g old.stage.store terminals room
        → AreJoined g setting terminals (connected calls) new.stage.store room

  -- What the store held was kept as each connection began, where it was as the first did: so every
  -- answer that was written is kept.
  abbrev pub AreKept : List (Conversation S) → Service S → Type 0 → Type 0
  AreKept cs first trusted =
      trusted → IsKept g first.stage.store → All (λ c. IsKept g c.from) cs

  -- So many calls came, one after another, and after each more is served. A service goes on until
  -- it is stopped, so this holds after each of its calls.
  pub record HasServed (first now : Service S) (count : ℕ) : Type 0 where
    pub calls : List (Option (Conversation S))
    pub counted : length calls ≡ count
    pub go_on : GoOn calls
    pub attended : AreAttended calls first now
    pub kept : AreKept (connected calls) first (IsClean g now.stage.store.conn)
    pub is_kept : IsClean g now.stage.store.conn → IsKept g first.stage.store
        → IsKept g now.stage.store

  -- so many calls were served, or those up to one after which no more is served
  pub record Serves (old new : Service S) (renews : Bool) (most : ℕ)
      (result : Result Done Failure) : Type 0 where
    pub calls : List (Option (Conversation S))
    pub attended : AreAttended calls old new
    pub ends : EndsAs renews calls most result
    pub kept : AreKept (connected calls) old (IsClean g new.stage.store.conn)

-- no fault, or this one
abbrev pub done_or : Option Failure → Result (Unit {0}) Failure
done_or None = Ok tt
done_or (Some fault) = Err fault

-- The next call was attended to, and the result says whether more is served after it. If more is,
-- what held of so many calls holds of one more.
pub record AttendsNext {S : Type 0} (g : Ghosts S) (setting : HttpSettings)
    (came_text : ℕ → List ℕ → List ℕ) (response_text : List ℕ → List ℕ) (old new : Service S)
    (result : Result (Unit {0}) Failure) : Type 0 where
  pub call : Option (Conversation S)
  pub attended : AreAttended g setting came_text response_text (call ∷ []) old new
  pub ends : result ≡ done_or (option_and_then fault_after call)
  pub longer : result ≡ Ok tt → (first : Service S) (count : ℕ)
      → HasServed g setting came_text response_text first old count
      → HasServed g setting came_text response_text first new (count + 1)
