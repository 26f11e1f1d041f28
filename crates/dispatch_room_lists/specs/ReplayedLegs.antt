-- A list with changes among its messages, replayed segment by segment: each segment as a list without changes
-- is, and between two of them a change is made.
use Rattle.std.specs.Prelude.{Bool, Err, IfOk, List, [], None, Ok, Option, Result, ⊤, false, length}
use Rattle.std.specs.Prelude.{min, true, ℕ, ◌+◌, ◌-◌, ◌<◌, ◌^◌, ◌∷◌, ◌≡◌, ◌⊎◌}
use Rattle.std.specs.Io.KnownBytes.{prepend_known}
use Rattle.sqlite_trees.specs.declared.store.Store.{Ghosts}
use Rattle.room_types.specs.declared.refusal_statuses.Refusal.TheVariants.{Memory}
use Rattle.room_model.specs.Rooms.{machine}
use Rattle.room_model.specs.declared.digests.StartDigest.{StartDigest}
use Rattle.room_http.specs.Settings.{IsSetting}
use Rattle.room_http.specs.declared.settings.HttpSettings.{HttpSettings}
use Rattle.room_store.specs.StoredRoom.{IsReady, IsRoom}
use Rattle.room_store.specs.declared.store.Store.{Store}
use Rattle.dispatch_room_cli.specs.declared.tasks.Replay.{Replay as How}
use Rattle.dispatch_room_exit.specs.declared.exit_status.Failure.{Failure}
use Rattle.dispatch_room_journal.specs.AnswerFrames.{AnswersEach}
use Rattle.dispatch_room_journal.specs.Segments.{TakesIn}
use Rattle.dispatch_room_journal.specs.ReadSteps.{left_in}
use Rattle.dispatch_room_journal.specs.Replays as replay
use Rattle.dispatch_room_journal.specs.declared.list_source.ListSource.{ListSource}
use Rattle.dispatch_room_journal.specs.declared.replay_faults.ReplayFault.{ReplayFault}
use Rattle.dispatch_room_journal.specs.declared.replay_faults.ReplayFault.TheVariants.{ReadFailed}
use Rattle.dispatch_room_journal.specs.declared.replay_faults.ReplayFault.TheVariants.{Unavailable}
use Rattle.dispatch_room_journal.specs.declared.replay_faults.Stopped.{Stopped}
use Rattle.dispatch_room_journal.specs.declared.replayed_journal.Replayed.{Replayed}
use Rattle.dispatch_room_journal.specs.declared.row_runs.Behind.{Behind}
use Rattle.dispatch_room_journal.specs.declared.row_runs.Behind.TheVariants as behind
use Rattle.dispatch_room_lists.specs.ListedRows.{Follows, IsUnfollowed, LosesText}
use Rattle.dispatch_room_lists.specs.StoodRooms.{digits_in}
use Rattle.room_tables_schema.specs.FileConnections.{IsClean}

-- where a segment begins: the room, the setting in which its messages are answered, what is left of the
-- segment, what is written so far, and how many messages came in the segments before
pub record Waypoint (S : Type 0) : Type 0 where
  pub store : Store S
  pub setting : HttpSettings
  pub left : Option (List ℕ)
  pub held : Option (List ℕ)
  pub messages : ℕ

-- where the first segment of a list begins
abbrev pub begins_leg : {S : Type 0} → Store S → HttpSettings → Option (List ℕ) → Option (List ℕ)
    → Waypoint S
begins_leg store setting list held =
    record { store = store; setting = setting; left = list; held = held; messages = 0 }

-- what is left of the segment of a list that is read next, by what is left of its source
abbrev pub left_of : {R : Type 0} → (R → Option (List ℕ)) → ListSource R → Option (List ℕ)
left_of left list = left_in list.cursor.mode list.cursor.vouched list.cursor.inbox (left list.reader)

-- how many messages were answered, or why it stopped
abbrev pub count_in : Result Replayed Stopped → Result ℕ Stopped
count_in (Ok replayed) = Ok replayed.messages
count_in (Err stopped) = Err stopped

-- the sum of two numbers of messages, at most the greatest number of its type
abbrev pub sum_of : ℕ → ℕ → ℕ
sum_of before more = min (before + more) (2 ^ 64 - 1)

-- the result of a replay, from that of its last segment and the number of messages before that segment
abbrev pub in_all : ℕ → Result Replayed Stopped → Result Replayed Stopped
in_all before (Ok replayed) =
    Ok (record { messages = sum_of before replayed.messages; is_open = replayed.is_open })
in_all before (Err stopped) =
    Err (record { fault = stopped.fault; number = sum_of before stopped.number })

-- ---- what stands behind a segment
-- nothing was read of the list
abbrev pub IsUntouched : {R : Type 0} → ListSource R → ListSource R → Type 0
IsUntouched old new = (new.reader ≡ old.reader) × (new.cursor ≡ old.cursor)

module _ {R : Type 0} (left : R → Option (List ℕ)) where
  -- What stands behind a segment of a list was taken, and the lines of its rows were appended to
  -- others. Nothing is taken behind a segment that was not read to its end, or of which bytes are still
  -- to be given; otherwise the rows that come next are.
  abbrev pub TakesBehind : ListSource R → ListSource R → List ℕ → List ℕ → Behind → Type 0
  TakesBehind old new before rows which =
      (old.has_ended ≡ false → (which ≡ behind.Unread) × IsUntouched old new × (rows ≡ before))
      × (0 < old.cursor.vouched → (which ≡ behind.Unread) × IsUntouched old new × (rows ≡ before))
      × (old.has_ended ≡ true → old.cursor.vouched ≡ 0
      → TakesIn old.cursor.mode new.cursor.mode (prepend_known old.cursor.inbox (left old.reader))
      (prepend_known new.cursor.inbox (left new.reader)) before rows which)

-- each segment is read to its end: no moment is given up to which it is replayed, or its messages are
-- answered
abbrev pub ReadsAll : How → Type 0
ReadsAll how = (how.answers ≡ true) ⊎ (how.until ≡ None)

-- These rows stand behind a segment of a list, and `which` behind them, and `next` is left of the segment
-- that follows: they were taken from the list as it was after the segment. Where each segment is read to
-- its end, that one was.
pub record StandsBehind {L : Type 0} (left : L → Option (List ℕ)) (has_ended : L → Bool)
    (Takes : L → L → List ℕ → List ℕ → Behind → Type 0) (how : How) (rows : List ℕ)
    (which : Behind) (next : Option (List ℕ)) : Type 0 where
  pub read : L
  pub now : L
  pub ended : ReadsAll how → has_ended read ≡ true
  pub takes : Takes read now [] rows which
  pub is_left : next ≡ left now

-- any rows, where nothing is said of how a list is read
abbrev pub AnyBehind : List ℕ → Behind → Option (List ℕ) → Type 0
AnyBehind rows which next = ⊤

-- No segment follows the one that was read last: no rows stand behind it, or none were taken, or
-- nothing stands behind them.
abbrev pub IsSpent : (List ℕ → Behind → Option (List ℕ) → Type 0) → Type 0
IsSpent Stands = (rows : List ℕ) × (which : Behind) × (next : Option (List ℕ))
    × Stands rows which next
    × ((rows ≡ []) ⊎ (which ≡ behind.Unread) ⊎ (which ≡ behind.End))

module _ {S : Type 0} (g : Ghosts S) where
  -- What is done with the rows behind a segment, and whether another segment follows. Where a head stands
  -- behind them, they are followed as far as it says; where anything else does, or nothing, the
  -- room stays as it is.
  abbrev pub FollowsBy : Store S → Store S → List ℕ → Behind → Bool → Type 0
  FollowsBy old new [] behind goes_on = (goes_on ≡ false) × (new ≡ old)
  FollowsBy old new (byte ∷ more) behind.Unread goes_on = (goes_on ≡ false) × (new ≡ old)
  FollowsBy old new (byte ∷ more) behind.End goes_on = (goes_on ≡ false) × (new ≡ old)
  FollowsBy old new (byte ∷ more) (behind.Room head) goes_on =
      (goes_on ≡ true) × Follows g old new (byte ∷ more) head
  FollowsBy old new (byte ∷ more) behind.Other goes_on = (goes_on ≡ true) × (new ≡ old)

  -- Why the replay stops behind a segment that was replayed whole, and the room then: what stands there
  -- can't be read, or memory is refused for it, and the room stays as it is; or rows of which
  -- `Stand` holds can't be followed.
  abbrev pub StopsBehind : (List ℕ → Behind → Type 0) → Bool → Store S → Store S → ReplayFault
      → Type 0
  StopsBehind Stand read_failed old new fault =
      ((fault ≡ ReadFailed) × (read_failed ≡ true) × (new ≡ old))
      ⊎ ((fault ≡ Unavailable Memory) × (new ≡ old))
      ⊎ ((rows : List ℕ) × (head : StartDigest) × Stand rows (behind.Room head)
      × IsUnfollowed g old new rows head fault)

  module _ (how : How) where
    -- A segment was replayed; or its messages were answered, and the answers written behind those
    -- before. It came to this, and a read or a write failed or not.
    pub record IsLeg (at : Waypoint S) (last : Store S) (holds : Option (List ℕ))
        (read_failed write_failed : Bool) (came : Result Replayed Stopped) : Type 0 where
      pub replayed : how.answers ≡ false
          → replay.Replays machine at.setting (digits_in at.store) (IsClean g last.conn)
          (IsRoom g at.store) (IsRoom g last) at.left how.until read_failed came
      pub answered : how.answers ≡ true
          → AnswersEach machine at.setting (digits_in at.store) (IsClean g last.conn)
          (IsRoom g at.store) (IsRoom g last) at.left at.held holds read_failed write_failed
          (count_in came)

    module _ (Stands : List ℕ → Behind → Option (List ℕ) → Type 0) where
      -- A segment was replayed whole, and what stands behind it was followed. The next begins here,
      -- its answers behind those that are written, in the zone that the room has then.
      pub record Passes (at now : Waypoint S) : Type 0 where
        pub last : Store S
        pub replayed : Replayed
        pub segment : IsLeg at last now.held false false (Ok replayed)
        pub rows : List ℕ
        pub behind : Behind
        pub stands : Stands rows behind now.left
        pub between : FollowsBy last now.store rows behind true
        pub is_set : IsSetting now.store.plan.zone how.history now.setting
        pub clean : IsClean g now.store.conn → IsClean g last.conn
        pub messages : now.messages ≡ sum_of at.messages replayed.messages

      -- these segments were passed, the last of them first
      abbrev pub ArePassed : List (Waypoint S) → Waypoint S → Waypoint S → Type 0
      ArePassed [] first now = now ≡ first
      ArePassed (at ∷ earlier) first now = ArePassed earlier first at × Passes at now

      -- this segment was the last, and came to this
      pub record EndsLeg (first : Waypoint S) (last : Store S) (holds : Option (List ℕ))
          (read_failed write_failed : Bool) (before : ℕ) (came : Result Replayed Stopped)
          : Type 0 where
        pub at : Waypoint S
        pub earlier : List (Waypoint S)
        pub are : ArePassed earlier first at
        pub is : IsLeg at last holds read_failed write_failed came
        pub before_is : at.messages ≡ before

      -- Behind a segment that was replayed whole the rows could not be read, or not followed.
      pub record StopsBetween (first : Waypoint S) (last : Store S) (holds : Option (List ℕ))
          (read_failed : Bool) (result : Result Replayed Stopped) : Type 0 where
        pub stood : Store S
        pub before : ℕ
        pub replayed : Replayed
        pub segment : EndsLeg first stood holds false false before (Ok replayed)
        pub clean : IsClean g last.conn → IsClean g stood.conn
        pub fault : ReplayFault
        pub why : StopsBehind (λ rows which. (next : Option (List ℕ)) × Stands rows which next)
            read_failed stood last fault
        pub failed : result ≡ Err (record {
          fault = fault;
          number = sum_of (sum_of before replayed.messages) 1;
        })

      -- A list was replayed segment by segment: either its last segment came to this, or it stopped between
      -- two. If the last segment was replayed whole, the list is spent, unless as many segments were
      -- replayed as are counted.
      abbrev pub ReplaysLegs : Waypoint S → Store S → Option (List ℕ) → Bool → Bool
          → Result Replayed Stopped → Type 0
      ReplaysLegs first last holds read_failed write_failed result =
          ((before : ℕ) × (came : Result Replayed Stopped)
          × (ends : EndsLeg first last holds read_failed write_failed before came)
          × (result ≡ in_all before came)
          × IfOk came (λ _. IsSpent Stands ⊎ (length ends.earlier ≡ 2 ^ 64 - 2)))
          ⊎ StopsBetween first last holds read_failed result

      -- a list was replayed so, and the store is ready again
      pub record PlaysLegs (first : Waypoint S) (last : Store S) (holds : Option (List ℕ))
          (read_failed write_failed : Bool) (result : Result Replayed Stopped) : Type 0 where
        pub ready : IsReady g last
        pub trusted : IsClean g last.conn → IsClean g first.store.conn
        pub segments : ReplaysLegs first last holds read_failed write_failed result

      -- Behind a segment that was replayed whole, no room could be opened again for the change that
      -- stands there, or after it, for this.
      pub record LosesLeg (first : Waypoint S) (holds : Option (List ℕ)) (fault : Failure)
          : Type 0 where
        pub stood : Store S
        pub before : ℕ
        pub replayed : Replayed
        pub segment : EndsLeg first stood holds false false before (Ok replayed)
        pub rows : List ℕ
        pub head : StartDigest
        pub next : Option (List ℕ)
        pub stands : Stands rows (behind.Room head) next
        pub lost : LosesText g stood rows head fault
