-- The segments of a list that is replayed, one after another.
use Rattle.std.proofs.Common.{Bool, List, [], Ok, Option, Result, ap, arith, false, inl, inr}
use Rattle.std.proofs.Common.{length, refl, subst, sym, ℕ, true, Err, IfOk, ◌+◌, ◌<◌, ◌∙◌, ◌∷◌, ◌≡◌}
use Rattle.std.proofs.Common.{◌⊎◌}
use Rattle.std.proofs.lemmas.Result.{IfOk-weaker}
use Rattle.std.specs.Io.KnownBytes.{prepend_known}
use Rattle.sqlite.specs.Held.{Held}
use Rattle.sqlite_trees.specs.declared.store.Store.{Ghosts}
use Rattle.room_http.specs.Settings.{IsSetting}
use Rattle.room_model.specs.declared.digests.StartDigest.{StartDigest}
use Rattle.room_store.specs.declared.store.Store.{Store}
use Rattle.dispatch_room_exit.specs.declared.exit_status.Done.{Done}
use Rattle.dispatch_room_exit.specs.declared.exit_status.Failure.{Failure}
use Rattle.dispatch_room_cli.specs.declared.tasks.Replay.{Replay as How}
use Rattle.dispatch_room_journal.specs.declared.list_source.ListSource.{ListSource}
use Rattle.dispatch_room_journal.specs.Segments.{TakesIn}
use Rattle.dispatch_room_journal.specs.declared.replay_faults.Stopped.{Stopped}
use Rattle.dispatch_room_journal.specs.declared.replayed_journal.Replayed.{Replayed}
use Rattle.dispatch_room_journal.specs.declared.row_runs.Behind.{Behind}
use Rattle.dispatch_room_journal.specs.declared.row_runs.Behind.TheVariants as behind
use Rattle.dispatch_room_journal.specs.declared.row_runs.RowsFault.{RowsFault}
use Rattle.dispatch_room_lists.specs.ListedRows.{Follows, IsMadeTowards, IsThere}
use Rattle.dispatch_room_lists.specs.RoomChanges.{IsTextOf}
use Rattle.dispatch_room_lists.specs.declared.room_changes.RoomChange.{RoomChange}
use Rattle.dispatch_room_lists.specs.ReplayedLegs.{AnyBehind, ArePassed, EndsLeg, FollowsBy, IsLeg}
use Rattle.dispatch_room_lists.specs.ReplayedLegs.{IsSpent, IsUntouched, LosesLeg, ReplaysLegs}
use Rattle.dispatch_room_lists.specs.ReplayedLists.{HasReplayedList, LosesList}
use Rattle.dispatch_room_lists.specs.ReplayedLegs.{TakesBehind, Waypoint, sum_of}
use Rattle.room_tables_schema.specs.FileConnections.{IsClean}

module _ {S : Type 0} (g : Ghosts S) (how : How) (Stands : List ℕ → Behind → Option (List ℕ) → Type 0) where
  pub first_leg : (first : Waypoint S) (last : Store S) (holds : Option (List ℕ)) (read_failed write_failed : Bool)
      (came : Result Replayed Stopped) → IsLeg g how first last holds read_failed write_failed came
      → (ends : EndsLeg g how Stands first last holds read_failed write_failed first.messages came)
      × (length ends.earlier + 1 ≡ 1)
  first_leg first last holds read_failed write_failed came is =
      (record { at = first; earlier = []; are = refl; is = is; before_is = refl }, refl)

  -- nothing failed in a segment that was replayed whole
  any_flags : (at : Waypoint S) (last : Store S) (holds : Option (List ℕ)) (read_failed write_failed : Bool)
      (replayed : Replayed) → IsLeg g how at last holds read_failed write_failed (Ok replayed)
      → IsLeg g how at last holds false false (Ok replayed)
  any_flags at last holds read_failed write_failed replayed is =
      record { replayed = is.replayed; answered = is.answered }

  pub whole_leg : (first : Waypoint S) (last : Store S) (holds : Option (List ℕ)) (read_failed write_failed : Bool)
      (reads writes : Bool) (before : ℕ) (replayed : Replayed)
      → EndsLeg g how Stands first last holds read_failed write_failed before (Ok replayed)
      → EndsLeg g how Stands first last holds reads writes before (Ok replayed)
  whole_leg first last holds read_failed write_failed reads writes before replayed ends = record {
    at = ends.at;
    earlier = ends.earlier;
    are = ends.are;
    is = record { replayed = ends.is.replayed; answered = ends.is.answered };
    before_is = ends.before_is;
  }

  pub next_leg : (first : Waypoint S) (stood : Store S) (before : ℕ) (replayed : Replayed) (now : Waypoint S)
      (rows : List ℕ) (behind : Behind) (last : Store S) (holds : Option (List ℕ))
      (read_failed write_failed reads writes : Bool) (whole came : Result Replayed Stopped) (count : ℕ)
      → (ends : EndsLeg g how Stands first stood now.held read_failed write_failed before whole)
      → whole ≡ Ok replayed → length ends.earlier + 1 ≡ count
      → FollowsBy g stood now.store rows behind true
      → (IsClean g now.store.conn → IsClean g stood.conn)
      → IsSetting now.store.plan.zone how.history now.setting
      → now.messages ≡ sum_of before replayed.messages
      → IsLeg g how now last holds reads writes came → Stands rows behind now.left
      → (more : EndsLeg g how Stands first last holds reads writes now.messages came)
      × (length more.earlier + 1 ≡ count + 1)
  next_leg first stood before replayed now rows behind last holds read_failed write_failed reads writes whole came count
      ends well many between clean set messages is stands = (
        record {
          at = now;
          earlier = ends.at ∷ ends.earlier;
          are = (
            ends.are,
            record {
              last = stood;
              replayed = replayed;
              segment = any_flags _ _ _ _ _ _ (rw well at ends.is);
              rows = rows;
              behind = behind;
              stands = stands;
              between = between;
              is_set = set;
              clean = clean;
              messages = messages ∙ ap (λ n. sum_of n replayed.messages) (sym ends.before_is);
            },
          );
          is = is;
          before_is = refl;
        },
        omega (arith, many),
      )

-- what is said less closely of what stands behind the segments
module _ {S : Type 0} (g : Ghosts S) (how : How) (Stands : List ℕ → Behind → Option (List ℕ) → Type 0) where
  any_passed : (segments : List (Waypoint S)) (first now : Waypoint S) → ArePassed g how Stands segments first now
      → ArePassed g how AnyBehind segments first now
  any_passed [] first now are = are
  any_passed (at ∷ earlier) first now are = (
    any_passed earlier first at are.0,
    record {
      last = are.1.last;
      replayed = are.1.replayed;
      segment = are.1.segment;
      rows = are.1.rows;
      behind = are.1.behind;
      stands = tt;
      between = are.1.between;
      is_set = are.1.is_set;
      clean = are.1.clean;
      messages = are.1.messages;
    },
  )

  any_ends : (first : Waypoint S) (last : Store S) (holds : Option (List ℕ)) (read_failed write_failed : Bool)
      (before : ℕ) (came : Result Replayed Stopped)
      → EndsLeg g how Stands first last holds read_failed write_failed before came
      → EndsLeg g how AnyBehind first last holds read_failed write_failed before came
  any_ends first last holds read_failed write_failed before came ends = record {
    at = ends.at;
    earlier = ends.earlier;
    are = any_passed ends.earlier first ends.at ends.are;
    is = ends.is;
    before_is = ends.before_is;
  }

  any_legs : (first : Waypoint S) (last : Store S) (holds : Option (List ℕ)) (read_failed write_failed : Bool)
      (result : Result Replayed Stopped) → ReplaysLegs g how Stands first last holds read_failed write_failed result
      → ReplaysLegs g how AnyBehind first last holds read_failed write_failed result
  unfolding any_ends
  any_legs first last holds read_failed write_failed result (inl is) =
      inl (
        is.0,
        is.1,
        any_ends first last holds read_failed write_failed is.0 is.1 is.2,
        is.3,
        IfOk-weaker is.1 _ _ (λ replayed done. elim done [
          | inl spent ↦ inl (spent.0, spent.1, spent.2, tt, spent.4)
          | inr many ↦ inr many
        ]) is.4,
      )
  any_legs first last holds read_failed write_failed result (inr is) =
      inr (record {
        stood = is.stood;
        before = is.before;
        replayed = is.replayed;
        segment = any_ends _ _ _ _ _ _ _ is.segment;
        clean = is.clean;
        fault = is.fault;
        why = elim is.why [
          | inl unread ↦ inl unread
          | inr other ↦ elim other [
            | inl memory ↦ inr (inl memory)
            | inr it ↦ inr (inr (it.0, it.1, (it.2.0, tt), it.3))
          ]
        ];
        failed = is.failed;
      })

  any_lost : (first : Waypoint S) (holds : Option (List ℕ)) (fault : Failure)
      → LosesLeg g how Stands first holds fault → LosesLeg g how AnyBehind first holds fault
  any_lost first holds fault is = record {
    stood = is.stood;
    before = is.before;
    replayed = is.replayed;
    segment = any_ends _ _ _ _ _ _ _ is.segment;
    rows = is.rows;
    head = is.head;
    next = is.next;
    stands = tt;
    lost = is.lost;
  }

  pub any_replayed : (old new : Held S) (list before after : Option (List ℕ)) (read_failed has_ended : Bool)
      (done : Result Done Failure)
      → HasReplayedList g old new how list before after read_failed has_ended Stands done
      → HasReplayedList g old new how list before after read_failed has_ended AnyBehind done
  any_replayed old new list before after read_failed has_ended done is = record {
    first = is.first;
    last = is.last;
    setting = is.setting;
    opens = is.opens;
    is_set = is.is_set;
    came = is.came;
    between = is.between;
    replayed = λ unasked.
        let it = is.replayed unasked in record {
          write_failed = it.write_failed;
          result = it.result;
          is = any_legs _ _ _ _ _ _ it.is;
          printed = it.printed;
        };
    answered = λ asked.
        let it = is.answered asked in record {
          write_failed = it.write_failed;
          result = it.result;
          is = any_legs _ _ _ _ _ _ it.is;
          ends = it.ends;
        };
    ended = is.ended;
    ends = is.ends;
    closed = is.closed;
  }

  pub any_lost_list : (old : Held S) (list before after : Option (List ℕ)) (fault : Failure)
      → LosesList g old how list before after Stands fault
      → LosesList g old how list before after AnyBehind fault
  any_lost_list old list before after fault is = record {
    first = is.first;
    setting = is.setting;
    opens = is.opens;
    is_set = is.is_set;
    loses = record {
      unprinted = λ unasked.
          let it = is.loses.unprinted unasked in (it.0, any_lost _ _ _ it.1);
      answered = λ asked. any_lost _ _ _ (is.loses.answered asked);
    };
  }

-- as many segments were replayed as are counted
pub so_many : {T E : Type 0} (came : Result T E) (P Q : Type 0) → Q → IfOk came (λ it. P ⊎ Q)
so_many (Ok it) P Q many = inr many
so_many (Err e) P Q many = tt

-- what stands behind a segment, by what a call says that took it
pub takes_behind : {R : Type 0} (left : R → Option (List ℕ)) (old new : ListSource R) (before rows : List ℕ)
    (taken : Result Behind RowsFault)
    → (old.has_ended ≡ false → (taken ≡ Ok behind.Unread) × IsUntouched old new × (rows ≡ before))
    → (0 < old.cursor.vouched → (taken ≡ Ok behind.Unread) × IsUntouched old new × (rows ≡ before))
    → (old.has_ended ≡ true → old.cursor.vouched ≡ 0
    → IfOk taken (TakesIn old.cursor.mode new.cursor.mode (prepend_known old.cursor.inbox (left old.reader))
    (prepend_known new.cursor.inbox (left new.reader)) before rows))
    → IfOk taken (TakesBehind left old new before rows)
takes_behind left old new before rows (Ok which) unread given takes = (
  λ no. let is = unread no in (cc is.0, is.1, is.2),
  λ some. let is = given some in (cc is.0, is.1, is.2),
  takes,
)
takes_behind left old new before rows (Err fault) unread given takes = tt

-- what becomes of rows, where there are any, by what stands behind them
module _ {S : Type 0} (g : Ghosts S) (old new : Store S) where
  pub follows_by : (change : RoomChange) (text : List ℕ) (head : StartDigest) → IsTextOf change text
      → IsThere g old new head ⊎ IsMadeTowards g old new change head → Follows g old new text head
  follows_by change text head its (inl there) = inl there
  follows_by change text head its (inr made) = inr (inr (change, its, made))

  pub due_by : (rows : List ℕ) (head : StartDigest) → (rows ≡ [] → ⊥) → Follows g old new rows head
      → FollowsBy g old new rows (behind.Room head) true
  due_by [] head some due = absurd (some refl)
  due_by (byte ∷ more) head some due = (refl, due)

  pub end_by : (rows : List ℕ) → new ≡ old → FollowsBy g old new rows behind.End false
  end_by [] same = (refl, same)
  end_by (byte ∷ more) same = (refl, same)

  pub unread_by : (rows : List ℕ) → new ≡ old → FollowsBy g old new rows behind.Unread false
  unread_by [] same = (refl, same)
  unread_by (byte ∷ more) same = (refl, same)

  pub other_by : (rows : List ℕ) → (rows ≡ [] → ⊥) → new ≡ old → FollowsBy g old new rows behind.Other true
  other_by [] some same = absurd (some refl)
  other_by (byte ∷ more) some same = (refl, same)

  pub stays_by : (rows : List ℕ) (behind : Behind) → FollowsBy g old new rows behind false → new ≡ old
  stays_by [] behind is = is.1
  stays_by (byte ∷ more) behind.Unread is = is.1
  stays_by (byte ∷ more) behind.End is = is.1
  stays_by (byte ∷ more) (behind.Room head) is = absurd (cc is.0)
  stays_by (byte ∷ more) behind.Other is = absurd (cc is.0)

-- the last segment is the last where the room stays as it is
pub ends_here : {S : Type 0} (g : Ghosts S) (how : How) (Stands : List ℕ → Behind → Option (List ℕ) → Type 0)
    (first : Waypoint S) (old new : Store S)
    (holds : Option (List ℕ)) (read_failed write_failed reads writes : Bool) (before : ℕ) (replayed : Replayed)
    (rows : List ℕ) (behind : Behind)
    → EndsLeg g how Stands first old holds read_failed write_failed before (Ok replayed)
    → FollowsBy g old new rows behind false
    → EndsLeg g how Stands first new holds reads writes before (Ok replayed)
ends_here g how Stands first old new holds _ _ reads writes before replayed rows behind ends by =
    subst (λ last. EndsLeg g how Stands first last holds reads writes before (Ok replayed))
    (sym (stays_by g old new rows behind by))
    (whole_leg g how Stands first old holds _ _ reads writes before replayed ends)

-- a list is spent where no segment follows what was taken behind the last one
pub spent_by : (Stands : List ℕ → Behind → Option (List ℕ) → Type 0) {S : Type 0} (g : Ghosts S) (was is : Store S)
    (rows : List ℕ) (which : Behind) (next : Option (List ℕ)) → Stands rows which next
    → FollowsBy g was is rows which false → IsSpent Stands
spent_by Stands g was is rows which next stands by = (rows, which, next, stands, last_by rows which by) where
  last_by : (rows : List ℕ) (which : Behind) → FollowsBy g was is rows which false
      → (rows ≡ []) ⊎ (which ≡ behind.Unread) ⊎ (which ≡ behind.End)
  last_by [] which by = inl refl
  last_by (byte ∷ more) behind.Unread by = inr (inl refl)
  last_by (byte ∷ more) behind.End by = inr (inr refl)
  last_by (byte ∷ more) (behind.Room head) by = absurd (cc by.0)
  last_by (byte ∷ more) behind.Other by = absurd (cc by.0)
