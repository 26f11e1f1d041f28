-- A list that is replayed to the room of a database, and what is reported of it.
use Rattle.std.specs.Prelude.{Bool, Err, List, Ok, Option, Result, false, true, ℕ, ◌≡◌, None, codes}
use Rattle.std.specs.Prelude.{decimal, ◌++◌}
use Rattle.std.specs.Io.KnownBytes.{Appends}
use Rattle.dispatch_room_exit.specs.ExitStatus.{refused}
use Rattle.dispatch_room_exit.specs.declared.exit_status.Done.{Done}
use Rattle.dispatch_room_exit.specs.declared.exit_status.Done.TheVariants.{Whole}
use Rattle.dispatch_room_exit.specs.declared.exit_status.Failure.{Failure}
use Rattle.dispatch_room_exit.specs.declared.exit_status.Failure.TheVariants.{Differs, Network}
use Rattle.dispatch_room_exit.specs.declared.exit_status.Failure.TheVariants.{OtherRoom, Record}
use Rattle.dispatch_room_journal.specs.declared.replay_faults.ReplayFault.{ReplayFault}
use Rattle.dispatch_room_journal.specs.declared.replay_faults.ReplayFault.TheVariants as replay
use Rattle.dispatch_room_journal.specs.declared.replay_faults.Stopped.{Stopped}
use Rattle.sqlite.specs.Held.{Held}
use Rattle.sqlite_trees.specs.declared.store.Store.{Ghosts}
use Rattle.room_http.specs.Settings.{IsSetting}
use Rattle.room_http.specs.declared.settings.HttpSettings.{HttpSettings}
use Rattle.room_store.specs.StoredRoom.{IsReady}
use Rattle.room_store.specs.declared.store.Store.{Store}
use Rattle.dispatch_room_tasks.specs.OpenedRoom.{OpensRoom}
use Rattle.dispatch_room_journal.specs.declared.replayed_journal.Replayed.{Replayed}
use Rattle.dispatch_room_journal.specs.declared.row_runs.Behind.{Behind}
use Rattle.dispatch_room_cli.specs.declared.tasks.Replay.{Replay as How}
use Rattle.dispatch_room_lists.specs.ReplayEnds.{Concludes}
use Rattle.dispatch_room_lists.specs.ReplayedLegs.{AnyBehind, LosesLeg, ReplaysLegs, begins_leg}
use Rattle.dispatch_room_lists.specs.ReplayedLegs.{count_in}
use Rattle.room_tables_schema.specs.FileConnections.{IsClean}

-- why a replay stopped at a record, as the program reports it
abbrev pub failure_at : ReplayFault → ℕ → Failure
failure_at replay.Bad number = Record number
failure_at replay.Differs number = Differs number
failure_at replay.OtherRoom number = OtherRoom number
failure_at replay.ReadFailed number = Network
failure_at replay.WriteFailed number = Network
failure_at (replay.Unavailable refusal) number = refused refusal

abbrev pub failure_of : Stopped → Failure
failure_of stopped = failure_at stopped.fault stopped.number

-- what is reported of a replay: how many messages were replayed, or why it stopped
abbrev pub PrintsReplayed : Result Replayed Stopped → Option (List ℕ) → Option (List ℕ)
    → Result Done Failure → Type 0
PrintsReplayed (Ok replayed) before after (Ok done) =
    Appends before after (codes "replayed " ++ (decimal replayed.messages ++ codes "\n"))
    × (done ≡ Whole)
PrintsReplayed (Ok replayed) before after (Err fault) = fault ≡ Network
PrintsReplayed (Err stopped) before after (Ok done) = ⊥
PrintsReplayed (Err stopped) before after (Err fault) = fault ≡ failure_of stopped

-- how the program ends once each message was answered, or answering stopped
abbrev pub EndsAs : Result ℕ Stopped → Result Done Failure → Type 0
EndsAs (Ok messages) done = done ≡ Ok Whole
EndsAs (Err stopped) done = done ≡ Err (failure_of stopped)

-- What is done with a list in a room: `first` is its store before and `last` after, and `setting`
-- is that in which the first segment is answered.
module _ {S : Type 0} (g : Ghosts S) (how : How) (first : Store S) (setting : HttpSettings)
    (last : Store S) (list before after : Option (List ℕ)) (read_failed : Bool)
    (Stands : List ℕ → Behind → Option (List ℕ) → Type 0)
    (done : Result Done Failure) where
  -- it is replayed segment by segment, and how much it was is reported
  pub record IsReplayed : Type 0 where
    pub write_failed : Bool
    pub result : Result Replayed Stopped
    pub is : ReplaysLegs g how Stands (begins_leg first setting list None) last None read_failed
        write_failed result
    pub printed : PrintsReplayed result before after done

  -- each of its messages is answered, segment by segment, and the answers are written
  pub record AreAnswered : Type 0 where
    pub write_failed : Bool
    pub result : Result Replayed Stopped
    pub is : ReplaysLegs g how Stands (begins_leg first setting list before) last after read_failed
        write_failed result
    pub ends : EndsAs (count_in result) done

-- the one or the other is done, as it was asked, and the store is ready again
pub record IsPlayed {S : Type 0} (g : Ghosts S) (how : How) (first : Store S) (setting : HttpSettings)
    (last : Store S) (list before after : Option (List ℕ)) (read_failed : Bool)
    (Stands : List ℕ → Behind → Option (List ℕ) → Type 0)
    (done : Result Done Failure) : Type 0 where
  pub ready : IsReady g last
  pub trusted : IsClean g last.conn → IsClean g first.conn
  pub replayed : how.answers ≡ false
      → IsReplayed g how first setting last list before after read_failed Stands done
  pub answered : how.answers ≡ true
      → AreAnswered g how first setting last list before after read_failed Stands done

-- This list was replayed to the room; or its messages were answered, as was asked, and the answers
-- written behind what the output held. Then the replay ended: where no answers were asked for, with
-- the digest of the room if that was. A record that is cut off may be left out only if the end of
-- the list was found.
pub record HasReplayedList {S : Type 0} (g : Ghosts S) (old new : Held S) (how : How)
    (list before after : Option (List ℕ)) (read_failed has_ended : Bool)
    (Stands : List ℕ → Behind → Option (List ℕ) → Type 0)
    (done : Result Done Failure) : Type 0 where
  pub first : Store S
  pub last : Store S
  pub setting : HttpSettings
  pub opens : IsClean g first.conn → OpensRoom g old first
  pub is_set : IsSetting first.plan.zone how.history setting
  pub came : Result Done Failure
  pub between : Option (List ℕ)
  pub replayed : how.answers ≡ false
      → IsReplayed g how first setting last list before between read_failed Stands came
  pub answered : how.answers ≡ true
      → AreAnswered g how first setting last list before between read_failed Stands came
  pub ended : Store S
  pub ends : Concludes g last ended how came has_ended between after done
  pub closed : new ≡ ended.conn

-- Behind a segment of a list no room could be opened again, for this. If answers are asked for, those
-- so far are written behind what the output held; otherwise nothing is printed.
pub record LosesPlayed {S : Type 0} (g : Ghosts S) (how : How) (first : Store S) (setting : HttpSettings)
    (list before after : Option (List ℕ))
    (Stands : List ℕ → Behind → Option (List ℕ) → Type 0) (fault : Failure) : Type 0 where
  pub unprinted : how.answers ≡ false → (after ≡ before)
      × LosesLeg g how Stands (begins_leg first setting list None) None fault
  pub answered : how.answers ≡ true
      → LosesLeg g how Stands (begins_leg first setting list before) after fault

-- a room was opened, but behind a segment of a list it could not be opened again
pub record LosesList {S : Type 0} (g : Ghosts S) (old : Held S) (how : How)
    (list before after : Option (List ℕ))
    (Stands : List ℕ → Behind → Option (List ℕ) → Type 0) (fault : Failure) : Type 0 where
  pub first : Store S
  pub setting : HttpSettings
  pub opens : IsClean g first.conn → OpensRoom g old first
  pub is_set : IsSetting first.plan.zone how.history setting
  pub loses : LosesPlayed g how first setting list before after Stands fault

-- the same, where nothing is said of how the list is read
abbrev pub HasReplayed : {S : Type 0} → Ghosts S → Held S → Held S → How → Option (List ℕ)
    → Option (List ℕ) → Option (List ℕ) → Result Done Failure → Type 0
HasReplayed g old new how list before after done = (read_failed has_ended : Bool)
    × HasReplayedList g old new how list before after read_failed has_ended AnyBehind done

abbrev pub LosesReplayed : {S : Type 0} → Ghosts S → Held S → How → Option (List ℕ)
    → Option (List ℕ) → Option (List ℕ) → Failure → Type 0
LosesReplayed g old how list before after fault =
    LosesList g old how list before after AnyBehind fault
