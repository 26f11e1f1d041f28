-- What a replay does: the turns of a journal, and the room after them.
use Rattle.std.specs.Prelude.{◌≡◌, ◌⊎◌, ℕ, ◌+◌, ◌-◌, ◌^◌, ⊤, min, List, [], ◌∷◌, ◌++◌, length, All}
use Rattle.std.specs.Prelude.{count_by, Bool, true, false, Option, Some, None, Result, Ok, Err}
use Rattle.room_types.specs.declared.fleet.Terminal.{Terminal}
use Rattle.room_model.specs.Room.{Room}
use Rattle.room_http.specs.declared.settings.HttpSettings.{HttpSettings}
pub use Rattle.room_model.specs.Digests.{DigitsOf, IsHeadOf, digits_of}
use Rattle.room_model.specs.Rooms.{Step}
use Rattle.room_http.specs.Arrivals.{message as arrived}
use Rattle.room_http.specs.Dialogues.{IsDialogue, IsReplyTo}
use Rattle.room_http.specs.DigestReplies.{LeadsToAnother}
use Rattle.room_http_messages.specs.Messages.{WholeMessage, HasMessage}
use Rattle.room_model.specs.declared.digests.StartDigest.{StartDigest}
use Rattle.dispatch_room_journal.specs.Entries.{Begins}
use Rattle.dispatch_room_journal.specs.Entries as entry
use Rattle.dispatch_room_journal.specs.declared.replay_faults.ReplayFault.{ReplayFault}
use Rattle.dispatch_room_journal.specs.declared.replay_faults.ReplayFault.TheVariants.{Bad, Differs}
use Rattle.dispatch_room_journal.specs.declared.replay_faults.ReplayFault.TheVariants.{OtherRoom}
use Rattle.dispatch_room_journal.specs.declared.replay_faults.ReplayFault.TheVariants.{ReadFailed}
use Rattle.dispatch_room_journal.specs.declared.replay_faults.ReplayFault.TheVariants.{WriteFailed}
use Rattle.dispatch_room_journal.specs.declared.replay_faults.ReplayFault.TheVariants.{Unavailable}
use Rattle.dispatch_room_journal.specs.declared.replay_faults.Stopped.{Stopped}
use Rattle.dispatch_room_journal.specs.declared.replayed_journal.Replayed.{Replayed}
use Rattle.dispatch_room_journal.specs.ReplayedTurns.{Open, Play, Turn, compared, answered}
use Rattle.dispatch_room_journal.specs.ReplayedTurns.{caught_up, tried, left_out, timed, entries_of}
use Rattle.dispatch_room_journal.specs.ReplayedTurns.{arrivals_of, bytes_of, has_message, ends_open}
use Rattle.dispatch_room_journal.specs.ReplayedTurns.{ends_unanswered, IsReplayed, HasNoStatus}
use Rattle.dispatch_room_journal.specs.ReplayedTurns.{BeginsWith, AreTurns, EndsAt}
use Rattle.dispatch_room_journal.specs.ReplayFaults.{Explains, IsDueTo}

module _ (step : Step) (setting : HttpSettings) (digest_of : DigitsOf) (terminals : List Terminal) where
  -- the room after a message, and its answer
  abbrev pub Answers : Room → Play → Room → Type 0
  Answers room p after = IsReplyTo step setting terminals room (timed p) after p.response

  -- the room after a turn: a head's digest is that of the room
  abbrev pub Does : Room → Turn → Room → Type 0
  Does room (compared head) after = (after ≡ room) × (IsHeadOf digest_of head terminals room)
  Does room (answered p status) after = Answers room p after
  Does room (caught_up p head) after = (¬ (IsHeadOf digest_of head terminals room))
      × Answers room p after × (IsHeadOf digest_of head terminals after)
  Does room (tried p) after = Answers room p after
  Does room (left_out at sent) after = after ≡ room

  -- the room after turns, one after another
  abbrev pub IsReplay : Room → List Turn → Room → Type 0
  IsReplay room [] after = after ≡ room
  IsReplay room (t ∷ ts) after = (next : Room) × Does room t next × IsReplay next ts after

-- Where the room is kept by what gives back what was written: the turns lead from the room that it
-- stood for to the one that it stands for now.
abbrev pub Leads : Step → HttpSettings → DigitsOf → Type 0 → (List Terminal → Room → Type 0)
    → (List Terminal → Room → Type 0) → List Turn → Type 0
Leads step setting digest_of trusted stood stands ts =
    trusted → (terminals : List Terminal) (room : Room) → stood terminals room
    → (after : Room) × IsReplay step setting digest_of terminals room ts after
    × stands terminals after

-- where a head stands next, the turns lead to a room that has its digest
abbrev pub MeetsHead : Step → HttpSettings → DigitsOf → Type 0 → (List Terminal → Room → Type 0)
    → List Turn → List ℕ → Type 0
MeetsHead step setting digest_of trusted stood ts rest =
    (head : StartDigest) (more : List ℕ) → Begins rest (entry.room head) more
    → trusted → (terminals : List Terminal) (held : Room) → stood terminals held
    → (after : Room) × IsReplay step setting digest_of terminals held ts after
    × (IsHeadOf digest_of head terminals after)

-- an open message would lead a room to another digest than this head gives, if there is one
abbrev pub WouldMiss : Step → HttpSettings → DigitsOf → List Terminal → Room → Option Open → StartDigest
    → Type 0
WouldMiss step setting digest_of terminals room None head = ⊤
WouldMiss step setting digest_of terminals room (Some open_) head =
    (whole : WholeMessage) × HasMessage open_.1 whole []
    × LeadsToAnother step setting digest_of terminals room (arrived whole, open_.0) head

-- The same, to a room that has another digest than this head gives, and would have another one
-- after an open message, if there is one. That message was not done.
abbrev pub LeadsElsewhere : Step → HttpSettings → DigitsOf → Type 0 → (List Terminal → Room → Type 0)
    → (List Terminal → Room → Type 0) → List Turn → Option Open → StartDigest → Type 0
LeadsElsewhere step setting digest_of trusted stood stands ts open_ head =
    trusted → (terminals : List Terminal) (room : Room) → stood terminals room
    → (after : Room) × IsReplay step setting digest_of terminals room ts after
    × (¬ (IsHeadOf digest_of head terminals after))
    × WouldMiss step setting digest_of terminals after open_ head × stands terminals after

-- as `Leads`, and what is played is a dialogue
abbrev pub LeadsDialogue : Step → HttpSettings → DigitsOf → Type 0 → (List Terminal → Room → Type 0)
    → (List Terminal → Room → Type 0) → List Turn → Type 0
LeadsDialogue step setting digest_of trusted stood stands ts =
    trusted → (terminals : List Terminal) (room : Room) → stood terminals room
    → (after : Room) × IsReplay step setting digest_of terminals room ts after
    × IsDialogue step setting terminals room (arrivals_of ts) after (bytes_of ts)
    × stands terminals after

module _ (step : Step) (setting : HttpSettings) (digest_of : DigitsOf) (trusted : Type 0)
    (stood stands : List Terminal → Room → Type 0) (left : Option (List ℕ)) (until : Option ℕ) where
  -- Why it stopped, after turns of this kind that were done with. One more message may have been
  -- played and not compared (`last`). No status stands after a message that was done with without
  -- one, and a head that stands after one that was left out is met. The number is that of the
  -- message after those that were done with.
  pub record StopsAfter (waits : Bool) (Kind : Turn → Type 0) (read_failed write_failed : Bool)
      (stopped : Stopped) (ts last : List Turn) : Type 0 where
    pub kinds : All Kind ts
    pub few : (last ≡ []) ⊎ ((p : Play) × (last ≡ tried p ∷ []))
    pub turns : AreTurns left until (ts ++ last)
        (Explains waits (ts ≡ []) (length ts ≡ 2 ^ 64 - 1)
        (LeadsElsewhere step setting digest_of trusted stood stands (ts ++ last)) last
        stopped.fault)
    pub unanswered : ends_unanswered ts ≡ true → BeginsWith left (entries_of ts) HasNoStatus
    pub met : ends_open ts ≡ true → BeginsWith left (entries_of ts)
        (MeetsHead step setting digest_of trusted stood ts)
    pub leads : LeadsDialogue step setting digest_of trusted stood stands (ts ++ last)
    pub due : IsDueTo read_failed write_failed stopped.fault
    pub number : stopped.number ≡ min (count_by has_message ts + 1) (2 ^ 64 - 1)

  -- What a replay gives, and the room after it. It was read to the end, up to this moment; or it
  -- stopped, and each message waits for what stands after it.
  abbrev pub Replays : Bool → Result Replayed Stopped → Type 0
  Replays read_failed (Ok done) =
      (ts : List Turn) × All IsReplayed ts × AreTurns left until ts (EndsAt until)
      × LeadsDialogue step setting digest_of trusted stood stands ts
      × (done.messages ≡ min (count_by has_message ts) (2 ^ 64 - 1)) × (done.is_open ≡ ends_open ts)
  Replays read_failed (Err stopped) =
      (ts last : List Turn) × StopsAfter true IsReplayed read_failed false stopped ts last

-- unless memory or storage failed
abbrev pub Unless : ReplayFault → Type 0 → Type 0
Unless Bad P = P
Unless Differs P = P
Unless OtherRoom P = P
Unless ReadFailed P = P
Unless WriteFailed P = P
Unless (Unavailable r) P = ⊤

-- the same of a result
abbrev pub UnlessUnavailable : {T : Type 0} → Result T ReplayFault → Type 0 → Type 0
UnlessUnavailable (Ok value) P = P
UnlessUnavailable (Err fault) P = Unless fault P

-- the same of a replay
abbrev pub UnlessStopped : {T : Type 0} → Result T Stopped → Type 0 → Type 0
UnlessStopped (Ok value) P = P
UnlessStopped (Err stopped) P = Unless stopped.fault P
