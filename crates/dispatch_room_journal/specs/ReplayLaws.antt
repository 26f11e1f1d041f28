-- What a journal and a room decide by themselves.
use Rattle.std.specs.Prelude.{◌≡◌, ◌≤◌, ◌⊎◌, ℕ, ◌-◌, ◌^◌, min, List, [], ◌∷◌, ◌++◌, length}
use Rattle.std.specs.Prelude.{count_by, All, Bool, true, Option, Some, None, Result, MatchResult}
use Rattle.room_types.specs.declared.fleet.Terminal.{Terminal}
use Rattle.room_model.specs.FleetRows.{AreTerminals}
use Rattle.room_model.specs.Room.{Room}
use Rattle.room_model.specs.RoomAgreements.{IsWellFormed}
use Rattle.room_http.specs.declared.settings.HttpSettings.{HttpSettings}
use Rattle.room_model.specs.Rooms.{Step, IsUnavailable, machine}
use Rattle.dispatch_room_journal.specs.Entries.{IsEntry, texts_of}
use Rattle.dispatch_room_journal.specs.JournalRecords.{answer_text, message_text}
use Rattle.room_http.specs.Arrivals.{message, refused}
use Rattle.room_http.specs.KeptMessages.{AreKept, AreReplies}
use Rattle.room_http.specs.Promises.{Promises}
use Rattle.room_http.specs.Runs.{Exchange, IsRunOf}
use Rattle.room_http.specs.Dialogues.{Timed}
use Rattle.dispatch_room_journal.specs.declared.replay_faults.ReplayFault.{ReplayFault}
use Rattle.dispatch_room_journal.specs.declared.replay_faults.ReplayFault.TheVariants.{Bad, Differs}
use Rattle.dispatch_room_journal.specs.declared.replay_faults.ReplayFault.TheVariants.{OtherRoom}
use Rattle.dispatch_room_journal.specs.declared.replay_faults.ReplayFault.TheVariants.{ReadFailed}
use Rattle.dispatch_room_journal.specs.declared.replay_faults.ReplayFault.TheVariants.{WriteFailed}
use Rattle.dispatch_room_journal.specs.declared.replay_faults.ReplayFault.TheVariants.{Unavailable}
use Rattle.dispatch_room_journal.specs.declared.replay_faults.Stopped.{Stopped}
use Rattle.dispatch_room_journal.specs.declared.replayed_journal.Replayed.{Replayed}
use Rattle.dispatch_room_journal.specs.ReplayedTurns.{Turn, answers_of, entries_of, arrivals_of}
use Rattle.dispatch_room_journal.specs.ReplayedTurns.{bytes_of, has_message, ends_open, IsTurn}
use Rattle.dispatch_room_journal.specs.ReplayedTurns.{IsReplayed, IsPlayed, IsBegun, AreBy}
use Rattle.dispatch_room_journal.specs.ReplayedTurns.{AreTurns, EndsAt}
use Rattle.dispatch_room_journal.specs.Replays.{DigitsOf, IsReplay, LeadsDialogue, Replays}

-- two rooms that begin equal and replay the same entries play the same messages, answer them
-- equally, and end equal
abbrev pub IsOneReplay : Type 0
IsOneReplay =
    (step : Step) (setting : HttpSettings) (digest_of : DigitsOf) (terminals : List Terminal)
    (held after other : Room) (ts us : List Turn)
    → All IsTurn ts → All IsTurn us → All IsReplayed ts → All IsReplayed us
    → entries_of ts ≡ entries_of us
    → IsReplay step setting digest_of terminals held ts after
    → IsReplay step setting digest_of terminals held us other
    → (ts ≡ us) × (after ≡ other)

-- the same where each message is played as soon as it is whole
abbrev pub IsOneAnswering : Type 0
IsOneAnswering =
    (step : Step) (setting : HttpSettings) (digest_of : DigitsOf) (terminals : List Terminal)
    (held after other : Room) (ts us : List Turn)
    → All IsTurn ts → All IsTurn us → All IsPlayed ts → All IsPlayed us
    → entries_of ts ≡ entries_of us
    → IsReplay step setting digest_of terminals held ts after
    → IsReplay step setting digest_of terminals held us other
    → (ts ≡ us) × (after ≡ other)

-- a replay to the dispatch machine is a run, which keeps the room's promises
abbrev pub IsKept : Type 0
IsKept =
    (setting : HttpSettings) (digest_of : DigitsOf) (terminals : List Terminal) (held after : Room)
    (ts : List Turn)
    → AreTerminals held terminals → IsWellFormed held
    → IsReplay machine setting digest_of terminals held ts after
    → (xs : List Exchange) × IsRunOf setting terminals (arrivals_of ts) after (bytes_of ts) xs held
    × Promises terminals xs held

-- the answers to messages, of the answers to all arrivals
abbrev pub answers_to_messages : List Timed → List (List ℕ) → List (List ℕ)
answers_to_messages [] answers = []
answers_to_messages (x ∷ outs) [] = []
answers_to_messages ((message m, at) ∷ outs) (response ∷ answers) =
    response ∷ answers_to_messages outs answers
answers_to_messages ((refused r head_only, at) ∷ outs) (response ∷ answers) =
    answers_to_messages outs answers

-- a room was served, and a journal kept what it keeps of it: replayed to an equal room, it gives
-- the answers that were given, and leads to an equal room
abbrev pub IsTheRoom : Type 0
IsTheRoom =
    (step : Step) (setting : HttpSettings) (digest_of : DigitsOf) (terminals : List Terminal)
    (held after other : Room) (outs : List Timed) (answers : List (List ℕ)) (text : List ℕ)
    (ts : List Turn)
    → AreReplies step setting terminals held outs answers after
    → AreKept message_text answer_text outs answers text
    → All IsTurn ts → All IsReplayed ts → All IsEntry (entries_of ts)
    → texts_of (entries_of ts) ≡ text → IsReplay step setting digest_of terminals held ts other
    → (other ≡ after) × (answers_of ts ≡ answers_to_messages outs answers)

-- why a list that can be replayed is not replayed to its end, by the reported fault: a read
-- failed; memory or storage fails; or its turns are more than are counted
abbrev pub IsExcused : Bool → List Turn → ReplayFault → Type 0
IsExcused read_failed ts Bad = 2 ^ 64 - 1 ≤ length ts
IsExcused read_failed ts Differs = ⊥
IsExcused read_failed ts OtherRoom = ⊥
IsExcused read_failed ts ReadFailed = read_failed ≡ true
IsExcused read_failed ts WriteFailed = ⊥
IsExcused read_failed ts (Unavailable r) = IsUnavailable r

module _ {M : Type 0} (step : Step) (digest_of : DigitsOf) (is_trusted : M → Type 0)
    (stands : M → List Terminal → Room → Type 0) where
  -- What a replay gives of a list of turns that can be replayed, up to a moment, whatever keeps the
  -- room: these turns were done, so the answers are theirs, and it can have been no others, and the
  -- room is this one. Or it stopped, and that is excused.
  abbrev pub GivesThese : HttpSettings → List Terminal → Room → Room → List Turn → List Turn → Option ℕ
      → Type 0
  GivesThese setting terminals held after ts us until =
      (old new : M) (read_failed : Bool) (result : Result Replayed Stopped)
      → Replays step setting digest_of (is_trusted new) (stands old) (stands new)
      (Some (texts_of (entries_of ts))) until read_failed result
      → is_trusted new → stands old terminals held
      → MatchResult result
      (λ done. stands new terminals after × (done.is_open ≡ ends_open us)
      × (done.messages ≡ min (count_by has_message us) (2 ^ 64 - 1))
      × ((ws : List Turn) → All IsReplayed ws
      → AreTurns (Some (texts_of (entries_of ts))) until ws (EndsAt until)
      → LeadsDialogue step setting digest_of (is_trusted new) (stands old) (stands new) ws
      → ws ≡ us))
      (λ stopped. IsExcused read_failed ts stopped.fault)

  -- a list that can be replayed to a room is replayed to it, wholly
  abbrev pub IsWhole : Type 0
  IsWhole =
      (setting : HttpSettings) (terminals : List Terminal) (held after : Room) (ts : List Turn)
      → All IsTurn ts → All IsReplayed ts → All IsEntry (entries_of ts) → (ts ≡ []) ⊎ IsBegun ts
      → IsReplay step setting digest_of terminals held ts after
      → GivesThese setting terminals held after ts ts None

  -- so it is up to a moment: the first turns, where the others begin with a message after it
  abbrev pub IsWholeUpTo : Type 0
  IsWholeUpTo =
      (setting : HttpSettings) (terminals : List Terminal) (held then after : Room) (us vs : List Turn)
      → All IsTurn (us ++ vs) → All IsReplayed (us ++ vs) → All IsEntry (entries_of (us ++ vs))
      → (us ++ vs ≡ []) ⊎ IsBegun (us ++ vs)
      → IsReplay step setting digest_of terminals held us then
      → IsReplay step setting digest_of terminals then vs after
      → (until : Option ℕ) → AreBy until (entries_of us) → EndsAt until (texts_of (entries_of vs))
      → GivesThese setting terminals held then (us ++ vs) us until
