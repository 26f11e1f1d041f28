-- Answers to the messages of a journal, each written in a frame.
use Rattle.std.specs.Prelude.{◌≡◌, ℕ, ◌-◌, ◌^◌, min, count_by, List, [], ◌∷◌, ◌++◌, length, codes}
use Rattle.std.specs.Prelude.{decimal, All, Bool, true, false, Option, Some, None, Result, Ok, Err}
use Rattle.std.specs.List.{flat_map}
use Rattle.std.specs.Io.KnownBytes.{Appends, Consumes, Keeps}
use Rattle.room_types.specs.declared.fleet.Terminal.{Terminal}
use Rattle.room_model.specs.Room.{Room}
use Rattle.room_http.specs.declared.settings.HttpSettings.{HttpSettings}
use Rattle.room_model.specs.Rooms.{Step}
use Rattle.room_http.specs.Dialogues.{IsFront}
use Rattle.dispatch_room_journal.specs.Entries.{answer, IsEntry, texts_of}
use Rattle.dispatch_room_journal.specs.declared.replay_faults.ReplayFault.{ReplayFault}
use Rattle.dispatch_room_journal.specs.declared.replay_faults.Stopped.{Stopped}
use Rattle.dispatch_room_journal.specs.declared.replay_progress.Progress.{Progress}
use Rattle.dispatch_room_journal.specs.JournalRecords.{status_in}
use Rattle.dispatch_room_journal.specs.ReplayedTurns.{Play, Turn, tried, plays_of, entries_of}
use Rattle.dispatch_room_journal.specs.ReplayedTurns.{has_message, is_left_out, IsPlayed}
use Rattle.dispatch_room_journal.specs.ReplayedTurns.{HasNoStatus, AreTurns, BeginsWith, EndsAt}
use Rattle.dispatch_room_journal.specs.ReplayFaults.{Explains, IsDueTo}
use Rattle.dispatch_room_journal.specs.Replays.{DigitsOf, LeadsDialogue, StopsAfter}
use Rattle.dispatch_room_journal.specs.ReplaySteps.{Progresses, Passes, StopsIn}

-- the line before an answer: its status, and the number of its bytes
abbrev pub frame_line : List ℕ → List ℕ
frame_line response =
    codes "answer " ++ status_in response ++ 32 ∷ [] ++ decimal (length response) ++ 10 ∷ []

-- an answer in its frame: the line, its bytes, and a line end
abbrev pub frame_of : List ℕ → List ℕ
frame_of response = frame_line response ++ (response ++ 10 ∷ [])

-- the answers of turns in their frames, one after another
abbrev pub frames_of : List Turn → List ℕ
frames_of ts = flat_map (λ p. frame_of p.response) (plays_of ts)

-- a status that follows an answer is the answer's, and was taken; or something else follows; or why
-- it stopped
abbrev pub FollowIs : Option (List ℕ) → Option (List ℕ) → Bool → List ℕ → Result Bool ReplayFault
    → Type 0
FollowIs before after failed response (Ok true) =
    (status : ℕ) × (status_in response ≡ decimal status) × IsEntry (answer status)
    × Consumes before after (texts_of (answer status ∷ [])) × (failed ≡ false)
FollowIs before after failed response (Ok false) =
    Keeps before after × (failed ≡ false) × BeginsWith after [] HasNoStatus
FollowIs before after failed response (Err fault) =
    ((p : Play) → p.response ≡ response → BeginsWith before []
    (Explains false ⊥ ⊥ (λ open_ head. ⊥) (tried p ∷ []) fault)) × IsDueTo failed false fault

module _ (step : Step) (setting : HttpSettings) (digest_of : DigitsOf) (trusted : Type 0)
    (stood stands : List Terminal → Room → Type 0)
    (before after : Option (List ℕ)) (held holds : Option (List ℕ)) where
  -- the message was played, and its answer was written; or why it stopped, and the first bytes of
  -- the answer
  abbrev pub EachIs : ℕ → Bool → Bool → Result (Unit {0}) ReplayFault → Type 0
  EachIs at read_failed write_failed (Ok done) =
      (t : Turn) × Passes step setting digest_of trusted stood stands before after None IsPlayed
      (t ∷ []) × (has_message t ≡ true) × (is_left_out t ≡ false)
      × (read_failed ≡ false) × (write_failed ≡ false) × Appends held holds (frames_of (t ∷ []))
  EachIs at read_failed write_failed (Err fault) =
      (last : List Turn) × StopsIn step setting digest_of trusted stood stands false before
      (Some at) true fault read_failed write_failed last
      × (front : List ℕ) × IsFront front (frames_of last) × Appends held holds front

  -- What one call does that takes a turn: whether it goes on, or the end was found; or why it
  -- stopped.
  abbrev pub AnswersTurn : Progress → Progress → Bool → Bool → Result Bool ReplayFault → Type 0
  AnswersTurn old new read_failed write_failed (Ok goes_on) =
      (ts : List Turn)
      × Passes step setting digest_of trusted stood stands before after None IsPlayed ts
      × Progresses old new ts
      × (goes_on ≡ true → (read_failed ≡ false) × (write_failed ≡ false) × (length ts ≡ 1))
      × (goes_on ≡ false → BeginsWith before (entries_of ts) (EndsAt None))
      × Appends held holds (frames_of ts)
  AnswersTurn old new read_failed write_failed (Err fault) =
      (last : List Turn) × StopsIn step setting digest_of trusted stood stands false before None
      old.is_begun fault read_failed write_failed last × (new ≡ old)
      × (front : List ℕ) × IsFront front (frames_of last) × Appends held holds front

-- All messages of a list were played, and their answers written; or it stopped, and those of some
-- turns were, and the first bytes of the answer to the last. No message waits for what stands after
-- it.
module _ (step : Step) (setting : HttpSettings) (digest_of : DigitsOf) (trusted : Type 0)
    (stood stands : List Terminal → Room → Type 0) (left held holds : Option (List ℕ)) where
  abbrev pub AnswersEach : Bool → Bool → Result ℕ Stopped → Type 0
  AnswersEach read_failed write_failed (Ok messages) =
      (ts : List Turn) × All IsPlayed ts × AreTurns left None ts (EndsAt None)
      × LeadsDialogue step setting digest_of trusted stood stands ts
      × (messages ≡ min (count_by has_message ts) (2 ^ 64 - 1)) × Appends held holds (frames_of ts)
  AnswersEach read_failed write_failed (Err stopped) =
      (ts last : List Turn) × StopsAfter step setting digest_of trusted stood stands left None false
      IsPlayed read_failed write_failed stopped ts last
      × ((front : List ℕ) × IsFront front (frames_of last)
      × Appends held holds (frames_of ts ++ front))
