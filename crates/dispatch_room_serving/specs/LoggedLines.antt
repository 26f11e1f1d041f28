-- What the log has of what was asked and answered.
use Rattle.std.specs.Prelude.{◌≡◌, ℕ, List, [], ◌∷◌, ◌++◌, Bool, true, false, ◌*ℤ◌, pos, Option}
use Rattle.std.specs.Prelude.{Some, None}
use Rattle.std.specs.Io.KnownBytes.{Appends}
use Rattle.jiff.specs.Words.{civil_nanos}
use Rattle.jiff.specs.declared.civil.datetimes.DateTime.{DateTime}
use Rattle.room_http.specs.Dialogues.{IsFront}
use Rattle.room_http.specs.declared.arrivals.Arrived.{Arrived}
use Rattle.room_http.specs.declared.arrivals.Arrived.TheVariants.{Message, Refused}
use Rattle.room_http.specs.declared.observers.Asked.{Asked}
use Rattle.dispatch_room_journal.specs.JournalRecords.{status_in}
use Rattle.dispatch_room_serving.specs.LogLines.{path_of}
use Rattle.dispatch_room_serving.specs.Logs.{line_text}

-- the method and the path of a message, where one has arrived
abbrev pub request_of : Arrived → Option (List ℕ × List ℕ)
request_of (Message message bytes) = Some (message.method.now, path_of message.target.now)
request_of (Refused r head_only) = None

-- The line of what was asked, and of the status of its answer, and a line feed. What a clock of UTC
-- showed is the moment of the answer; how many milliseconds it took is for the writer to state.
pub record IsLineOf (asked : Asked) (answer text : List ℕ) : Type 0 where
  pub at : DateTime
  pub millis : ℕ
  pub moment : civil_nanos at ≡ pos asked.at *ℤ pos 1_000_000_000
  pub is : text ≡ line_text at asked.who (request_of asked.arrived.now) (status_in answer) millis
      ++ 10 ∷ []

-- a log holds these bytes more; or only the first of them, and then it could not be written
abbrev pub PutsAll : Bool → Option (List ℕ) → Option (List ℕ) → List ℕ → Type 0
PutsAll true old new bytes = Appends old new bytes
PutsAll false old new bytes = (front : List ℕ) × IsFront front bytes × Appends old new front

-- a log holds the line of what was asked and answered; or only the first bytes of it, and then it
-- could not be written
abbrev pub PutsLine : Bool → Option (List ℕ) → Option (List ℕ) → Asked → List ℕ → Type 0
PutsLine could old new asked answer =
    (text : List ℕ) × IsLineOf asked answer text × PutsAll could old new text

-- A log that went on before a message was answered has its line, and goes on if that could be
-- written. One that did not, as no log is wanted or it was given up, stays as it is.
pub record Logs (went_on goes_on : Bool) (old new : Option (List ℕ)) (asked : Asked)
    (answer : List ℕ) : Type 0 where
  pub line : went_on ≡ true → PutsLine goes_on old new asked answer
  pub silent : went_on ≡ false → (goes_on ≡ false) × (new ≡ old)
