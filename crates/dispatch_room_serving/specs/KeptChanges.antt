-- What of a room's service is kept where questions are not.
use Rattle.std.specs.Prelude.{◌≡◌, ◌||◌, ℕ, List, [], ◌∷◌, All, Bool, true, false, bytes_eq, codes}
use Rattle.std.specs.Prelude.{filter, if◌then◌else◌, not}
use Rattle.room_types.specs.declared.fleet.Terminal.{Terminal}
use Rattle.room_model.specs.Digests.{DigitsOf}
use Rattle.room_model.specs.Room.{Room}
use Rattle.room_model.specs.Rooms.{machine}
use Rattle.room_http.specs.declared.arrivals.Arrived.{Arrived}
use Rattle.room_http.specs.declared.arrivals.Arrived.TheVariants.{Message, Refused}
use Rattle.room_http.specs.Arrivals.{message, refused}
use Rattle.room_http.specs.KeptMessages.{AreKept, AreReplies}
use Rattle.room_http.specs.Dialogues.{Timed}
use Rattle.room_http.specs.declared.settings.HttpSettings.{HttpSettings}
use Rattle.dispatch_room_journal.specs.Entries.{IsEntry, texts_of}
use Rattle.dispatch_room_journal.specs.JournalRecords.{answer_text, message_text}
use Rattle.dispatch_room_journal.specs.ReplayLaws.{answers_to_messages}
use Rattle.dispatch_room_journal.specs.ReplayedTurns.{IsReplayed, IsTurn, Turn, answers_of}
use Rattle.dispatch_room_journal.specs.ReplayedTurns.{entries_of}
use Rattle.dispatch_room_journal.specs.Replays.{IsReplay}

-- by this method only questions are asked
abbrev pub asks_only : List ℕ → Bool
asks_only method = bytes_eq method (codes "GET") || bytes_eq method (codes "HEAD")

-- what has arrived is a message that is kept: any, or, where questions are not kept, no question
abbrev pub is_kept : Bool → Arrived → Bool
is_kept keeps_questions (Message shown bytes) = keeps_questions || not (asks_only shown.method.now)
is_kept keeps_questions (Refused r head_only) = false

-- what is kept of an arrival that has this text
abbrev pub kept_of : Bool → Arrived → List ℕ → List ℕ
kept_of keeps_questions arrived text = if is_kept keeps_questions arrived then text else []

-- an arrival is no question, by its method
abbrev pub is_change : Timed → Bool
is_change (message m, at) = not (asks_only m.head.method)
is_change (refused r head_only, at) = true

-- the arrivals that are no questions
abbrev pub changes_in : List Timed → List Timed
changes_in outs = filter is_change outs

-- the answers to them
abbrev pub answers_to_changes : List Timed → List (List ℕ) → List (List ℕ)
answers_to_changes [] answers = []
answers_to_changes (x ∷ outs) [] = []
answers_to_changes (x ∷ outs) (answer ∷ answers) =
    if is_change x then answer ∷ answers_to_changes outs answers
    else answers_to_changes outs answers

-- Where a room answered these arrivals, it would have answered those that are no questions with the
-- same answers, had only they come, and come to the same room.
abbrev pub QuestionsChangeNothing : Type 0
QuestionsChangeNothing =
    (setting : HttpSettings) (terminals : List Terminal) (room after : Room) (outs : List Timed)
    (answers : List (List ℕ))
    → AreReplies machine setting terminals room outs answers after
    → AreReplies machine setting terminals room (changes_in outs) (answers_to_changes outs answers)
    after

-- So whoever replays a list of only those to the room that the first of them found comes to the
-- same room, with the same answers to them.
abbrev pub ChangesAreTheRoom : Type 0
ChangesAreTheRoom =
    (setting : HttpSettings) (digits : DigitsOf) (terminals : List Terminal) (room after other : Room)
    (outs : List Timed) (answers : List (List ℕ)) (text : List ℕ) (ts : List Turn)
    → AreReplies machine setting terminals room outs answers after
    → AreKept message_text answer_text (changes_in outs) (answers_to_changes outs answers) text
    → All IsTurn ts → All IsReplayed ts → All IsEntry (entries_of ts)
    → texts_of (entries_of ts) ≡ text → IsReplay machine setting digits terminals room ts other
    → (other ≡ after)
    × (answers_of ts ≡ answers_to_messages (changes_in outs) (answers_to_changes outs answers))
