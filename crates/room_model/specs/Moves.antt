-- Moves: what they come to is what their asks come to, one after another at one moment.
use Rattle.std.specs.Prelude.{Err, List, None, Ok, Result, Some, [], map, true, ℕ, ⊤, ◌++◌, ◌∷◌}
use Rattle.std.specs.Prelude.{◌≡◌}
use Rattle.room_types.specs.declared.answers.Answer.{Answer}
use Rattle.room_types.specs.declared.answers.Answer.TheVariants.{Moved}
use Rattle.room_types.specs.declared.answers.MoveLine.{MoveLine}
use Rattle.room_types.specs.declared.asks.Ask.TheVariants as ask
use Rattle.room_types.specs.declared.asks.Event.{Event}
use Rattle.room_types.specs.declared.asks.Move.{Move}
use Rattle.room_types.specs.declared.asks.Moves.{Moves}
use Rattle.room_types.specs.declared.codes.Kind.{Kind}
use Rattle.room_types.specs.declared.refusal_statuses.Refusal.{Refusal}
use Rattle.room_types.specs.declared.tables.Vehicle.{Vehicle}
use Rattle.room_types.specs.Codes.{is_mobilised}
use Rattle.room_model.specs.Events.{by_desk}
use Rattle.room_model.specs.Queries.{held, incident_of, lent, open_turn, served}
use Rattle.room_model.specs.Room.{Room}
use Rattle.room_model.specs.Run.{answers, room_run}
use Rattle.room_model.specs.Step.{answer_to, ask_of, line_of, moves_in, room_after}

-- the desk asks for all of them at once
abbrev pub all_at_once : ℕ → Moves → ℕ → Event
all_at_once d ms at = by_desk d (ask.Moves ms) at

-- the desk asks for one after another, at the same moment
abbrev pub one_by_one : ℕ → List Move → ℕ → List Event
one_by_one d ms at = map (λ m. by_desk d (ask_of m) at) ms

-- each ask was done, and each line says what became of its move
abbrev pub AreLinesOf : List Move → List (Result Answer Refusal) → List MoveLine → Type 0
AreLinesOf [] [] [] = ⊤
AreLinesOf (m ∷ ms) (Ok a ∷ given) (l ∷ ls) = (l ≡ line_of m a) × AreLinesOf ms given ls
AreLinesOf ms given ls = ⊥

-- All are made: the room is the one after their asks, and the answer is made of theirs.
pub record AreMade (d : ℕ) (ms : Moves) (at : ℕ) (r : Room) : Type 0 where
  pub lines : List MoveLine
  pub answered : answer_to (all_at_once d ms at) r ≡ Ok (Moved lines)
  pub room : room_after (all_at_once d ms at) r ≡ room_run (one_by_one d (moves_in ms) at) r
  pub said : AreLinesOf (moves_in ms) (answers (one_by_one d (moves_in ms) at) r) lines

-- None is made: the room is as it was, and the answer is the refusal of the first that is refused
-- in the room after those before it.
pub record AreRefused (d : ℕ) (ms : Moves) (at : ℕ) (r : Room) : Type 0 where
  pub why : Refusal
  pub answered : answer_to (all_at_once d ms at) r ≡ Err why
  pub room : room_after (all_at_once d ms at) r ≡ r
  pub before : List Move
  pub first : Move
  pub after : List Move
  pub split : moves_in ms ≡ before ++ first ∷ after
  pub done : (lines : List MoveLine) × AreLinesOf before (answers (one_by_one d before at) r) lines
  pub refused : answer_to (by_desk d (ask_of first) at) (room_run (one_by_one d before at) r)
      ≡ Err why

-- The rows have just what the room has of what a move asks: of its vehicle, and of its incident
-- what serves it, or of a vehicle that is on its way the turn.
pub record HasMove (d : ℕ) (m : Move) (rows r : Room) : Type 0 where
  pub vehicle : held d m.callsign rows ≡ held d m.callsign r
  pub loan : lent d m.callsign rows ≡ lent d m.callsign r
  pub incident : (n : ℕ) → m.incident ≡ Some n → incident_of d n rows ≡ incident_of d n r
  pub served : (n : ℕ) (k : Kind) → m.incident ≡ Some n → served d n k rows ≡ served d n k r
  pub turn : (v : Vehicle) → m.incident ≡ None → held d m.callsign r ≡ Some v
      → is_mobilised v.status ≡ true → open_turn d m.callsign rows ≡ open_turn d m.callsign r
