-- How the bytes of an answer show a queue, and a crew its order.
use Rattle.std.specs.Prelude.{List, Ok, Option, Some, [], codes, false, map, ℕ, ◌++◌, ◌∷◌, ◌≡◌}
use Rattle.serde_json.specs.Written.{compact_text}
use Rattle.room_types.specs.Texts.{Callsign}
use Rattle.room_types.specs.declared.answers.Answer.TheVariants as answer
use Rattle.room_types.specs.declared.answers.QueueEntry.{QueueEntry}
use Rattle.room_types.specs.declared.codes.Status.{Status}
use Rattle.room_types.specs.declared.tables.Assignment.{Assignment}
use Rattle.room_types.specs.declared.tables.Vehicle.{Vehicle}
use Rattle.room_model.specs.Queries.{assignment_at, vehicle_at}
use Rattle.room_model.specs.Room.{Room}
use Rattle.room_laws.specs.UrgentFirst.{IsUrgentFirst}
use Rattle.room_http.specs.AnswerJson.{entry_json}
use Rattle.room_http.specs.Arrivals.{is_head_only}
use Rattle.room_http.specs.Runs.{Exchange, HasAnswer}

abbrev pub with_commas : List (List ℕ) → List ℕ
with_commas [] = []
with_commas (text ∷ []) = text
with_commas (text ∷ next ∷ texts) = text ++ codes "," ++ with_commas (next ∷ texts)

-- the entries of a queue, each as JSON, in the queue's order
abbrev pub queue_text : List QueueEntry → List ℕ
queue_text queue =
    codes "{\"queue\":["
    ++ with_commas (map (λ e. compact_text (entry_json e)) queue)
    ++ codes "]}"

abbrev pub EndsWith : List ℕ → List ℕ → Type 0
EndsWith text bytes = (head : List ℕ) × (bytes ≡ head ++ text)

-- what needs an eye in a division, the most urgent first
pub record ShowsUrgentFirst (x : Exchange) (d at : ℕ) (room : Room) : Type 0 where
  pub queue : List QueueEntry
  pub urgent_first : IsUrgentFirst d at room queue
  pub answered : HasAnswer x (Ok (answer.Queue queue))
  -- and so the bytes have it, where they have any content
  pub bytes : is_head_only x.arrival.0 ≡ false → EndsWith (queue_text queue) x.bytes

-- the vehicle's order of now, or none
pub record ShowsOrder (x : Exchange) (callsign : Callsign) (room : Room) : Type 0 where
  pub vehicle : Vehicle
  pub there : vehicle_at callsign room ≡ Some vehicle
  pub answered : HasAnswer x
      (Ok (answer.Order (assignment_at callsign room) vehicle.post vehicle.status))

-- this order
abbrev pub IsAnsweredWith : Exchange → Assignment → Type 0
IsAnsweredWith x order =
    (post : Option ℕ) × (status : Status) × HasAnswer x (Ok (answer.Order (Some order) post status))
