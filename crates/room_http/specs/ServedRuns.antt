-- What was served where the room is the dispatch machine's: a run that keeps the promises.
use Rattle.std.specs.Prelude.{◌≡◌, ◌⊎◌, ⊤, ℕ, List, [], ◌∷◌, ◌++◌, Bool, map, Option, Some}
use Rattle.std.specs.Io.KnownBytes.{Appends}
use Rattle.room_types.specs.declared.fleet.Terminal.{Terminal}
use Rattle.room_types.specs.declared.refusal_statuses.Refusal.{Refusal}
use Rattle.room_model.specs.Room.{Room}
use Rattle.room_model.specs.RoomAgreements.{IsWellFormed}
use Rattle.room_http.specs.ReplyMessages.{fixed_bytes}
use Rattle.room_http.specs.declared.settings.HttpSettings.{HttpSettings}
use Rattle.room_model.specs.Rooms.{IsUnavailable, machine}
use Rattle.room_http.specs.Arrivals.{Arrival, Begins}
use Rattle.room_http.specs.Promises.{Promises}
use Rattle.room_http.specs.Runs.{Exchange, IsRun, arrivals_of, bytes_of, room_by}
use Rattle.room_http.specs.Dialogues.{IsFront, LeavesNext, Timed}

-- nothing, or some first bytes of the answer where memory or storage failed
abbrev pub IsUnservedTail : List ℕ → Type 0
IsUnservedTail tail = (tail ≡ []) ⊎ ((r : Refusal) × IsUnavailable r × (head_only : Bool)
    × IsFront tail (fixed_bytes r head_only))

-- All the answers were written, and perhaps that one after them; or all but the last, and some
-- first bytes of the last.
abbrev pub AreWritten : List Exchange → List ℕ → Type 0
AreWritten xs written =
    ((tail : List ℕ) × IsUnservedTail tail × (written ≡ bytes_of xs ++ tail))
    ⊎ ((before : List Exchange) × (last : Exchange) × (front : List ℕ) × (xs ≡ before ++ last ∷ [])
    × IsFront front last.bytes × (written ≡ bytes_of before ++ front))

-- What was served to these arrivals: a run that leads to the room afterwards, was written, and
-- keeps the promises. Where what was held before it was kept, a stop after it leaves the room after
-- all that was answered, and so after each answer that was written; or that after the event of the
-- next arrival, for which memory or storage failed.
pub record Served (setting : HttpSettings) (are : List Timed → Type 0) (held holds : Option (List ℕ))
    (was_kept : Type 0) (stands : List Terminal → Room → Type 0)
    (leaves : List Terminal → List Room → Type 0) (terminals : List Terminal)
    (room : Room) : Type 0 where
  pub exchanges : List Exchange
  pub arrivals : are (arrivals_of exchanges)
  pub run : IsRun setting terminals exchanges room
  pub after : stands terminals (room_by exchanges room)
  pub written : (bytes : List ℕ) × Appends held holds bytes × AreWritten exchanges bytes
  pub promises : Promises terminals exchanges room
  pub kept : was_kept → leaves terminals (room_by exchanges room ∷ [])
      ⊎ ((x : Timed) × are (arrivals_of exchanges ++ x ∷ [])
      × LeavesNext machine setting leaves x terminals (room_by exchanges room))

-- the clock gave the moments of these, and perhaps more after them
abbrev pub AreGiven : Option (List ℕ) → Option (List ℕ) → List Timed → Type 0
AreGiven given gives outs = (more : List ℕ) × Appends given gives (map (λ x. x.1) outs ++ more)

-- the stream, where its bytes are known, begins with these arrivals, and the clock gave their
-- moments
abbrev pub AreFirst : Option (List ℕ) → Option (List ℕ) → Option (List ℕ) → List Timed → Type 0
AreFirst left given gives outs =
    ((stream : List ℕ) → left ≡ Some stream
    → (rest : List ℕ) × Begins stream (map (λ x. x.0) outs) rest) × AreGiven given gives outs

-- none, or this arrival, and the clock gave its moment
abbrev pub IsAtMost : Arrival → Option (List ℕ) → Option (List ℕ) → List Timed → Type 0
IsAtMost o given gives [] = ⊤
IsAtMost o given gives (x ∷ []) = (x.0 ≡ o) × AreGiven given gives (x ∷ [])
IsAtMost o given gives (x ∷ y ∷ more) = ⊥

-- Where the room is well-formed and is kept by what gives back what was written, what was served
-- keeps the promises.
abbrev pub KeepsPromises : HttpSettings → (List Timed → Type 0) → Option (List ℕ) → Option (List ℕ)
    → Type 0 → Type 0 → (List Terminal → Room → Type 0) → (List Terminal → Room → Type 0)
    → (List Terminal → List Room → Type 0) → Type 0
KeepsPromises setting are held holds trusted was_kept stood stands leaves =
    trusted → (terminals : List Terminal) (room : Room) → stood terminals room → IsWellFormed room
    → Served setting are held holds was_kept stands leaves terminals room
