-- One run over a connection.
use Rattle.std.specs.Prelude.{◌≡◌, ◌⊎◌, ℕ, List, [], ◌∷◌, ◌++◌, Option, Some}
use Rattle.room_http.specs.ServedRuns.{AreFirst}
use Rattle.room_http.specs.Dialogues.{Timed}

-- The arrivals that were answered wholly, at their moments, the bytes of their answers, and the
-- arrival with which serving ended, if there is one: it had a moment, and was not answered wholly.
pub record ServedTrace : Type 0 where
  pub outs : List Timed
  pub answers : List (List ℕ)
  pub last : Option Timed

-- these are the arrivals that were answered wholly, or these and the last one
abbrev pub AreOf : ServedTrace → List Timed → Type 0
AreOf course outs = (outs ≡ course.outs)
    ⊎ ((x : Timed) × (course.last ≡ Some x) × (outs ≡ course.outs ++ x ∷ []))

-- these are of the course; the stream begins with them, and the clock gave their moments
abbrev pub AreFirstIn : ServedTrace → Option (List ℕ) → Option (List ℕ) → Option (List ℕ)
    → List Timed → Type 0
AreFirstIn course left given gives outs = AreOf course outs × AreFirst left given gives outs

-- Of one course all this holds: how serving ended, what is promised, and what the observer kept.
pub record OneTrace (says promises keeps : ServedTrace → Type 0) : Type 0 where
  pub course : ServedTrace
  pub dialogue : says course
  pub promised : promises course
  pub observed : keeps course
