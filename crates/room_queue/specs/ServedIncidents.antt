-- The incidents that some vehicle serves.
use Rattle.std.specs.List.{list_any}
use Rattle.std.specs.Ordering.{is_eq, nat_cmp}
use Rattle.std.specs.Prelude.{Bool, List, is_some, ℕ, ◌&&◌, ◌==◌, ◌≡◌}
use Rattle.room_types.specs.KeyedRows.{row_at}
use Rattle.room_types.specs.declared.tables.Turn.{Turn}
use Rattle.room_model.specs.Queries.{counts}
use Rattle.room_queue.specs.declared.served_incidents.Served.{Served}

abbrev pub number_of : Served → ℕ
number_of s = s.incident

-- the turn counts for what its incident got
abbrev pub serves : ℕ → Turn → Bool
serves d t = t.division == d && counts t

-- the incident is among them
abbrev pub is_served : List Served → ℕ → Bool
is_served served n = is_some (row_at nat_cmp number_of served n)

-- an incident is among them exactly where a turn of it counts
abbrev pub AreServed : ℕ → List Turn → List Served → Type 0
AreServed d turns served =
    (n : ℕ) → is_served served n ≡ list_any (λ t. is_eq (nat_cmp n t.incident) && serves d t) turns
