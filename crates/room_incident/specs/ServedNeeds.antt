-- What an incident got.
use Rattle.std.specs.Prelude.{Bool, is_none, ℕ, ◌&&◌, ◌==◌}
use Rattle.room_types.specs.Codes.{same_kind}
use Rattle.room_types.specs.declared.codes.Kind.{Kind}
use Rattle.room_types.specs.declared.tables.Turn.{Turn}
use Rattle.room_model.specs.Queries.{counts}

-- the turn counts for what the incident got of the kind
abbrev pub serves : ℕ → ℕ → Kind → Turn → Bool
serves d n k t = t.division == d && (t.incident == n && (same_kind t.kind k && counts t))

-- the turn is the incident's, and not ended
abbrev pub is_open_for : ℕ → ℕ → Turn → Bool
is_open_for d n t = t.division == d && (t.incident == n && is_none t.ended)
