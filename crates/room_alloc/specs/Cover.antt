-- The vehicles that hold a standby point.
use Rattle.std.specs.Prelude.{Bool, ℕ, ◌&&◌}
use Rattle.room_types.specs.declared.tables.Vehicle.{Vehicle}
use Rattle.room_model.specs.Queries.{has_post, is_eligible}

-- the vehicle is one of the point's holders
abbrev pub is_holder : ℕ → ℕ → ℕ → Vehicle → Bool
is_holder d n at v = is_eligible d at v && has_post n v.post
