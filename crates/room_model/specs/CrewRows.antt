-- The rows that a crew's ask may read.
use Rattle.std.specs.Prelude.{filter, ℕ, ◌&&◌, ◌==◌}
use Rattle.room_types.specs.Keys.{same_callsign}
use Rattle.room_types.specs.Texts.{Callsign}
use Rattle.room_model.specs.Room.{Room}
use Rattle.room_model.specs.Shares.{mine}

-- the vehicle's rows, and of its reports only that of one number
abbrev pub in_hand : Callsign → ℕ → Room → Room
in_hand c n r = record (mine c r) {
  reports = filter (λ x. same_callsign x.callsign c && x.number == n) r.reports;
}
