-- What comes of asking for the times of a day.
use Rattle.std.proofs.Common.{map, refl, ℕ, ℤ, ◌≡◌}
use Rattle.room_model.specs.DayTimes.{show_times, times_line}
use Rattle.room_model.specs.Decisions.{answer_of, changes_of}
use Rattle.room_model.specs.Queries.{incidents_opened}
use Rattle.room_model.specs.Room.{Room, apply}
use Rattle.dispatch_room_csv.specs.DayReport.{report_of}
use Rattle.dispatch_room_archive.specs.TimesReport.{report_in}

-- the answer has the report of the incidents that were opened then
pub times_shown : (division : ℕ) (from to : ℤ) (room : Room)
    → report_in (answer_of (show_times division from to room))
    ≡ report_of (map times_line (incidents_opened division from to room))
unfolding show_times
times_shown division from to room = refl

-- and it changes nothing
pub times_change_nothing : (division : ℕ) (from to : ℤ) (room : Room)
    → apply room (changes_of (show_times division from to room)) ≡ room
unfolding show_times
times_change_nothing division from to room = refl
