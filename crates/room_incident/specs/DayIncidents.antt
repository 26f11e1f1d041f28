-- The incidents of a day.
use Rattle.std.specs.List.{list_all}
use Rattle.std.specs.Prelude.{Bool, List, not, true, ℕ, ℤ, ◌&&◌, ◌==◌, ◌≡◌}
use Rattle.room_types.specs.Codes.{is_merged}
use Rattle.room_types.specs.Keys.{owns_incident}
use Rattle.room_types.specs.declared.answers.TimesLine.{TimesLine}
use Rattle.room_types.specs.declared.tables.Incident.{Incident}
use Rattle.room_model.specs.Queries.{is_opened_within}

-- all are of one division
abbrev pub AreOneDivisions : List Incident → Type 0
AreOneDivisions xs = (d : ℕ) × (list_all (owns_incident d) xs ≡ true)

-- active or closed, and opened in the day, whichever division's it is
abbrev pub is_opened_between : ℤ → ℤ → Incident → Bool
is_opened_between from to i = not (is_merged i.state) && is_opened_within from to i

-- and of this class
abbrev pub is_of_class_between : ℤ → ℤ → ℕ → Incident → Bool
is_of_class_between from to c i = is_opened_between from to i && i.class == c

abbrev pub line_number : TimesLine → ℕ
line_number l = l.number
