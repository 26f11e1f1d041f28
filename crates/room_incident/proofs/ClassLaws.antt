-- The times of a day by class are the room's.
use Rattle.std.proofs.Common.{List, [], ap, map, true, ℕ, ℤ, ◌∷◌, ◌≡◌}
use Rattle.std.specs.List.{list_all}
use Rattle.std.specs.Prelude.{filter}
use Rattle.room_types.specs.Keys.{owns_incident}
use Rattle.room_types.specs.declared.answers.Answer.TheVariants as answer
use Rattle.room_types.specs.declared.answers.ClassLine.{ClassLine}
use Rattle.room_types.specs.declared.tables.Incident.{Incident}
use Rattle.room_model.specs.DayTimes.{class_line, show_class_times}
use Rattle.room_model.specs.Decisions.{show}
use Rattle.room_model.specs.Room.{Room}
use Rattle.room_incident.proofs.TimesLaws.{opened_so}
use Rattle.room_incident.specs.DayIncidents.{is_opened_between}

pub class_times_so : (d : ℕ) (from to : ℤ) (r : Room) (xs : List Incident) → r.incidents ≡ xs
    → list_all (owns_incident d) xs ≡ true
    → (f t : ℤ) (n m k : ℕ) (one two three : ClassLine) → f ≡ from → t ≡ to
    → n ≡ 1 → m ≡ 2 → k ≡ 3
    → one ≡ class_line (filter (is_opened_between f t) xs) n
    → two ≡ class_line (filter (is_opened_between f t) xs) m
    → three ≡ class_line (filter (is_opened_between f t) xs) k
    → show (answer.ClassTimes (record { from = f; to = t; lines = one ∷ two ∷ three ∷ [] }))
    ≡ show_class_times d from to r
unfolding show_class_times
class_times_so d from to r xs same owned f t n m k one two three from_is to_is n_is m_is k_is first second third =
    rw (first, second, third, n_is, m_is, k_is, from_is, to_is)
    (ap (λ (is : List Incident). show (answer.ClassTimes (record {
      from = from;
      to = to;
      lines = map (class_line is) (1 ∷ 2 ∷ 3 ∷ []);
    }))) (opened_so d from to r xs same owned))
