-- What is shown of a slice's rows, which are all the division's, under any plan.
use Rattle.std.proofs.Common.{List, ap, map, true, ℕ, ◌≡◌}
use Rattle.room_place.specs.declared.plans.Area.{Area}
use Rattle.room_types.specs.Slices.{is_share}
use Rattle.room_types.specs.declared.answers.Answer.TheVariants.{Loans, Offers, Points, Vehicles}
use Rattle.room_types.specs.declared.slices.DivisionRows.{DivisionRows}
use Rattle.room_model.proofs.SliceLookUps.{all_held_is, loans_is, offers_is, points_is}
use Rattle.room_model.specs.Decisions.{show}
use Rattle.room_model.specs.Loans.{show_loans, show_offers}
use Rattle.room_model.specs.Points.{point_line, show_points}
use Rattle.room_model.specs.Queries.{assignment_of, holders}
use Rattle.room_model.specs.RoomSlices.{room_of, unplanned}
use Rattle.room_model.specs.Vehicles.{show_vehicles, vehicle_line}

module _ (d : ℕ) (s : DivisionRows) (agrees : is_share d s ≡ true) (plan : List Area) where
  pub vehicles_shown : show_vehicles d (room_of plan s)
      ≡ show (Vehicles (map (vehicle_line d (unplanned s)) s.vehicles))
  unfolding show_vehicles assignment_of
  vehicles_shown = ap (λ vs. show (Vehicles (map (vehicle_line d (room_of plan s)) vs))) (all_held_is d plan s agrees)

  pub points_shown : (at : ℕ) → show_points d at (room_of plan s)
      ≡ show (Points (map (point_line d at (unplanned s)) s.points))
  unfolding show_points holders
  points_shown at = ap (λ ps. show (Points (map (point_line d at (room_of plan s)) ps))) (points_is d plan s agrees)

  pub loans_shown : show_loans d (room_of plan s) ≡ show (Loans s.loans)
  unfolding show_loans
  loans_shown = ap (λ ls. show (Loans ls)) (loans_is d plan s agrees)

  pub offers_shown : show_offers d (room_of plan s) ≡ show (Offers s.offers)
  unfolding show_offers
  offers_shown = ap (λ os. show (Offers os)) (offers_is d plan s agrees)
