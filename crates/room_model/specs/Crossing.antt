-- What an event hands to a division.
use Rattle.std.specs.Prelude.{Bool, List, None, Option, Some, [], cond, false, is_none, is_ok, not}
use Rattle.std.specs.Prelude.{option_map, true, ℕ, ◌&&◌, ◌==◌, ◌∷◌}
use Rattle.room_place.specs.Plans.{division_of}
use Rattle.room_types.specs.declared.asks.Ask.{Ask}
use Rattle.room_types.specs.declared.asks.CallForm.{CallForm}
use Rattle.room_types.specs.declared.asks.Event.{Event}
use Rattle.room_types.specs.declared.asks.Who.{Who}
use Rattle.room_types.specs.declared.asks.Who.TheVariants.{Crew, Desk, Position}
use Rattle.room_types.specs.declared.tables.Call.{Call}
use Rattle.room_types.specs.declared.tables.Loan.{Loan}
use Rattle.room_types.specs.declared.tables.Offer.{Offer}
use Rattle.room_types.specs.declared.tables.Report.{Report}
use Rattle.room_types.specs.declared.tables.Vehicle.{Vehicle}
use Rattle.room_types.specs.Texts.{Callsign}
use Rattle.room_model.specs.Decisions.{done}
use Rattle.room_model.specs.Queries.{kept_call, kept_report, lent, loan_at, offer_at, vehicle_at}
use Rattle.room_model.specs.Room.{Room}
use Rattle.room_model.specs.Step.{decided, room_after}
use Rattle.room_types.specs.declared.asks.Ask.TheVariants as ask

pub data Crossing : Type 0 where
  -- a request of the division's desk
  Asked : Event → Crossing
  -- a call placed in the division
  CallIn : Event → Crossing
  -- a report of a vehicle that it holds
  ReportIn : Event → Crossing
  -- another division offers a vehicle
  OfferIn : Offer → Crossing
  -- an offer to it is withdrawn
  Withdrawn : Callsign → Crossing
  -- an offer of its own is declined
  Declined : Callsign → Crossing
  -- an offer of its own is accepted: the vehicle goes, on this loan
  Left : Loan → Crossing
  -- its desk accepts an offer of this vehicle
  Accepted : Event → Vehicle → Crossing
  -- a vehicle comes back
  Arrive : Vehicle → Crossing
  -- the lender wants its vehicle back
  Recalled : Callsign → Crossing

-- a desk's ask that hands nothing to another division
abbrev pub is_local : Ask → Bool
is_local (ask.Lend c to until) = false
is_local (ask.Withdraw c) = false
is_local (ask.Decline c) = false
is_local (ask.Accept c) = false
is_local (ask.Recall c) = false
is_local (ask.GiveBack c) = false
is_local a = true

abbrev pub is_division_of : ℕ → Option ℕ → Bool
is_division_of d None = false
is_division_of d (Some n) = n == d

abbrev pub is_held_by : ℕ → Option Vehicle → Bool
is_held_by d None = false
is_held_by d (Some v) = v.holder == d

abbrev pub is_offered_by : ℕ → Option Offer → Bool
is_offered_by d None = false
is_offered_by d (Some o) = o.lender == d

abbrev pub is_offered_to : ℕ → Option Offer → Bool
is_offered_to d None = false
is_offered_to d (Some o) = o.borrower == d

-- the loan that was there is ended, and its lender is d
abbrev pub is_loan_ended : ℕ → Option Loan → Option Loan → Bool
is_loan_ended d None after = false
is_loan_ended d (Some l) after = l.lender == d && is_none after

abbrev pub newly_recalled : ℕ → Callsign → Option Loan → Option Crossing
newly_recalled d c None = None
newly_recalled d c (Some l) = cond (l.borrower == d && not l.recalled) (Some (Recalled c)) None

-- a vehicle that a give-back or a Home report sends to d
abbrev pub arrival : ℕ → Callsign → Room → Room → Option Crossing
arrival d c r after = cond (is_loan_ended d (loan_at c r) (loan_at c after))
    (option_map Arrive (vehicle_at c after)) None

-- what a request of another desk h, that is done, hands to d
abbrev pub cross_other : ℕ → ℕ → Ask → Room → Room → Option Crossing
cross_other d h (ask.Lend c to until) r after =
    cond (to == d) (option_map OfferIn (offer_at c after)) None
cross_other d h (ask.Withdraw c) r after =
    cond (is_offered_to d (offer_at c r)) (Some (Withdrawn c)) None
cross_other d h (ask.Decline c) r after =
    cond (is_offered_by d (offer_at c r)) (Some (Declined c)) None
cross_other d h (ask.Accept c) r after =
    cond (is_offered_by d (offer_at c r)) (option_map Left (loan_at c after)) None
cross_other d h (ask.Recall c) r after = newly_recalled d c (lent h c r)
cross_other d h (ask.GiveBack c) r after = arrival d c r after
cross_other d h a r after = None

-- an accept that is done hands over the vehicle row before it too
abbrev pub with_vehicle : Event → Option Vehicle → Crossing
with_vehicle e None = Asked e
with_vehicle e (Some v) = Accepted e v

abbrev pub cross_own : Bool → Event → Ask → Room → Crossing
cross_own done e (ask.Accept c) r = cond done (with_vehicle e (vehicle_at c r)) (Asked e)
cross_own done e a r = Asked e

abbrev pub cross_desk : ℕ → ℕ → Event → Room → Option Crossing
cross_desk d h e r = cond (h == d)
    (Some (cross_own (is_ok (decided e r)) e e.ask r))
    (cond (is_ok (decided e r)) (cross_other d h e.ask r (room_after e r)) None)

abbrev pub cross_call : ℕ → Event → CallForm → Option Call → Room → Option Crossing
cross_call d e f (Some k) r = None
cross_call d e f None r =
    cond (is_division_of d (division_of r.plan f.place)) (Some (CallIn e)) None

abbrev pub cross_report : ℕ → Event → Callsign → Option Report → Room → Room → Option Crossing
cross_report d e c (Some k) r after = None
cross_report d e c None r after =
    cond (is_held_by d (vehicle_at c r)) (Some (ReportIn e)) (arrival d c r after)

abbrev pub cross_position : ℕ → ℕ → Event → Ask → Room → Option Crossing
cross_position d p e (ask.Call f) r = cross_call d e f (kept_call p f.serial r) r
cross_position d p e a r = None

abbrev pub cross_crew : ℕ → Callsign → Event → Ask → Room → Option Crossing
cross_crew d c e (ask.Report p) r = cross_report d e c (kept_report c p.number r) r (room_after e r)
cross_crew d c e a r = None

abbrev pub cross_who : ℕ → Event → Who → Room → Option Crossing
cross_who d e (Desk h) r = cross_desk d h e r
cross_who d e (Position p) r = cross_position d p e e.ask r
cross_who d e (Crew c) r = cross_crew d c e e.ask r

-- what an event hands to division d, at most one thing
abbrev pub cross : ℕ → Room → Event → Option Crossing
cross d r e = cross_who d e e.who r

-- what is handed to d in a run
abbrev pub crossings : ℕ → List Event → Room → List (Option Crossing)
crossings d [] r = []
crossings d (e ∷ es) r = cross d r e ∷ crossings d es (room_after e r)
