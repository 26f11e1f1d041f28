-- Offers and loans.
use Rattle.std.specs.Prelude.{Err, List, None, Option, Some, [], false, nat_le, not, true, ℕ, ◌==◌}
use Rattle.std.specs.Prelude.{◌||◌, ◌∷◌}
use Rattle.room_place.specs.Plans.{has_division}
use Rattle.room_place.specs.declared.plans.Area.{Area}
use Rattle.room_types.specs.declared.changes.Change.TheVariants.{DropLoan, DropOffer, PutLoan}
use Rattle.room_types.specs.declared.changes.Change.TheVariants.{PutOffer, PutVehicle, Settle}
use Rattle.room_types.specs.declared.codes.Status.TheVariants.{Available, Offered}
use Rattle.room_types.specs.declared.tables.Loan.{Loan}
use Rattle.room_types.specs.declared.tables.Offer.{Offer}
use Rattle.room_types.specs.declared.tables.Vehicle.{Vehicle}
use Rattle.room_types.specs.Texts.{Callsign}
use Rattle.room_types.specs.Codes.{is_busy, is_free}
use Rattle.room_model.specs.Decisions.{Verdict, done, refuse_if, show, where_held}
use Rattle.room_model.specs.Queries.{borrowed, held, lent, loans_of, offered_by, offered_to}
use Rattle.room_model.specs.Queries.{offers_of}
use Rattle.room_model.specs.Room.{Room}
use Rattle.room_types.specs.declared.answers.Answer.TheVariants as answer
use Rattle.room_types.specs.declared.refusal_statuses.Refusal.TheVariants as refusal

-- ---- lend
abbrev pub offer_row : Vehicle → ℕ → ℕ → ℕ → ℕ → Offer
offer_row v d to until at = record {
  callsign = v.callsign;
  lender = d;
  borrower = to;
  since = at;
  until = until;
}

abbrev pub offered : List Area → ℕ → ℕ → ℕ → ℕ → Vehicle → Verdict
offered plan d to until at v =
    refuse_if (to == d || not (has_division plan to)) refusal.NoSuchDivision
    (refuse_if (not (v.home == d)) refusal.NotHome
    (refuse_if (is_busy v.status) refusal.StillAssigned
    (refuse_if (not (is_free v.status)) refusal.WrongStatus
    (refuse_if (nat_le v.shift_end at) refusal.ShiftOver
    (done (PutVehicle (record v { status = Offered; post = None })
    ∷ PutOffer (offer_row v d to until at) ∷ []))))))

unfoldable pub lend : ℕ → Callsign → ℕ → ℕ → ℕ → Room → Verdict
lend d c to until at r = where_held (held d c r) (lent d c r) (offered r.plan d to until at)

-- ---- withdraw
abbrev pub withdrawn : Option Offer → Vehicle → Verdict
withdrawn None v = Err refusal.NoSuchOffer
withdrawn (Some o) v =
    done (PutVehicle (record v { status = Available }) ∷ DropOffer v.callsign ∷ [])

unfoldable pub withdraw : ℕ → Callsign → Room → Verdict
withdraw d c r = where_held (held d c r) (lent d c r) (withdrawn (offered_by d c r))

-- ---- decline and accept, by the offer only
abbrev pub declined : Option Offer → Verdict
declined None = Err refusal.NoSuchOffer
declined (Some o) = done (Settle o.callsign o.lender ∷ DropOffer o.callsign ∷ [])

unfoldable pub decline : ℕ → Callsign → Room → Verdict
decline d c r = declined (offered_to d c r)

abbrev pub loan_row : Offer → ℕ → Loan
loan_row o at = record {
  callsign = o.callsign;
  lender = o.lender;
  borrower = o.borrower;
  since = at;
  until = o.until;
  recalled = false;
}

abbrev pub accepted : Option Offer → ℕ → Verdict
accepted None at = Err refusal.NoSuchOffer
accepted (Some o) at =
    done (Settle o.callsign o.borrower ∷ DropOffer o.callsign ∷ PutLoan (loan_row o at) ∷ [])

unfoldable pub accept : ℕ → Callsign → ℕ → Room → Verdict
accept d c at r = accepted (offered_to d c r) at

-- ---- recall
abbrev pub recall_lent : Option Loan → Option Vehicle → Verdict
recall_lent (Some l) v = done (PutLoan (record l { recalled = true }) ∷ [])
recall_lent None (Some v) = Err refusal.NoSuchLoan
recall_lent None None = Err refusal.NoSuchVehicle

unfoldable pub recall : ℕ → Callsign → Room → Verdict
recall d c r = recall_lent (lent d c r) (held d c r)

-- ---- give back
-- the lender, or the home where no loan row is there
abbrev pub lender_of : Vehicle → Option Loan → ℕ
lender_of v None = v.home
lender_of v (Some l) = l.lender

abbrev pub given_back : ℕ → Option Loan → Vehicle → Verdict
given_back d l v =
    refuse_if (v.home == d) refusal.NoSuchLoan
    (refuse_if (is_busy v.status) refusal.StillAssigned
    (done (PutVehicle (record v { holder = lender_of v l; post = None })
    ∷ DropLoan v.callsign ∷ [])))

unfoldable pub give_back : ℕ → Callsign → Room → Verdict
give_back d c r = where_held (held d c r) (lent d c r) (given_back d (borrowed d c r))

-- ---- loans and offers
unfoldable pub show_loans : ℕ → Room → Verdict
show_loans d r = show (answer.Loans (loans_of d r))

unfoldable pub show_offers : ℕ → Room → Verdict
show_offers d r = show (answer.Offers (offers_of d r))
