-- Changes that are none of a division's.
use Rattle.std.proofs.Common.{ap, subst, sym, ◌∙◌}
use Rattle.std.proofs.lemmas.Cmp.{nat_cmp_total}
use Rattle.std.specs.Ordering.{nat_cmp}
use Rattle.std.specs.Prelude.{Bool, List, None, Option, Some, [], cond, false, filter, refl, true}
use Rattle.std.specs.Prelude.{ℕ, ◌++◌, ◌==◌, ◌∷◌, ◌≡◌}
use Rattle.room_types.proofs.KeyedLaws.{drop_absent, filter_put}
use Rattle.room_types.specs.KeyedRows.{row_at}
use Rattle.room_types.specs.Keys.{assignment_key, call_key, callsign_cmp, division_key}
use Rattle.room_types.specs.Keys.{incident_key, loan_key, numbered_cmp, offer_key, owns_assignment}
use Rattle.room_types.specs.Keys.{owns_call, owns_division, owns_incident, owns_loan, owns_offer}
use Rattle.room_types.specs.Keys.{owns_point, owns_report, owns_turn, owns_vehicle, pair_cmp}
use Rattle.room_types.specs.Keys.{point_key, report_key, turn_key, vehicle_key}
use Rattle.room_types.specs.KeyLemmas.{callsigns_total, exact_callsigns, numbered_total}
use Rattle.room_types.specs.KeyLemmas.{pairs_total}
use Rattle.room_types.specs.declared.changes.Change.{Change}
use Rattle.room_types.specs.declared.changes.Change.TheVariants.{DropAssignment, DropLoan}
use Rattle.room_types.specs.declared.changes.Change.TheVariants.{DropOffer, PutAssignment, PutCall}
use Rattle.room_types.specs.declared.changes.Change.TheVariants.{PutDivision, PutIncident, PutLoan}
use Rattle.room_types.specs.declared.changes.Change.TheVariants.{PutOffer, PutPoint, PutReport}
use Rattle.room_types.specs.declared.changes.Change.TheVariants.{PutTurn, PutVehicle, Settle}
use Rattle.room_types.specs.declared.codes.Status.TheVariants.{Available}
use Rattle.room_types.specs.declared.tables.Assignment.{Assignment}
use Rattle.room_types.specs.declared.tables.Call.{Call}
use Rattle.room_types.specs.declared.tables.Division.{Division}
use Rattle.room_types.specs.declared.tables.Incident.{Incident}
use Rattle.room_types.specs.declared.tables.Loan.{Loan}
use Rattle.room_types.specs.declared.tables.Offer.{Offer}
use Rattle.room_types.specs.declared.tables.Point.{Point}
use Rattle.room_types.specs.declared.tables.Report.{Report}
use Rattle.room_types.specs.declared.tables.Turn.{Turn}
use Rattle.room_types.specs.declared.tables.Vehicle.{Vehicle}
use Rattle.room_types.specs.Texts.{Callsign}
use Rattle.room_model.proofs.OwnChanges.{in_order_one, own_apply_one}
use Rattle.room_model.proofs.Tests.{row_key}
use Rattle.room_model.specs.Room.{IsInOrder, Room, apply, apply_one, settled}
use Rattle.room_model.proofs.ShareChanges.{share_one}
use Rattle.room_model.specs.Shares.{own}

-- neither the old row nor the new one is the division's
abbrev pub IsForeign : ℕ → Room → Change → Type 0
IsForeign d s (PutDivision x) =
    (owns_division d x ≡ false) × (row_at nat_cmp division_key s.divisions (division_key x) ≡ None)
IsForeign d s (PutIncident x) =
    (owns_incident d x ≡ false) × (row_at pair_cmp incident_key s.incidents (incident_key x) ≡ None)
IsForeign d s (PutCall x) = (owns_call d x ≡ false) × (row_at pair_cmp call_key s.calls (call_key x) ≡ None)
IsForeign d s (PutVehicle x) =
    (owns_vehicle d x ≡ false) × (row_at callsign_cmp vehicle_key s.vehicles (vehicle_key x) ≡ None)
IsForeign d s (PutTurn x) = (owns_turn d x ≡ false) × (row_at numbered_cmp turn_key s.turns (turn_key x) ≡ None)
IsForeign d s (PutAssignment x) =
    (owns_assignment d x ≡ false) × (row_at callsign_cmp assignment_key s.assignments (assignment_key x) ≡ None)
IsForeign d s (PutPoint x) = (owns_point d x ≡ false) × (row_at pair_cmp point_key s.points (point_key x) ≡ None)
IsForeign d s (PutLoan x) = (owns_loan d x ≡ false) × (row_at callsign_cmp loan_key s.loans (loan_key x) ≡ None)
IsForeign d s (PutOffer x) = (owns_offer d x ≡ false) × (row_at callsign_cmp offer_key s.offers (offer_key x) ≡ None)
IsForeign d s (PutReport x) =
    (owns_report d x ≡ false) × (row_at numbered_cmp report_key s.reports (report_key x) ≡ None)
IsForeign d s (DropAssignment c) = row_at callsign_cmp assignment_key s.assignments c ≡ None
IsForeign d s (DropLoan c) = row_at callsign_cmp loan_key s.loans c ≡ None
IsForeign d s (DropOffer c) = row_at callsign_cmp offer_key s.offers c ≡ None
IsForeign d s (Settle c e) = (e == d ≡ false) × (row_at callsign_cmp vehicle_key s.vehicles c ≡ None)

abbrev pub AllForeign : ℕ → Room → List Change → Type 0
AllForeign d s [] = Unit {0}
AllForeign d s (c ∷ cs) = IsForeign d s c × AllForeign d s cs

cond_false : {X : Type 0} (b : Bool) (x y z : X) → b ≡ false → y ≡ z → cond b x y ≡ z
cond_false true x y z e h = cc
cond_false false x y z e h = h

-- such a change leaves the share as it is
pub share_foreign : (d : ℕ) (s : Room) (c : Change) → IsForeign d s c → share_one d s c ≡ s
share_foreign d s (PutDivision x) h =
    ap (λ (xs : List Division). record s { divisions = xs })
    (cond_false _ _ _ _ h.0 (drop_absent nat_cmp division_key nat_cmp_total s.divisions _ h.1))
share_foreign d s (PutIncident x) h =
    ap (λ (xs : List Incident). record s { incidents = xs })
    (cond_false _ _ _ _ h.0 (drop_absent pair_cmp incident_key pairs_total s.incidents _ h.1))
share_foreign d s (PutCall x) h =
    ap (λ (xs : List Call). record s { calls = xs })
    (cond_false _ _ _ _ h.0 (drop_absent pair_cmp call_key pairs_total s.calls _ h.1))
share_foreign d s (PutVehicle x) h =
    ap (λ (xs : List Vehicle). record s { vehicles = xs })
    (cond_false _ _ _ _ h.0 (drop_absent callsign_cmp vehicle_key callsigns_total s.vehicles _ h.1))
share_foreign d s (PutTurn x) h =
    ap (λ (xs : List Turn). record s { turns = xs })
    (cond_false _ _ _ _ h.0 (drop_absent numbered_cmp turn_key numbered_total s.turns _ h.1))
share_foreign d s (PutAssignment x) h =
    ap (λ (xs : List Assignment). record s { assignments = xs })
    (cond_false _ _ _ _ h.0 (drop_absent callsign_cmp assignment_key callsigns_total s.assignments _ h.1))
share_foreign d s (PutPoint x) h =
    ap (λ (xs : List Point). record s { points = xs })
    (cond_false _ _ _ _ h.0 (drop_absent pair_cmp point_key pairs_total s.points _ h.1))
share_foreign d s (PutLoan x) h =
    ap (λ (xs : List Loan). record s { loans = xs })
    (cond_false _ _ _ _ h.0 (drop_absent callsign_cmp loan_key callsigns_total s.loans _ h.1))
share_foreign d s (PutOffer x) h =
    ap (λ (xs : List Offer). record s { offers = xs })
    (cond_false _ _ _ _ h.0 (drop_absent callsign_cmp offer_key callsigns_total s.offers _ h.1))
share_foreign d s (PutReport x) h =
    ap (λ (xs : List Report). record s { reports = xs })
    (cond_false _ _ _ _ h.0 (drop_absent numbered_cmp report_key numbered_total s.reports _ h.1))
share_foreign d s (DropAssignment c) h =
    ap (λ (xs : List Assignment). record s { assignments = xs })
    (drop_absent callsign_cmp assignment_key callsigns_total s.assignments c h)
share_foreign d s (DropLoan c) h =
    ap (λ (xs : List Loan). record s { loans = xs }) (drop_absent callsign_cmp loan_key callsigns_total s.loans c h)
share_foreign d s (DropOffer c) h =
    ap (λ (xs : List Offer). record s { offers = xs }) (drop_absent callsign_cmp offer_key callsigns_total s.offers c h)
share_foreign d s (Settle c e) h = refl

settled_foreign : (d e : ℕ) (r : Room) (c : Callsign) (o : Option Vehicle) → IsInOrder r
    → row_at callsign_cmp vehicle_key r.vehicles c ≡ o → e == d ≡ false
    → row_at callsign_cmp vehicle_key (own d r).vehicles c ≡ None
    → filter (owns_vehicle d) (settled o e r.vehicles) ≡ filter (owns_vehicle d) r.vehicles
settled_foreign d e r c None w h f g = refl
settled_foreign d e r c (Some v) w h f g =
    let key : c ≡ v.callsign = row_key callsign_cmp vehicle_key callsigns_total exact_callsigns r.vehicles c v h in
    let absent : row_at callsign_cmp vehicle_key (own d r).vehicles v.callsign
    ≡ None = ap (λ (k : Callsign). row_at callsign_cmp vehicle_key (own d r).vehicles k) (sym key) ∙ g in
    filter_put callsign_cmp vehicle_key callsigns_total (owns_vehicle d) r.vehicles
    (record v { holder = e; status = Available }) w.vehicles
    ∙ cond_false (e == d) _ _ _ f
    (drop_absent callsign_cmp vehicle_key callsigns_total (own d r).vehicles v.callsign absent)

pub own_foreign_one : (d : ℕ) (r : Room) (c : Change) → IsInOrder r → IsForeign d (own d r) c
    → own d (apply_one r c) ≡ own d r
own_foreign_one d r (Settle c e) w h =
    ap (λ (vs : List Vehicle). record (own d r) { vehicles = vs }) (settled_foreign d e r c _ w refl h.0 h.1)
own_foreign_one d r (PutDivision x) w h =
    own_apply_one d r (PutDivision x) w tt ∙ share_foreign d (own d r) (PutDivision x) h
own_foreign_one d r (PutIncident x) w h =
    own_apply_one d r (PutIncident x) w tt ∙ share_foreign d (own d r) (PutIncident x) h
own_foreign_one d r (PutCall x) w h = own_apply_one d r (PutCall x) w tt ∙ share_foreign d (own d r) (PutCall x) h
own_foreign_one d r (PutVehicle x) w h =
    own_apply_one d r (PutVehicle x) w tt ∙ share_foreign d (own d r) (PutVehicle x) h
own_foreign_one d r (PutTurn x) w h = own_apply_one d r (PutTurn x) w tt ∙ share_foreign d (own d r) (PutTurn x) h
own_foreign_one d r (PutAssignment x) w h =
    own_apply_one d r (PutAssignment x) w tt ∙ share_foreign d (own d r) (PutAssignment x) h
own_foreign_one d r (PutPoint x) w h = own_apply_one d r (PutPoint x) w tt ∙ share_foreign d (own d r) (PutPoint x) h
own_foreign_one d r (PutLoan x) w h = own_apply_one d r (PutLoan x) w tt ∙ share_foreign d (own d r) (PutLoan x) h
own_foreign_one d r (PutOffer x) w h = own_apply_one d r (PutOffer x) w tt ∙ share_foreign d (own d r) (PutOffer x) h
own_foreign_one d r (PutReport x) w h = own_apply_one d r (PutReport x) w tt ∙ share_foreign d (own d r) (PutReport x) h
own_foreign_one d r (DropAssignment c) w h =
    own_apply_one d r (DropAssignment c) w tt ∙ share_foreign d (own d r) (DropAssignment c) h
own_foreign_one d r (DropLoan c) w h = own_apply_one d r (DropLoan c) w tt ∙ share_foreign d (own d r) (DropLoan c) h
own_foreign_one d r (DropOffer c) w h = own_apply_one d r (DropOffer c) w tt ∙ share_foreign d (own d r) (DropOffer c) h

pub own_foreign : (d : ℕ) (r : Room) (cs : List Change) → IsInOrder r → AllForeign d (own d r) cs
    → own d (apply r cs) ≡ own d r
own_foreign d r [] w h = refl
own_foreign d r (c ∷ cs) w h =
    let same = own_foreign_one d r c w h.0 in
    own_foreign d (apply_one r c) cs (in_order_one r c w) (subst (λ (s : Room). AllForeign d s cs) (sym same) h.1)
    ∙ same

pub foreign_append : (d : ℕ) (s : Room) (cs bs : List Change) → AllForeign d s cs
    → AllForeign d s bs → AllForeign d s (cs ++ bs)
foreign_append d s [] bs h g = g
foreign_append d s (c ∷ cs) bs h g = (h.0, foreign_append d s cs bs h.1 g)
