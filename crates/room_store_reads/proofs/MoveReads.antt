-- What is known has just what a move asks of the room.
use Rattle.std.proofs.Common.{Bool, List, None, Option, Some, [], ap, cond, false, refl, subst, sym}
use Rattle.std.proofs.Common.{true, ℕ, ◌&&◌, ◌∙◌, ◌∷◌, ◌≡◌}
use Rattle.std.proofs.lemmas.Cmp.{tied_itself}
use Rattle.std.specs.Cmp.{IsTotalOrder}
use Rattle.std.specs.Prelude.{IfSome, filter, is_none, length, ◌==◌, ◌≢◌}
use Rattle.std.specs.declared.cmp.Ordering.{Ordering}
use Rattle.room_place.specs.Choice.{first}
use Rattle.room_types.proofs.EachRow.{row_key}
use Rattle.room_types.specs.Codes.{same_kind}
use Rattle.room_types.specs.KeyLemmas.{callsigns_total, exact_callsigns, exact_pair, pairs_total}
use Rattle.room_types.specs.KeyedRows.{keep, listed, row_at}
use Rattle.room_types.specs.Keys.{callsign_cmp, incident_key, loan_key, owns_loan, owns_vehicle}
use Rattle.room_types.specs.Keys.{pair_cmp, same_callsign, vehicle_key}
use Rattle.room_types.specs.Texts.{Callsign}
use Rattle.room_types.specs.declared.codes.Kind.{Kind}
use Rattle.room_types.specs.declared.tables.Turn.{Turn}
use Rattle.room_types.specs.declared.tables.Vehicle.{Vehicle}
use Rattle.room_model.proofs.Tests.{both_true, filter_filter, keep_keep, left_true, or_left}
use Rattle.room_model.proofs.Tests.{right_true}
use Rattle.room_model.proofs.WorkingDesk.{last_turn_read}
use Rattle.room_model.specs.Queries.{counts, held, incident_of, lent, open_turn, served}
use Rattle.room_model.specs.Room.{Room}
use Rattle.room_model.specs.RoomAgreements.{IsWellFormed}
use Rattle.room_model.specs.WorkingRows.{is_last_turn}
use Rattle.room_store_cache.specs.Cache.{HasFleetOf, IsCacheOf}
use Rattle.room_store_cache.specs.declared.cache.Cache.{Cache}
use Rattle.room_store_cache.specs.declared.fleets.Fleet.{Fleet}
use Rattle.room_store_reads.specs.MoveParts.{HasIncident, IsFilled}
use Rattle.room_store_reads.specs.Partitions.{AreKnown, is_turn}
use Rattle.room_store_reads.specs.declared.move_rows.Beside.{Beside}

-- ---- what is known
pub all_known : {known : Cache} {room : Room} → IsFilled known room → AreKnown known room
all_known is = record {
  rows = is.fleet.rows;
  queue_views = is.all.queue_views;
  incident_views = is.all.incident_views;
  recent_incidents = is.all.recent_incidents;
  shown_lists = is.all.shown_lists;
}

-- after a read that leaves the fleet
pub still_known : {before after : Cache} {room : Room} → IsFilled before room → AreKnown after room
    → after.fleet ≡ before.fleet → IsFilled after room
still_known {after = after} {room = room} is are same =
    let fleet : HasFleetOf after.fleet room = subst (λ x. HasFleetOf x room) (sym same) is.fleet in
    record {
      fleet = fleet;
      all = record {
        fleet = λ known. fleet;
        queue_views = are.queue_views;
        incident_views = are.incident_views;
        recent_incidents = are.recent_incidents;
        shown_lists = are.shown_lists;
      };
    }

-- after a read of the fleet
pub filled : {before : Cache} {room : Room} (fleet : Fleet) → HasFleetOf fleet room
    → IsCacheOf before room → IsFilled (record before { fleet = fleet }) room
filled fleet has is = record {
  fleet = has;
  all = record {
    fleet = λ known. has;
    queue_views = is.queue_views;
    incident_views = is.incident_views;
    recent_incidents = is.recent_incidents;
    shown_lists = is.shown_lists;
  };
}

pub same_number : (o : Option ℕ) (m n : ℕ) → o ≡ Some m → o ≡ Some n → m ≡ n
same_number o m n e f = let both : Some m ≡ Some n = sym e ∙ f in cc

pub never : {P : Type 0} (o : Option ℕ) (n : ℕ) → o ≡ None → o ≡ Some n → P
never o n e f = let both : None ≡ Some n = sym e ∙ f in absurd (cc)

pub same_vehicle : (o : Option Vehicle) (v w : Vehicle) → o ≡ Some v → o ≡ Some w → v ≡ w
same_vehicle o v w e f = let both : Some v ≡ Some w = sym e ∙ f in cc

pub unheld : {P : Type 0} (o : Option Vehicle) (v : Vehicle) → o ≡ Some v → o ≡ None → P
unheld o v e f = let both : Some v ≡ None = sym e ∙ f in absurd (cc)

pub no_turn : (o : Option (Callsign × ℕ)) → ((k : Callsign × ℕ) → o ≢ Some k) → (t : Turn)
    → is_turn o t ≡ false
no_turn None other t = refl
no_turn (Some k) other t = absurd (other k refl)

-- ---- the row of a key in a list of it
row_listed : {R K : Type 0} (cmp : K → K → Ordering) (key : R → K) → IsTotalOrder cmp → (k : K)
    (o : Option R) → IfSome o (λ x. key x ≡ k) → row_at cmp key (listed o) k ≡ o
row_listed cmp key total k None has = refl
row_listed cmp key total k (Some x) has = rw has (rw (tied_itself total k) refl)

kept_has : {R : Type 0} (p : R → Bool) (P : R → Type 0) (o : Option R) → IfSome o P
    → IfSome (keep p o) P
kept_has p P None has = tt
kept_has p P (Some x) has =
    elim (p x) as (λ (b : Bool). IfSome (cond b (Some x) None) P) [ true ↦ has | false ↦ tt ]

-- ---- the rows of a move
module _ (d : ℕ) (c : Callsign) (rows r : Room) where
  pub held_known : rows.vehicles
      ≡ listed (keep (owns_vehicle d) (row_at callsign_cmp vehicle_key r.vehicles c))
      → held d c rows ≡ held d c r
  unfolding held
  held_known is =
      ap (λ xs. keep (λ v. v.holder == d) (row_at callsign_cmp vehicle_key xs c)) is
      ∙ ap (keep (λ v. v.holder == d)) (row_listed callsign_cmp vehicle_key callsigns_total c _
      (kept_has (owns_vehicle d) (λ v. vehicle_key v ≡ c) (row_at callsign_cmp vehicle_key r.vehicles c)
      (row_key callsign_cmp vehicle_key callsigns_total exact_callsigns r.vehicles c)))
      ∙ keep_keep (λ v. v.holder == d) (owns_vehicle d) (row_at callsign_cmp vehicle_key r.vehicles c)
      (λ v own. own)

  pub lent_known : rows.loans
      ≡ listed (keep (owns_loan d) (row_at callsign_cmp loan_key r.loans c))
      → lent d c rows ≡ lent d c r
  unfolding lent
  lent_known is =
      ap (λ xs. keep (λ l. l.lender == d) (row_at callsign_cmp loan_key xs c)) is
      ∙ ap (keep (λ l. l.lender == d)) (row_listed callsign_cmp loan_key callsigns_total c _
      (kept_has (owns_loan d) (λ l. loan_key l ≡ c) (row_at callsign_cmp loan_key r.loans c)
      (row_key callsign_cmp loan_key callsigns_total exact_callsigns r.loans c)))
      ∙ keep_keep (λ l. l.lender == d) (owns_loan d) (row_at callsign_cmp loan_key r.loans c)
      (λ l own. or_left _ _ own)

  -- the turn of a vehicle's last order has its open turn
  pub turn_known : (at : ℕ) → IsWellFormed r → (v : Vehicle) → held d c r ≡ Some v
      → rows.turns ≡ filter (λ t. t.division == d && is_last_turn (Some v) t) r.turns
      → open_turn d c rows ≡ open_turn d c r
  unfolding open_turn
  turn_known at formed v there is =
      ap (λ xs. first (filter
      (λ t. t.division == d && (same_callsign t.callsign c && is_none t.ended)) xs))
      (is ∙ (λ i. filter (λ t. t.division == d && is_last_turn (sym there i) t) r.turns))
      ∙ last_turn_read d at r formed c v there

  module _ (n : ℕ) (x : Beside) (has : HasIncident d n r x) where
    pub incident_known : rows.incidents ≡ x.incidents → incident_of d n rows ≡ incident_of d n r
    unfolding incident_of
    incident_known is =
        ap (λ xs. row_at pair_cmp incident_key xs (d, n)) (is ∙ has.incidents)
        ∙ row_listed pair_cmp incident_key pairs_total (d, n) _
        (row_key pair_cmp incident_key pairs_total exact_pair r.incidents (d, n))

    pub served_known : rows.turns ≡ x.turns → (k : Kind) → served d n k rows ≡ served d n k r
    unfolding served
    served_known is k =
        ap (λ xs. length (filter
        (λ t. t.division == d && (t.incident == n && (same_kind t.kind k && counts t))) xs))
        (is ∙ has.turns)
        ∙ ap length (filter_filter _ (λ t. t.incident == n && t.division == d) r.turns (λ t h.
        both_true _ _ (left_true (t.incident == n) _ (right_true (t.division == d) _ h))
        (left_true (t.division == d) _ h)))
