-- What a queue reads: what waits in a division, and the turns of its active incidents.
use Rattle.std.proofs.Common.{Bool, List, None, Option, Some, [], ap, arith, cond, false, get_or}
use Rattle.std.proofs.Common.{is_some, length, map, refl, subst, suc, sym, true, zero, ℕ, ◌&&◌, ◌<◌}
use Rattle.std.proofs.Common.{◌∙◌, ◌∷◌, ◌≡◌, ◌||◌}
use Rattle.std.proofs.lemmas.Bool.{eq-eqb}
use Rattle.std.specs.Ordering.{is_eq}
use Rattle.std.specs.Prelude.{filter, ◌==◌}
use Rattle.room_types.proofs.KeyedLaws.{row_below}
use Rattle.room_types.specs.KeyedRows.{IsBelowAll, IsKeyed, keep, row_at}
use Rattle.room_types.specs.Codes.{is_active}
use Rattle.room_types.specs.Keys.{incident_key, pair_cmp}
use Rattle.room_types.specs.KeyLemmas.{exact_pair, pairs_total}
use Rattle.room_types.specs.declared.asks.Ask.TheVariants.{Queue}
use Rattle.room_types.specs.declared.tables.Incident.{Incident}
use Rattle.room_model.proofs.Tests.{is_equal, or_left, or_right}
use Rattle.room_model.specs.Queries.{incident_of}
use Rattle.room_model.specs.Room.{Room}
use Rattle.room_model.specs.WorkingRows.{reads_incident, reads_number, working}
use Rattle.room_store_cache.specs.IncidentNumbers.{contains}
use Rattle.room_store_cache.proofs.Filters.{filter_as, filter_owned, or_none, pair_turned}

-- a queue names nothing: of these rows it reads what waits
pub waiting_rows : {X : Type 0} (own p : X → Bool) (xs : List X)
    → filter own (filter (λ x. own x && (p x || false)) xs) ≡ filter (λ x. own x && p x) xs
waiting_rows own p xs =
    filter_owned own (λ x. p x || false) xs ∙ filter_as _ _ xs (λ x. ap (λ b. own x && b) (or_none (p x)))

abbrev pub number_of : Incident → ℕ
number_of i = i.number

contains_cond : (n : ℕ) (b : Bool) (x : Incident) (xs : List Incident)
    → contains n (map number_of (cond b (x ∷ xs) xs))
    ≡ cond b ((x.number == n) || contains n (map number_of xs)) (contains n (map number_of xs))
contains_cond n true x xs = refl
contains_cond n false x xs = refl

pub passes : (b : Bool) (x : Incident) → is_some (cond b (Some x) None) ≡ b
passes true x = refl
passes false x = refl

kept_cond : (reads : Incident → Bool) (b : Bool) (x : Incident) (o : Option Incident)
    → is_some (keep reads (cond b (Some x) o)) ≡ cond b (reads x) (is_some (keep reads o))
kept_cond reads true x o = passes (reads x) x
kept_cond reads false x o = refl

-- a row is counted where its key is the one that is looked for, and it is read
one_step : (same own this read other kept : Bool) → same ≡ own && this → other ≡ kept
    → (same ≡ true → kept ≡ false) → cond (own && read) (this || other) other ≡ cond same read kept
one_step same true true true other kept e h f = rw e refl
one_step same true true false other kept e h f = rw e (h ∙ f e)
one_step same true false true other kept e h f = rw e h
one_step same true false false other kept e h f = rw e h
one_step same false this read other kept e h f = rw e h

-- The numbers of those incidents of a division that are read: a number is among them where the
-- incident of that number is read.
pub numbers_of : (d : ℕ) (reads : Incident → Bool) (xs : List Incident) (n : ℕ)
    → IsKeyed pair_cmp incident_key xs
    → contains n (map number_of (filter (λ i. i.division == d && reads i) xs))
    ≡ is_some (keep reads (row_at pair_cmp incident_key xs (d, n)))
numbers_of d reads [] n h = refl
numbers_of d reads (x ∷ xs) n h =
    let same = is_eq (pair_cmp (d, n) (incident_key x)) in
    let gone = λ (e : same ≡ true).
    let key : (d, n) ≡ incident_key x = exact_pair (d, n) (incident_key x) (is_equal _ e) in
    ap (λ o. is_some (keep reads o))
    (row_below pair_cmp incident_key pairs_total xs (d, n)
    (subst (λ k. IsBelowAll pair_cmp incident_key k xs) (sym key) h.0)) in
    contains_cond n (x.division == d && reads x) x _
    ∙ one_step same (x.division == d) (x.number == n) (reads x) _ _ (pair_turned d n x.division x.number)
    (numbers_of d reads xs n h.1) gone
    ∙ sym (kept_cond reads same x (row_at pair_cmp incident_key xs (d, n)))

pub kept_alike : (p q : Incident → Bool) → ((i : Incident) → p i ≡ q i) → (o : Option Incident)
    → is_some (keep p o) ≡ is_some (keep q o)
kept_alike p q e None = refl
kept_alike p q e (Some i) = ap (λ (b : Bool). is_some (cond b (Some i) None)) (e i)

has_number : (xs : List Incident) (i : ℕ) (x : Incident) → i < length xs → x ≡ get_or xs i x
    → contains x.number (map number_of xs) ≡ true
has_number [] i x inside here = absurd (omega (arith, inside))
has_number (y ∷ xs) zero x inside here =
    or_left (y.number == x.number) _ (eq-eqb y.number x.number (ap number_of (sym here)))
has_number (y ∷ xs) (suc i) x inside here =
    or_right (y.number == x.number) _ (has_number xs i x (omega (arith, inside)) here)

-- it reads the turns of an incident that it shows
pub shown_read : (d at : ℕ) (room : Room) → IsKeyed pair_cmp incident_key room.incidents
    → (i : ℕ) (x : Incident) → i < length (working d Queue at room).incidents
    → x ≡ get_or (working d Queue at room).incidents i x
    → reads_number d Queue room x.number ≡ true
unfolding incident_of
shown_read d at room keyed i x inside here =
    or_none _
    ∙ sym (numbers_of d (reads_incident Queue at) room.incidents x.number keyed
    ∙ kept_alike (reads_incident Queue at) (λ i. is_active i.state) (λ i. or_none (is_active i.state))
    (incident_of d x.number room))
    ∙ has_number (working d Queue at room).incidents i x inside here
