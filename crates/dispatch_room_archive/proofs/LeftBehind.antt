-- What a room leaves behind when it is renewed has no part in what goes on.
use Rattle.std.proofs.Common.{ap, arith, eq-eqb, eqb-true, inl, inr, subst, sym, ◌∙◌}
use Rattle.std.specs.List.{list_any}
use Rattle.std.specs.Prelude.{Bool, List, None, Option, Some, [], cond, false, filter, is_some, max}
use Rattle.std.specs.Prelude.{nat_le, nat_lt, not, refl, true, ℕ, ◌&&◌, ◌<◌, ◌==◌, ◌||◌, ◌∷◌, ◌≡◌}
use Rattle.std.specs.Prelude.{◌≤◌, ◌⊎◌}
use Rattle.room_place.specs.Choice.{Among}
use Rattle.room_types.specs.KeyedRows.{keep, row_at}
use Rattle.room_types.specs.Codes.{is_active}
use Rattle.room_types.specs.Keys.{call_key, callsign_cmp, incident_key, numbered_cmp, pair_cmp}
use Rattle.room_types.specs.Keys.{report_key, vehicle_key}
use Rattle.room_types.specs.KeyLemmas.{exact_pair, pairs_total}
use Rattle.room_types.specs.declared.tables.Call.{Call}
use Rattle.room_types.specs.declared.tables.Incident.{Incident}
use Rattle.room_types.specs.declared.tables.Report.{Report}
use Rattle.room_types.specs.declared.tables.Vehicle.{Vehicle}
use Rattle.room_model.proofs.Tests.{among_filter, both_true, left_true, or_right, right_true}
use Rattle.room_model.proofs.Tests.{row_among, row_key}
use Rattle.room_model.specs.Queries.{greatest_serial, incident_of, kept_call, kept_report}
use Rattle.room_model.specs.Queries.{last_serial, vehicle_at}
use Rattle.room_model.specs.Room.{Room}
use Rattle.room_model.specs.RoomAgreements.{IsWellFormed, ReportAgrees}
use Rattle.room_store_check_rows.specs.HistoryChecks.{is_last_report}
use Rattle.dispatch_room_archive.specs.Continuation.{IsOver, IsSettled, IsSuccessor, StaysBehind}
use Rattle.dispatch_room_archive.specs.Successor.{has_recent_call, incident_stays_behind, is_over}
use Rattle.dispatch_room_archive.specs.Successor.{is_recent, is_settled, left_behind, renewed}

-- ---- tests
pub from_not : (x : Bool) → not x ≡ true → x ≡ false
from_not true e = cc
from_not false e = refl

pub from_left : (x : Bool) → not x ≡ false → x ≡ true
from_left true e = refl
from_left false e = cc

pub not_true : (x : Bool) → (x ≡ true → ⊥) → x ≡ false
not_true true f = absurd (f refl)
not_true false f = refl

below_is : (n m : ℕ) → nat_lt n m ≡ true → n < m
below_is n m e = grind (arith, e)

apart_is : (n m : ℕ) → n ≤ m → m == n ≡ false → n < m
apart_is n m le e = grind (arith, le, e)

-- a row that is kept is one that passes
kept_some : {X : Type 0} (p : X → Bool) (o : Option X) → is_some (keep p o) ≡ true
    → (x : X) × (o ≡ Some x) × (p x ≡ true)
kept_some p None e = cc
kept_some {X} p (Some x) e =
    (elim (p
    x) as (λ (b : Bool). p x ≡ b → is_some (cond b (Some x) None) ≡ true → (y : X) × (Some x ≡ Some y) × (p y ≡ true)) [
      | true ↦ λ f g. (x, refl, f)
      | false ↦ λ f g. cc
    ]) refl e

-- some element of a list passes, where one of its elements does
pub any_among : {X : Type 0} (p : X → Bool) (xs : List X) (x : X) → Among x xs → p x ≡ true
    → list_any p xs ≡ true
any_among p [] x a e = absurd a
any_among {X} p (y ∷ ys) x a e = elim a [
  | inl same ↦ ap (λ z. z || list_any p ys) (sym (ap p same) ∙ e)
  | inr b ↦ or_right (p y) (list_any p ys) (any_among p ys x b e)
]

-- an element of a list is one of the filtered list, where it passes
pub among_passing : {X : Type 0} (p : X → Bool) (xs : List X) (x : X) → Among x xs → p x ≡ true
    → Among x (filter p xs)
among_passing p [] x a e = absurd a
among_passing {X} p (y ∷ ys) x a e =
    (elim (p y) as (λ (b : Bool). p y ≡ b → Among x (cond b (y ∷ filter p ys) (filter p ys))) [
      | true ↦ λ f. elim a [ inl same ↦ inl same | inr b ↦ inr (among_passing p ys x b e) ]
      | false ↦ λ f. elim a [ inl same ↦ let alike : p x ≡ p y = ap p same in cc | inr b ↦ among_passing p ys x b e ]
    ]) refl

-- ---- the greatest serial of calls
max_either : (a b : ℕ) → (max a b ≡ a) ⊎ (max a b ≡ b)
max_either a b = grind arith

serial_below : (cs : List Call) (c : Call) → Among c cs → c.serial ≤ greatest_serial cs
serial_below [] c a = absurd a
serial_below (x ∷ cs) c a = elim a [
  | inl same ↦ let here : c.serial ≡ x.serial = ap (λ (y : Call). y.serial) same in omega (arith, here)
  | inr b ↦ let rest = serial_below cs c b in omega (arith, rest)
]

serials_below : (cs ds : List Call) → ((c : Call) → Among c cs → Among c ds)
    → greatest_serial cs ≤ greatest_serial ds
serials_below [] ds f = omega arith
serials_below (x ∷ cs) ds f =
    let here = serial_below ds x (f x (inl refl)) in
    let rest = serials_below cs ds (λ c a. f c (inr a)) in
    omega (arith, here, rest)

-- there is a call of the greatest serial, unless that is 0
greatest_there : (cs : List Call) → (greatest_serial cs ≡ 0)
    ⊎ ((c : Call) × Among c cs × (c.serial ≡ greatest_serial cs))
greatest_there [] = inl refl
greatest_there (x ∷ cs) = elim (max_either x.serial (greatest_serial cs)) [
  | inl e ↦ inr (x, inl refl, sym e)
  | inr e ↦ elim (greatest_there cs) [
    | inl none ↦ inl (e ∙ none)
    | inr found ↦ inr (found.0, inr found.1, found.2 ∙ sym e)
  ]
]

module _ (since : ℕ) (r : Room) (w : IsWellFormed r) where
  -- an incident with a position's last call doesn't stay behind
  over_without : (i : Incident) (c : Call) → Among c r.calls → c.division ≡ i.division
      → c.incident ≡ i.number → is_recent since r c ≡ true → is_over since r i ≡ true → ⊥
  over_without i c a division number recent over =
      let none : has_recent_call since r i
      ≡ false = from_not _ (right_true (nat_lt i.opened since) _ (right_true (not (is_active i.state)) _ over)) in
      let one : has_recent_call since r i
      ≡ true =
      any_among _ r.calls c a
      (both_true (c.division == i.division) _ (eq-eqb c.division i.division division)
      (both_true (c.incident == i.number) _ (eq-eqb c.incident i.number number) recent)) in
      cc

  recent_stays : (c : Call) → Among c r.calls → is_recent since r c ≡ true
      → incident_stays_behind since r c.division c.incident ≡ false
  unfolding incident_of
  recent_stays c a recent =
      (elim (incident_stays_behind since r c.division
      c.incident) as (λ (x : Bool). incident_stays_behind since r c.division c.incident ≡ x → x ≡ false) [
        | true ↦ λ e.
            let found = kept_some (is_over since r) (row_at pair_cmp incident_key r.incidents (c.division, c.incident))
            e in
            let i : Incident = found.0 in
            let key : (c.division, c.incident)
            ≡ (i.division, i.number) =
            row_key pair_cmp incident_key pairs_total exact_pair r.incidents (c.division, c.incident) i found.1 in
            absurd (over_without i c a (ap (λ (k : ℕ × ℕ). k.0) key) (ap (λ (k : ℕ × ℕ). k.1) key) recent found.2)
        | false ↦ λ e. refl
      ]) refl

  -- a call that is there stays behind with its incident
  call_stays_with : (c : Call) → Among c r.calls
      → (left_behind since r).call c.position c.serial ≡ incident_stays_behind since r c.division c.incident
  unfolding kept_call
  call_stays_with c a =
      ap (λ o. is_some (keep (λ (c : Call). incident_stays_behind since r c.division c.incident) o))
      (row_among pair_cmp call_key pairs_total r.calls c w.order.calls a)
      ∙ kept_one (incident_stays_behind since r c.division c.incident)
    where
      kept_one : (x : Bool) → is_some (cond x (Some c) None) ≡ x
      kept_one true = refl
      kept_one false = refl

  -- the last call of a position is kept
  last_kept : (p : ℕ) → greatest_serial (filter (λ c. c.position == p) r.calls)
      ≤ greatest_serial (filter (λ c. c.position == p) (renewed since r).calls)
  unfolding last_serial
  last_kept p = elim (greatest_there (filter (λ c. c.position == p) r.calls)) [
    | inl none ↦ omega (arith, none)
    | inr found ↦
        let c : Call = found.0 in
        let there = among_filter (λ (c : Call). c.position == p) r.calls c found.1 in
        let same : c.position ≡ p = eqb-true c.position p there.1 in
        let recent : is_recent since r c
        ≡ true =
        or_right (nat_le since c.at) _
        (eq-eqb c.serial (last_serial c.position r)
        (found.2 ∙ ap (λ n. greatest_serial (filter (λ c. c.position == n) r.calls)) (sym same))) in
        let stays : not ((left_behind since r).call c.position c.serial)
        ≡ true = ap not (call_stays_with c there.0 ∙ recent_stays c there.0 recent) in
        let below = serial_below (filter (λ c. c.position == p) (renewed since r).calls) c
        (among_passing (λ c. c.position == p) (renewed since r).calls c
        (among_passing (λ c. not ((left_behind since r).call c.position c.serial)) r.calls c there.0 stays) there.1) in
        let serial : c.serial ≡ greatest_serial (filter (λ c. c.position == p) r.calls) = found.2 in
        omega (arith, below, serial)
  ]

  serials_same : (p : ℕ) → last_serial p (renewed since r) ≡ last_serial p r
  unfolding last_serial
  serials_same p =
      let least = last_kept p in
      let most = serials_below (filter (λ c. c.position == p) (renewed since r).calls)
      (filter (λ c. c.position == p) r.calls) (λ c a.
      let there = among_filter (λ (c : Call). c.position == p) (renewed since r).calls c a in
      among_passing (λ c. c.position == p) r.calls c
      (among_filter (λ c. not ((left_behind since r).call c.position c.serial)) r.calls c there.0).0 there.1) in
      omega (arith, least, most)

  incident_over : (o : Option Incident) → is_some (keep (is_over since r) o) ≡ true → IsOver since o
  incident_over None e = cc
  incident_over (Some i) e =
      let found = kept_some (is_over since r) (Some i) e in
      let same : found.0 ≡ i = cc in
      let over : is_over since r i ≡ true = subst (λ (j : Incident). is_over since r j ≡ true) same found.2 in (
        from_not _ (left_true (not (is_active i.state)) _ over),
        below_is _ _ (left_true (nat_lt i.opened since) _ (right_true (not (is_active i.state)) _ over)),
      )

  report_over : (v : Option Vehicle) (n : ℕ) (o : Option Report) → ReportAgrees v n o
      → is_some (keep (is_settled since) o) && not (is_last_report n v) ≡ true → IsSettled v n o
  report_over v n None g e = cc
  report_over None n (Some x) g e = absurd g
  report_over (Some v) n (Some x) g e =
      let found = kept_some (is_settled since) (Some x) (left_true _ (not (v.last_report == n)) e) in
      let same : found.0 ≡ x = cc in
      let settled : is_settled since x ≡ true = subst (λ (y : Report). is_settled since y ≡ true) same found.2 in (
        right_true (nat_lt x.at since) _ settled,
        apart_is n v.last_report g.1 (from_not _ (right_true (is_some (keep (is_settled since) (Some x))) _ e)),
      )

  pub left_stays : StaysBehind since (left_behind since r) r
  unfolding incident_of kept_report vehicle_at
  left_stays = record {
    incidents = λ d n e. incident_over (row_at pair_cmp incident_key r.incidents (d, n)) e;
    calls = λ p s. refl;
    serials = serials_same;
    reports =
        λ c n e.
        report_over (row_at callsign_cmp vehicle_key r.vehicles c) n (row_at numbered_cmp report_key r.reports (c, n))
        (w.reports c n) e;
  }

  pub left_successor : IsSuccessor since (left_behind since r) r (renewed since r)
  left_successor = record { rows = refl; behind = left_stays }
