-- The changes that put the rows which are left make a renewed room.
use Rattle.std.proofs.Common.{ap, inl, inr, sym, ◌∙◌}
use Rattle.std.specs.Prelude.{Bool, Err, IfOk, List, Ok, Result, [], cond, filter, is_some, not}
use Rattle.std.specs.Prelude.{refl, ℕ, ◌&&◌, ◌∷◌, ◌≡◌}
use Rattle.room_place.specs.Choice.{Among}
use Rattle.room_place.specs.declared.plans.Area.{Area}
use Rattle.room_types.specs.KeyedRows.{keep}
use Rattle.room_types.specs.Keys.{call_key, incident_key, numbered_cmp, pair_cmp, report_key}
use Rattle.room_types.specs.KeyLemmas.{numbered_total, pairs_total}
use Rattle.room_types.specs.declared.changes.Change.{Change}
use Rattle.room_types.specs.declared.slices.DivisionRows.{DivisionRows}
use Rattle.room_types.specs.declared.tables.Call.{Call}
use Rattle.room_types.specs.declared.tables.Incident.{Incident}
use Rattle.room_types.specs.declared.tables.Report.{Report}
use Rattle.room_model.proofs.Tests.{row_among}
use Rattle.room_model.specs.Queries.{incident_of, kept_call, kept_report, vehicle_at}
use Rattle.room_model.specs.Room.{IsInOrder, Room}
use Rattle.room_model.specs.RoomSlices.{room_of}
use Rattle.room_store_check_rows.specs.HistoryChecks.{is_last_report}
use Rattle.dispatch_room_archive.proofs.RowsLeft.{kept_is}
use Rattle.dispatch_room_archive.specs.Composition.{puts}
use Rattle.dispatch_room_archive.specs.Successor.{call_stays_behind, incident_stays_behind, is_over}
use Rattle.dispatch_room_archive.specs.Successor.{is_settled, renewed, report_stays_behind}
use Rattle.dispatch_room_archive.specs.Leftovers.{is_call_over, is_report_over, puts_kept}

-- tests that agree on a list's elements let the same ones through
alike_head : {X : Type 0} (b c : Bool) (x : X) (us vs : List X) → b ≡ c → us ≡ vs
    → cond b (x ∷ us) us ≡ cond c (x ∷ vs) vs
alike_head {X} b c x us vs e f = ap (λ (a : Bool). cond a (x ∷ us) us) e ∙ ap (λ (ws : List X). cond c (x ∷ ws) ws) f

filter_alike : {X : Type 0} (p q : X → Bool) (xs : List X)
    → ((x : X) → Among x xs → p x ≡ q x) → filter p xs ≡ filter q xs
filter_alike p q [] f = refl
filter_alike p q (x ∷ xs) f =
    alike_head (p x) (q x) x (filter p xs) (filter q xs) (f x (inl refl)) (filter_alike p q xs (λ y a. f y (inr a)))

module _ (since : ℕ) (r : Room) (order : IsInOrder r) where
  incident_is : (i : Incident) → Among i r.incidents
      → is_over since r i ≡ incident_stays_behind since r i.division i.number
  unfolding incident_of
  incident_is i a =
      sym (ap (λ o. is_some (keep (is_over since r) o))
      (row_among pair_cmp incident_key pairs_total r.incidents i order.incidents a) ∙ kept_is (is_over since r) i)

  call_is : (c : Call) → Among c r.calls
      → is_call_over since r c ≡ call_stays_behind since r c.position c.serial
  unfolding kept_call
  call_is c a =
      sym (ap (λ o. is_some (keep (is_call_over since r) o))
      (row_among pair_cmp call_key pairs_total r.calls c order.calls a) ∙ kept_is (is_call_over since r) c)

  report_is : (x : Report) → Among x r.reports
      → is_report_over since r x ≡ report_stays_behind since r x.callsign x.number
  unfolding kept_report
  report_is x a =
      ap (λ y. y && not (is_last_report x.number (vehicle_at x.callsign r)))
      (sym (ap (λ o. is_some (keep (is_settled since) o))
      (row_among numbered_cmp report_key numbered_total r.reports x order.reports a) ∙ kept_is (is_settled since) x))

  pub left_makes : puts_kept since r ≡ puts (renewed since r)
  left_makes i = puts (record r {
    incidents =
        filter_alike (λ x. not (is_over since r x)) (λ x. not (incident_stays_behind since r x.division x.number))
        r.incidents
        (λ x a. ap not (incident_is x a)) i;
    calls =
        filter_alike (λ x. not (is_call_over since r x)) (λ x. not (call_stays_behind since r x.position x.serial))
        r.calls
        (λ x a. ap not (call_is x a)) i;
    turns = filter (λ t. not (incident_stays_behind since r t.division t.incident)) r.turns;
    reports =
        filter_alike (λ x. not (is_report_over since r x)) (λ x. not (report_stays_behind since r x.callsign x.number))
        r.reports (λ x a. ap not (report_is x a)) i;
  })

-- the same of rows, whatever their plan is
pub makes_renewed : (since : ℕ) (s : DivisionRows) (t : ℕ) (u : DivisionRows) → t ≡ since → u ≡ s
    → (cs : List Change) → ((plan : List Area) → cs ≡ puts_kept t (room_of plan u))
    → (plan : List Area) → IsInOrder (room_of plan s) → cs ≡ puts (renewed since (room_of plan s))
makes_renewed since s t u e f cs g plan order =
    g plan
    ∙ (ap (λ n. puts_kept n (room_of plan u)) e
    ∙ (ap (λ x. puts_kept since (room_of plan x)) f ∙ left_makes since (room_of plan s) order))

pub if_ok : {T E : Type 0} (P Q : T → Type 0) (o : Result T E) → IfOk o P
    → ((x : T) → P x → Q x) → IfOk o Q
if_ok P Q (Ok x) h f = f x h
if_ok P Q (Err e) h f = tt
