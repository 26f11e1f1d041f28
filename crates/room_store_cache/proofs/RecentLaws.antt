-- What a change does to the incidents that are known, and what a call is given of them.
use Rattle.std.proofs.Common.{Bool, Err, List, Ok, Result, ap, arith, cond, false, true, ℕ, ◌&&◌}
use Rattle.std.proofs.Common.{◌-◌, ◌∙◌, ◌≡◌, ◌≤◌}
use Rattle.std.proofs.lemmas.Bool.Decides.{nat_tests}
use Rattle.std.proofs.lemmas.Int.{ints}
use Rattle.std.specs.Prelude.{OnErr, OnOk, filter, int_le, nat_le, pos, ◌==◌}
use Rattle.std.specs.Result.{is_err}
use Rattle.room_types.specs.KeyedRows.{IsKeyed, drop_row, put_row}
use Rattle.room_types.specs.Keys.{incident_key, pair_cmp}
use Rattle.room_types.specs.KeyLemmas.{pairs_total}
use Rattle.room_types.specs.declared.asks.Ask.TheVariants.{Call}
use Rattle.room_types.specs.declared.asks.CallForm.{CallForm}
use Rattle.room_types.specs.declared.tables.Incident.{Incident}
use Rattle.room_model.proofs.Tests.{filter_filter, left_true, right_true}
use Rattle.room_model.specs.WorkingRows.{is_around, names_opening}
use Rattle.room_store_cache.proofs.KeptLaws.{pass_put}
use Rattle.room_store_cache.specs.RecentIncidents.{opened_since}

-- it is one of the division that the call may be linked to
abbrev pub may_have : ℕ → CallForm → ℕ → Incident → Bool
may_have d form at i = i.division == d && names_opening (Call form) at i

-- what is so where a call did not fail
pub where_ok : {T E P : Type 0} (r : Result T E) → is_err r ≡ false → OnOk r P → P
where_ok (Ok x) e p = p
where_ok (Err y) e p = absurd (cc)

-- and where it did
pub where_err : {T E P : Type 0} (r : Result T E) → is_err r ≡ true → OnErr r P → P
where_err (Ok x) e p = absurd (cc)
where_err (Err y) e p = p

-- one that was opened later is put in its key's place, and else that of its key is taken out
pub since_put : (from : ℕ) (x : Incident) (late : Bool) (known all : List Incident)
    → late ≡ nat_le from x.opened → IsKeyed pair_cmp incident_key all
    → known ≡ filter (opened_since from) all
    → cond late (put_row pair_cmp incident_key known x)
    (drop_row pair_cmp incident_key known (incident_key x))
    ≡ filter (opened_since from) (put_row pair_cmp incident_key all x)
since_put from x late known all is keyed e =
    let same : nat_le from x.opened ≡ opened_since from x = grind (arith, ints, nat_tests) in
    pass_put pair_cmp incident_key pairs_total (opened_since from) known all x late (is ∙ same) keyed e

-- what a call may be linked to was not opened before what is known
linked_since : (first at opened : ℕ) → first ≤ at - 900 → nat_le (at - opened) 900 ≡ true
    → int_le (pos first) (pos opened) ≡ true
linked_since first at opened before near = grind (arith, ints, nat_tests)

-- all that a call may be linked to is among those of a half hour and what was opened after it
pub known_near : (from : ℕ) (known all : List Incident) (d : ℕ) (form : CallForm) (at : ℕ)
    → from ≤ at - 900 → known ≡ filter (opened_since from) all
    → filter (may_have d form at) known ≡ filter (may_have d form at) all
known_near from known all d form at before are =
    ap (filter (may_have d form at)) are
    ∙ filter_filter (may_have d form at) (opened_since from) all
    (λ i yes.
    linked_since from at i.opened before
    (left_true _ (is_around i.place form.place) (right_true (i.division == d) _ yes)))
