-- A row that is found by a key has it, and is the division's.
use Rattle.std.proofs.Common.{List, Some, ap, subst, sym, true, ℕ, ◌≡◌}
use Rattle.std.specs.Prelude.{IfSome}
use Rattle.std.specs.List.{list_all}
use Rattle.room_types.proofs.EachRow.{row_key}
use Rattle.room_types.specs.KeyedRows.{row_at}
use Rattle.room_types.specs.Keys.{incident_key, owns_incident, pair_cmp}
use Rattle.room_types.proofs.ShareLaws.{share_agrees}
use Rattle.room_types.specs.KeyLemmas.{exact_pair, pairs_total}
use Rattle.room_types.specs.Slices.{is_share}
use Rattle.room_types.specs.declared.slices.DivisionRows.{DivisionRows}
use Rattle.room_types.specs.declared.tables.Incident.{Incident}

found_key : (xs : List Incident) (d n : ℕ) (i : Incident)
    → Some i ≡ row_at pair_cmp incident_key xs (d, n) → incident_key i ≡ (d, n)
found_key xs d n i e =
    subst (λ o. IfSome o (λ x. incident_key x ≡ (d, n))) (sym e)
    (row_key pair_cmp incident_key pairs_total exact_pair xs (d, n))

pub found_division : (xs : List Incident) (d n : ℕ) (i : Incident)
    → Some i ≡ row_at pair_cmp incident_key xs (d, n) → i.division ≡ d
found_division xs d n i e = ap (λ (k : ℕ × ℕ). k.0) (found_key xs d n i e)

pub found_number : (xs : List Incident) (d n : ℕ) (i : Incident)
    → Some i ≡ row_at pair_cmp incident_key xs (d, n) → i.number ≡ n
found_number xs d n i e = ap (λ (k : ℕ × ℕ). k.1) (found_key xs d n i e)

-- a slice's incidents are its division's
pub owned_incidents : (d : ℕ) (s : DivisionRows) → is_share d s ≡ true
    → list_all (owns_incident d) s.incidents ≡ true
owned_incidents d s agrees = (share_agrees d s agrees).owned.incidents
