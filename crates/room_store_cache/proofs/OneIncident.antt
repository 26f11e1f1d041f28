-- What a request reads of one incident, where it reads its turns.
use Rattle.std.proofs.Common.{Bool, None, Option, Some, ap, cond, eqb-true, false, is_some, refl}
use Rattle.std.proofs.Common.{sym, true, ℕ, ◌&&◌, ◌∙◌, ◌≡◌, ◌||◌}
use Rattle.std.proofs.lemmas.Bool.{eq-eqb}
use Rattle.std.specs.Prelude.{filter, ◌==◌}
use Rattle.room_types.specs.Codes.{is_active}
use Rattle.room_types.specs.Keys.{incident_key, pair_cmp}
use Rattle.room_types.specs.KeyLemmas.{exact_pair, pairs_total}
use Rattle.room_types.specs.declared.asks.Ask.{Ask}
use Rattle.room_types.specs.declared.tables.Incident.{Incident}
use Rattle.room_types.specs.declared.tables.Turn.{Turn}
use Rattle.room_types.proofs.KeyedLaws.{row_filter}
use Rattle.room_types.specs.KeyedRows.{IsKeyed, keep, row_at}
use Rattle.room_model.proofs.Tests.{both_true, or_left, row_key}
use Rattle.room_model.specs.Queries.{incident_of}
use Rattle.room_model.specs.Room.{Room}
use Rattle.room_model.specs.WorkingRows.{names_incident, names_opening, names_turn, reads_active}
use Rattle.room_model.specs.WorkingRows.{reads_incident, reads_number, working}
use Rattle.room_store_cache.proofs.QueueReads.{passes}
use Rattle.room_store_cache.proofs.Filters.{and_none, filter_and, filter_as, or_assoc}

-- an active incident that is shown, or a named one, is read
read_here : (i : Incident) (own shown active named opened : Bool) → own ≡ true
    → (shown && is_some (cond active (Some i) None)) || named ≡ true
    → own && ((shown && active) || (named || opened)) ≡ true
read_here i own shown active named opened e h =
    both_true own _ e (or_assoc (shown && active) named opened
    ∙ or_left ((shown && active) || named) opened (ap (λ b. (shown && b) || named) (sym (passes active i)) ∙ h))

its_own : (own same reads names : Bool) → (same ≡ true → reads ≡ true)
    → (own && (reads || names)) && same ≡ same && own
its_own true true reads names h = ap (λ b. (b || names) && true) (h refl)
its_own true false reads names h = and_none (reads || names)
its_own false true reads names h = refl
its_own false false reads names h = refl

module _ (a : Ask) (n d at : ℕ) (room : Room) (read : reads_number d a room n ≡ true) where
  row_read : (found : Option Incident)
      → row_at pair_cmp incident_key room.incidents (d, n) ≡ found
      → keep (λ i. i.division == d && reads_incident a at i) found ≡ found
  unfolding incident_of
  row_read None e = refl
  row_read (Some i) e =
      let key : (d, n)
      ≡ incident_key i = row_key pair_cmp incident_key pairs_total exact_pair room.incidents (d, n) i e in
      let number : n ≡ i.number = ap (λ k. k.1) key in
      let own : (i.division == d) ≡ true = eq-eqb i.division d (ap (λ k. k.0) (sym key)) in
      rw (read_here i (i.division == d) (reads_active a) (is_active i.state) (names_incident a i.number)
      (names_opening a at i) own (rw (e, number) at read)) refl

  -- it reads the division's incident of this number
  pub incident_read : IsKeyed pair_cmp incident_key room.incidents
      → row_at pair_cmp incident_key (working d a at room).incidents (d, n)
      ≡ row_at pair_cmp incident_key room.incidents (d, n)
  incident_read keyed = row_filter pair_cmp incident_key pairs_total _ room.incidents (d, n) keyed ∙ row_read _ refl

  its_turn : (t : Turn)
      → ((t.division == d) && (reads_number d a room t.incident || names_turn d a room t))
      && (t.incident == n) ≡ (t.incident == n) && (t.division == d)
  its_turn t =
      its_own (t.division == d) (t.incident == n) (reads_number d a room t.incident) (names_turn d a room t)
      (λ same. ap (reads_number d a room) (eqb-true t.incident n same) ∙ read)

  -- and all its turns
  pub turns_read : filter (λ t. t.incident == n) (working d a at room).turns
      ≡ filter (λ t. t.incident == n && t.division == d) room.turns
  turns_read = sym (filter_and _ (λ t. t.incident == n) room.turns) ∙ filter_as _ _ room.turns its_turn
