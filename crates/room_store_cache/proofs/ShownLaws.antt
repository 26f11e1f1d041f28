-- Which incidents a list has, and what it keeps of them.
use Rattle.std.proofs.Common.{Bool, List, None, Option, Some, ap, false, is_some, refl, sym, true}
use Rattle.std.proofs.Common.{ℕ, ◌&&◌, ◌∙◌, ◌≡◌, ◌||◌}
use Rattle.std.proofs.lemmas.Bool.{eq-eqb}
use Rattle.std.specs.Prelude.{filter, ◌==◌}
use Rattle.room_types.proofs.KeyedLaws.{row_filter}
use Rattle.room_types.specs.KeyedRows.{IsKeyed, keep, row_at}
use Rattle.room_types.specs.Codes.{is_active}
use Rattle.room_types.specs.Keys.{incident_key, owns_call, owns_incident, owns_turn, pair_cmp}
use Rattle.room_types.specs.KeyLemmas.{exact_pair, pairs_total}
use Rattle.room_types.specs.declared.asks.Ask.TheVariants as ask
use Rattle.room_types.specs.declared.tables.Incident.{Incident}
use Rattle.room_model.proofs.Tests.{row_key}
use Rattle.room_model.specs.Queries.{incident_of}
use Rattle.room_model.specs.Room.{IsInOrder, Room}
use Rattle.room_model.specs.WorkingRows.{reads_incident, reads_number, working}
use Rattle.room_store_cache.specs.ShownLists.{is_among}
use Rattle.room_store_cache.proofs.Filters.{filter_as, filter_owned, or_none}
use Rattle.room_store_cache.proofs.QueueReads.{kept_alike}

module _ (d : ℕ) (reads : Incident → Bool) (xs : List Incident)
    (keyed : IsKeyed pair_cmp incident_key xs) (n : ℕ) where
  -- the row of a key is that of its division and number
  pub key_is : (i : Incident) → row_at pair_cmp incident_key xs (d, n) ≡ Some i
      → (d, n) ≡ incident_key i
  key_is i e = row_key pair_cmp incident_key pairs_total exact_pair xs (d, n) i e

  own_row : (found : Option Incident) → row_at pair_cmp incident_key xs (d, n) ≡ found
      → is_some (keep (λ i. i.division == d && reads i) found) ≡ is_some (keep reads found)
  own_row None e = refl
  own_row (Some i) e =
      let own : (i.division == d) ≡ true = eq-eqb i.division d (ap (λ k. k.0) (sym (key_is i e))) in
      rw own refl

  -- an incident of the division that is read is among those that are
  pub among_read : is_among d (filter (λ i. i.division == d && reads i) xs) n
      ≡ is_some (keep reads (row_at pair_cmp incident_key xs (d, n)))
  among_read = ap is_some (row_filter pair_cmp incident_key pairs_total _ xs (d, n) keyed) ∙ own_row _ refl

module _ (d at : ℕ) (room : Room) (in_order : IsInOrder room) (incidents : List Incident)
    (are : incidents ≡ filter (owns_incident d) (working d ask.Incidents at room).incidents) where
  -- a list has what it shows
  list_shows : (n : ℕ) → is_among d incidents n ≡ reads_number d ask.Incidents room n
  unfolding incident_of
  list_shows n =
      ap (λ is. is_among d is n) (are ∙ filter_owned (owns_incident d) (reads_incident ask.Incidents at) room.incidents)
      ∙ among_read d (reads_incident ask.Incidents at) room.incidents in_order.incidents n
      ∙ kept_alike (reads_incident ask.Incidents at) (λ i. is_active i.state) (λ i. or_none (is_active i.state))
      (incident_of d n room)
      ∙ sym (or_none _)

  pub list_calls : filter (owns_call d) (working d ask.Incidents at room).calls
      ≡ filter (λ c. c.division == d && is_among d incidents c.incident) room.calls
  list_calls =
      filter_owned (owns_call d) (λ c. reads_number d ask.Incidents room c.incident) room.calls
      ∙ filter_as _ _ room.calls (λ c. ap (λ b. (c.division == d) && b) (sym (list_shows c.incident)))

  pub list_turns : filter (owns_turn d) (working d ask.Incidents at room).turns
      ≡ filter (λ t. t.division == d && is_among d incidents t.incident) room.turns
  list_turns =
      filter_owned (owns_turn d) (λ t. reads_number d ask.Incidents room t.incident || false) room.turns
      ∙ filter_as _ _ room.turns (λ t. ap (λ b. (t.division == d) && b) (or_none _ ∙ sym (list_shows t.incident)))
