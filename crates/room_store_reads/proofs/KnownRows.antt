-- Of the rows that are read, those that are known, and the others.
use Rattle.std.proofs.Common.{Bool, List, None, Option, Some, ap, cond, false, is_some, map, not}
use Rattle.std.proofs.Common.{refl, sym, true, ℕ, ◌&&◌, ◌∙◌, ◌≡◌, ◌||◌}
use Rattle.std.specs.Prelude.{filter, ◌==◌}
use Rattle.room_types.specs.KeyedRows.{IsKeyed, keep, row_at}
use Rattle.room_types.specs.Keys.{incident_key, pair_cmp}
use Rattle.room_types.specs.declared.asks.Ask.{Ask}
use Rattle.room_types.specs.declared.asks.Ask.TheVariants as ask
use Rattle.room_types.specs.declared.tables.Incident.{Incident}
use Rattle.room_model.specs.WorkingRows.{reads_active, reads_calls}
use Rattle.room_store_cache.specs.IncidentNumbers.{contains}
use Rattle.room_store_cache.proofs.Filters.{filter_and, filter_as}
use Rattle.room_store_cache.proofs.QueueReads.{number_of, numbers_of}
use Rattle.room_store_cache.proofs.ShownLaws.{key_is}

and_assoc : (a b c : Bool) → (a && b) && c ≡ a && (b && c)
and_assoc true b c = refl
and_assoc false b c = refl

and_not : (b : Bool) → false ≡ not b && false
and_not true = refl
and_not false = refl

passes_unless : (passes fails : Bool) (i : Incident)
    → is_some (cond (passes && not fails) (Some i) None)
    ≡ not fails && is_some (cond passes (Some i) None)
passes_unless true true i = refl
passes_unless true false i = refl
passes_unless false true i = refl
passes_unless false false i = refl

module _ (d : ℕ) (reads : Incident → Bool) (xs : List Incident)
    (keyed : IsKeyed pair_cmp incident_key xs) (n : ℕ) (shown : ℕ → Bool) where
  unless_shown : (found : Option Incident) → row_at pair_cmp incident_key xs (d, n) ≡ found
      → is_some (keep (λ i. reads i && not (shown i.number)) found)
      ≡ not (shown n) && is_some (keep reads found)
  unless_shown None e = and_not (shown n)
  unless_shown (Some i) e = passes_unless (reads i) (shown i.number) i
      ∙ ap (λ m. not (shown m) && is_some (cond (reads i) (Some i) None))
      (ap (λ k. k.1) (sym (key_is d reads xs keyed n i e)))

  -- the numbers of those that were not shown
  pub numbers_unless : contains n (map number_of (filter (λ i. not (shown i.number))
      (filter (λ i. i.division == d && reads i) xs)))
      ≡ not (shown n) && is_some (keep reads (row_at pair_cmp incident_key xs (d, n)))
  numbers_unless =
      ap (λ is. contains n (map number_of is)) (sym (filter_and _ _ xs)
      ∙ filter_as _ _ xs (λ i. and_assoc (i.division == d) (reads i) (not (shown i.number))))
      ∙ numbers_of d (λ i. reads i && not (shown i.number)) xs n keyed
      ∙ unless_shown _ refl

-- only a list reads the calls of what is active
pub list_only : (a : Ask) → reads_active a ≡ true → reads_calls a ≡ true → a ≡ ask.Incidents
list_only ask.Incidents h g = refl
list_only ask.Queue h g = cc
list_only a h g = cc

pub first_known : (own is_read known reads : Bool)
    → (own && known) && (is_read && reads) ≡ own && (is_read && (known && reads))
first_known true true known reads = refl
first_known true false true reads = refl
first_known true false false reads = refl
first_known false is_read known reads = refl

pub then_read : (own known reads : Bool)
    → (own && known) && reads ≡ own && (known && reads)
then_read own known reads = and_assoc own known reads

pub known_or_not : (own known reads : Bool)
    → (own && (known && reads)) || (own && (not known && reads)) ≡ own && reads
known_or_not true true true = refl
known_or_not true true false = refl
known_or_not true false reads = refl
known_or_not false known reads = refl

pub own_or : (own b c : Bool) → (own && b) || (own && c) ≡ own && (b || c)
own_or true b c = refl
own_or false b c = refl

pub read_or_not : (own is_read known reads : Bool)
    → (own && (is_read && (known && reads))) || (own && (is_read && (not known && reads)))
    ≡ own && (is_read && reads)
read_or_not own true known reads = known_or_not own known reads
read_or_not true false known reads = refl
read_or_not false false known reads = refl
