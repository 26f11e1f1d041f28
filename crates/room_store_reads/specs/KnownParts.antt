-- What is known of the incidents that a request reads.
use Rattle.std.specs.Prelude.{Bool, List, filter, map, not, ℕ, ◌&&◌, ◌==◌, ◌≡◌}
use Rattle.room_types.specs.declared.tables.Incident.{Incident}
use Rattle.room_model.specs.Room.{Room}
use Rattle.room_store_cache.specs.IncidentNumbers.{contains}
use Rattle.room_store_cache.specs.ShownLists.{has, is_among}
use Rattle.room_store_cache.specs.declared.shown_lists.ShownList.{ShownList}
use Rattle.room_store_reads.specs.RequestReads.{reads_turns}
use Rattle.room_store_reads.specs.declared.known_parts.KnownPart.{KnownPart}
use Rattle.room_store_reads.specs.declared.request_reads.Reads.{Reads}

-- of some incidents of the division, the calls and turns that the list keeps, calls only where they
-- are read, and the numbers of those that it hasn't
pub record IsKeptPart (x : ShownList) (is_read : Bool) (incidents : List Incident)
    (part : KnownPart) : Type 0 where
  pub calls : part.calls
      ≡ filter (λ c. is_read && is_among x.division incidents c.incident) x.calls
  pub turns : part.turns ≡ filter (λ t. is_among x.division incidents t.incident) x.turns
  pub numbers : part.numbers.items
      ≡ map (λ i. i.number) (filter (λ i. not (has x i.number)) incidents)

-- of the incidents that are known, the calls and turns that are read, and the others' numbers
pub record IsKnownPart (d : ℕ) (x : Reads) (room : Room) (known : ℕ → Bool) (part : KnownPart) :
    Type 0 where
  pub calls : part.calls ≡ filter
      (λ c. c.division == d
      && (x.calls && (known c.incident && reads_turns d x.incidents room c.incident)))
      room.calls
  pub turns : part.turns ≡ filter
      (λ t. t.division == d && (known t.incident && reads_turns d x.incidents room t.incident))
      room.turns
  pub numbers : (n : ℕ) → contains n part.numbers.items
      ≡ not (known n) && reads_turns d x.incidents room n
