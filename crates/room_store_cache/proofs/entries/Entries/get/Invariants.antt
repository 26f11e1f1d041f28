use Rattle.std.specs.List.{AllWithin}
use Rattle.std.specs.Prelude.{◌≢◌}
use Rattle.room_store_cache.proofs.entries.Entries.get.Given as goal

abbrev pub invariant-loop-entry : goal.invariant-loop-entry
invariant-loop-entry g l = AllWithin (λ x. g.E.Entry.key_of x ≢ l.key) l.self.kept.items 0 l.entry-index
