use Rattle.std.proofs.Common.{length, ◌≡◌}
use Rattle.std.specs.List.{AllWithin}
use Rattle.std.specs.Prelude.{◌≢◌}
use Rattle.room_store_cache.proofs.entries.Entries.put.Given as goal

abbrev pub invariant-loop-at : goal.invariant-loop-at
invariant-loop-at g l = record {
  as_many : length l.self.kept.items ≡ l.at-end;
  same : l.self ≡ l.initial.self;
  others : AllWithin (λ x. g.E.Entry.key_of x ≢ g.E.Entry.key_of l.entry) l.self.kept.items 0 l.at;
}
