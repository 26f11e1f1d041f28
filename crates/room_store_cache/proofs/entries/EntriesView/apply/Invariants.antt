use Rattle.std.proofs.Common.{length, ◌≡◌}
use Rattle.std.specs.List.{AllWithin}
use Rattle.std.specs.Prelude.{All}
use Rattle.room_model.specs.Room.{IsInOrder, Room, apply_one}
use Rattle.room_store_cache.proofs.entries.EntriesView.apply.Given as goal

abbrev pub invariant-loop-at : goal.invariant-loop-at
invariant-loop-at g l = record {
  as_many : length l.self.kept.items ≡ l.at-end;
  made : (room : Room) → IsInOrder room → All (λ x. g.E.Entry.is_so x room) l.initial.self.kept.items
      → AllWithin (λ x. g.E.Entry.is_so x (apply_one room l.change)) l.self.kept.items 0 l.at;
  left : (room : Room) → All (λ x. g.E.Entry.is_so x room) l.initial.self.kept.items
      → AllWithin (λ x. g.E.Entry.is_so x room) l.self.kept.items l.at l.at-end;
}
