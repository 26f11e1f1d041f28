use Rattle.std.proofs.Common.{List, length, ℕ, ◌≡◌, false}
use Rattle.dispatch_room_changes.specs.KeptImports.{PutsRows}
use Rattle.dispatch_room_changes.proofs.LineLemmas.{AreTaken}
use Rattle.dispatch_room_changes.proofs.change_lists.keep_rows.Given as goal

abbrev pub invariant-lines : goal.invariant-lines
invariant-lines g l = record {
  sound : l.list.out.failed ≡ false;
  kept : (lines : List (List ℕ)) × AreTaken l.text l.left lines
      × PutsRows l.fn.list.end l.list.end (g.F.Write.contents l.fn.list.out.file) (g.F.Write.contents l.list.out.file)
      lines;
}

abbrev pub decreases-lines : goal.decreases-lines
decreases-lines g l = length l.left
