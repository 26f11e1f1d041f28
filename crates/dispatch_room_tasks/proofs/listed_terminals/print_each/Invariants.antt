use Rattle.std.proofs.Common.{take}
use Rattle.std.specs.Io.KnownBytes.{Appends}
use Rattle.dispatch_room_tasks.specs.ListedTerminals.{lines_text}
use Rattle.dispatch_room_tasks.proofs.listed_terminals.print_each.Given as goal

abbrev pub invariant-loop-one : goal.invariant-loop-one
invariant-loop-one g l =
    Appends (g.O.Write.contents l.fn.out) (g.O.Write.contents l.out) (lines_text (take l.one-index l.listed))
