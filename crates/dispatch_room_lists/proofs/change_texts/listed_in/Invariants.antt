use Rattle.std.proofs.Common.{length}
use Rattle.dispatch_room_lists.proofs.TerminalTextLemmas.{HasRead}
use Rattle.dispatch_room_lists.proofs.change_texts.listed_in.Given as goal
use denote.Shadow.{shadow}
use denote.Text.{Utf8}

abbrev pub invariant-loop-line : goal.invariant-loop-line
invariant-loop-line l =
    record { is_text : shadow (Utf8 l.rest); reads : HasRead l.lines l.rest l.listed.items }

abbrev pub decreases-loop-line : goal.decreases-loop-line
decreases-loop-line l = length l.rest
