use Rattle.std.proofs.Common.{flat_map, string_bytes, take, ◌≡◌}
use Rattle.dispatch_room_lists.specs.RoomChanges.{line_of, terminals_text}
use Rattle.dispatch_room_lists.proofs.change_texts.terminals_text.Given as goal

abbrev pub invariant-loop-terminal : goal.invariant-loop-terminal
invariant-loop-terminal l =
    string_bytes l.text ≡ terminals_text (flat_map line_of (take l.terminal-index l.listed))
