use Rattle.std.proofs.Common.{take}
use Rattle.std.specs.Fmt.{HasWritten, IsPlainFormatter}
use Rattle.dispatch_room_serving.specs.LogLines.{visible}
use Rattle.dispatch_room_serving.proofs.log_lines.VisibleDisplay.fmt.Given as goal

abbrev pub invariant-loop-byte : goal.invariant-loop-byte
invariant-loop-byte g l =
    IsPlainFormatter l.initial.f
    → HasWritten g.W.Write.write_str_gives l.initial.f (visible (take l.byte-index l.byte-items)) l.f
