use Rattle.std.proofs.Common.{map}
use Rattle.std.specs.String.{string_bytes}
use Rattle.dispatch_room_cli.proofs.ExplainLemmas.{IsNeither}
use Rattle.dispatch_room_cli.proofs.argument_parser.explains.Given as goal

abbrev pub invariant-loop-word : goal.invariant-loop-word
invariant-loop-word l = IsNeither (map string_bytes l.words) l.word-index
