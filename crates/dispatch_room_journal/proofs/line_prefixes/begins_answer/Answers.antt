use Rattle.std.proofs.Common.{codes, decimal, Some, None}
use Rattle.std.proofs.lemmas.Bool.Decides.{Decides-eqb}
use Rattle.std.proofs.lemmas.Slice.Eq.{strip_prefix_is}
use Rattle.dispatch_room_journal.specs.declared.entry_lines.TheConstants.{LEAST_STATUS}
use Rattle.dispatch_room_journal.specs.declared.entry_lines.TheConstants.{GREATEST_STATUS}
use Rattle.dispatch_room_journal.specs.TextParts.{IsNumber}
use Rattle.dispatch_room_journal.proofs.PartLemmas.{word_some, word_none, least_status}
use Rattle.dispatch_room_journal.proofs.line_prefixes.begins_answer.Goals as goal

pub returns-in-Some : goal.returns-in-Some
returns-in-Some c =
    word_some (codes "answer ") (IsNumber LEAST_STATUS GREATEST_STATUS) c.args.bytes.now c.in-Some.digits.now
    c.begins_status.result
    (strip_prefix_is Decides-eqb c.args.bytes.now (codes "answer ") (Some c.in-Some.digits) c.in-Some.ensures.cases)
    c.begins_status.ensures

pub returns-in-None : goal.returns-in-None
returns-in-None c =
    word_none (codes "answer ") (IsNumber LEAST_STATUS GREATEST_STATUS) c.args.bytes.now c.starts_with.result
    (decimal LEAST_STATUS) least_status
    (strip_prefix_is Decides-eqb c.args.bytes.now (codes "answer ") None c.in-None.ensures.cases)
    c.starts_with.ensures.value
