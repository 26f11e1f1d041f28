use Rattle.std.proofs.Common.{codes, decimal, ◌++◌, ◌∷◌, Some, None}
use Rattle.std.proofs.lemmas.Bool.Decides.{Decides-eqb}
use Rattle.std.proofs.lemmas.Slice.Eq.{strip_prefix_is}
use Rattle.dispatch_room_journal.specs.TextParts.{AreNumbers}
use Rattle.dispatch_room_journal.proofs.PartLemmas.{word_some, word_none, least_numbers}
use Rattle.dispatch_room_journal.proofs.line_prefixes.begins_message.Goals as goal

pub returns-in-Some : goal.returns-in-Some
returns-in-Some c =
    word_some (codes "message ") AreNumbers c.args.bytes.now c.in-Some.numbers.now c.begins_numbers.result
    (strip_prefix_is Decides-eqb c.args.bytes.now (codes "message ") (Some c.in-Some.numbers) c.in-Some.ensures.cases)
    c.begins_numbers.ensures

pub returns-in-None : goal.returns-in-None
returns-in-None c =
    word_none (codes "message ") AreNumbers c.args.bytes.now c.starts_with.result (decimal 0 ++ 32 ∷ decimal 1)
    least_numbers
    (strip_prefix_is Decides-eqb c.args.bytes.now (codes "message ") None c.in-None.ensures.cases)
    c.starts_with.ensures.value
