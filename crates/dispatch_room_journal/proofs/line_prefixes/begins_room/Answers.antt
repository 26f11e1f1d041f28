use Rattle.std.proofs.Common.{replicate, Some, None}
use Rattle.std.proofs.lemmas.Bool.Decides.{Decides-eqb}
use Rattle.std.proofs.lemmas.Slice.Eq.{strip_prefix_is}
use Rattle.dispatch_room_journal.specs.declared.entry_lines.TheConstants.{DIGEST_DIGITS}
use Rattle.dispatch_room_journal.specs.Entries.{IsDigest}
use Rattle.dispatch_room_journal.proofs.PartLemmas.{word_some, word_none, zeros_are_digest}
use Rattle.dispatch_room_journal.proofs.line_prefixes.begins_room.Goals as goal

pub returns-in-Some : goal.returns-in-Some
returns-in-Some c =
    let words = c.head_words-words.result.now in
    rw c.head_words-words.ensures at
    (word_some words IsDigest c.args.bytes.now c.in-Some.digits.now c.begins_digest.result
    (strip_prefix_is Decides-eqb c.args.bytes.now words (Some c.in-Some.digits) c.in-Some.ensures.cases)
    c.begins_digest.ensures)

pub returns-in-None : goal.returns-in-None
returns-in-None c =
    let words = c.head_words-words.result.now in
    rw c.head_words-words.ensures at
    (word_none words IsDigest c.args.bytes.now c.starts_with.result (replicate DIGEST_DIGITS 48) zeros_are_digest
    (strip_prefix_is Decides-eqb c.args.bytes.now words None c.in-None.ensures.cases) c.starts_with.ensures.value)
