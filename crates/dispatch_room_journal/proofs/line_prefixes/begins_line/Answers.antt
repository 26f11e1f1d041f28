use Rattle.std.proofs.Common.{◌⊎◌, inl, inr, IsTrue, codes}
use Rattle.std.proofs.lemmas.Bool.{false≢true}
use Rattle.room_model.specs.declared.digests.Version.{Version}
use Rattle.room_model.specs.declared.digests.Version.TheVariants.{First, Second}
use Rattle.dispatch_room_journal.specs.declared.entry_lines.TheConstants.{LEAST_STATUS}
use Rattle.dispatch_room_journal.specs.declared.entry_lines.TheConstants.{GREATEST_STATUS}
use Rattle.dispatch_room_journal.specs.Entries.{IsDigest, head_words}
use Rattle.dispatch_room_journal.specs.TextParts.{BeginsOne, After, AreNumbers, IsNumber}
use Rattle.dispatch_room_journal.proofs.PartLemmas.{line_of_room, line_of_message, line_of_answer}
use Rattle.dispatch_room_journal.proofs.PartLemmas.{line_cases}
use Rattle.dispatch_room_journal.proofs.line_prefixes.begins_line.Goals as goal

pub returns-then-begins_room : goal.returns-then-begins_room
returns-then-begins_room c =
    (λ is. line_of_room First c.args.bytes.now (c.begins_room.ensures.0 is), λ _. c.if-begins_room.true)

pub returns-then-begins_room-2 : goal.returns-then-begins_room-2
returns-then-begins_room-2 c = (
  λ is. line_of_room Second c.args.bytes.now (c.begins_room-else-begins_room.ensures.0 is),
  λ _. c.if-begins_room-2.true,
)

pub returns-then-begins_message : goal.returns-then-begins_message
returns-then-begins_message c =
    (λ is. line_of_message c.args.bytes.now (c.begins_message.ensures.0 is), λ _. c.if-begins_message.true)

pub returns-else-begins_message : goal.returns-else-begins_message
returns-else-begins_message c =
    (λ is. line_of_answer c.args.bytes.now (c.begins_answer.ensures.0 is), λ has. go (line_cases c.args.bytes.now has))
  where
    go : ((version : Version) × BeginsOne (After (head_words version) IsDigest) c.args.bytes.now)
        ⊎ (BeginsOne (After (codes "message ") AreNumbers) c.args.bytes.now
        ⊎ BeginsOne (After (codes "answer ") (IsNumber LEAST_STATUS GREATEST_STATUS)) c.args.bytes.now)
        → IsTrue c.begins_answer.result
    go (inl (First, is_room)) = absurd (false≢true (c.if-begins_room.ensures.1 is_room))
    go (inl (Second, is_room)) = absurd (false≢true (c.if-begins_room-2.ensures.1 is_room))
    go (inr (inl is_message)) = absurd (false≢true (c.if-begins_message.ensures.1 is_message))
    go (inr (inr is_answer)) = c.begins_answer.ensures.1 is_answer
