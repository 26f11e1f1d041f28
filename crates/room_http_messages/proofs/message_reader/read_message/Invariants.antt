use Rattle.std.proofs.Common.{◌≡◌, ◌≤◌, ◌<◌, ℕ, List, ◌++◌, length, false}
use Rattle.room_http_messages.specs.declared.limits.TheConstants.{INBOX_ROOM}
use Rattle.room_http_messages.specs.Messages.{IsPart}
use Rattle.room_http_messages.specs.Streams.{Reads}
use Rattle.room_http_messages.proofs.message_reader.read_message.Given as goal

abbrev pub invariant-looks : goal.invariant-looks
invariant-looks g l = record {
  read : Reads g.R.Source.left g.R.Source.reads l.fn.reader l.reader l.fn.inbox l.inbox l.fn.budget l.budget;
  sound : g.R.Source.has_failed l.reader ≡ false;
}

abbrev pub decreases-looks : goal.decreases-looks
decreases-looks g l = l.budget

-- until a read was made more is wanted
abbrev pub invariant-reads : goal.invariant-reads
invariant-reads g l = record {
  read : Reads g.R.Source.left g.R.Source.reads l.fn.reader l.reader l.fn.inbox l.inbox l.fn.budget l.budget;
  sound : g.R.Source.has_failed l.reader ≡ false;
  room : l.wanted ≤ INBOX_ROOM;
  part : (more : List ℕ) → length (l.inbox ++ more) < l.wanted → IsPart (l.inbox ++ more);
  spent : l.budget ≤ l.initial.budget;
  begun : l.budget ≡ l.initial.budget → length l.inbox < l.wanted;
}

abbrev pub decreases-reads : goal.decreases-reads
decreases-reads g l = l.budget
