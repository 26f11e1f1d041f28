use Rattle.std.proofs.Common.{◌≡◌, ◌∙◌, false, Ok, Some}
use Rattle.room_http_messages.proofs.StreamLemmas.{Keeps-trans}
use Rattle.dispatch_room_journal.specs.EntryReadings.{SaysOf, end_of}
use Rattle.dispatch_room_journal.proofs.ReadingLemmas.{same_text, part_fits, ends, first_found}
use Rattle.dispatch_room_journal.proofs.entry_reader.read_entry.Goals as goal

pub returns-in-Whole-clause-read : goal.returns-in-Whole-clause-read
returns-in-Whole-clause-read g c =
    let r = c.looks.reader in
    let says : SaysOf c.looks.inbox.kept (g.R.Source.has_failed r) (g.R.Source.has_ended r) (g.R.Source.left r)
    (Ok (Some c.in-Whole.layout)) =
    (rw c.bytes.ensures.value at c.in-Whole.ensures, c.looks.invariant.sound) in
    record {
      same = c.looks.invariant.same;
      says = says;
      first =
          first_found _ _ _ _ (g.R.Source.has_failed r) (g.R.Source.has_ended r) (Ok (Some c.in-Whole.layout))
          c.looks.invariant.same says;
    }

pub fill-requires : goal.fill-requires
fill-requires g c = part_fits c.looks.inbox.kept (rw c.bytes.ensures.value at c.in-Part.ensures)

pub returns-in-Ok-eq0-clause-read : goal.returns-in-Ok-eq0-clause-read
returns-in-Ok-eq0-clause-read g c =
    let filled = c.in-Ok-eq0.ensures.read in
    let bytes = filled.bytes in
    let end = bytes.4 c.in-Ok-eq0.field-0-test in
    let r = c.fill.new.reader in
    let same = Keeps-trans _ _ _ c.looks.invariant.same
    (same_text _ _ c.looks.inbox.kept bytes.0 c.fill.new.self.kept bytes.2 bytes.3) in
    let sound : g.R.Source.has_failed r ≡ false = rw c.looks.invariant.sound at filled.failed in
    let says : SaysOf c.fill.new.self.kept (g.R.Source.has_failed r) (g.R.Source.has_ended r) (g.R.Source.left r)
    (end_of c.fill.new.self.kept) =
    ends c.looks.inbox.kept c.fill.new.self.kept bytes.0 _ _ _ (bytes.1 ∙ c.in-Ok-eq0.field-0-test) bytes.2
    (rw c.bytes.ensures.value at c.in-Part.ensures) sound end.0 end.1 in
    rw (c.end_of.ensures, c.bytes-in-Ok-eq0.ensures.value)
    (record {
      same = same;
      says = says;
      first =
          first_found _ _ _ _ (g.R.Source.has_failed r) (g.R.Source.has_ended r) (end_of c.fill.new.self.kept) same
          says;
    })
