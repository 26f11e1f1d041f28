use Rattle.std.proofs.Common.{◌∙◌, sym}
use Rattle.dispatch_room_journal.proofs.EntryRecordLemmas.{entry_whole, not_foreign, not_part}
use Rattle.dispatch_room_journal.proofs.EntryRecordLemmas.{whole_entry}
use Rattle.dispatch_room_journal.proofs.whole_records.says_entry.Goals as goal

pub returns-in-Whole : goal.returns-in-Whole
returns-in-Whole c =
    let body = c.args.body.now in
    let none = sym c.is_no_entry.ensures ∙ c.if-is_no_entry.false in
    let is = c.in-Whole.ensures in (
      λ ends. whole_entry body c.in-Whole.layout is.0 is.1 (c.ends_with.ensures.0 ends),
      λ says. c.ends_with.ensures.1 (entry_whole body c.in-Whole.layout is.0 is.1 none says),
    )

pub returns-in-Part : goal.returns-in-Part
returns-in-Part c = not_part c.args.body.now c.in-Part.ensures (sym c.is_no_entry.ensures ∙ c.if-is_no_entry.false)

pub returns-in-Foreign : goal.returns-in-Foreign
returns-in-Foreign c =
    not_foreign c.args.body.now c.in-Foreign.ensures (sym c.is_no_entry.ensures ∙ c.if-is_no_entry.false)
