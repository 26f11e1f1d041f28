use Rattle.std.proofs.Common.{◌∙◌, ap, length}
use Rattle.dispatch_room_journal.proofs.WritingLemmas.{WritesAll-cut}
use Rattle.dispatch_room_journal.specs.Chains.{header}
use Rattle.dispatch_room_journal.proofs.RecordLemmas.{wrote, wrote_cut}
use Rattle.dispatch_room_journal.proofs.record_writer.put_record.Goals as goal

pub returns-in-Ok-clause-written : goal.returns-in-Ok-clause-written
returns-in-Ok-clause-written g c =
    let body = c.args.body.now in
    let line = c.as_slice.ensures.value ∙ c.header_of-header.ensures
    ∙ ap (header (length body)) c.check_after-next.ensures in
    wrote _ _ _ _ _ _ _ body _ line c.in-Ok.ensures c.write_all-in-Ok.ensures

pub returns-in-Err-clause-written : goal.returns-in-Err-clause-written
returns-in-Err-clause-written g c =
    let body = c.args.body.now in
    let line = c.as_slice.ensures.value ∙ c.header_of-header.ensures
    ∙ ap (header (length body)) c.check_after-next.ensures in
    wrote_cut _ _ _ _ _ _ body _ line (WritesAll-cut _ _ _ _ c.as_slice.result.now body _ c.in-Err.ensures)
