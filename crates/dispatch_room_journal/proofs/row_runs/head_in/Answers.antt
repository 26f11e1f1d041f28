use Rattle.std.proofs.Common.{◌∙◌, sym}
use Rattle.std.proofs.lemmas.Bool.{false≢true}
use Rattle.dispatch_room_journal.proofs.EntryRecordLemmas.{foreign_head, is_head, longer_head}
use Rattle.dispatch_room_journal.proofs.EntryRecordLemmas.{other_head, part_head}
use Rattle.dispatch_room_journal.proofs.row_runs.head_in.Goals as goal

pub returns-then-not-ends_with : goal.returns-then-not-ends_with
returns-then-not-ends_with c =
    let is = c.in-Whole.ensures in
    longer_head c.args.body.now c.in-Whole.layout is.0 is.1
    (λ all. false≢true (sym c.if-not-ends_with.true ∙ c.ends_with.ensures.1 all))

pub returns-in-Room : goal.returns-in-Room
returns-in-Room c =
    let is = c.in-Whole.ensures in
    is_head c.args.body.now c.in-Whole.layout is.0 is.1 c.in-Room.head c.in-Room.is
    (c.ends_with.ensures.0 c.if-not-ends_with.false)

pub returns-in-Message : goal.returns-in-Message
returns-in-Message c =
    let is = c.in-Whole.ensures in
    other_head c.args.body.now c.in-Whole.layout is.0 is.1 (λ head line. cc (line, c.in-Message.is))

pub returns-in-Answer : goal.returns-in-Answer
returns-in-Answer c =
    let is = c.in-Whole.ensures in
    other_head c.args.body.now c.in-Whole.layout is.0 is.1 (λ head line. cc (line, c.in-Answer.is))

pub returns-in-Part : goal.returns-in-Part
returns-in-Part c = part_head c.args.body.now c.in-Part.ensures

pub returns-in-Foreign : goal.returns-in-Foreign
returns-in-Foreign c = foreign_head c.args.body.now c.in-Foreign.ensures
