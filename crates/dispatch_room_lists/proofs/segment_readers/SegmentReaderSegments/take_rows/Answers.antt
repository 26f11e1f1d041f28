use Rattle.std.proofs.Common.{IfOk, ap, subst}
use Rattle.dispatch_room_lists.proofs.LegLemmas.{takes_behind}
use Rattle.dispatch_room_lists.specs.ReplayedLegs.{TakesBehind}
use Rattle.dispatch_room_lists.proofs.segment_readers.SegmentReaderSegments.take_rows.Goals as goal

pub returns-clause-taken : goal.returns-clause-taken
returns-clause-taken g c =
    let taken = c.take_rows-taken.ensures in
    let rows = c.take_rows-taken.new.rows.items in
    subst
    (λ old. IfOk c.take_rows-taken.result
    (TakesBehind g.R.Source.left old c.take_rows-taken.new.self c.args.rows.now.items rows))
    c.self.view_is
    (takes_behind g.R.Source.left c.self.inside.list c.take_rows-taken.new.self c.args.rows.now.items rows
    c.take_rows-taken.result
    (λ no. let is = taken.unread no in (
      is.0,
      (ap (λ list. list.reader) is.1, ap (λ list. list.cursor) is.1),
      ap (λ rows. rows.items) is.2,
    ))
    (λ some. let is = taken.given some in (
      is.0,
      (ap (λ list. list.reader) is.1, ap (λ list. list.cursor) is.1),
      ap (λ rows. rows.items) is.2,
    ))
    (λ ended none. (taken.taken ended none).1))
