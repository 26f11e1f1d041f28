use Rattle.std.proofs.Common.{◌≡◌, ◌∙◌, true, Some, None, refl, sym, is_lt}
use Rattle.room_tables_rows.proofs.Found.{put_last}
use Rattle.room_tables.specs.RowStreams.{last_of}
use Rattle.room_tables.proofs.Streams.{last_got, none_last}
use Rattle.room_tables.proofs.Unread.{next_or_not}
use Rattle.room_tables.proofs.row_streams.is_next.Goals as goal

pub returns-in-Some-clause-next : goal.returns-in-Some-clause-next
returns-in-Some-clause-next g c rows keyed is above_last =
    let above : is_lt (g.X.Key.Ord.cmp (g.X.Row.key_of c.in-Some.last.now) (g.X.Row.key_of c.args.row.now))
    ≡ true = cc in
    let last : Some c.in-Some.last.now ≡ last_of rows = cc in
    put_last g.X.Key.Ord.cmp g.X.Row.key_of g.met.X.Key.Ord.total rows c.args.row.now c.in-Some.last.now keyed
    (last ∙ sym (last_got rows)) above

pub returns-in-Some-clause-not : goal.returns-in-Some-clause-not
returns-in-Some-clause-not g c rows is =
    let stated : c.is_lt.result
    ≡ is_lt (g.X.Key.Ord.cmp (g.X.Row.key_of c.in-Some.last.now) (g.X.Row.key_of c.args.row.now)) = cc in
    let last : Some c.in-Some.last.now ≡ last_of rows = cc in
    next_or_not g.X.Key.Ord.cmp g.X.Row.key_of rows c.args.row.now c.in-Some.last.now _ c.is_lt.result stated
    (last ∙ sym (last_got rows))

pub returns-in-None-clause-next : goal.returns-in-None-clause-next
returns-in-None-clause-next g c rows keyed is _ = let none : None ≡ last_of rows = cc in rw (none_last rows none) refl
