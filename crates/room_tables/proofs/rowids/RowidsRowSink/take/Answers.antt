use Rattle.std.proofs.Common.{◌≡◌, ◌∙◌, true, false, sym}
use Rattle.sqlite_trees.specs.Tree.{rowid}
use Rattle.room_tables.specs.Rowids.{integer_in}
use Rattle.room_tables.proofs.RowidLemmas.{ends, goes_on, is_at_most}
use Rattle.room_tables.proofs.rowids.RowidsRowSink.take.Goals.{then-le, else-le}
use Rattle.room_tables.proofs.rowids.RowidsRowSink.take.Goals as goal

pub returns : goal.returns
returns c first rows so_far rise none =
    let row = c.args.row.now in
    let now = c.args.self.now in
    let before = so_far rise none in
    rw c.rowid_of-id.ensures (elim c.if-le.branch [
      | then-le w ↦
          let down : is_at_most (integer_in (rowid row)) now.last
          ≡ true = rw c.rowid_of-id.ensures at (sym c.le.ensures ∙ w.if-le.true) in
          rw w.self-is (ends rows row now.rise now.last before down)
      | else-le w ↦
          let up : is_at_most (integer_in (rowid row)) now.last
          ≡ false = rw c.rowid_of-id.ensures at (sym c.le.ensures ∙ w.if-le.false) in
          rw w.self-is (goes_on rows row now.rise now.last before up)
    ])
