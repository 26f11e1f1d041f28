-- The zone that was read is put with this version.
use Rattle.std.proofs.Common.{[], arith, subst, sym, ◌∷◌}
use Rattle.std.proofs.lemmas.Result.{IfOk-weaker}
use Rattle.sqlite.specs.Effect.{Database}
use Rattle.sqlite.specs.Held.{state}
use Rattle.sqlite.specs.State.{HasCleanDisk}
use Rattle.room_tables_schema.proofs.WriteLaws.{read_writes, unread}
use Rattle.room_tables_schema.specs.Schema.{meta_table}
use Rattle.room_tables_rows.specs.MetaSql.{version_row}
use Rattle.room_tables_rows.specs.RoomsInTables.{StandsFor}
use Rattle.room_tables.proofs.Inside.{read_raises}
use Rattle.room_tables.proofs.meta_table.update_version.Goals as goal

pub returns-clause-ok : goal.returns-clause-ok
returns-clause-ok g c clean =
    let old = state g.S.Store c.args.tx.now.conn.now in
    let mid = state g.S.Store c.zone.new.tx.conn.now in
    let read : HasCleanDisk mid = omega (arith, c.put_meta.ensures.writes.survives.clean) in
    let same = c.in_ok-zone.ensures.reads.ok read in
    let found = subst (λ zone. StandsFor old.now.trees meta_table (version_row 1) (zone ∷ []))
    (sym c.as_str.ensures.value) (c.in_ok-zone.ensures.found read) in
    let stated = subst (λ (db : Database). StandsFor db.trees meta_table (version_row 1) (c.as_str.result.now ∷ []))
    (sym same.0.now_is) found in
    IfOk-weaker c.put_meta.result _ _ (λ _ renews. read_raises old mid _ same (renews stated))
    (c.put_meta.ensures.renews clean)

pub returns-clause-writes : goal.returns-clause-writes
returns-clause-writes g c = read_writes c.in_ok-zone.ensures.reads c.put_meta.result c.put_meta.ensures.writes

pub returns-in_err-zone-clause-writes : goal.returns-in_err-zone-clause-writes
returns-in_err-zone-clause-writes g c = unread c.in_err-zone.ensures.reads
