use Rattle.std.proofs.Common.{arith, ◌∙◌, []}
use Rattle.std.proofs.lemmas.Result.{IfOk-weaker, IfErr-weaker}
use Rattle.sqlite.specs.Held.{state}
use Rattle.sqlite.specs.State.{HasCleanDisk}
use Rattle.room_tables_schema.proofs.Refusals.{plain_here}
use Rattle.room_tables_schema.specs.Schema.{room_schema}
use Rattle.room_tables_rows.specs.declared.area_sql.TheConstants.{ALL_AREAS}
use Rattle.room_tables_rows.proofs.AreasTable.{all_areas_means}
use Rattle.room_tables_rows.proofs.Starts.{areas_found, areas_are}
use Rattle.room_tables_schema.proofs.ReadLaws.{ends_inside, fails_inside}
use Rattle.room_tables.proofs.ReadFailures.{shown_fails}
use Rattle.room_tables.specs.Failures.{AreNoPlan}
use Rattle.room_tables.proofs.area_table.all_areas.Goals as goal

pub select_inside-requires : goal.select_inside-requires
select_inside-requires g c clean = plain_here room_schema _ ALL_AREAS.now (c.requires.room clean) all_areas_means.plain

pub returns-clause-areas : goal.returns-clause-areas
returns-clause-areas g c clean =
    let old = state g.S.Store c.args.tx.now.conn.now in
    let early : HasCleanDisk old = omega (arith, c.select_inside.ensures.reads.survives.clean) in
    IfOk-weaker c.areas_in.result _ _
    (λ areas is.
    areas_are areas.items old _ _ (c.requires.room early) (c.in_ok-shown.ensures.shown clean)
    (is ∙ c.as_slice.ensures.value)) c.areas_in.ensures.areas

pub returns-clause-found : goal.returns-clause-found
returns-clause-found g c clean =
    let old = state g.S.Store c.args.tx.now.conn.now in
    let early : HasCleanDisk old = omega (arith, c.select_inside.ensures.reads.survives.clean) in
    IfOk-weaker c.areas_in.result _ _
    (λ areas is.
    areas_found areas.items old _ _ (c.requires.room early) (c.in_ok-shown.ensures.shown clean)
    (is ∙ c.as_slice.ensures.value)) c.areas_in.ensures.areas

pub returns-clause-why : goal.returns-clause-why
returns-clause-why g c clean =
    IfErr-weaker c.areas_in.result _ _ (shown_fails ALL_AREAS.now [] (state g.S.Store c.args.tx.now.conn.now)
    (state g.S.Store c.select_inside.new.tx.conn.now) (AreNoPlan) c.in_ok-shown.shown.items
    (c.in_ok-shown.ensures.shown clean))
    (rw c.as_slice.ensures.value at c.areas_in.ensures.why)

pub returns-clause-reads : goal.returns-clause-reads
returns-clause-reads g c = ends_inside c.areas_in.result c.in_ok-shown.ensures.reads

pub returns-in_err-shown-clause-reads : goal.returns-in_err-shown-clause-reads
returns-in_err-shown-clause-reads g c = fails_inside c.from_residual.ensures.0 c.in_err-shown.ensures.reads
