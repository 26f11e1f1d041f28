use Rattle.std.proofs.Common.{arith}
use Rattle.sqlite.specs.Held.{state}
use Rattle.sqlite.specs.State.{HasCleanDisk}
use Rattle.room_tables_rows.proofs.Version.{all_meta_begins, shows_version, version_shown}
use Rattle.room_tables_schema.proofs.ReadLaws.{fails, looked, succeeds}
use Rattle.room_tables.proofs.meta_table.is_of_version.Goals as goal

pub select-requires : goal.select-requires
select-requires g c clean = (all_meta_begins _ (c.requires clean)).plain

pub returns-clause-version : goal.returns-clause-version
returns-clause-version g c clean =
    let old = state g.S.Store c.args.conn.now in
    let early : HasCleanDisk old = omega (arith, c.select.ensures.reads.survives.clean) in
    let shows = c.in_ok-shown.ensures.shown clean in
    let stated = rw c.as_slice.ensures.value at c.one_shows.ensures in (
      λ yes. version_shown old _ _ (c.requires early) shows c.args.version (stated.0 yes),
      λ is. stated.1 (shows_version old _ _ (c.requires early) shows c.args.version is),
    )

pub returns-clause-why : goal.returns-clause-why
returns-clause-why g c clean = tt

pub returns-clause-reads : goal.returns-clause-reads
returns-clause-reads g c = succeeds (looked c.in_ok-shown.ensures.reads)

pub returns-in_err-shown-clause-reads : goal.returns-in_err-shown-clause-reads
returns-in_err-shown-clause-reads g c = fails c.from_residual.ensures.0 c.in_err-shown.ensures.reads
