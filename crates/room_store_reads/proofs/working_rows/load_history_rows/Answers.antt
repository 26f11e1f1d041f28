use Rattle.std.proofs.Common.{subst, sym, ◌∙◌}
use Rattle.room_tables_schema.proofs.ReadLaws.{and, begins, but, clean_before, fails, looked}
use Rattle.room_tables_schema.proofs.ReadLaws.{succeeds}
use Rattle.room_store_cache.specs.HistoryRows.{AreHistoryRows}
use Rattle.room_store_cache.specs.Cache.{AreRowsOf}
use Rattle.room_store_cache.specs.RecentIncidents.{AreRecent}
use Rattle.room_store_cache.specs.declared.history_rows.HistoryRows.{HistoryRows}
use Rattle.room_store_cache.specs.declared.fleets.Fleet.{Fleet}
use Rattle.room_store_cache.proofs.StillRooms.{still_open, still_room, still_stands}
use Rattle.room_store_reads.specs.Partitions.{AreKnown}
use Rattle.room_store_reads.proofs.FleetReads.{are_of_fleet}
use Rattle.room_store_reads.proofs.Selected.{incidents_are}
use Rattle.room_store_reads.proofs.working_rows.load_history_rows.Goals as goal

pub load_work-requires : goal.load_work-requires
load_work-requires g c =
    let one = looked c.in_ok-incidents.ensures.reads in
    record { room = still_room one c.requires.room; «open» = still_open one }

pub returns-then-is_of_fleet-clause-rows : goal.returns-then-is_of_fleet-clause-rows
returns-then-is_of_fleet-clause-rows g c clean config room h a in_order are selects = (
  are_of_fleet c.args.division a c.args.at room _ c.args.reads.now c.no_rows.ensures selects
      (sym c.is_of_fleet.ensures ∙ c.if-is_of_fleet.true),
  are,
)

pub returns-then-is_of_fleet-clause-reads : goal.returns-then-is_of_fleet-clause-reads
returns-then-is_of_fleet-clause-reads g c = succeeds (begins c.requires.open)

pub returns-in_err-incidents-clause-reads : goal.returns-in_err-incidents-clause-reads
returns-in_err-incidents-clause-reads g c = fails c.from_residual.ensures.0 c.in_err-incidents.ensures.reads

pub returns-in_err-work-clause-reads : goal.returns-in_err-work-clause-reads
returns-in_err-work-clause-reads g c =
    but (looked c.in_ok-incidents.ensures.reads) c.from_residual-in_err-work.ensures.0 c.in_err-work.ensures.reads

pub returns-clause-rows : goal.returns-clause-rows
returns-clause-rows g c clean config room h a in_order are selects =
    let at = c.args.at in
    let one = looked c.in_ok-incidents.ensures.reads in
    let first = clean_before one c.in_ok-work.ensures.reads clean in
    let known : AreKnown c.load_incidents.new.cache room = subst (λ x. AreKnown x room)
    (sym c.in_ok-incidents.ensures.others) (record {
      rows = are.rows;
      queue_views = are.queue_views;
      incident_views = are.incident_views;
      recent_incidents = c.in_ok-incidents.ensures.recent_incidents first config room h are.recent_incidents;
      shown_lists = are.shown_lists;
    }) in
    let shown = c.in_ok-incidents.ensures.rows first config room h in_order are in
    let work = c.in_ok-work.ensures.rows clean config room (still_stands one first config room h) a at in_order known
    selects shown in
    let rows : HistoryRows = record {
      incidents = c.in_ok-incidents.incidents;
      calls = c.in_ok-work.work.calls;
      turns = c.in_ok-work.work.turns;
      reports = c.in_ok-work.work.reports;
    } in
    let beside : AreHistoryRows c.args.division a at room rows = record {
      incidents = shown ∙ incidents_are selects at room;
      calls = work.calls;
      turns = work.turns;
      reports = work.reports;
    } in (
      beside,
      record {
        rows = subst (λ (x : Fleet). AreRowsOf x.rows room) (sym c.fill_views.ensures.fleet) known.rows;
        queue_views = c.fill_views.ensures.queue_views room a at selects beside known.queue_views;
        incident_views = c.fill_views.ensures.incident_views room a at in_order selects beside known.incident_views;
        recent_incidents =
            subst (λ x. AreRecent x room) (sym c.fill_views.ensures.recent_incidents) known.recent_incidents;
        shown_lists = c.fill_views.ensures.shown_lists room a at in_order selects beside known.shown_lists;
      },
    )

pub returns-clause-reads : goal.returns-clause-reads
returns-clause-reads g c = succeeds (and (looked c.in_ok-incidents.ensures.reads) c.in_ok-work.ensures.reads)
