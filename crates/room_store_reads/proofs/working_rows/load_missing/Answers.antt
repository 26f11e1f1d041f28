use Rattle.std.proofs.Common.{ap, not, subst, sym, ℕ, ◌&&◌, ◌∙◌, ◌≡◌, ◌||◌}
use Rattle.std.specs.Prelude.{filter, ◌==◌}
use Rattle.room_model.specs.WorkingRows.{reads_calls, reads_number, working}
use Rattle.room_tables_schema.proofs.ReadLaws.{and, but, clean_before, fails, lacks_memory, looked}
use Rattle.room_tables_schema.proofs.ReadLaws.{succeeds}
use Rattle.room_store_cache.specs.IncidentNumbers.{contains}
use Rattle.room_store_cache.proofs.Filters.{filter_as}
use Rattle.room_store_reads.proofs.KnownRows.{known_or_not, own_or, read_or_not}
use Rattle.room_store_cache.proofs.StillRooms.{still_open, still_room, still_stands}
use Rattle.room_store_reads.proofs.Selected.{calls_read, number_is, own_contains, report_is}
use Rattle.room_store_reads.specs.RequestReads.{AreCallsFor}
use Rattle.room_store_reads.proofs.working_rows.load_missing.Goals as goal

pub load_parts-requires-2 : goal.load_parts-requires-2
load_parts-requires-2 g c =
    let one = looked c.in_ok-calls.ensures.reads in
    record { room = still_room one c.requires.room; «open» = still_open one }

pub other_turns-requires : goal.other_turns-requires
other_turns-requires g c =
    let two = and (looked c.in_ok-calls.ensures.reads) c.in_ok-turns.ensures.reads in
    record { room = still_room two c.requires.room; «open» = still_open two }

pub load_reports-requires : goal.load_reports-requires
load_reports-requires g c =
    let three = and (and (looked c.in_ok-calls.ensures.reads) c.in_ok-turns.ensures.reads) c.in_ok-others.ensures.reads
    in record { room = still_room three c.requires.room; «open» = still_open three }

pub returns-clause-rows : goal.returns-clause-rows
returns-clause-rows g c clean config room h a at known in_order are selects part =
    let d = c.args.division in
    let one = looked c.in_ok-calls.ensures.reads in
    let two = and one c.in_ok-turns.ensures.reads in
    let three = and two c.in_ok-others.ensures.reads in
    let third = clean_before three c.in_ok-reports.ensures.reads clean in
    let second = clean_before two c.in_ok-others.ensures.reads third in
    let first = clean_before one c.in_ok-turns.ensures.reads second in
    let number = number_is selects room in
    let missing : (n : ℕ)
    → contains n c.args.part.numbers.items ≡ not (known n) && reads_number d a room n = λ n.
    part.numbers n ∙ (λ j. not (known n) && number n j) in
    let seen : (n : ℕ)
    → contains n c.as_slice.result.now ≡ not (known n) && reads_number d a room n =
    rw c.as_slice.ensures.value missing in
    let calls : c.in_ok-calls.calls ≡ (working d a at room).calls =
    c.in_ok-calls.ensures.rows first config room h _ are in_order.calls part.calls
    ∙ filter_as _ _ room.calls (λ x.
    let n = x.incident in
    let own = x.division == d in
    (λ j.
    own && (sym selects.calls j && (known n && number n j))
    || own_contains own n c.numbers_if-of_calls.result.now j)
    ∙ ap (λ b. own && (reads_calls a && (known n && reads_number d a room n)) || (own && b))
    (c.numbers_if-of_calls.ensures n ∙ (λ j. sym selects.calls j && seen n j))
    ∙ read_or_not own (reads_calls a) (known n) (reads_number d a room n)) in
    let turns : c.in_ok-turns.turns
    ≡ filter (λ t. (t.division == d) && reads_number d a room t.incident) room.turns =
    c.in_ok-turns.ensures.rows second config room (still_stands one first config room h) _ are
    in_order.turns part.turns
    ∙ filter_as _ _ room.turns (λ t.
    let n = t.incident in
    let own = t.division == d in
    let reads = reads_number d a room n in
    (λ j. own && (known n && number n j) || own_contains own n c.as_slice-2.result.now j)
    ∙ ap (λ b. own && (known n && reads) || (own && b)) (rw c.as_slice-2.ensures.value (missing n))
    ∙ known_or_not own (known n) reads) in
    let others = c.in_ok-others.ensures.rows third config room (still_stands two second config room h) in_order are
    (subst (AreCallsFor d c.args.reads.now.turns room) (sym calls)
    (calls_read d a at room c.args.reads.now.turns selects.history)) in
    record {
      calls = calls;
      turns = c.in_ok-add_all.ensures.either room.turns _ _ in_order.turns turns others
          ∙ filter_as _ _ room.turns (λ t.
          own_or (t.division == d) (reads_number d a room t.incident) _
          ∙ (λ j. (t.division == d) && (reads_number d a room t.incident || sym (selects.turn room t) j)));
      reports = c.in_ok-reports.ensures.rows clean config room (still_stands three third config room h) in_order are
          ∙ filter_as _ _ room.reports (λ y. ap (λ b. (y.division == d) && b) (report_is selects y));
    }

pub returns-in_err-calls-clause-reads : goal.returns-in_err-calls-clause-reads
returns-in_err-calls-clause-reads g c = fails c.from_residual.ensures.0 c.in_err-calls.ensures.reads

pub returns-in_err-turns-clause-reads : goal.returns-in_err-turns-clause-reads
returns-in_err-turns-clause-reads g c =
    but (looked c.in_ok-calls.ensures.reads) c.from_residual-in_err-turns.ensures.0 c.in_err-turns.ensures.reads

pub returns-in_err-others-clause-reads : goal.returns-in_err-others-clause-reads
returns-in_err-others-clause-reads g c =
    let two = and (looked c.in_ok-calls.ensures.reads) c.in_ok-turns.ensures.reads in
    but two c.from_residual-in_err-others.ensures.0 c.in_err-others.ensures.reads

pub returns-in_err-add_all-clause-reads : goal.returns-in_err-add_all-clause-reads
returns-in_err-add_all-clause-reads g c =
    let two = and (looked c.in_ok-calls.ensures.reads) c.in_ok-turns.ensures.reads in
    lacks_memory c.from_residual-in_err-add_all.ensures.0 (and two c.in_ok-others.ensures.reads)

pub returns-in_err-reports-clause-reads : goal.returns-in_err-reports-clause-reads
returns-in_err-reports-clause-reads g c =
    let three = and (and (looked c.in_ok-calls.ensures.reads) c.in_ok-turns.ensures.reads) c.in_ok-others.ensures.reads
    in but three c.from_residual-in_err-reports.ensures.0 c.in_err-reports.ensures.reads

pub returns-clause-reads : goal.returns-clause-reads
returns-clause-reads g c =
    let three = and (and (looked c.in_ok-calls.ensures.reads) c.in_ok-turns.ensures.reads) c.in_ok-others.ensures.reads
    in succeeds (and three c.in_ok-reports.ensures.reads)
