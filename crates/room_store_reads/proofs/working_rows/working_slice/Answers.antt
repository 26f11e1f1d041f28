use Rattle.room_store_reads.proofs.working_rows.working_slice.Goals as goal

pub returns-in-Some-clause-rows : goal.returns-in-Some-clause-rows
returns-in-Some-clause-rows c room ask at in_order are selects beside =
    let parts = c.in_ok-parts.ensures room ask at in_order are selects in
    rw c.in-Some.ensures.rows.1 (λ i. record {
      plan = room.plan;
      divisions = parts.divisions i;
      incidents = beside.incidents i;
      calls = beside.calls i;
      vehicles = parts.vehicles i;
      turns = beside.turns i;
      assignments = parts.assignments i;
      points = parts.points i;
      loans = parts.loans i;
      offers = parts.offers i;
      reports = beside.reports i;
    })
