use Rattle.std.proofs.Common.{refl}
use Rattle.std.proofs.lemmas.Result.{on_ok_weaker}
use Rattle.dispatch_room_board.proofs.boards.put_all.Goals as goal

pub returns : goal.returns
returns c =
    on_ok_weaker c.put_table-5.result
    (λ loans heard colour empty. record {
      empty = c.args.renderer.now;
      is_empty = empty;
      head = c.put_moment.new.self;
      is_head = c.in_ok-put_moment.ensures;
      queue = c.put_queue.new.self;
      is_queue = c.in_ok-put_queue.ensures;
      incidents = c.put_table.new.self;
      is_incidents = c.in_ok-put_table.ensures;
      incident = c.put_incident.new.self;
      is_incident = c.in_ok-put_incident.ensures;
      vehicles = c.put_table-2.new.self;
      is_vehicles = c.in_ok-put_table-2.ensures;
      points = c.put_table-3.new.self;
      is_points = c.in_ok-put_table-3.ensures;
      offers = c.put_table-4.new.self;
      is_offers = c.in_ok-put_table-4.ensures;
      loans = c.put_table-5.new.self;
      is_loans = loans;
      page = refl;
      reached = refl;
    })
    c.put_table-5.ensures
