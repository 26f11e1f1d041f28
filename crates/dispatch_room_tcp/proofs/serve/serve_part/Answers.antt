use Rattle.std.proofs.Common.{ap, is_some, ◌∙◌, ◌≡◌}
use Rattle.dispatch_room_serving.specs.ListPlaces.{has_left}
use Rattle.dispatch_room_tcp.proofs.PartLemmas.{printed_to_end, where_failed}
use Rattle.dispatch_room_tcp.proofs.serve.serve_part.Goals as goal

pub returns-clause-served : goal.returns-clause-served
returns-clause-served g c =
    let kept : is_some c.observer_of-log_and_journal.result.journal
    ≡ is_some c.args.list = c.observer_of-log_and_journal.ensures.journal.kept in
    record {
      journal = c.observer_of-log_and_journal.result.journal;
      later = c.serve_in.new.journal_observer.journal;
      last = c.end_part-done.new.log_and_journal.journal;
      observed = c.observer_of-log_and_journal.ensures.journal;
      served = _;
      ends = rw (← c.is_some-has_journal.ensures) c.end_part-done.ensures.part;
      has_left = has_left c.serve_in.new.part.place;
      found = _;
      once =
          λ once.
          c.standing-left.ensures.unlooked
          (c.serve_in.ensures.none
          (c.place_of.ensures.unlooked (ap (λ it. it.renews) c.limits_of-limits.ensures ∙ once)));
      ended = rw (← c.is_some-has_journal.ensures) c.end_part-done.ensures.ended;
      cut = λ is. let cut = c.end_part-done.ensures.cut is in (cut.0, ap (λ it. it.journal) cut.1);
      is =
          rw (kept, c.observer_of-log_and_journal.ensures.fresh, c.limits_of-limits.ensures)
          at c.in_ok-done.ensures.served;
    }

pub returns-clause-prints : goal.returns-clause-prints
returns-clause-prints g c =
    printed_to_end _ _ _ _ _ c.end_part-done.ensures.part c.in_ok-done.ensures.prints

pub returns-in_err-done-clause-unopened : goal.returns-in_err-done-clause-unopened
returns-in_err-done-clause-unopened g c =
    where_failed c.from_residual.result _ (ap g.P.Callers.prints c.in_err-done.ensures.unheard.0)
