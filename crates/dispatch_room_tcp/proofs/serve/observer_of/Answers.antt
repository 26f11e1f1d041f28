use Rattle.std.proofs.Common.{ap, is_some, ◌∙◌}
use Rattle.dispatch_room_tcp.proofs.serve.observer_of.Goals as goal

pub returns-clause-journal : goal.returns-clause-journal
returns-clause-journal g c =
    let journal = c.new.ensures.journal in
    record {
      kept = ap (λ it. is_some it) journal ∙ c.journal_of-journal.ensures.kept;
      synced = rw journal c.journal_of-journal.ensures.synced;
      of = rw journal c.journal_of-journal.ensures.of;
      goes_on = rw journal c.journal_of-journal.ensures.goes_on;
    }
