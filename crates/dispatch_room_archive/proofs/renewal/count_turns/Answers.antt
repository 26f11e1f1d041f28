use Rattle.std.proofs.Common.{rules, tests}
use Rattle.std.proofs.lemmas.Iterator.{YieldsList-from_slice}
use Rattle.std.proofs.lemmas.Iterator.Consumers.{YieldsList-from_filter, count_from_yields_List}
use Rattle.dispatch_room_archive.specs.Renewal.{puts_turn}
use Rattle.dispatch_room_archive.proofs.renewal.count_turns.Goals as goal

pub returns : goal.returns
returns c =
    count_from_yields_List c.filter.result _ c.count.ensures.ran
    (YieldsList-from_filter _ puts_turn (YieldsList-from_slice c.args.changes.now cc) c.filter.ensures.closure
    (λ x b q k. search (rules, tests)))
