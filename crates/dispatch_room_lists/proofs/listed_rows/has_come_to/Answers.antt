use Rattle.std.proofs.Common.{refl}
use Rattle.dispatch_room_lists.proofs.DueLemmas.{found}
use Rattle.dispatch_room_journal.proofs.FaultLemmas.{not_both}
use Rattle.dispatch_room_lists.proofs.listed_rows.has_come_to.Goals as goal

pub returns-then-not-is_changed-clause-goes : goal.returns-then-not-is_changed-clause-goes
returns-then-not-is_changed-clause-goes g c = record { ready = c.requires.ready; zone = refl; trusted = λ clean. clean }

pub returns-then-not-is_changed-clause-stays : goal.returns-then-not-is_changed-clause-stays
returns-then-not-is_changed-clause-stays g c =
    record { clean = λ clean. clean; same = λ clean terminals room is. is }

pub returns-then-not-is_changed-clause-found : goal.returns-then-not-is_changed-clause-found
returns-then-not-is_changed-clause-found g c = record {
  met = λ clean yes. absurd (cc);
  unmet = λ clean no changed. absurd (not_both _ c.if-not-is_changed.true changed);
}

pub returns-clause-goes : goal.returns-clause-goes
returns-clause-goes g c =
    record { ready = c.is_at.ensures.ready; zone = c.is_at.ensures.zone; trusted = c.is_at.ensures.trusted }

pub returns-clause-stays : goal.returns-clause-stays
returns-clause-stays g c = record { clean = c.is_at.ensures.trusted; same = c.is_at.ensures.same }

pub returns-clause-found : goal.returns-clause-found
returns-clause-found g c = found g.S.Store _ _ c.args.head.now _ c.is_at.result c.is_at.ensures.says

pub returns-clause-unavailable : goal.returns-clause-unavailable
returns-clause-unavailable g c = c.is_at.ensures.unavailable
