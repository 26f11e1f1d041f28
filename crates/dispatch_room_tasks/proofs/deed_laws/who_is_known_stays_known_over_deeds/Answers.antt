use Rattle.dispatch_room_tasks.proofs.DeedLaws.{asker_lasts, fleet_lasts, lasts_after}
use Rattle.dispatch_room_tasks.proofs.deed_laws.who_is_known_stays_known_over_deeds.Goals as goal

pub returns : goal.returns
returns c = record {
  vehicle = λ c of deeds now is. lasts_after _ (fleet_lasts c of) deeds now is;
  asker = λ e deeds now is. lasts_after _ (asker_lasts e) deeds now is;
}
