use Rattle.std.specs.Prelude.{refl}
use Rattle.room_model.proofs.OfferLaws.{after_alike, cross_alike, decided_alike, entries_alike}
use Rattle.room_model.proofs.first_version_laws.the_rest_needs_no_offers.Goals as goal

pub returns-clause-decision : goal.returns-clause-decision
returns-clause-decision g e r other = decided_alike e r other

pub returns-clause-afterwards : goal.returns-clause-afterwards
returns-clause-afterwards g e r other = after_alike e r other

pub returns-clause-crossing : goal.returns-clause-crossing
returns-clause-crossing g d e r other = cross_alike d e r other

pub returns-clause-share : goal.returns-clause-share
returns-clause-share g d r = refl

pub returns-clause-vehicle : goal.returns-clause-vehicle
returns-clause-vehicle g c r = refl

pub returns-clause-queue : goal.returns-clause-queue
returns-clause-queue g d at r = entries_alike d at r
