use Rattle.room_model.proofs.OfferLaws.{no_accept, no_decline, no_withdrawal, none_shown}
use Rattle.room_model.proofs.first_version_laws.no_offer_is_found.Goals as goal

pub returns-clause-accept : goal.returns-clause-accept
returns-clause-accept g d at c r none = no_accept d at c r none

pub returns-clause-decline : goal.returns-clause-decline
returns-clause-decline g d at c r none = no_decline d at c r none

pub returns-clause-withdraw : goal.returns-clause-withdraw
returns-clause-withdraw g d at c r none = no_withdrawal d at c r none

pub returns-clause-shown : goal.returns-clause-shown
returns-clause-shown g d at r none = none_shown d at r none
