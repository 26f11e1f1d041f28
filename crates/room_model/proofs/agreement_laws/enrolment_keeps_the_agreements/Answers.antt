use Rattle.room_model.proofs.EnrolLaws.{enrolled_kept, terminals_kept}
use Rattle.room_model.proofs.agreement_laws.enrolment_keeps_the_agreements.Goals as goal

pub returns-clause-room : goal.returns-clause-room
returns-clause-room g r ts row w = enrolled_kept r ts row w

pub returns-clause-terminals : goal.returns-clause-terminals
returns-clause-terminals g r ts row are = terminals_kept r ts row are
