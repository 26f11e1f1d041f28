use Rattle.room_model.proofs.StatusLaws.{assignments_by_status, status_shows_assignments}
use Rattle.room_model.proofs.StatusLaws.{status_shows_turns, turns_by_status}
use Rattle.room_model.proofs.agreement_laws.the_status_shows_who_is_sent.Goals as goal

pub returns-clause-room : goal.returns-clause-room
returns-clause-room g r w = (status_shows_turns r w.order w.turns, status_shows_assignments r w.order w.assignments)

pub returns-clause-turns : goal.returns-clause-turns
returns-clause-turns g r order = turns_by_status r order

pub returns-clause-assignments : goal.returns-clause-assignments
returns-clause-assignments g r order = assignments_by_status r order
