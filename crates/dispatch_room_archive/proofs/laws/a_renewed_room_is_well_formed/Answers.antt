use Rattle.dispatch_room_archive.proofs.LeftBehind.{left_stays}
use Rattle.dispatch_room_archive.proofs.RenewedAgreements.{well_formed_without}
use Rattle.dispatch_room_archive.specs.Successor.{left_behind}
use Rattle.dispatch_room_archive.proofs.laws.a_renewed_room_is_well_formed.Goals as goal

pub returns-clause-room : goal.returns-clause-room
returns-clause-room g since r w = well_formed_without since (left_behind since r) r w (left_stays since r w)

pub returns-clause-terminals : goal.returns-clause-terminals
returns-clause-terminals g since r ts fit =
    record { keyed = fit.keyed; has_crew = fit.has_crew; one_crew = fit.one_crew; crews = fit.crews; desks = fit.desks }
