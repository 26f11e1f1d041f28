use Rattle.std.proofs.Common.{eq-eqb, refl}
use Rattle.room_model.proofs.ReportsApart.{report_by_share}
use Rattle.room_model.proofs.isolation_laws.new_reports_are_decided_by_the_holder.Goals as goal

pub returns : goal.returns
returns g c v p at r w new there = report_by_share v.holder r w c at p v new there (eq-eqb v.holder v.holder refl)
