use Rattle.std.proofs.Common.{ap}
use Rattle.room_model.specs.Decisions.{answer_of}
use Rattle.room_model.proofs.JobLaws.{job_of_none, job_shown}
use Rattle.room_model.proofs.crew_laws.a_job_is_of_the_order.Goals as goal

pub returns-clause-ordered : goal.returns-clause-ordered
returns-clause-ordered g c a r at formed ordered = job_shown c a r formed ordered

pub returns-clause-unordered : goal.returns-clause-unordered
returns-clause-unordered g c r at none = ap answer_of (job_of_none c r none)
