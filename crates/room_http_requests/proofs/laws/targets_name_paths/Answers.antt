use Rattle.std.proofs.Common.{arith, refl}
use Rattle.matchit.proofs.OnLiterals.{matchit_on_literals}
use Rattle.room_http_requests.specs.Router.{table, with_path}
use Rattle.room_http_requests.specs.TargetExamples.{incident_names, other_names, search_names}
use Rattle.room_http_requests.specs.TargetExamples.{vehicle_names}
use Rattle.room_http_requests.specs.declared.request_table.TheConstants.{PATHS}
use Rattle.room_http_requests.proofs.WalkLemmas.{by_found, by_names, named, walk}
use Rattle.room_http_requests.proofs.laws.targets_name_paths.Goals as goal

pub returns-clause-listed : goal.returns-clause-listed
returns-clause-listed c = λ path. grind arith

pub returns-clause-found : goal.returns-clause-found
unfolding named walk table with_path matchit_on_literals
returns-clause-found c = by_found PATHS refl

pub returns-clause-incidents : goal.returns-clause-incidents
unfolding named walk table with_path matchit_on_literals
returns-clause-incidents c = by_names incident_names refl

pub returns-clause-vehicles : goal.returns-clause-vehicles
unfolding named walk table with_path matchit_on_literals
returns-clause-vehicles c = by_names vehicle_names refl

pub returns-clause-searches : goal.returns-clause-searches
unfolding named walk table with_path matchit_on_literals
returns-clause-searches c = by_names search_names refl

pub returns-clause-others : goal.returns-clause-others
unfolding named walk table with_path matchit_on_literals
returns-clause-others c = by_names other_names refl
