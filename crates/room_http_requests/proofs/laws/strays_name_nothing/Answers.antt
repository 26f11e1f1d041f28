use Rattle.std.proofs.Common.{refl}
use Rattle.matchit.proofs.OnLiterals.{matchit_on_literals}
use Rattle.room_http_requests.specs.Router.{table, with_path}
use Rattle.room_http_requests.specs.TargetExamples.{stray_days, stray_incidents, stray_metres}
use Rattle.room_http_requests.specs.TargetExamples.{stray_numbers, stray_paths, stray_points}
use Rattle.room_http_requests.specs.TargetExamples.{stray_searches, stray_vehicles}
use Rattle.room_http_requests.proofs.WalkLemmas.{by_nothing, named, walk}
use Rattle.room_http_requests.proofs.laws.strays_name_nothing.Goals as goal

pub returns-clause-paths : goal.returns-clause-paths
unfolding named walk table with_path matchit_on_literals
returns-clause-paths c = by_nothing stray_paths refl

pub returns-clause-incidents : goal.returns-clause-incidents
unfolding named walk table with_path matchit_on_literals
returns-clause-incidents c = by_nothing stray_incidents refl

pub returns-clause-numbers : goal.returns-clause-numbers
unfolding named walk table with_path matchit_on_literals
returns-clause-numbers c = by_nothing stray_numbers refl

pub returns-clause-vehicles : goal.returns-clause-vehicles
unfolding named walk table with_path matchit_on_literals
returns-clause-vehicles c = by_nothing stray_vehicles refl

pub returns-clause-points : goal.returns-clause-points
unfolding named walk table with_path matchit_on_literals
returns-clause-points c = by_nothing stray_points refl

pub returns-clause-days : goal.returns-clause-days
unfolding named walk table with_path matchit_on_literals
returns-clause-days c = by_nothing stray_days refl

pub returns-clause-searches : goal.returns-clause-searches
unfolding named walk table with_path matchit_on_literals
returns-clause-searches c = by_nothing stray_searches refl

pub returns-clause-metres : goal.returns-clause-metres
unfolding named walk table with_path matchit_on_literals
returns-clause-metres c = by_nothing stray_metres refl
