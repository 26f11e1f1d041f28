use Rattle.std.proofs.Common.{false, refl, true}
use Rattle.matchit.proofs.OnLiterals.{matchit_on_literals}
use Rattle.room_http_requests.specs.Router.{table, with_path}
use Rattle.room_http_requests.specs.TargetExamples.{class_requests, history_requests, requests}
use Rattle.room_http_requests.specs.TargetExamples.{search_requests}
use Rattle.room_http_requests.proofs.WalkLemmas.{by_routed, named, walk}
use Rattle.room_http_requests.proofs.laws.paths_take_methods.Goals as goal

pub returns-clause-plain : goal.returns-clause-plain
unfolding named walk table with_path matchit_on_literals
returns-clause-plain c = by_routed false requests refl

pub returns-clause-history : goal.returns-clause-history
unfolding named walk table with_path matchit_on_literals
returns-clause-history c = by_routed true history_requests refl

pub returns-clause-classes : goal.returns-clause-classes
unfolding named walk table with_path matchit_on_literals
returns-clause-classes c = by_routed true class_requests refl

pub returns-clause-searches : goal.returns-clause-searches
unfolding named walk table with_path matchit_on_literals
returns-clause-searches c = by_routed true search_requests refl
