use Rattle.std.proofs.Common.{◌≡◌, [], take}
use Rattle.std.specs.List.{fold}
use Rattle.room_http_requests.specs.Router.{with_path}
use Rattle.room_http_requests.specs.declared.request_table.TheConstants.{PATHS}
use Rattle.room_http_requests.proofs.router.Routes.new.Given as goal

abbrev pub invariant-loop-path : goal.invariant-loop-path
invariant-loop-path l = l.router ≡ fold with_path [] (take l.path-index PATHS)
