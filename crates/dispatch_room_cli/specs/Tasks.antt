-- What a command line asks for.
use Rattle.std.specs.Prelude.{⊤, ℕ, List, Option, None, Some}
use Rattle.dispatch_room_cli.specs.Addresses.{IsLoopback}
use Rattle.dispatch_room_cli.specs.declared.tasks.Service.{Service}
use Rattle.dispatch_room_cli.specs.declared.tasks.Task.{Task}
use Rattle.dispatch_room_cli.specs.declared.tasks.Task.TheVariants.{Board, Check, Digest, Import}
use Rattle.dispatch_room_cli.specs.declared.tasks.Task.TheVariants.{Init, JoinedTimes, Migrate}
use Rattle.dispatch_room_cli.specs.declared.tasks.Task.TheVariants.{Renew, Replan, Replay, Restore}
use Rattle.dispatch_room_cli.specs.declared.tasks.Task.TheVariants.{Serve, SetTerminals, Terminals}
use Rattle.dispatch_room_cli.specs.declared.tasks.Task.TheVariants.{Times, Verify}

-- the path of the room's file, where the task has one
abbrev pub file_of : Task → Option (List ℕ)
file_of (Init file plan) = Some file.now
file_of (Import file fleet list) = Some file.now
file_of (Migrate file) = Some file.now
file_of (Check file) = Some file.now
file_of (Digest file) = Some file.now
file_of (Restore copy file) = Some file.now
file_of (Serve file service) = Some file.now
file_of (Replay file replay) = Some file.now
file_of (Renew file new since) = Some file.now
file_of (Times file division day) = Some file.now
file_of (JoinedTimes file older division day) = Some file.now
file_of (Terminals file wanted list) = Some file.now
file_of (SetTerminals file csv list) = Some file.now
file_of (Replan file plan list) = Some file.now
file_of (Board look) = None
file_of (Verify list) = None

-- a room is served at an address of this machine only
abbrev pub IsHere : Service → Type 0
IsHere service = IsLoopback service.address

-- whatever is served, is served so
abbrev pub IsServedHere : Task → Type 0
IsServedHere (Serve file service) = IsHere service
IsServedHere other = ⊤
