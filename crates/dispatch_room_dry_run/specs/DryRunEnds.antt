-- How the dry run ends as a program.
use Rattle.std.specs.Prelude.{◌≡◌, ℕ, Bool, IfOk, Result, Ok, Err}
use Rattle.room_http.specs.Session.{Finish, Sides}
use Rattle.room_http.specs.declared.session.ServeEnd.{ServeEnd}
use Rattle.room_http.specs.declared.session.ServeEnd.TheVariants as end
use Rattle.room_types.specs.declared.refusal_statuses.Refusal.{Refusal}
use Rattle.dispatch_room_exit.specs.ExitStatus.{refused, status_after}
use Rattle.dispatch_room_dry_run.specs.Example.{IsDryRun}
use Rattle.dispatch_room_exit.specs.declared.exit_status.Done.{Done}
use Rattle.dispatch_room_exit.specs.declared.exit_status.Done.TheVariants.{Whole}
use Rattle.dispatch_room_exit.specs.declared.exit_status.Failure.{Failure}
use Rattle.dispatch_room_exit.specs.declared.exit_status.Failure.TheVariants.{Connection, Journal}
use Rattle.dispatch_room_exit.specs.declared.exit_status.Failure.TheVariants.{Memory, Network}

-- a program that serves one connection is done where it closed, and else fails
abbrev pub ended : ServeEnd → Result Done Failure
ended end.Closed = Ok Whole
ended end.Cut = Err Connection
ended end.ReadFault = Err Network
ended end.WriteFault = Err Network
ended end.ClockFault = Err Connection
ended end.ReadsSpent = Err Connection
ended end.Memory = Err Memory
ended end.JournalFailed = Err Journal

-- the same where no room could be made to serve
abbrev pub end_of : Result ServeEnd Refusal → Result Done Failure
end_of (Ok end) = ended end
end_of (Err refused_as) = Err (refused refused_as)

-- standard input and output were served so, or no room could be made to serve, and this is the exit
-- status by how that ended
pub record IsRun (status : ℕ) : Type 0 where
  pub old : Sides
  pub new : ℕ → Bool → Finish
  pub served : Result ServeEnd Refusal
  pub is : IfOk served (IsDryRun old new)
  pub exits : status ≡ status_after (end_of served)
