-- What is reported of a room's file: how much the room has, or what is wrong.
use Rattle.std.specs.Io.KnownBytes.{Appends}
use Rattle.std.specs.Prelude.{Err, IsSome, List, Ok, Option, Result, codes, decimal, ℕ, ◌++◌, ◌≡◌}
use Rattle.std.specs.Prelude.{◌⊎◌}
use Rattle.jiff.specs.Words.{read_whole}
use Rattle.sqlite.specs.Held.{Held, state}
use Rattle.sqlite_trees.specs.declared.store.Store.{Ghosts}
use Rattle.room_place.specs.Plans.{Layout}
use Rattle.room_store_check_rows.specs.declared.summaries.Summary.{Summary}
use Rattle.room_store_file.specs.ExaminedFile.{ExplainsFile, HasCause, IsSummaryOf}
use Rattle.room_store_file.specs.declared.examined_file.Wrong.{Wrong}
use Rattle.room_store_file.specs.declared.examined_file.Wrong.TheVariants as wrong
use Rattle.dispatch_room_exit.specs.declared.exit_status.Done.{Done}
use Rattle.dispatch_room_exit.specs.declared.exit_status.Done.TheVariants.{Whole}
use Rattle.dispatch_room_exit.specs.declared.exit_status.Failure.{Failure}
use Rattle.dispatch_room_exit.specs.declared.exit_status.Failure.TheVariants.{File, Memory, Network}
use Rattle.dispatch_room_exit.specs.declared.exit_status.Failure.TheVariants.{Storage, Version}
use Rattle.room_tables_schema.specs.FileConnections.{IsClean}
use Rattle.dispatch_room_archive.specs.FindingTexts.{wrong_text}

-- ---- how much a room has
abbrev pub plan_text : Summary → List ℕ
plan_text s =
    codes "version " ++ (decimal 2 ++ (codes "\nareas "
    ++ (decimal s.areas ++ (codes ", terminals " ++ (decimal s.terminals
    ++ (codes "\ndivisions " ++ (decimal s.divisions
    ++ (codes ", points " ++ (decimal s.points ++ codes "\n")))))))))

abbrev pub calls_text : Summary → List ℕ
calls_text s =
    codes "calls " ++ (decimal s.calls
    ++ (codes "\nincidents " ++ (decimal s.incidents
    ++ (codes ", active " ++ (decimal s.active_incidents ++ codes "\n")))))

abbrev pub fleet_text : Summary → List ℕ
fleet_text s =
    codes "vehicles " ++ (decimal s.vehicles ++ (codes ", assignments " ++ (decimal s.assignments
    ++ (codes "\nturns " ++ (decimal s.turns ++ (codes ", open " ++ (decimal s.open_turns
    ++ (codes "\nloans " ++ (decimal s.loans
    ++ (codes ", offers " ++ (decimal s.offers ++ codes "\n")))))))))))

abbrev pub reports_text : Summary → List ℕ
reports_text s =
    codes "reports " ++ (decimal s.reports ++ (codes ", uncleared " ++ (decimal s.uncleared
    ++ (codes "\nnewest moment " ++ (decimal s.newest ++ codes "\n")))))

abbrev pub summary_text : Summary → List ℕ
summary_text s = ((plan_text s ++ calls_text s) ++ fleet_text s) ++ reports_text s

-- how much some room has is written
abbrev pub PrintsSummary : Option (List ℕ) → Option (List ℕ) → Type 0
PrintsSummary before after = (summary : Summary) × Appends before after (summary_text summary)

-- It is written how much the room of the file has, and the zone of its plan is a rule.
pub record HasPrintedRoom {S : Type 0} (g : Ghosts S) (old new : Held S)
    (before after : Option (List ℕ)) : Type 0 where
  pub plan : Layout
  pub summary : Summary
  pub holds : IsClean g new → IsSummaryOf (state g old).now.trees plan summary
  pub rule : IsSome (read_whole plan.zone)
  pub text : Appends before after (summary_text summary)

-- ---- what is wrong
-- how a program fails by it
abbrev pub failure_of : Wrong → Failure
failure_of wrong.OldRoom = Version
failure_of wrong.Memory = Memory
failure_of wrong.Storage = Storage
failure_of other = File

-- this is wrong with the file; where it is storage, for a cause
pub record HasFault {S : Type 0} (g : Ghosts S) (old new : Held S)
    (failure : Failure) : Type 0 where
  pub wrong : Wrong
  pub failed : failure ≡ failure_of wrong
  pub explains : IsClean g new → ExplainsFile (state g old) (state g new) wrong
  pub why : IsClean g new → HasCause g old new wrong

-- the line of a plan whose zone is no rule
abbrev pub no_rule_text : List ℕ
no_rule_text = codes "its zone is no rule of a time zone\n"

-- a line of its words is written, or, where memory was refused, nothing
abbrev pub PrintsWrong : Option (List ℕ) → Option (List ℕ) → Wrong → Type 0
PrintsWrong before after x =
    Appends before after (wrong_text x ++ codes "\n") ⊎ ((x ≡ wrong.Memory) × (after ≡ before))

-- what is wrong with the file is what was written
pub record HasPrintedFault {S : Type 0} (g : Ghosts S) (old new : Held S)
    (before after : Option (List ℕ)) (failure : Failure) : Type 0 where
  pub fault : HasFault g old new failure
  pub text : PrintsWrong before after fault.wrong

-- or it holds a room whose days can't be reckoned, and that was written
pub record HasNoRule {S : Type 0} (g : Ghosts S) (old new : Held S)
    (before after : Option (List ℕ)) (failure : Failure) : Type 0 where
  pub failed : failure ≡ File
  pub plan : Layout
  pub summary : Summary
  pub holds : IsClean g new → IsSummaryOf (state g old).now.trees plan summary
  pub no_rule : ¬ IsSome (read_whole plan.zone)
  pub text : Appends before after no_rule_text

-- what came of looking at the file of a database, unless the output fails
abbrev pub HasChecked : {S : Type 0} → Ghosts S → Held S → Held S → Option (List ℕ)
    → Option (List ℕ) → Result Done Failure → Type 0
HasChecked g old new before after (Ok done) = (done ≡ Whole) × HasPrintedRoom g old new before after
HasChecked g old new before after (Err failure) =
    (failure ≡ Network) ⊎ (HasPrintedFault g old new before after failure
    ⊎ HasNoRule g old new before after failure)
