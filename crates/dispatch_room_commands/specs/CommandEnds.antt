-- How a command ends: what its words are to the program, and what it has shown.
use Rattle.std.specs.Prelude.{Bool, Err, List, Ok, Option, Result, false, true, ℕ, ⊤, ◌⊎◌, ◌≡◌}
use Rattle.clap.specs.declared.error.ErrorKind.{ErrorKind}
use Rattle.clap.specs.declared.error.ErrorKind.TheVariants as kind
use Rattle.dispatch_room_board.specs.declared.boards.Reached.{Reached}
use Rattle.dispatch_room_board.specs.declared.boards.Reached.TheVariants as reached
use Rattle.dispatch_room_exit.specs.declared.exit_status.Done.{Done}
use Rattle.dispatch_room_exit.specs.declared.exit_status.Done.TheVariants.{InPart, Whole}
use Rattle.dispatch_room_exit.specs.declared.exit_status.Failure.{Failure}
use Rattle.dispatch_room_exit.specs.declared.exit_status.Failure.TheVariants.{Memory, Network}

-- the words have a mistake: they don't ask for help, and memory was not refused
abbrev pub is_mistake : ErrorKind → Bool
is_mistake kind.DisplayHelp = false
is_mistake kind.DisplayVersion = false
is_mistake kind.OutOfMemory = false
is_mistake other = true

-- what comes of help that is asked for: it is written, unless the output or memory fails
abbrev pub IsHelpDone : ErrorKind → Result Done Failure → Type 0
IsHelpDone kind.OutOfMemory done = done ≡ Err Memory
IsHelpDone other done = (done ≡ Ok Whole) ⊎ (done ≡ Err Network)

-- the exit status of words that are no command: 2 exactly where they have a mistake, else that of
-- help
abbrev pub IsWordsStatus : ErrorKind → ℕ → Type 0
IsWordsStatus kind.OutOfMemory status = status ≡ 5
IsWordsStatus kind.DisplayHelp status = (status ≡ 0) ⊎ (status ≡ 4)
IsWordsStatus kind.DisplayVersion status = (status ≡ 0) ⊎ (status ≡ 4)
IsWordsStatus other status = status ≡ 2

-- what is written for words that are no command: nothing, except help that is asked for
abbrev pub IsWordsOutput : ErrorKind → Option (List ℕ) → Option (List ℕ) → Type 0
IsWordsOutput kind.DisplayHelp before after = ⊤
IsWordsOutput kind.DisplayVersion before after = ⊤
IsWordsOutput other before after = after ≡ before

-- how a board ends: refused parts count as refused rows do, and parts that were not reached as a
-- failure of the network
abbrev pub end_of_board : Reached → Result Done Failure
end_of_board reached.All = Ok Whole
end_of_board reached.AllButRefused = Ok InPart
end_of_board reached.Less = Err Network
