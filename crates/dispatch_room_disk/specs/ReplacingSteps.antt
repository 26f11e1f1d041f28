-- The steps by which a copy of a room is put in the place of a file.
use Rattle.std.specs.Prelude.{ℕ, zero, suc, List, [], ◌∷◌, ◌++◌, ◌≡◌, Bool, true, false, map}
use Rattle.std.specs.Prelude.{Result, Ok, Err, codes}
use Rattle.dispatch_room_exit.specs.declared.exit_status.Failure.{Failure}
use Rattle.dispatch_room_exit.specs.declared.exit_status.Failure.TheVariants.{File}
use Rattle.dispatch_room_disk.specs.DiskFaults.{IsFileFault}
use Rattle.dispatch_room_disk.specs.declared.aside_names.Found.{Found}
use Rattle.dispatch_room_disk.specs.declared.aside_names.Found.TheVariants.{Copy, Nothing, Other}

-- A step, by the path of FILE. Beside it lie the files of its database, by the ends of their names,
-- and what was set aside, by the numbers of its names.
pub data Step : Type 0 where
  -- another file is not FILE itself
  distinguished : List ℕ → List ℕ → Step
  -- FILE is locked, where it is there
  held : List ℕ → Step
  -- whether FILE holds what another file holds, and nothing lies beside it but empty files
  compared : List ℕ → List ℕ → Bool → Step
  -- another file was copied whole to FILE.new
  copied : List ℕ → List ℕ → Step
  -- whether there is FILE, or a file of its database
  looked : List ℕ → Bool → Step
  -- whether the name of this number was free, and is that of an empty file now
  reserved : List ℕ → ℕ → Bool → Step
  -- FILE with this end was copied to the name of this number with it, where it was there
  kept : List ℕ → ℕ → List ℕ → Step
  -- FILE has the name of this number now, where it was there
  set_aside : List ℕ → ℕ → Step
  -- there is no FILE with this end any more
  removed : List ℕ → List ℕ → Step
  -- FILE.new is FILE now
  put : List ℕ → Step
  -- the names are on the disk
  synced : List ℕ → Step

-- a copy that is FILE itself is refused, and any other step fails as files do
abbrev pub IsFaultOf : Step → Failure → Type 0
IsFaultOf (distinguished copy path) fault = fault ≡ File
IsFaultOf other fault = IsFileFault fault

-- what a call answered, or would have, had it not failed
abbrev pub answered : {E : Type 0} → Result Bool E → Bool
answered (Ok is) = is
answered (Err error) = true

-- what SQLite appends to the name of its file for the files that it has beside it
abbrev pub ends : List (List ℕ)
ends = codes "-journal" ∷ codes "-wal" ∷ codes "-shm" ∷ []

-- the names of the first numbers were not free
abbrev pub taken : List ℕ → ℕ → List Step
taken path zero = []
taken path (suc number) = taken path number ++ reserved path number false ∷ []

-- the first name that is free is reserved
abbrev pub naming : List ℕ → ℕ → List Step
naming path number = taken path number ++ reserved path number true ∷ []

-- What lies beside FILE lies under that name before FILE gets it, and is removed once FILE has it:
-- so whoever finds FILE there finds its log, and the log never lies beside another file.
abbrev pub moving : List ℕ → ℕ → List Step
moving path number =
    map (kept path number) ends ++ synced path ∷ set_aside path number ∷ synced path
    ∷ map (removed path) ends ++ synced path ∷ []

-- what is there is set aside
abbrev pub setting_aside : List ℕ → Found → List Step
setting_aside path (Other number) = looked path true ∷ naming path number ++ moving path number
setting_aside path other = looked path false ∷ []

-- Where the copy's room is there already, its name is made to last. Else the copy is whole before
-- anything is set aside, and gets the name once all is.
abbrev pub putting : List ℕ → List ℕ → Found → List Step
putting copy path Copy = compared copy path true ∷ synced path ∷ []
putting copy path other =
    compared copy path false ∷ copied copy path
    ∷ setting_aside path other ++ put path ∷ synced path ∷ []

-- none is put in the place of itself, or of a file that is served
abbrev pub replacing : List ℕ → List ℕ → Found → List Step
replacing copy path found = distinguished copy path ∷ held path ∷ putting copy path found
