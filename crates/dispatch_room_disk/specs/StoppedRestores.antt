-- What becomes of the files beside a path wherever restores of one copy are stopped, however often.
use Rattle.std.specs.List.{AllByRecursion}
use Rattle.std.specs.Prelude.{◌≡◌, ◌≢◌, ◌⊎◌, ℕ, List, [], ◌∷◌, codes, Option, None, Some, true}
use Rattle.std.specs.Prelude.{false}
use Rattle.dispatch_room_disk.specs.ReplacingSteps.{Step, copied, ends, held, kept, looked, put}
use Rattle.dispatch_room_disk.specs.ReplacingSteps.{removed, replacing, reserved, set_aside}
use Rattle.dispatch_room_disk.specs.declared.aside_names.Found.{Found}

-- The copy; FILE with an end, or itself with none; FILE.new; and the name of a number for what is
-- set aside, with such an end.
pub data Name : Type 0 where
  copy : Name
  own : List ℕ → Name
  new : Name
  aside : ℕ → List ℕ → Name

-- what the file of each name holds, where there is one
abbrev pub Folder : Type 0
Folder = Name → Option (List ℕ)

-- what a file holds; one that is not there is as an empty one, beside a database
abbrev pub text : Option (List ℕ) → List ℕ
text None = []
text (Some bytes) = bytes

-- a file and those of its database
abbrev pub Each : (List ℕ → Type 0) → Type 0
Each P = AllByRecursion P ([] ∷ ends)

abbrev pub IsFree : ℕ → Folder → Type 0
IsFree number folder = Each (λ end. folder (aside number end) ≡ None)

-- no other file is made, changed or removed than that of this name
abbrev pub IsBut : Name → Folder → Folder → Type 0
IsBut name old now = (other : Name) → other ≢ name → now other ≡ old other

-- What a step makes of the files. A name is reserved by a call that fails where a file has it; a
-- rename replaces at most what had the new name.
abbrev pub Leads : Step → Folder → Folder → Type 0
Leads (held path) old now =
    IsBut (own (codes "-wal")) old now
    × (text (now (own (codes "-wal"))) ≡ text (old (own (codes "-wal"))))
Leads (copied from path) old now = IsBut new old now × (now new ≡ old copy)
Leads (looked path false) old now = (now ≡ old) × Each (λ end. old (own end) ≡ None)
Leads (reserved path number true) old now = IsFree number old × IsBut (aside number []) old now
Leads (kept path number end) old now =
    IsBut (aside number end) old now × (text (now (aside number end)) ≡ text (old (own end)))
Leads (set_aside path number) old now =
    (now (own []) ≡ None)
    × ((bytes : List ℕ) → old (own []) ≡ Some bytes → now (aside number []) ≡ Some bytes)
    × ((other : Name) → other ≢ own [] → other ≢ aside number [] → now other ≡ old other)
Leads (removed path end) old now = IsBut (own end) old now × (now (own end) ≡ None)
Leads (put path) old now =
    (now (own []) ≡ old new)
    × ((other : Name) → other ≢ own [] → other ≢ new → now other ≡ old other)
Leads other old now = now ≡ old

-- what a stop in a step may leave: a part of what it copies, and else nothing of it
abbrev pub Begins : Step → Folder → Folder → Type 0
Begins (held path) old now = Leads (held path) old now
Begins (copied from path) old now = IsBut new old now
Begins (kept path number end) old now = IsBut (aside number end) old now
Begins other old now = now ≡ old

-- steps were done one after another until a stop, before one of them, within it or behind the last
abbrev pub IsStopped : List Step → Folder → Folder → Type 0
IsStopped [] old now = now ≡ old
IsStopped (step ∷ more) old now =
    Begins step old now ⊎ ((next : Folder) × Leads step old next × IsStopped more next now)

-- the room of a file that holds this is at a place, with all that lay beside it
abbrev pub IsRoom : List ℕ → (List ℕ → Option (List ℕ)) → (List ℕ → Option (List ℕ)) → Type 0
IsRoom bytes old now =
    (now [] ≡ Some bytes) × AllByRecursion (λ end. text (now end) ≡ text (old end)) ends

-- What was there is there or was set aside, and what was set aside before is as it was.
pub record IsSafe (old now : Folder) : Type 0 where
  pub kept : (bytes : List ℕ) → old (own []) ≡ Some bytes
      → IsRoom bytes (λ end. old (own end)) (λ end. now (own end))
      ⊎ ((number : ℕ) × IsRoom bytes (λ end. old (own end)) (λ end. now (aside number end)))
  pub same : (number : ℕ) → ¬ IsFree number old
      → Each (λ end. now (aside number end) ≡ old (aside number end))

-- one restore after another was stopped
abbrev pub AreStopped : List ℕ → List ℕ → List Found → Folder → Folder → Type 0
AreStopped from path [] old now = now ≡ old
AreStopped from path (found ∷ more) old now =
    (next : Folder) × IsStopped (replacing from path found) old next
    × AreStopped from path more next now

-- wherever restores of a copy are stopped, and however often
abbrev pub KeepsRooms : Type 0
KeepsRooms = (from path : List ℕ) → (founds : List Found) → (old now : Folder)
    → AreStopped from path founds old now → IsSafe old now

-- FILE and what lies beside it is as it was; or there is no FILE; or it is the copy, with nothing
-- beside it
abbrev pub IsOneRoom : Folder → Folder → Type 0
IsOneRoom old now =
    ((now (own []) ≡ old (own []))
    × AllByRecursion (λ end. text (now (own end)) ≡ text (old (own end))) ends)
    ⊎ ((now (own []) ≡ None)
    ⊎ ((now (own []) ≡ old copy) × AllByRecursion (λ end. now (own end) ≡ None) ends))

-- wherever a restore is stopped
abbrev pub LeavesOneRoom : Type 0
LeavesOneRoom = (from path : List ℕ) → (found : Found) → (old now : Folder)
    → IsStopped (replacing from path found) old now → IsOneRoom old now
