-- The names under which what a restore finds is set aside, and what it prints of that.
use Rattle.std.specs.Prelude.{ℕ, List, [], ◌++◌, codes, decimal, if◌then◌else◌, nat_eq}
use Rattle.dispatch_room_disk.specs.declared.aside_names.Found.{Found}
use Rattle.dispatch_room_disk.specs.declared.aside_names.Found.TheVariants.{Copy, Nothing, Other}

-- FILE.old, FILE.old.1, FILE.old.2 and so on
abbrev pub aside_name : List ℕ → ℕ → List ℕ
aside_name path number =
    path ++ codes ".old" ++ (if nat_eq number 0 then [] else codes "." ++ decimal number)

-- the name that another room has now, or that nothing has another one
abbrev pub found_text : List ℕ → Found → List ℕ
found_text path Copy = codes "in place already: nothing is set aside\n"
found_text path Nothing = []
found_text path (Other number) = codes "set aside: " ++ aside_name path number ++ codes "\n"
