-- That each path can be added to those before it.
use Rattle.std.proofs.Common.{◌≡◌, ◌<◌, ℕ, zero, suc, Bool, true, ◌&&◌, List, [], ◌∷◌, length, take}
use Rattle.std.proofs.Common.{get_or, refl, arith}
use Rattle.std.specs.List.{fold}
use Rattle.std.proofs.lemmas.Bool.{and_parts}
use Rattle.matchit.proofs.OnLiterals.{matchit_on_literals}
use Rattle.room_http_requests.specs.Router.{Table, is_free_for, with_path}
use Rattle.room_http_requests.specs.declared.request_table.Path.{Path}
use Rattle.room_http_requests.specs.declared.request_table.TheConstants.{PATHS}

-- each of these paths can be added to the rows with those before it
abbrev pub are_free : Table → List Path → Bool
are_free rows [] = true
are_free rows (path ∷ more) = is_free_for rows path && are_free (with_path rows path) more

pub free_at : (rows : Table) (paths : List Path) (i : ℕ) (d : Path) → are_free rows paths ≡ true
    → i < length paths
    → is_free_for (fold with_path rows (take i paths)) (get_or paths i d) ≡ true
free_at rows [] i d all within = absurd (omega arith)
free_at rows (path ∷ more) zero d all within = (and_parts _ _ all).0
free_at rows (path ∷ more) (suc i) d all within =
    free_at (with_path rows path) more i d ((and_parts _ _ all).1) (omega arith)

pub all_free : are_free [] PATHS ≡ true
unfolding is_free_for with_path matchit_on_literals
all_free = refl
