-- A look-up that ends where no row is left: what targets name is computed by it in few steps.
use Rattle.std.proofs.Common.{◌≡◌, ap, refl, ◌-◌, ℕ, zero, suc, Bool, true, false, List, [], ◌∷◌}
use Rattle.std.proofs.Common.{cond, length}
use Rattle.std.specs.Prelude.{map, Option, None, Some, Result, option_and_then, option_map}
use Rattle.matchit.specs.Rows.{RowsOf, catch_all_token, param_token}
use Rattle.matchit.specs.Seek.{has_slash, or_else, own, param_step, seek, step}
use Rattle.room_types.specs.KeyedRows.{keep}
use Rattle.room_types.specs.declared.refusal_statuses.Refusal.{Refusal}
use Rattle.room_http_requests.specs.Parameters.{text_of}
use Rattle.room_http_requests.specs.RequestTable.{named_by, path_of}
use Rattle.room_http_requests.specs.Router.{is_served, known_by, path_at, routed, table, target_of}
use Rattle.room_http_requests.specs.TargetExamples.{AreFound, AreRouted, Name, NameNothing, filled}
use Rattle.room_http_requests.specs.declared.request_table.Path.{Path}
use Rattle.room_http_requests.specs.declared.request_table.Target.{Target}

-- ---- the walk
module _ {K : Type 0} where
  -- the route that the path matches, after skipping some bytes
  unfoldable pub walk : ℕ → RowsOf K → List ℕ → Option K
  walk skip [] path = None
  walk skip (row ∷ rows) [] = own (row ∷ rows)
  walk (suc skip) (row ∷ rows) (b ∷ path) = walk skip (row ∷ rows) path
  walk zero (row ∷ rows) (b ∷ path) =
      or_else (walk 0 (step b (row ∷ rows)) path)
      (or_else (walk ((param_step (step param_token (row ∷ rows)) (b ∷ path)).0 - 1)
      (param_step (step param_token (row ∷ rows)) (b ∷ path)).1 path)
      (own (step catch_all_token (row ∷ rows))))

  no_param : (path : List ℕ) → (param_step {K = K} [] path).1 ≡ []
  unfolding param_step
  no_param path = by (has_slash path)
    where
      by : (slash : Bool) → (cond {A = ℕ × RowsOf K} slash (0, []) (length path, [])).1 ≡ []
      by true = refl
      by false = refl

  no_row : (skip : ℕ) (path : List ℕ) → seek {K = K} skip [] path ≡ None
  unfolding seek
  no_row skip [] = refl
  no_row (suc skip) (b ∷ path) = no_row skip path
  no_row zero (b ∷ path) =
      rw (no_row 0 path, no_param (b ∷ path), no_row ((param_step {K = K} [] (b ∷ path)).0 - 1) path) refl

  walked : (skip : ℕ) (rows : RowsOf K) (path : List ℕ) → seek skip rows path ≡ walk skip rows path
  unfolding seek walk
  walked skip [] path = no_row skip path
  walked skip (row ∷ rows) [] = refl
  walked (suc skip) (row ∷ rows) (b ∷ path) = walked skip (row ∷ rows) path
  walked zero (row ∷ rows) (b ∷ path) = rw (walked 0 (step b (row ∷ rows)) path, walked _ _ path) refl

-- ---- what targets name by it
unfoldable pub named : List ℕ → Option Target
named bytes = option_and_then
    (λ text. option_and_then (λ p. named_by p text) (option_map (λ route. route.value) (walk 0 table text)))
    (text_of bytes)

names : (bytes : List ℕ) → target_of bytes ≡ named bytes
unfolding target_of path_at named
names bytes = by (text_of bytes)
  where
    by : (found : Option (List ℕ))
        → option_and_then (λ text. option_and_then (λ p. named_by p text) (path_at text)) found
        ≡ option_and_then (λ text. option_and_then (λ p. named_by p text)
        (option_map (λ route. route.value) (walk 0 table text))) found
    by None = refl
    by (Some text) = rw (walked 0 table text) refl

-- what is the same of each is the same of all
same_of_each : {A B : Type 0} (f g : A → B) → ((x : A) → f x ≡ g x) → (xs : List A) → map f xs ≡ map g xs
same_of_each f g same [] = refl
same_of_each f g same (x ∷ xs) = rw (same x, same_of_each f g same xs) refl

pub by_names : (examples : List (List ℕ × Target))
    → map (λ example. named example.0) examples ≡ map (λ example. Some example.1) examples
    → Name examples
by_names examples is = rw (same_of_each (λ (e : List ℕ × Target). target_of e.0) (λ e. named e.0)
    (λ e. names e.0) examples) is

pub by_nothing : (targets : List (List ℕ)) → map named targets ≡ map (λ bytes. None) targets → NameNothing targets
by_nothing targets is = rw (same_of_each target_of named names targets) is

pub by_found : (paths : List Path)
    → map (λ path. option_map path_of (named (filled path))) paths ≡ map Some paths → AreFound paths
by_found paths is = rw (same_of_each (λ (path : Path). option_map path_of (target_of (filled path)))
    (λ path. option_map path_of (named (filled path)))
    (λ path. ap (option_map path_of) (names (filled path))) paths) is

abbrev pub comes_to : Bool → List ℕ → List ℕ → Result Target Refusal
comes_to history method bytes = known_by method (keep (is_served history) (named bytes))

pub by_routed : (history : Bool) (examples : List ((List ℕ × List ℕ) × Result Target Refusal))
    → map (λ example. comes_to history example.0.0 example.0.1) examples
    ≡ map (λ example. example.1) examples
    → AreRouted history examples
by_routed history examples is =
    rw (same_of_each (λ (e : (List ℕ × List ℕ) × Result Target Refusal). routed history e.0.0 e.0.1)
    (λ e. comes_to history e.0.0 e.0.1)
    (λ e. ap (λ found. known_by e.0.0 (keep (is_served history) found)) (names e.0.1)) examples) is
