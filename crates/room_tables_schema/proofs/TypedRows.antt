-- From rows of SQL to rows of a type: the same order, put, drop and selection.
use Rattle.std.proofs.Common.{◌≡◌, ℕ, List, [], ◌∷◌, map, filter, Bool, true, false, not, cond}
use Rattle.std.proofs.Common.{if◌then◌else◌, refl, sym, ap, subst, ◌∙◌, Ordering, Less, Equal}
use Rattle.std.proofs.Common.{Greater, is_eq}
use Rattle.std.specs.List.{AllByRecursion}
use Rattle.std.specs.Cmp.{IsTotalOrder}
use Rattle.std.specs.Ordering.{match_ordering, ordering_reverse}
use Rattle.sqlite_value.specs.Order.{Row}
use Rattle.sqlite_trees.proofs.ListLemmas.{filter-map, filter_same, all_of}
use Rattle.sqlite_sql.specs.Query.{key_cmp}
use Rattle.room_types.specs.KeyedRows.{put_row, drop_row, IsKeyed, IsBelowAll}
use Rattle.room_tables_schema.specs.TableTrees.{Rises, put_in, keys, Holds}
use Rattle.room_tables_schema.specs.TypedRows.{IsFaithful}
use Rattle.room_tables_schema.proofs.Standing.{holds_one}

-- reading back what was written distinguishes the lists
map-read : {X : Type 0} (row : X → Row) (read : Row → X) → ((x : X) → read (row x) ≡ x)
    → (xs : List X) → map read (map row xs) ≡ xs
map-read row read back [] = refl
map-read row read back (x ∷ xs) = λ i. back x i ∷ map-read row read back xs i

pub map_injective : {X : Type 0} (row : X → Row) (read : Row → X) → ((x : X) → read (row x) ≡ x)
    → (xs ys : List X) → map row xs ≡ map row ys → xs ≡ ys
map_injective row read back xs ys same =
    sym (map-read row read back xs) ∙ ap (map read) same ∙ map-read row read back ys

-- a selection of rows is one of typed rows
pub filter-rows : {X : Type 0} (row : X → Row) (test : Row → Bool) (chosen : X → Bool)
    → ((x : X) → test (row x) ≡ chosen x) → (xs : List X)
    → filter test (map row xs) ≡ map row (filter chosen xs)
filter-rows row test chosen same xs =
    filter-map test row xs ∙ ap (map row) (filter_same (λ x. test (row x)) chosen xs (all_of _ same xs))

module _ {X K : Type 0} (order : K → K → Ordering) (key : X → K) (row : X → Row)
    (cmp : Row → Row → Ordering) (same : (x y : X)
    → cmp (row x) (row y) ≡ order (key x) (key y)) where
  below_typed : (x : X) (xs : List X) → AllByRecursion (λ r. cmp (row x) r ≡ Less) (map row xs)
      → IsBelowAll order key (key x) xs
  below_typed x [] h = tt
  below_typed x (y ∷ ys) h = (sym (same x y) ∙ h.0, below_typed x ys h.1)

  -- rows that rise are typed rows in key order ..
  pub keyed_typed : (xs : List X) → Rises cmp (map row xs) → IsKeyed order key xs
  keyed_typed [] h = tt
  keyed_typed (x ∷ xs) h = (below_typed x xs h.0, keyed_typed xs h.1)

  below_rows : (x : X) (xs : List X) → IsBelowAll order key (key x) xs
      → AllByRecursion (λ r. cmp (row x) r ≡ Less) (map row xs)
  below_rows x [] h = tt
  below_rows x (y ∷ ys) h = (same x y ∙ h.0, below_rows x ys h.1)

  -- .. and the other way round
  pub rises_keyed : (xs : List X) → IsKeyed order key xs → Rises cmp (map row xs)
  rises_keyed [] h = tt
  rises_keyed (x ∷ xs) h = (below_rows x xs h.0, rises_keyed xs h.1)

  -- a put among rows is one among typed rows
  put_typed : IsTotalOrder order → (new : X) (xs : List X)
      → put_in cmp (row new) (map row xs) ≡ map row (put_row order key xs new)
  put_typed total new [] = refl
  put_typed total new (x ∷ xs) =
      go (order (key new) (key x)) (cmp (row x) (row new)) (same x new ∙ total.antisymm (key x) (key new))
      (put_typed total new xs)
    where
      go : (p o : Ordering) → o ≡ ordering_reverse p
          → put_in cmp (row new) (map row xs) ≡ map row (put_row order key xs new)
          → match_ordering o (row x ∷ put_in cmp (row new) (map row xs)) (row new ∷ map row xs)
          (row new ∷ row x ∷ map row xs) ≡ map row
          (match_ordering p (new ∷ x ∷ xs) (new ∷ xs) (x ∷ put_row order key xs new))
      go Less o e more = rw e refl
      go Equal o e more = rw e refl
      go Greater o e more = rw e (ap (λ l. row x ∷ l) more)

module _ {X K : Type 0} (order : K → K → Ordering) (key : X → K) (total : IsTotalOrder order) where
  abbrev lacks : K → X → Bool
  lacks k x = not (is_eq (order k (key x)))

  filter-below : (k : K) (xs : List X) → IsBelowAll order key k xs → filter (lacks k) xs ≡ xs
  filter-below k [] h = refl
  filter-below k (x ∷ xs) h = rw h.0 (ap (λ l. x ∷ l) (filter-below k xs h.1))

  below_tied : (j k : K) (xs : List X) → order j k ≡ Equal → IsBelowAll order key k xs
      → IsBelowAll order key j xs
  below_tied j k [] e h = tt
  below_tied j k (x ∷ xs) e h = (total.congr j k (key x) e ∙ h.0, below_tied j k xs e h.1)

  -- in key order the rows that lack a key are those without its one row
  filter-lacks : (k : K) (xs : List X) → IsKeyed order key xs
      → filter (lacks k) xs ≡ drop_row order key xs k
  filter-lacks k [] h = refl
  filter-lacks k (x ∷ xs) h = go (order k (key x)) refl (filter-lacks k xs h.1)
    where
      go : (o : Ordering) → order k (key x) ≡ o → filter (lacks k) xs ≡ drop_row order key xs k
          → cond (not (is_eq o)) (x ∷ filter (lacks k) xs) (filter (lacks k) xs)
          ≡ cond (is_eq o) xs (x ∷ drop_row order key xs k)
      go Less e more = ap (λ l. x ∷ l) more
      go Equal e more = filter-below k xs (below_tied k (key x) xs e h.0)
      go Greater e more = ap (λ l. x ∷ l) more

module _ {X K : Type 0} (order : K → K → Ordering) (key : X → K) (row : X → Row)
    (places key_places : List ℕ) (faithful : IsFaithful order key row key_places)
    (tree : List Row) where
  abbrev cmp : Row → Row → Ordering
  cmp = key_cmp 0 (keys key_places)

  -- a tree stands for only one typed list
  pub holds_one_typed : (xs ys : List X) → Holds places key_places tree (map row xs)
      → Holds places key_places tree (map row ys) → xs ≡ ys
  holds_one_typed xs ys h k =
      map_injective row faithful.read faithful.read_back xs ys
      (holds_one places key_places tree (map row xs) (map row ys) h k)

  -- what a tree stands for is in key order
  pub keyed_held : (xs : List X) → Holds places key_places tree (map row xs) → IsKeyed order key xs
  keyed_held xs h = keyed_typed order key row cmp faithful.ordered xs h.rises

  -- an upsert of a row puts it
  pub holds-put : (new : X) (xs : List X)
      → Holds places key_places tree (put_in cmp (row new) (map row xs))
      → Holds places key_places tree (map row (put_row order key xs new))
  holds-put new xs =
      subst (Holds places key_places tree) (put_typed order key row cmp faithful.ordered faithful.total new xs)

  -- an update puts it, or writes none
  pub holds-put_if : (none : Bool) (new : X) (xs : List X)
      → Holds places key_places tree
      (if none then map row xs else put_in cmp (row new) (map row xs))
      → Holds places key_places tree (map row (if none then xs else put_row order key xs new))
  holds-put_if true new xs h = h
  holds-put_if false new xs h = holds-put new xs h

  -- a deletion of the rows with a key drops that key's row
  pub holds-drop : (k : K) (test : Row → Bool) → ((x : X) → test (row x) ≡ is_eq (order k (key x)))
      → (xs : List X) → IsKeyed order key xs
      → Holds places key_places tree (filter (λ r. not (test r)) (map row xs))
      → Holds places key_places tree (map row (drop_row order key xs k))
  holds-drop k test agrees xs keyed =
      subst (Holds places key_places tree)
      (filter-rows row (λ r. not (test r)) (λ x. not (is_eq (order k (key x)))) (λ x. ap not (agrees x)) xs
      ∙ ap (map row) (filter-lacks order key faithful.total k xs keyed))

-- rows that were read back are those that a selection chooses
pub read_chosen : {X K : Type 0} (order : K → K → Ordering) (key : X → K) (row : X → Row)
    (key_places : List ℕ) → IsFaithful order key row key_places
    → (test : Row → Bool) (chosen : X → Bool)
    → ((x : X) → test (row x) ≡ chosen x) → (xs found : List X)
    → map row found ≡ filter test (map row xs) → found ≡ filter chosen xs
read_chosen order key row key_places faithful test chosen agrees xs found is =
    map_injective row faithful.read faithful.read_back found _ (is ∙ filter-rows row test chosen agrees xs)
