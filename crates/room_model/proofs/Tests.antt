-- Tests of rows that imply one another.
use Rattle.std.proofs.Common.{ap, inl, inr, sym, ◌∙◌}
use Rattle.std.proofs.lemmas.Map.Lookups.{CmpEqualImpliesEq}
use Rattle.std.specs.Cmp.{IsTotalOrder}
use Rattle.std.specs.List.{cons_option, list_any}
use Rattle.std.specs.Ordering.{is_eq, ordering_reverse}
use Rattle.std.specs.Prelude.{Bool, List, None, Option, Some, [], cond, false, filter, filter_map}
use Rattle.std.specs.Prelude.{is_none, map, refl, true, ◌&&◌, ◌||◌, ◌∷◌, ◌≡◌, ◌⊎◌}
use Rattle.std.specs.declared.cmp.Ordering.{Ordering}
use Rattle.std.specs.declared.cmp.Ordering.TheVariants.{Equal, Greater, Less}
use Rattle.room_place.specs.Choice.{Among, first}
use Rattle.room_types.specs.KeyedRows.{IsBelowAll, IsKeyed, keep, row_at}

abbrev pub Implies : {X : Type 0} → (X → Bool) → (X → Bool) → Type 0
Implies {X} p q = (x : X) → p x ≡ true → q x ≡ true

pub keep_cond : {X : Type 0} (b : Bool) (p : X → Bool) (x : X) → (p x ≡ true → b ≡ true)
    → keep p (cond b (Some x) None) ≡ keep p (Some x)
keep_cond true p x f = refl
keep_cond {X} false p x f = (elim (p x) as (λ (c : Bool). p x ≡ c → None ≡ cond c (Some x) None) [
  | true ↦ λ e. let g = f e in cc
  | false ↦ λ e. refl
]) refl

pub keep_keep : {X : Type 0} (p q : X → Bool) (o : Option X) → Implies p q
    → keep p (keep q o) ≡ keep p o
keep_keep p q None f = refl
keep_keep p q (Some x) f = keep_cond (q x) p x (f x)

keep_one : {X : Type 0} (b : Bool) (q : X → Bool) (x : X) (o : Option X) → (b ≡ true → q x ≡ true)
    → keep q o ≡ o → keep q (cond b (Some x) o) ≡ cond b (Some x) o
keep_one true q x o f h = rw (f refl)
keep_one false q x o f h = h

-- a row that is looked up by a key which shows that it passes
pub keep_row : {X K : Type 0} (cmp : K → K → Ordering) (key : X → K) (q : X → Bool) (xs : List X)
    (k : K) → ((x : X) → is_eq (cmp k (key x)) ≡ true → q x ≡ true)
    → keep q (row_at cmp key xs k) ≡ row_at cmp key xs k
keep_row cmp key q [] k f = refl
keep_row cmp key q (x ∷ xs) k f = keep_one (is_eq (cmp k (key x))) q x _ (f x) (keep_row cmp key q xs k f)

filter_one : {X : Type 0} (b : Bool) (p : X → Bool) (x : X) (xs ys : List X)
    → (p x ≡ true → b ≡ true) → filter p xs ≡ filter p ys
    → filter p (cond b (x ∷ xs) xs) ≡ filter p (x ∷ ys)
filter_one true p x xs ys f h = ap (λ zs. cond (p x) (x ∷ zs) zs) h
filter_one {X} false p x xs ys f h =
    h ∙ (elim (p x) as (λ (c : Bool). p x ≡ c → filter p ys ≡ cond c (x ∷ filter p ys) (filter p ys)) [
      | true ↦ λ e. let g = f e in cc
      | false ↦ λ e. refl
    ]) refl

-- a filter after a weaker one, over the elements of a list
pub filter_among : {X : Type 0} (p q : X → Bool) (xs : List X)
    → ((x : X) → Among x xs → p x ≡ true → q x ≡ true) → filter p (filter q xs) ≡ filter p xs
filter_among p q [] f = refl
filter_among p q (x ∷ xs) f =
    filter_one (q x) p x (filter q xs) xs (f x (inl refl)) (filter_among p q xs (λ y a. f y (inr a)))

pub filter_filter : {X : Type 0} (p q : X → Bool) (xs : List X) → Implies p q
    → filter p (filter q xs) ≡ filter p xs
filter_filter p q xs f = filter_among p q xs (λ x a. f x)

-- two filters, one way round and the other
turned_at : {X : Type 0} (p q : X → Bool) (x : X) (us vs : List X) (y z : Bool) → p x ≡ y
    → q x ≡ z → filter p us ≡ filter q vs
    → filter p (cond z (x ∷ us) us) ≡ filter q (cond y (x ∷ vs) vs)
turned_at p q x us vs true true e f h = rw (e, f) (ap (λ ws. x ∷ ws) h)
turned_at p q x us vs true false e f h = rw f h
turned_at p q x us vs false true e f h = rw e h
turned_at p q x us vs false false e f h = h

pub filters_turned : {X : Type 0} (p q : X → Bool) (xs : List X)
    → filter p (filter q xs) ≡ filter q (filter p xs)
filters_turned p q [] = refl
filters_turned p q (x ∷ xs) =
    turned_at p q x (filter q xs) (filter p xs) (p x) (q x) refl refl (filters_turned p q xs)

any_one : {X : Type 0} (b : Bool) (p : X → Bool) (x : X) (xs ys : List X) → (p x ≡ true → b ≡ true)
    → list_any p xs ≡ list_any p ys → list_any p (cond b (x ∷ xs) xs) ≡ list_any p (x ∷ ys)
any_one true p x xs ys f h = ap (λ z. p x || z) h
any_one {X} false p x xs ys f h = h ∙ (elim (p x) as (λ (c : Bool). p x ≡ c → list_any p ys ≡ c || list_any p ys) [
  | true ↦ λ e. let g = f e in cc
  | false ↦ λ e. refl
]) refl

pub any_filter : {X : Type 0} (p q : X → Bool) (xs : List X) → Implies p q
    → list_any p (filter q xs) ≡ list_any p xs
any_filter p q [] f = refl
any_filter p q (x ∷ xs) f = any_one (q x) p x (filter q xs) xs (f x) (any_filter p q xs f)

-- what only elements that pass give
abbrev pub OnlyFrom : {X Y : Type 0} → (X → Option Y) → (X → Bool) → Type 0
OnlyFrom {X} f q = (x : X) → q x ≡ false → f x ≡ None

pub filter_map_filter : {X Y : Type 0} (f : X → Option Y) (q : X → Bool) (xs : List X)
    → OnlyFrom f q → filter_map f (filter q xs) ≡ filter_map f xs
filter_map_filter f q [] h = refl
filter_map_filter {X} {Y} f q (x ∷ xs) h =
    (elim (q x) as (λ (b : Bool).
    q x ≡ b → filter_map f (cond b (x ∷ filter q xs) (filter q xs)) ≡ cons_option (f x) (filter_map f xs)) [
      | true ↦ λ e. ap (λ (zs : List Y). cons_option (f x) zs) (filter_map_filter f q xs h)
      | false ↦ λ e. filter_map_filter f q xs h ∙ sym (ap (λ (o : Option Y). cons_option o (filter_map f xs)) (h x e))
    ]) refl

-- two functions that agree on a list's elements
pub filter_map_among : {X Y : Type 0} (f g : X → Option Y) (xs : List X)
    → ((x : X) → Among x xs → f x ≡ g x) → filter_map f xs ≡ filter_map g xs
filter_map_among f g [] h = refl
filter_map_among {X} {Y} f g (x ∷ xs) h =
    ap (λ (o : Option Y). cons_option o (filter_map f xs)) (h x (inl refl))
    ∙ ap (λ (zs : List Y). cons_option (g x) zs) (filter_map_among f g xs (λ y a. h y (inr a)))

pub map_among : {X Y : Type 0} (f g : X → Y) (xs : List X) → ((x : X) → Among x xs → f x ≡ g x)
    → map f xs ≡ map g xs
map_among f g [] h = refl
map_among {X} {Y} f g (x ∷ xs) h =
    ap (λ (y : Y). y ∷ map f xs) (h x (inl refl))
    ∙ ap (λ (zs : List Y). g x ∷ zs) (map_among f g xs (λ y a. h y (inr a)))

-- an element of a filtered list is one of the list, and passes
among_head : {X : Type 0} (b : Bool) (p : X → Bool) (y x : X) (zs xs : List X) → p x ≡ b
    → (Among y zs → Among y xs × (p y ≡ true)) → Among y (cond b (x ∷ zs) zs)
    → Among y (x ∷ xs) × (p y ≡ true)
among_head true p y x zs xs e f h = elim h [
  | inl k ↦ (inl k, ap p k ∙ e)
  | inr k ↦ (inr (f k).0, (f k).1)
]
among_head false p y x zs xs e f h = (inr (f h).0, (f h).1)

pub among_filter : {X : Type 0} (p : X → Bool) (xs : List X) (y : X) → Among y (filter p xs)
    → Among y xs × (p y ≡ true)
among_filter p [] y h = absurd h
among_filter p (x ∷ xs) y h = among_head (p x) p y x (filter p xs) xs refl (among_filter p xs y) h

-- ---- truth values
pub is_equal : (o : Ordering) → is_eq o ≡ true → o ≡ Equal
is_equal Less h = cc
is_equal Equal h = refl
is_equal Greater h = cc

pub left_true : (a b : Bool) → a && b ≡ true → a ≡ true
left_true true b h = refl
left_true false b h = h

pub right_true : (a b : Bool) → a && b ≡ true → b ≡ true
right_true true b h = h
right_true false b h = cc

pub both_true : (a b : Bool) → a ≡ true → b ≡ true → a && b ≡ true
both_true a b h g = rw h g

pub either_true : (x y : Bool) → x || y ≡ true → (x ≡ true) ⊎ (y ≡ true)
either_true true y e = inl e
either_true false y e = inr e

pub or_left : (a b : Bool) → a ≡ true → a || b ≡ true
or_left a b h = rw h

pub or_right : (a b : Bool) → b ≡ true → a || b ≡ true
or_right true b h = refl
or_right false b h = h

-- a row of a keyed list is found by its key
module _ {R K : Type 0} (cmp : K → K → Ordering) (key : R → K) (total : IsTotalOrder cmp) where
  self_equal : (o : Ordering) → o ≡ ordering_reverse o → o ≡ Equal
  self_equal Less h = cc
  self_equal Equal h = refl
  self_equal Greater h = cc

  below_among : (k : K) (xs : List R) (x : R) → IsBelowAll cmp key k xs → Among x xs
      → cmp k (key x) ≡ Less
  below_among k [] x h a = absurd a
  below_among k (y ∷ xs) x h a = elim a [
    | inl e ↦ ap (λ z. cmp k (key z)) e ∙ h.0
    | inr b ↦ below_among k xs x h.1 b
  ]

  pub row_among : (xs : List R) (x : R) → IsKeyed cmp key xs → Among x xs
      → row_at cmp key xs (key x) ≡ Some x
  row_among [] x h a = absurd a
  row_among (y ∷ xs) x h a = elim a [
    | inl e ↦
        ap (λ (o : Ordering). cond (is_eq o) (Some y) (row_at cmp key xs (key x)))
        (ap (λ z. cmp (key z) (key y)) e ∙ self_equal (cmp (key y) (key y)) (total.antisymm (key y) (key y)))
        ∙ ap Some (sym e)
    | inr b ↦
        ap (λ (o : Ordering). cond (is_eq o) (Some y) (row_at cmp key xs (key x)))
        (total.antisymm (key x) (key y) ∙ ap ordering_reverse (below_among (key y) xs x h.0 b)) ∙ row_among xs x h.1 b
  ]

  pub row_key : CmpEqualImpliesEq cmp → (xs : List R) (k : K) (x : R)
      → row_at cmp key xs k ≡ Some x → k ≡ key x
  row_key exact [] k x h = cc
  row_key exact (y ∷ xs) k x h =
      (elim (is_eq (cmp k (key
      y))) as (λ (b : Bool). is_eq (cmp k (key y)) ≡ b → cond b (Some y) (row_at cmp key xs k) ≡ Some x → k ≡ key x) [
        | true ↦ λ e g. let same : y ≡ x = cc in exact k (key y) (is_equal _ e) ∙ ap key same
        | false ↦ λ e g. row_key exact xs k x g
      ]) refl h

keep_both : {X : Type 0} (b c : Bool) (p q : X → Bool) (x : X) (o : Option X)
    → (b ≡ true → p x ≡ true → q x ≡ true) → keep p (keep q o) ≡ keep p o
    → keep p (keep q (cond b (Some x) o)) ≡ keep p (cond b (Some x) o)
keep_both true c p q x o f h = keep_cond (q x) p x (f refl)
keep_both false c p q x o f h = h

-- a weaker test before another, of a row that is looked up by a key
pub keep_keep_row : {X K : Type 0} (cmp : K → K → Ordering) (key : X → K) (p q : X → Bool)
    (xs : List X) (k : K) → ((x : X) → is_eq (cmp k (key x)) ≡ true → p x ≡ true → q x ≡ true)
    → keep p (keep q (row_at cmp key xs k)) ≡ keep p (row_at cmp key xs k)
keep_keep_row cmp key p q [] k f = refl
keep_keep_row cmp key p q (x ∷ xs) k f =
    keep_both (is_eq (cmp k (key x))) true p q x _ (f x) (keep_keep_row cmp key p q xs k f)

-- the first of a list is one of it
pub first_among : {X : Type 0} (xs : List X) (x : X) → first xs ≡ Some x → Among x xs
first_among [] x h = cc
first_among (y ∷ xs) x h = let same : x ≡ y = cc in inl same

pub and_same : (a x y : Bool) → (a ≡ true → x ≡ y) → a && x ≡ a && y
and_same true x y f = f refl
and_same false x y f = refl

-- what both of two tests guard, and the first of them with a weaker one does not let through
pub guard_none : {X : Type 0} (a b c y : Bool) (x : X) → a && (b || c) ≡ false
    → cond (a && (b && y)) (Some x) None ≡ None
guard_none true true c y x h = cc
guard_none true false c y x h = refl
guard_none false b c y x h = refl

pub guarded_none : {X : Type 0} (a b c : Bool) (x : X) → a && (b || c) ≡ false
    → cond (a && b) (Some x) None ≡ None
guarded_none true true c x h = cc
guarded_none true false c x h = refl
guarded_none false b c x h = refl

pub none_of : {X : Type 0} (o : Option X) → is_none o ≡ true → o ≡ None
none_of None h = refl
none_of (Some x) h = cc
