-- Bytes from which it is read what they encode, whatever bytes come after them.
use Rattle.std.proofs.Common.{◌≡◌, ◌+◌, ◌++◌, ◌/◌, ◌%◌, ◌<◌, ◌≤◌, ℕ, zero, suc, pos, negsuc, List}
use Rattle.std.proofs.Common.{[], ◌∷◌, length, inl, inr, refl, sym, ap, ◌∙◌, arith, append_assoc}
use Rattle.std.proofs.lemmas.Bool.{cases_lt}
use Rattle.std.specs.List.{AllByRecursion, flat_map}
use Rattle.std.specs.Prelude.{⊤}
use Rattle.sqlite_value.specs.declared.value.Value.{Value}
use Rattle.sqlite_value.specs.declared.value.Value.TheVariants.{Null, Int, Real, Text, Blob}
use Rattle.room_store_file.specs.DigestTexts.{list_text, number_text, row_text, table_text}
use Rattle.room_store_file.specs.DigestTexts.{value_text}
use Rattle.room_store_file.proofs.Numbers.{number_ends, number_goes_on}

-- what is encoded, and what comes after it, are known from the bytes
abbrev pub IsDecodable : {X : Type 0} → (X → Type 0) → (X → List ℕ) → Type 0
IsDecodable {X} Is text = (x y : X) (s t : List ℕ) → Is x → Is y → text x ++ s ≡ text y ++ t → (x ≡ y) × (s ≡ t)

-- ---- numbers

module _ (n m : ℕ) (s t : List ℕ) (e : number_text n ++ s ≡ number_text m ++ t) where
  both_end : n < 128 → m < 128 → (n ≡ m) × (s ≡ t)
  both_end f g =
      let same : n ∷ s ≡ m ∷ t = ap (λ l. l ++ s) (sym (number_ends n f)) ∙ e ∙ ap (λ l. l ++ t) (number_ends m g) in
      (cc, cc)

  one_ends : n < 128 → 128 ≤ m → ⊥
  one_ends f g =
      let same : n ∷ s
      ≡ (128 + m % 128) ∷ (number_text (m / 128) ++ t) =
      ap (λ l. l ++ s) (sym (number_ends n f)) ∙ e ∙ ap (λ l. l ++ t) (number_goes_on m g) in
      let first : n ≡ 128 + m % 128 = cc in
      omega arith

  both_go_on : 128 ≤ n → 128 ≤ m → (n % 128 ≡ m % 128)
      × (number_text (n / 128) ++ s ≡ number_text (m / 128) ++ t)
  both_go_on f g =
      let same : (128 + n % 128) ∷ (number_text (n / 128) ++ s)
      ≡ (128 + m % 128) ∷ (number_text (m / 128) ++ t) =
      ap (λ l. l ++ s) (sym (number_goes_on n f)) ∙ e ∙ ap (λ l. l ++ t) (number_goes_on m g) in
      let first : 128 + n % 128 ≡ 128 + m % 128 = cc in
      (omega arith, cc)

number_from : (most n m : ℕ) (s t : List ℕ) → n ≤ most → number_text n ++ s ≡ number_text m ++ t
    → (n ≡ m) × (s ≡ t)
number_from zero n m s t h e = elim (cases_lt m 128) [
  | inl g ↦ both_end n m s t e (omega arith) g
  | inr g ↦ absurd (one_ends n m s t e (omega arith) g)
]
number_from (suc most) n m s t h e = elim (cases_lt n 128) [
  | inl f ↦ elim (cases_lt m 128) [ inl g ↦ both_end n m s t e f g | inr g ↦ absurd (one_ends n m s t e f g) ]
  | inr f ↦ elim (cases_lt m 128) [
    | inl g ↦ absurd (one_ends m n t s (sym e) g f)
    | inr g ↦
        let one = both_go_on n m s t e f g in
        let rest = number_from most (n / 128) (m / 128) s t (omega arith) one.1 in
        (omega (arith, one.0, rest.0), rest.1)
  ]
]

pub number_decodable : (n m : ℕ) (s t : List ℕ) → number_text n ++ s ≡ number_text m ++ t
    → (n ≡ m) × (s ≡ t)
number_decodable n m s t e = number_from n n m s t (omega arith) e

-- ---- lists

module _ {X : Type 0} (Is : X → Type 0) (text : X → List ℕ) (decodable : IsDecodable Is text) where
  pub each_decodable : (xs ys : List X) (s t : List ℕ) → AllByRecursion Is xs → AllByRecursion Is ys
      → length xs ≡ length ys → flat_map text xs ++ s ≡ flat_map text ys ++ t → (xs ≡ ys) × (s ≡ t)
  each_decodable [] [] s t f g same e = (refl, e)
  each_decodable [] (y ∷ ys) s t f g same e = absurd (omega (arith, same))
  each_decodable (x ∷ xs) [] s t f g same e = absurd (omega (arith, same))
  each_decodable (x ∷ xs) (y ∷ ys) s t f g same e =
      let first = decodable x y (flat_map text xs ++ s) (flat_map text ys ++ t) f.0 g.0
      (sym (append_assoc (text x) (flat_map text xs) s) ∙ e ∙ append_assoc (text y) (flat_map text ys) t) in
      let rest = each_decodable xs ys s t f.1 g.1 (omega (arith, same)) first.1 in
      (λ i. first.0 i ∷ rest.0 i, rest.1)

  pub list_decodable : IsDecodable (AllByRecursion Is) (list_text text)
  list_decodable xs ys s t f g e =
      let first = number_decodable (length xs) (length ys) (flat_map text xs ++ s) (flat_map text ys ++ t)
      (sym (append_assoc (number_text (length xs)) (flat_map text xs) s) ∙ e
      ∙ append_assoc (number_text (length ys)) (flat_map text ys) t) in
      each_decodable xs ys s t f g first.0 first.1

-- ---- values, rows and tables

-- no real number
abbrev pub IsStored : Value → Type 0
IsStored Null = ⊤
IsStored (Int n) = ⊤
IsStored (Text t) = ⊤
IsStored (Blob b) = ⊤
IsStored (Real x) = ⊥

first_of_bytes : List ℕ → ℕ
first_of_bytes [] = 0
first_of_bytes (n ∷ ns) = n

bytes_decodable : (a b s t : List ℕ) → length a ≡ length b → a ++ s ≡ b ++ t → (a ≡ b) × (s ≡ t)
bytes_decodable [] [] s t same e = (refl, e)
bytes_decodable [] (y ∷ b) s t same e = absurd (omega (arith, same))
bytes_decodable (x ∷ a) [] s t same e = absurd (omega (arith, same))
bytes_decodable (x ∷ a) (y ∷ b) s t same e =
    let tail : a ++ s ≡ b ++ t = cc in
    let head : x ≡ y = cc in
    let rest = bytes_decodable a b s t (omega (arith, same)) tail in
    (λ i. head i ∷ rest.0 i, rest.1)

sized_decodable : (a b s t : List ℕ) → (number_text (length a) ++ a)
    ++ s ≡ (number_text (length b) ++ b) ++ t → (a ≡ b) × (s ≡ t)
sized_decodable a b s t e =
    let first = number_decodable (length a) (length b) (a ++ s) (b ++ t)
    (sym (append_assoc (number_text (length a)) a s) ∙ e ∙ append_assoc (number_text (length b)) b t) in
    bytes_decodable a b s t first.0 first.1

value_decodable : IsDecodable IsStored value_text
unfolding first_of_bytes
value_decodable Null Null s t f g e = let rest : s ≡ t = cc in (refl, rest)
value_decodable (Int (pos n)) (Int (pos m)) s t f g e =
    let rest : number_text n ++ s ≡ number_text m ++ t = cc in
    let it = number_decodable n m s t rest in (ap (λ k. Int (pos k)) it.0, it.1)
value_decodable (Int (negsuc n)) (Int (negsuc m)) s t f g e =
    let rest : number_text n ++ s ≡ number_text m ++ t = cc in
    let it = number_decodable n m s t rest in (ap (λ k. Int (negsuc k)) it.0, it.1)
value_decodable (Text a) (Text b) s t f g e =
    let rest : (number_text (length a) ++ a) ++ s ≡ (number_text (length b) ++ b) ++ t = cc in
    let it = sized_decodable a b s t rest in (ap Text it.0, it.1)
value_decodable (Blob a) (Blob b) s t f g e =
    let rest : (number_text (length a) ++ a) ++ s ≡ (number_text (length b) ++ b) ++ t = cc in
    let it = sized_decodable a b s t rest in (ap Blob it.0, it.1)
value_decodable (Real x) w s t f g e = absurd f
value_decodable v (Real y) s t f g e = absurd g
value_decodable (Int (pos n)) w s t f g e = absurd (omega (arith, ap first_of_bytes e))
value_decodable (Int (negsuc n)) w s t f g e = absurd (omega (arith, ap first_of_bytes e))
value_decodable v (Int (pos m)) s t f g e = absurd (omega (arith, ap first_of_bytes e))
value_decodable v (Int (negsuc m)) s t f g e = absurd (omega (arith, ap first_of_bytes e))
value_decodable v w s t f g e = absurd (omega (arith, ap first_of_bytes e))

pub row_decodable : IsDecodable (AllByRecursion IsStored) row_text
row_decodable = list_decodable IsStored value_text value_decodable

pub table_decodable : IsDecodable (AllByRecursion (AllByRecursion IsStored)) table_text
table_decodable = list_decodable (AllByRecursion IsStored) row_text row_decodable
