-- Reading a text gives the place that it names, or its first fault.
use Rattle.std.proofs.Common.{Bool, List, Option, Result, Some, None, Ok, Err, [], ap, arith, cond}
use Rattle.std.proofs.Common.{drop, false, get_or, inl, inr, length, refl, subst, sym, take, true}
use Rattle.std.proofs.Common.{◌++◌, ◌+◌, ◌-◌, ◌/◌, ◌∙◌, ◌∷◌, ◌≡◌, ◌≤◌, ◌⊎◌, ℕ}
use Rattle.std.proofs.Math.Seq.{drop-append_seam, take-append_seam, take-length}
use Rattle.std.proofs.lemmas.Bool.{and_from, and_parts, cond-true, eq-eqb, eqb-true, not-false}
use Rattle.std.proofs.lemmas.Bool.{or_cases, or_left, or_right}
use Rattle.std.proofs.lemmas.List.{append-nil, length-append, length-drop, take-append-drop}
use Rattle.std.proofs.lemmas.List.Elements.{filter-append}
use Rattle.std.proofs.lemmas.List.Folds.{list_all-append}
use Rattle.std.specs.Char.{is_ascii_digit}
use Rattle.std.specs.List.{filter}
use Rattle.std.specs.Option.{ok_or, option_and_then}
use Rattle.std.specs.Prelude.{IfErr, IfOk, MatchResult, is_none, not, ◌==◌, ◌&&◌, ◌||◌}
use Rattle.room_place.specs.References.{IsFirstFault, IsReference, after_gap, are_allowed}
use Rattle.room_place.specs.References.{are_digits, corner_of, digit_count, has_digit_fault}
use Rattle.room_place.specs.References.{has_length_fault, has_square_fault, metres_of, parse}
use Rattle.room_place.specs.References.{place_by, place_in, square_of}
use Rattle.room_place.specs.declared.places.Place.{Place}
use Rattle.room_place.specs.declared.places.PlaceFault.{PlaceFault}
use Rattle.room_place.specs.declared.places.PlaceFault.TheVariants.{Digit, Length, Spacing, Square}
use Rattle.room_place.proofs.DigitLaws.{after_gap-digits, allowed-digits, allowed-gap}
use Rattle.room_place.proofs.DigitLaws.{filter-digits, filter-gap, gap_of, gap_of-IsGap}
use Rattle.room_place.proofs.DigitLaws.{gap_of-after_gap}

-- a text without the first three faults is read
unfaulted : (text : List ℕ) → has_square_fault text ≡ false → has_digit_fault text ≡ false
    → has_length_fault text ≡ false → parse text
    ≡ ok_or (option_and_then (place_in (digit_count text / 2) (drop 2 text)) (square_of text))
    Spacing
unfaulted text square digit length = rw (square, digit, length) refl

-- 6, 8 or 10 digits are 3, 4 or 5 each way

half-even : (n : ℕ) → (n == 6 || (n == 8 || n == 10)) ≡ true
    → (n / 2 ≡ 3) ⊎ ((n / 2 ≡ 4) ⊎ (n / 2 ≡ 5))
half-even n even = elim (or_cases _ _ even) [
  | inl six ↦ inl (ap (λ k. k / 2) (eqb-true n 6 six))
  | inr more ↦
      elim (or_cases _ _ more) [
        | inl eight ↦ inr (inl (ap (λ k. k / 2) (eqb-true n 8 eight)))
        | inr ten ↦ inr (inr (ap (λ k. k / 2) (eqb-true n 10 ten)))
      ]
]

even-half : (h n : ℕ) → n ≡ h + h → (h ≡ 3) ⊎ ((h ≡ 4) ⊎ (h ≡ 5))
    → (n == 6 || (n == 8 || n == 10)) ≡ true
even-half h n twice size = elim size [
  | inl three ↦ or_left _ _ (eq-eqb n 6 (omega arith))
  | inr more ↦ elim more [
    | inl four ↦ or_right (n == 6) _ (or_left _ _ (eq-eqb n 8 (omega arith)))
    | inr five ↦ or_right (n == 6) _ (or_right (n == 8) _ (eq-eqb n 10 (omega arith)))
  ]
]

-- a text that begins with a square and goes on with twice h digits and spaces is read on
pub parse-square : (text rest : List ℕ) (corner : Place) (h : ℕ) → square_of text ≡ Some corner
    → rest ≡ drop 2 text → are_allowed rest ≡ true → length (filter is_ascii_digit rest) ≡ h + h
    → (h ≡ 3) ⊎ ((h ≡ 4) ⊎ (h ≡ 5)) → parse text ≡ ok_or (place_in h rest corner) Spacing
parse-square text rest corner h square same allowed digits size =
    let twice : digit_count text
    ≡ h + h = ap (λ (ds : List ℕ). length (filter is_ascii_digit ds)) (sym same) ∙ digits in
    let half : digit_count text / 2 ≡ h = omega (arith, twice) in
    unfaulted text (ap is_none square) (ap not (ap are_allowed (sym same) ∙ allowed))
    (ap not (even-half h (digit_count text) twice size))
    ∙ (ap (λ (o : Option Place). ok_or (option_and_then (place_in (digit_count text / 2) (drop 2 text)) o) Spacing)
    square
    ∙ (ap (λ n. ok_or (place_in n (drop 2 text) corner) Spacing) half
    ∙ ap (λ (ds : List ℕ). ok_or (place_in h ds corner) Spacing) (sym same)))

-- the first two characters, and the rest
pub square_of-letters : (text : List ℕ) → 2 ≤ length text
    → square_of text ≡ corner_of (get_or text 0 0) (get_or text 1 0)
square_of-letters [] two = absurd (omega arith)
square_of-letters (a ∷ []) two = absurd (omega arith)
square_of-letters (a ∷ b ∷ bs) two = refl

pub rest-drop : (text : List ℕ) → take (length text - 2) (drop 2 text) ≡ drop 2 text
rest-drop text =
    let left : length text - 2 ≡ length (drop 2 text) = omega (arith, length-drop 2 text) in
    ap (λ n. take n (drop 2 text)) left ∙ take-length (drop 2 text)

-- a place stands where its halves say
pub place_in-read : (h : ℕ) (bs easting later northing : List ℕ) (corner p : Place)
    → easting ≡ take h (after_gap bs) → later ≡ drop h (after_gap bs) → northing ≡ after_gap later
    → are_digits h easting ≡ true → are_digits h northing ≡ true
    → p.east ≡ corner.east + metres_of h easting → p.north ≡ corner.north + metres_of h northing
    → place_in h bs corner ≡ Some p
place_in-read h bs easting later northing corner p first rest second east_digits north_digits east north =
    let read : northing ≡ after_gap (drop h (after_gap bs)) = second ∙ ap after_gap rest in
    let halves : place_in h bs corner
    ≡ place_by h easting northing corner =
    ap (λ (e : List ℕ). place_by h e (after_gap (drop h (after_gap bs))) corner) (sym first)
    ∙ ap (λ (n : List ℕ). place_by h easting n corner) (sym read) in
    let there : ◌≡◌ {A = Place}
    (record { east = corner.east + metres_of h easting; north = corner.north + metres_of h northing }) p = λ i.
    record { east = sym east i; north = sym north i } in
    halves ∙ (cond-true _ _ None (and_from _ _ east_digits north_digits) ∙ ap Some there)

module _ (text : List ℕ) (p : Place) (r : IsReference text p) where
  abbrev rest : List ℕ
  rest = r.before ++ (r.easting ++ (r.between ++ r.northing))

  some_digits : 1 ≤ r.half
  some_digits =
      let size = r.size in
      elim size [ inl three ↦ omega arith | inr more ↦ elim more [ inl four ↦ omega arith | inr five ↦ omega arith ] ]

  digits_of-rest : filter is_ascii_digit rest ≡ r.easting ++ r.northing
  digits_of-rest =
      rw (
        filter-append,
        filter-append,
        filter-append,
        filter-gap r.before r.gaps.0,
        filter-gap r.between r.gaps.1,
        filter-digits r.easting r.digits.0,
        filter-digits r.northing r.digits.1,
      ) refl

  count : length (filter is_ascii_digit rest) ≡ r.half + r.half
  count =
      ap length digits_of-rest
      ∙ (length-append r.easting r.northing
      ∙ (ap (λ n. n + length r.northing) r.sizes.0 ∙ ap (λ n. r.half + n) r.sizes.1))

  allowed : are_allowed rest ≡ true
  allowed =
      rw (
        list_all-append,
        list_all-append,
        list_all-append,
        allowed-gap r.before r.gaps.0,
        allowed-gap r.between r.gaps.1,
        allowed-digits r.easting r.digits.0,
        allowed-digits r.northing r.digits.1,
      ) refl

  first_half : after_gap rest ≡ r.easting ++ (r.between ++ r.northing)
  first_half =
      after_gap-digits r.before r.easting (r.between ++ r.northing) r.gaps.0 r.digits.0
      (omega (arith, some_digits, r.sizes.0))

  easting_read : take r.half (after_gap rest) ≡ r.easting
  easting_read = rw (first_half, sym r.sizes.0) (take-append_seam r.easting (r.between ++ r.northing))

  later_read : drop r.half (after_gap rest) ≡ r.between ++ r.northing
  later_read = rw (first_half, sym r.sizes.0) (drop-append_seam r.easting (r.between ++ r.northing))

  northing_read : after_gap (r.between ++ r.northing) ≡ r.northing
  northing_read =
      let no_more : r.northing ++ [] ≡ r.northing = append-nil r.northing in
      let passed = after_gap-digits r.between r.northing [] r.gaps.1 r.digits.1
      (omega (arith, some_digits, r.sizes.1)) in
      ap (λ (ds : List ℕ). after_gap (r.between ++ ds)) (sym no_more) ∙ (passed ∙ no_more)

  place_read : place_in r.half rest r.corner ≡ Some p
  place_read =
      place_in-read r.half rest r.easting (r.between ++ r.northing) r.northing r.corner p (sym easting_read)
      (sym later_read) (sym northing_read) (and_from _ _ (eq-eqb (length r.easting) r.half r.sizes.0) r.digits.0)
      (and_from _ _ (eq-eqb (length r.northing) r.half r.sizes.1) r.digits.1) r.east r.north

  parse-read : parse (r.letter ∷ r.other ∷ rest) ≡ Ok p
  parse-read =
      parse-square (r.letter ∷ r.other ∷ rest) rest r.corner r.half r.square refl allowed count r.size
      ∙ ap (λ (o : Option Place). ok_or o Spacing) place_read

-- a reference is read as its place
pub parse-reference : (text : List ℕ) (p : Place) → IsReference text p → parse text ≡ Ok p
parse-reference text p r = ap parse r.spelled ∙ parse-read text p r

module _ (a b : ℕ) (bs : List ℕ) (p : Place) where
  -- what is read is a reference to that place
  read_by : (corner : Place) → corner_of a b ≡ Some corner → (h : ℕ)
      → (h ≡ 3) ⊎ ((h ≡ 4) ⊎ (h ≡ 5)) → place_in h bs corner ≡ Some p → IsReference (a ∷ b ∷ bs) p
  read_by corner square h size there =
      let easting = take h (after_gap bs) in
      let northing = after_gap (drop h (after_gap bs)) in
      (elim (are_digits h easting
      && are_digits h northing) as (λ (t : Bool).
      (are_digits h easting && are_digits h northing) ≡ t
      → cond t (Some (record { east = corner.east + metres_of h easting; north = corner.north + metres_of h northing }))
      None ≡ Some p → IsReference (a ∷ b ∷ bs) p) [
        | true ↦ λ both found.
            let halves = and_parts _ _ both in
            let east = and_parts _ _ halves.0 in
            let north = and_parts _ _ halves.1 in
            let stands : ◌≡◌ {A = Place}
            (record { east = corner.east + metres_of h easting; north = corner.north + metres_of h northing }) p = cc in
            let later = drop h (after_gap bs) in
            let whole : gap_of bs ++ (easting ++ (gap_of later ++ northing)) ≡ bs =
            ap (λ (ds : List ℕ). gap_of bs ++ (easting ++ ds)) (gap_of-after_gap later)
            ∙ (ap (λ (ds : List ℕ). gap_of bs ++ ds) (take-append-drop h (after_gap bs)) ∙ gap_of-after_gap bs) in
            record {
              letter = a;
              other = b;
              corner = corner;
              before = gap_of bs;
              easting = easting;
              between = gap_of (drop h (after_gap bs));
              northing = northing;
              half = h;
              spelled = ap (λ (ds : List ℕ). a ∷ b ∷ ds) (sym whole);
              square = square;
              gaps = (gap_of-IsGap bs, gap_of-IsGap (drop h (after_gap bs)));
              size = size;
              sizes = (eqb-true _ _ east.0, eqb-true _ _ north.0);
              digits = (east.1, north.1);
              east = ap (λ (q : Place). q.east) (sym stands);
              north = ap (λ (q : Place). q.north) (sym stands);
            }
        | false ↦ λ other none. cc
      ]) refl there

-- what is read is a reference to that place
read_place : (text : List ℕ) (p : Place) → has_length_fault text ≡ false
    → option_and_then (place_in (digit_count text / 2) (drop 2 text)) (square_of text) ≡ Some p
    → IsReference text p
read_place [] p even there = cc
read_place (a ∷ []) p even there = cc
read_place (a ∷ b ∷ bs) p even there =
    (elim (corner_of a b) as (λ (o : Option Place).
    corner_of a b ≡ o → option_and_then (place_in (digit_count (a ∷ b ∷ bs) / 2) bs) o ≡ Some p
    → IsReference (a ∷ b ∷ bs) p) [
      | None ↦ λ square none. cc
      | Some corner ↦
          λ square found.
          read_by a b bs p corner square _ (half-even (digit_count (a ∷ b ∷ bs)) (not-false _ even)) found
    ]) refl there

-- what is said of a text: the place that it names, or its first fault
pub parse-parsed : (text : List ℕ) → MatchResult (parse text) (IsReference text) (IsFirstFault text)
parse-parsed text =
    (elim (has_square_fault text) as (λ (s : Bool).
    has_square_fault text ≡ s
    → MatchResult
    (cond s (Err Square) (cond (has_digit_fault text) (Err Digit)
    (cond (has_length_fault text) (Err Length)
    (ok_or (option_and_then (place_in (digit_count text / 2) (drop 2 text)) (square_of text)) Spacing))))
    (IsReference text) (IsFirstFault text)) [
      | true ↦ λ square. square
      | false ↦
          λ square.
          (elim (has_digit_fault text) as (λ (d : Bool).
          has_digit_fault text ≡ d
          → MatchResult
          (cond d (Err Digit) (cond (has_length_fault text) (Err Length)
          (ok_or (option_and_then (place_in (digit_count text / 2) (drop 2 text)) (square_of text)) Spacing)))
          (IsReference text) (IsFirstFault text)) [
            | true ↦ λ digit. (square, digit)
            | false ↦
                λ digit.
                (elim (has_length_fault text) as (λ (l : Bool).
                has_length_fault text ≡ l
                → MatchResult
                (cond l (Err Length)
                (ok_or (option_and_then (place_in (digit_count text / 2) (drop 2 text)) (square_of text)) Spacing))
                (IsReference text) (IsFirstFault text)) [
                  | true ↦ λ length. (square, digit, length)
                  | false ↦
                      λ length.
                      (elim (option_and_then (place_in (digit_count text / 2) (drop 2 text))
                      (square_of text)) as (λ (o : Option Place).
                      option_and_then (place_in (digit_count text / 2) (drop 2 text)) (square_of text) ≡ o
                      → MatchResult (ok_or o Spacing) (IsReference text) (IsFirstFault text)) [
                        | Some p ↦ λ found. read_place text p length found
                        | None ↦
                            λ none. (
                              square,
                              digit,
                              length,
                              λ p r.
                                  let read = parse-reference text p r in
                                  let as_read = unfaulted text square digit length in
                                  let parsed : ok_or {T = Place} None Spacing
                                  ≡ Ok p =
                                  sym (ap (λ (o : Option Place). ok_or o Spacing) none) ∙ (sym as_read ∙ read) in
                                  cc,
                            )
                      ]) refl
                ]) refl
          ]) refl
    ]) refl

-- the same of a result that was read
pub parsed_place : (text : List ℕ) (r : Result Place PlaceFault) → r ≡ parse text
    → IfOk r (IsReference text)
parsed_place text (Ok p) read =
    subst (λ (r : Result Place PlaceFault). MatchResult r (IsReference text) (IsFirstFault text)) (sym read)
    (parse-parsed text)
parsed_place text (Err fault) read = tt

pub parsed_fault : (text : List ℕ) (r : Result Place PlaceFault) → r ≡ parse text
    → IfErr r (IsFirstFault text)
parsed_fault text (Ok p) read = tt
parsed_fault text (Err fault) read =
    subst (λ (r : Result Place PlaceFault). MatchResult r (IsReference text) (IsFirstFault text)) (sym read)
    (parse-parsed text)
