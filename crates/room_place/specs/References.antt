-- Grid references: which texts name a place, and why the others name none.
use Rattle.std.specs.Char.{is_ascii_digit}
use Rattle.std.specs.List.{list_all}
use Rattle.std.specs.Prelude.{Bool, Err, List, None, Option, Result, Some, [], codes, drop, false}
use Rattle.std.specs.Prelude.{filter, fold, if◌then◌else◌, length, not, ok_or, option_and_then}
use Rattle.std.specs.Prelude.{take, true, ℕ, ◌&&◌, ◌*◌, ◌++◌, ◌+◌, ◌-◌, ◌/◌, ◌==◌, ◌^◌, ◌||◌, ◌∷◌}
use Rattle.std.specs.Prelude.{◌≡◌, ◌⊎◌, is_none}
use Rattle.room_place.specs.declared.places.Place.{Place}
use Rattle.room_place.specs.declared.places.PlaceFault.{PlaceFault}
use Rattle.room_place.specs.declared.places.PlaceFault.TheVariants.{Digit, Length, Spacing, Square}

-- whether two letters are those of a square's name
abbrev pub are_letters : List ℕ → ℕ → ℕ → Bool
are_letters [] a b = false
are_letters (x ∷ []) a b = false
are_letters (x ∷ y ∷ zs) a b = a == x && b == y

-- the south-west corner of the square of two letters
abbrev pub corner_of : ℕ → ℕ → Option Place
corner_of a b =
    if are_letters (codes "TQ") a b then Some (record { east = 500000; north = 100000 }) else
    (if are_letters (codes "TL") a b then Some (record { east = 500000; north = 200000 }) else
    (if are_letters (codes "SU") a b then Some (record { east = 400000; north = 100000 }) else
    (if are_letters (codes "SP") a b then Some
    (record { east = 400000; north = 200000 }) else None)))

-- the number that digits write; 48 is the code of 0
abbrev pub number_of : List ℕ → ℕ
number_of digits = fold (λ n b. n * 10 + (b - 48)) 0 digits

-- how far along its axis of a square h digits lie, in metres: h is 5 for whole metres
abbrev pub metres_of : ℕ → List ℕ → ℕ
metres_of h digits = number_of digits * 10 ^ (5 - h)

abbrev pub AreDigits : List ℕ → Type 0
AreDigits bs = list_all is_ascii_digit bs ≡ true

-- no space, or one
abbrev pub IsGap : List ℕ → Type 0
IsGap gap = (gap ≡ []) ⊎ (gap ≡ codes " ")

-- a text names a place: two letters, perhaps a space, 3, 4 or 5 digits, perhaps a space, as many
-- digits; the place lies so far east and north of the square's south-west corner
pub record IsReference (text : List ℕ) (p : Place) : Type 0 where
  pub letter : ℕ
  pub other : ℕ
  pub corner : Place
  pub before : List ℕ
  pub easting : List ℕ
  pub between : List ℕ
  pub northing : List ℕ
  pub half : ℕ
  pub spelled : text ≡ letter ∷ other ∷ before ++ (easting ++ (between ++ northing))
  pub square : corner_of letter other ≡ Some corner
  pub gaps : IsGap before × IsGap between
  pub size : (half ≡ 3) ⊎ ((half ≡ 4) ⊎ (half ≡ 5))
  pub sizes : (length easting ≡ half) × (length northing ≡ half)
  pub digits : AreDigits easting × AreDigits northing
  pub east : p.east ≡ corner.east + metres_of half easting
  pub north : p.north ≡ corner.north + metres_of half northing

-- the corner of the square that a text begins with
abbrev pub square_of : List ℕ → Option Place
square_of [] = None
square_of (a ∷ []) = None
square_of (a ∷ b ∷ bs) = corner_of a b

-- the number of digits after the letters
abbrev pub digit_count : List ℕ → ℕ
digit_count text = length (filter is_ascii_digit (drop 2 text))

-- the first two characters are none of the four squares
abbrev pub has_square_fault : List ℕ → Bool
has_square_fault text = is_none (square_of text)

-- all are digits or spaces; 32 is the code of a space
abbrev pub are_allowed : List ℕ → Bool
are_allowed bs = list_all (λ b. is_ascii_digit b || b == 32) bs

-- a later character is neither a digit nor a space
abbrev pub has_digit_fault : List ℕ → Bool
has_digit_fault text = not (are_allowed (drop 2 text))

-- there are not 6, 8 or 10 digits
abbrev pub has_length_fault : List ℕ → Bool
has_length_fault text =
    not (digit_count text == 6 || (digit_count text == 8 || digit_count text == 10))

-- the first fault of a text: that of spacing where it is no reference and has no other
abbrev pub IsFirstFault : List ℕ → PlaceFault → Type 0
IsFirstFault text Square = has_square_fault text ≡ true
IsFirstFault text Digit = (has_square_fault text ≡ false) × (has_digit_fault text ≡ true)
IsFirstFault text Length = (has_square_fault text ≡ false) × (has_digit_fault text ≡ false)
    × (has_length_fault text ≡ true)
IsFirstFault text Spacing = (has_square_fault text ≡ false) × (has_digit_fault text ≡ false)
    × (has_length_fault text ≡ false) × ((p : Place) → ¬ IsReference text p)

-- what follows a space that may stand at the head
abbrev pub after_gap : List ℕ → List ℕ
after_gap [] = []
after_gap (b ∷ bs) = if b == 32 then bs else b ∷ bs

-- h digits
abbrev pub are_digits : ℕ → List ℕ → Bool
are_digits h bs = length bs == h && list_all is_ascii_digit bs

abbrev pub place_by : ℕ → List ℕ → List ℕ → Place → Option Place
place_by h easting northing corner =
    if are_digits h easting && are_digits h northing
    then Some (record {
      east = corner.east + metres_of h easting;
      north =
          corner.north + metres_of h northing;
    })
    else None

-- the place that h digits each way name in a square
abbrev pub place_in : ℕ → List ℕ → Place → Option Place
place_in h bs corner = place_by h (take h (after_gap bs)) (after_gap (drop h (after_gap bs))) corner

-- the place that a text names, or its first fault, as it is computed
abbrev pub parse : List ℕ → Result Place PlaceFault
parse text =
    if has_square_fault text then Err Square else
    (if has_digit_fault text then Err Digit else
    (if has_length_fault text then Err Length else
    ok_or (option_and_then (place_in (digit_count text / 2) (drop 2 text)) (square_of text))
    Spacing))
