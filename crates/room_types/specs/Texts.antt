-- Short texts as contracts see them, and how a text lies in a fixed array.
use Rattle.std.proofs.Common.{◌≡◌, ℕ, ◌-◌, ◌≤◌, Bool, List, ◌++◌, length, take, drop, replicate}
use Rattle.std.proofs.Common.{arith, take-append-drop, length-take-le, nat_le}
use Rattle.std.specs.List.{list_all}
use Rattle.std.specs.Prelude.{◌&&◌, ◌||◌, if◌then◌else◌, Option, Some, None}
use Rattle.std.specs.Cmp.Lexicographic.{slice_cmp}
use Rattle.std.specs.Ordering.{is_eq, nat_cmp}

-- the texts of callsigns, tokens and notes, as their bytes
abbrev pub Callsign : Type 0
Callsign = List ℕ

abbrev pub Token : Type 0
Token = List ℕ

abbrev pub Note : Type 0
Note = List ℕ

-- A to Z or 0 to 9
abbrev pub is_callsign_letter : ℕ → Bool
is_callsign_letter b = (nat_le 65 b && nat_le b 90) || (nat_le 48 b && nat_le b 57)

-- A to Z, a to z or 0 to 9
abbrev pub is_token_letter : ℕ → Bool
is_token_letter b =
    (nat_le 65 b && nat_le b 90) || ((nat_le 97 b && nat_le b 122) || (nat_le 48 b && nat_le b 57))

-- 1 to 8 such letters
abbrev pub is_callsign : List ℕ → Bool
is_callsign text =
    nat_le 1 (length text) && nat_le (length text) 8 && list_all is_callsign_letter text

-- the callsign that a text is
abbrev pub callsign_of : List ℕ → Option Callsign
callsign_of text = if is_callsign text then Some text else None

-- 8 to 32 such letters
abbrev pub is_token : List ℕ → Bool
is_token text = nat_le 8 (length text) && nat_le (length text) 32 && list_all is_token_letter text

abbrev pub same_note : Note → Note → Bool
same_note a b = is_eq (slice_cmp nat_cmp a b)

-- the part that is used has its length
pub size_back : (cap n : ℕ) (bytes : List ℕ) → n ≤ cap → length bytes ≡ cap
    → length (take n bytes) ≡ n
size_back cap n bytes fits full = length-take-le n bytes (omega arith)

-- a text and its zeros are the array
pub text_back : (cap n : ℕ) (bytes : List ℕ) → n ≤ cap → length bytes ≡ cap
    → drop n bytes ≡ replicate (cap - n) 0
    → take n bytes ++ replicate (cap - length (take n bytes)) 0 ≡ bytes
text_back cap n bytes fits full zeros =
    rw (size_back cap n bytes fits full, ← zeros) (take-append-drop n bytes)
