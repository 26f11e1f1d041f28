-- What the text of a chain decides.
use Rattle.std.specs.Prelude.{◌≡◌, ◌≢◌, ◌⊎◌, ⊤, ℕ, List, [], ◌∷◌, ◌++◌, length, Bool, true, false}
use Rattle.std.specs.List.{flat_map}
use Rattle.dispatch_room_journal.specs.Chains.{IsBody, chain_text, first_check, is_end, last_check}
use Rattle.dispatch_room_journal.specs.Chains.{opening, said_by}
use Rattle.dispatch_room_journal.specs.RecordFronts.{comes_next, list_says}
use Rattle.dispatch_room_journal.specs.declared.read_progress.Reach.TheVariants.{Full}

-- a hash of two texts is the same, or the one of a text is the check before the first record
abbrev pub HasTwin : (List ℕ → List ℕ) → Type 0
HasTwin hash =
    ((one other : List ℕ) × (one ≢ other) × (hash one ≡ hash other))
    ⊎ ((text : List ℕ) × (hash text ≡ first_check))

-- two lists that end with the same check are the same, unless the hash has a twin: so no record of
-- a list can be changed, left out, repeated or moved but that a check after it changes too
abbrev pub IsOneChain : Type 0
IsOneChain =
    (hash : List ℕ → List ℕ) → ((text : List ℕ) → length (hash text) ≡ 64)
    → (one other : List (List ℕ))
    → last_check hash first_check one ≡ last_check hash first_check other
    → (one ≡ other) ⊎ HasTwin hash

-- records one after another: none says twice in a row that the list ended well
abbrev pub AreBodies : Bool → List (List ℕ) → Type 0
AreBodies has_ended [] = ⊤
AreBodies has_ended (body ∷ more) =
    IsBody body × (comes_next has_ended body ≡ true) × AreBodies (is_end body) more

-- what is written is read again: a chain says what its records do
abbrev pub IsReadAgain : Type 0
IsReadAgain =
    (hash : List ℕ → List ℕ) → ((text : List ℕ) → length (hash text) ≡ 64)
    → (bodies : List (List ℕ)) → AreBodies false bodies
    → list_says hash Full (opening ++ chain_text hash first_check bodies) ≡ flat_map said_by bodies

-- what the rest of a chain says: nothing where there is none, and otherwise a byte with which no
-- entry begins
abbrev pub says_rest : List ℕ → List ℕ
says_rest [] = []
says_rest (byte ∷ more) = 0 ∷ []

-- What is read was written: whatever stands behind the line that begins a chain, it says what the
-- records do with which it goes on, each the one that comes next, and that something else follows
-- them, if it does.
abbrev pub IsWritten : Type 0
IsWritten =
    (hash : List ℕ → List ℕ) (text : List ℕ)
    → (bodies : List (List ℕ)) × (rest : List ℕ) × AreBodies false bodies
    × (text ≡ chain_text hash first_check bodies ++ rest)
    × (list_says hash Full (opening ++ text) ≡ flat_map said_by bodies ++ says_rest rest)
