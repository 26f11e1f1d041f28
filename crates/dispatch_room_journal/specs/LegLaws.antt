-- What a list says is its segments, one after another.
use Rattle.std.specs.Prelude.{◌≡◌, ℕ, List, ◌∷◌, ◌++◌, length, All, Bool, false}
use Rattle.std.specs.List.{flat_map}
use Rattle.dispatch_room_journal.specs.declared.read_progress.Reach.TheVariants.{Full, Segment}
use Rattle.dispatch_room_journal.specs.Chains.{chain_text, is_row, last_check, said_by}
use Rattle.dispatch_room_journal.specs.RecordFronts.{says}
use Rattle.dispatch_room_journal.specs.ChainLaws.{AreBodies}
use Rattle.dispatch_room_journal.specs.PlainTexts.{last_ended}
use Rattle.dispatch_room_journal.specs.RowRuns.{IsRow}

abbrev pub IsNoRow : List ℕ → Type 0
IsNoRow body = is_row body ≡ false

-- Where rows stand behind some records, and more behind the rows: the segment is what those records
-- say, and all that is said is the segment, and then what is said behind the rows.
abbrev pub IsLegByLeg : Type 0
IsLegByLeg =
    (hash : List ℕ → List ℕ) → ((text : List ℕ) → length (hash text) ≡ 64)
    → (check : List ℕ) (has_ended : Bool) (front rows : List (List ℕ)) (row rest : List ℕ)
    → AreBodies has_ended (front ++ row ∷ rows) → All IsNoRow front → All IsRow (row ∷ rows)
    → let bodies = front ++ row ∷ rows in
    let text = chain_text hash check bodies ++ rest in
    (says hash Segment check has_ended text ≡ flat_map said_by front)
    × (says hash Full check has_ended text ≡ says hash Segment check has_ended text
    ++ says hash Full (last_check hash check bodies) (last_ended has_ended bodies) rest)
