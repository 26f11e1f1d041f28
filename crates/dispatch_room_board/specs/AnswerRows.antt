-- What one answer gives.
use Rattle.std.specs.Prelude.{◌≡◌, ◌≢◌, ◌⊎◌, ℕ, List, [], ◌∷◌, IsUtf8, MatchResult, None, Result}
use Rattle.std.specs.Prelude.{Some}
use Rattle.serde_json.specs.Data.{Data, Items, no_items, item}
use Rattle.serde_json.specs.Find.{as_array}
use Rattle.serde_json.specs.Read.{read}
use Rattle.dispatch_room_board.specs.declared.heard_answers.HeardAnswer.{HeardAnswer}
use Rattle.dispatch_room_board.specs.declared.board_errors.BoardError.{BoardError}
use Rattle.dispatch_room_board.specs.declared.board_errors.BoardError.TheVariants.{Unheard, Foreign}
use Rattle.dispatch_room_board.specs.declared.board_errors.BoardError.TheVariants.{Refused}
use Rattle.dispatch_room_board.specs.HeardAnswers.{IsMessage, IsNoMessage}
use Rattle.dispatch_room_board.specs.Members.{IsRead}
use Rattle.dispatch_room_board.specs.BoardErrors.{IsErrorIn}

-- the bytes are a text of JSON, and it says this
abbrev pub IsJson : List ℕ → Data → Type 0
IsJson bytes d = IsUtf8 bytes × (read bytes ≡ Some d)

-- the items say the rows, one each, in their order
abbrev pub AreRows : {T : Type 0} → (Data → T → Type 0) → Items → List T → Type 0
AreRows says no_items [] = Unit {0}
AreRows says no_items (row ∷ rows) = ⊥
AreRows says (item d ds) [] = ⊥
AreRows says (item d ds) (row ∷ rows) = says d row × AreRows says ds rows

-- it is the list of these rows
abbrev pub IsList : {T : Type 0} → (Data → T → Type 0) → Data → List T → Type 0
IsList says d rows = (ds : Items) × (as_array d ≡ Some ds) × AreRows says ds rows

-- the answer is no refusal, and its JSON gives this
abbrev pub IsAnswered : {T : Type 0} → (Data → T → Type 0) → HeardAnswer → T → Type 0
IsAnswered gives message it =
    (d : Data) × (message.code ≡ 200) × IsJson message.content.now d × gives d it

-- the answer is a refusal, and reports this
abbrev pub IsRefused : HeardAnswer → BoardError → Type 0
IsRefused message board_error =
    (d : Data) × (message.code ≢ 200) × IsJson message.content.now d × IsErrorIn d board_error

-- why an answer gives nothing of what is looked for: it refuses so, or gives nothing and does not
-- refuse
abbrev pub IsNoAnswer : {T : Type 0} → (T → Type 0) → HeardAnswer → BoardError → Type 0
IsNoAnswer gives message Unheard = ⊥
IsNoAnswer gives message Foreign = IsRead gives None × IsRead (IsRefused message) None
IsNoAnswer gives message (Refused number name) = IsRefused message (Refused number name)

-- the answer gives this, and was given at this moment
abbrev pub IsDatedAnswer : {T : Type 0} → (Data → T → Type 0) → HeardAnswer → T × ℕ → Type 0
IsDatedAnswer gives message found =
    IsAnswered gives message found.0 × (message.moment ≡ Some found.1)

-- what was heard begins with such an answer, and the rest follows
abbrev pub IsNext : {T : Type 0} → (Data → T → Type 0) → List ℕ → List ℕ → T × ℕ → Type 0
IsNext gives heard rest found =
    (message : HeardAnswer) × IsMessage heard message rest × IsDatedAnswer gives message found

-- why nothing of the kind was heard: no answer comes next, and nothing is taken, or the next one
-- does not give it
abbrev pub Befalls : {T : Type 0} → (Data → T → Type 0) → List ℕ → List ℕ → BoardError → Type 0
Befalls gives heard rest board_error =
    (IsNoMessage heard board_error × (rest ≡ heard))
    ⊎ ((message : HeardAnswer) × IsMessage heard message rest
    × IsNoAnswer (IsDatedAnswer gives message) message board_error)

-- what the next answer gives, or why it gives nothing of the kind
abbrev pub IsFound : {T : Type 0} → (Data → T → Type 0) → List ℕ → List ℕ
    → Result (T × ℕ) BoardError → Type 0
IsFound gives heard rest found = MatchResult found (IsNext gives heard rest) (Befalls gives heard rest)
