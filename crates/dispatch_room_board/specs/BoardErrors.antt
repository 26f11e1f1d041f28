-- Why a part of the board is not there.
use Rattle.std.specs.Prelude.{◌≡◌, ◌≤◌, List, ℕ, ◌++◌, length, codes, decimal, true}
use Rattle.std.specs.List.{list_all}
use Rattle.serde_json.specs.Data.{Data}
use Rattle.room_types.specs.Texts.{is_token_letter}
use Rattle.dispatch_room_board.specs.declared.board_errors.Name.{Name}
use Rattle.dispatch_room_board.specs.declared.board_errors.BoardError.{BoardError}
use Rattle.dispatch_room_board.specs.declared.board_errors.BoardError.TheVariants.{Unheard, Foreign}
use Rattle.dispatch_room_board.specs.declared.board_errors.BoardError.TheVariants.{Refused}
use Rattle.dispatch_room_board.specs.Members.{HasMember, IsByte, IsText}

-- the name is this text, of at most 32 letters and digits
abbrev pub IsNameOf : List ℕ → Name → Type 0
IsNameOf text name =
    (name.text ≡ text) × (list_all is_token_letter text ≡ true) × (length text ≤ 32)

-- it is a text, and it is the name
abbrev pub IsName : Data → Name → Type 0
IsName d name = (text : List ℕ) × IsText d text × IsNameOf text name

-- it reports this refusal
abbrev pub IsErrorIn : Data → BoardError → Type 0
IsErrorIn d (Refused number name) =
    HasMember IsByte (codes "number") d number × HasMember IsName (codes "error") d name
IsErrorIn d other = ⊥

-- what is said in place of the table of a title
unfoldable pub error_text : List ℕ → BoardError → List ℕ
error_text title Unheard = title ++ codes ": not reached: no whole answer came"
error_text title Foreign = title ++ codes ": not reached: the answer is not a room's"
error_text title (Refused number name) =
    title ++ codes ": refused: " ++ decimal number ++ codes " " ++ name.text
