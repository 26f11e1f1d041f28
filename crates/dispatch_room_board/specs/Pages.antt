-- Lines, and the page that they make.
use Rattle.std.specs.Prelude.{◌≡◌, ℕ, List, [], ◌∷◌, ◌++◌, ◌&&◌, if◌then◌else◌, take, drop, map}
use Rattle.std.specs.Prelude.{nat_le, codes, Bool, true, false}
use Rattle.dispatch_room_board.specs.declared.board_pages.Paint.{Paint}
use Rattle.dispatch_room_board.specs.declared.board_pages.Paint.TheVariants.{Plain, Title, Alarm}
use Rattle.dispatch_room_board.specs.declared.board_pages.Page.{Page}
use Rattle.dispatch_room_board.specs.declared.board_pages.TheConstants.{NOTED, WIDEST}

-- what is sent to a terminal before a line: nothing without colour
abbrev pub opening_of : Bool → Paint → List ℕ
opening_of true Title = 27 ∷ codes "[1m"
opening_of true Alarm = 27 ∷ codes "[31m"
opening_of true Plain = []
opening_of false paint = []

-- what it is sent after it, and the line's end
abbrev pub closing_of : Bool → Paint → List ℕ
closing_of true Title = 27 ∷ codes "[0m\n"
closing_of true Alarm = 27 ∷ codes "[0m\n"
closing_of true Plain = 10 ∷ []
closing_of false paint = 10 ∷ []

-- a line of a text
abbrev pub line_of : Bool → Paint → List ℕ → List ℕ
line_of colour paint text = opening_of colour paint ++ text ++ closing_of colour paint

-- a line of a text, which is cut after the last column
abbrev pub text_line : Bool → Paint → List ℕ → List ℕ
text_line colour paint text = line_of colour paint (take WIDEST text)

-- an empty line, and a line of a text
abbrev pub spaced_line : Bool → Paint → List ℕ → List ℕ
spaced_line colour paint text = text_line colour Plain [] ++ text_line colour paint text

-- a byte that is printable ASCII, and a question mark in place of any other
abbrev pub visible : ℕ → ℕ
visible b = if nat_le 32 b && nat_le b 126 then b else 63

-- the first bytes of a text, behind some spaces
abbrev pub noted : List ℕ → List ℕ
noted text = codes "         " ++ map visible (take NOTED text)

-- the line of them, where there are any
abbrev pub note_line : Bool → List ℕ → List ℕ
note_line colour [] = []
note_line colour (b ∷ bs) = line_of colour Plain (noted (b ∷ bs))

-- a text in two lines, or in one that holds it
abbrev pub note_lines : Bool → List ℕ → List ℕ
note_lines colour text = note_line colour text ++ note_line colour (drop NOTED text)

-- a page has these bytes more
abbrev pub Adds : Page → Page → List ℕ → Type 0
Adds old new bytes = (new.text.items ≡ old.text.items ++ bytes) × (new.colour ≡ old.colour)
