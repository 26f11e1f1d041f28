-- Lemmas on the notes below rows.
use Rattle.std.proofs.Common.{◌≡◌, ◌<◌, ◌≤◌, ℕ, ◌+◌, List, [], ◌∷◌, ◌++◌, length, map, take, drop}
use Rattle.std.proofs.Common.{get_or, Bool, refl, sym, append_assoc, length-append, length-take}
use Rattle.std.proofs.Common.{arith}
use Rattle.std.specs.Prelude.{codes}
use Rattle.std.proofs.lemmas.List.{append-nil, length-map, map_more}
use Rattle.dispatch_room_board.specs.declared.board_pages.Page.{Page}
use Rattle.dispatch_room_board.specs.declared.board_pages.TheConstants.{NOTED, WIDEST}
use Rattle.dispatch_room_board.specs.Pages.{Adds, note_line, note_lines, noted, visible}
use Rattle.dispatch_room_board.specs.BoardTables.{with_note}
use Rattle.dispatch_room_board.proofs.Shown.{adds_more}

-- one byte more of a note
pub visible_more : (a b c xs : List ℕ) (i y : ℕ) → i < length xs → y ≡ visible (get_or xs i 0)
    → b ≡ a ++ map visible (take i xs) → c ≡ b ++ y ∷ [] → c ≡ a ++ map visible (take (i + 1) xs)
visible_more a b c xs i y below is before push =
    rw (map_more visible xs i 0 below, push, before, is)
    (append_assoc a (map visible (take i xs)) (visible (get_or xs i 0) ∷ []))

-- no line of a note is wider than a line
pub noted_fits : (note : List ℕ) → length (noted note) ≤ WIDEST
noted_fits note =
    omega (
      arith,
      length-append (codes "         ") (map visible (take NOTED note)),
      length-map (take NOTED note) visible,
      length-take NOTED note,
    )

-- a note in its lines, seen as other bytes
pub note_in_lines : (a b c : Page) (note bytes rest : List ℕ) → bytes ≡ note
    → rest ≡ drop NOTED bytes → Adds a b (note_line a.colour bytes)
    → Adds b c (note_line b.colour rest) → Adds a c (note_lines a.colour note)
note_in_lines a b c note bytes rest same behind first second =
    adds_more a b c _ _ _ first (rw first.1 at second.0, second.1) (rw (behind, same) refl)

with_note_is : (colour : Bool) (line note : List ℕ)
    → with_note colour line note ≡ line ++ note_lines colour note
with_note_is colour line [] = sym (append-nil line)
with_note_is colour line (b ∷ bs) = refl

-- a row, and its note below it
pub note_shown : (a b c : Page) (line note text : List ℕ) → text ≡ note → Adds a b line
    → Adds b c (note_lines b.colour text) → Adds a c (with_note a.colour line note)
note_shown a b c line note text same row below =
    adds_more a b c _ _ _ row (rw row.1 at below.0, below.1) (rw same (with_note_is a.colour line note))
