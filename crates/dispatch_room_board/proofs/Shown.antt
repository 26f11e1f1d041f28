-- Lemmas on what is shown of an answer.
use Rattle.std.proofs.Common.{◌≡◌, ℕ, ◌+◌, ◌<◌, List, [], ◌∷◌, ◌++◌, length, take, get_or, Bool}
use Rattle.std.proofs.Common.{append_assoc, refl, sym, ◌∙◌}
use Rattle.std.specs.Prelude.{◌≢◌, codes, decimal}
use Rattle.std.proofs.lemmas.List.{append-nil, take_more}
use Rattle.dispatch_room_board.specs.declared.board_pages.Page.{Page}
use Rattle.dispatch_room_board.specs.declared.board_pages.Paint.TheVariants.{Plain, Title}
use Rattle.dispatch_room_board.specs.Pages.{Adds, spaced_line, text_line}
use Rattle.dispatch_room_board.specs.BoardTables.{Table, row_line, row_lines, table_lines}
use Rattle.dispatch_room_board.specs.BoardTables.{titles_line}

lines_end : {T : Type 0} (table : Table T) (colour : Bool) (now : ℕ) (rows : List T) (row : T)
    → row_lines table colour now (rows ++ row ∷ []) ≡ row_lines table colour now rows
    ++ row_line table colour now row
lines_end table colour now [] row = append-nil (row_line table colour now row)
lines_end table colour now (r ∷ rows) row =
    rw (lines_end table colour now rows row)
    (sym (append_assoc (row_line table colour now r) (row_lines table colour now rows) (row_line table colour now row)))

pub lines_more : {T : Type 0} (table : Table T) (colour : Bool) (now : ℕ) (rows : List T) (row : T)
    (i : ℕ) → i < length rows → row ≡ get_or rows i row
    → row_lines table colour now (take (i + 1) rows) ≡ row_lines table colour now (take i rows)
    ++ row_line table colour now row
lines_more table colour now rows row i below here =
    rw (take_more rows i row below, ← here) (lines_end table colour now (take i rows) row)

pub adds_more : (a b c : Page) (xs ys zs : List ℕ) → Adds a b xs → Adds b c ys → zs ≡ xs ++ ys
    → Adds a c zs
adds_more a b c xs ys zs first second both =
    (rw (second.0, first.0, both) (append_assoc a.text.items xs ys), second.1 ∙ first.1)

pub none_shown : {T : Type 0} (table : Table T) (now : ℕ) (rows : List T) (a b : Page) → rows ≡ []
    → Adds a b (spaced_line a.colour Title (table.title ++ codes ": " ++ decimal (length rows)))
    → Adds a b (table_lines table a.colour now rows)
unfolding table_lines
none_shown table now [] a b none p = (p.0 ∙ simp append-nil, p.1)
none_shown table now (row ∷ rows) a b none p = absurd (cc none)

titles_shown : {T : Type 0} (table : Table T) (colour : Bool) (rows : List T) → rows ≢ []
    → titles_line table colour rows ≡ text_line colour Plain table.titles
titles_shown table colour [] some = absurd (some refl)
titles_shown table colour (row ∷ rows) some = refl

pub table_shown : {T : Type 0} (table : Table T) (now : ℕ) (rows : List T) (a b c d : Page)
    → rows ≢ []
    → Adds a b (spaced_line a.colour Title (table.title ++ codes ": " ++ decimal (length rows)))
    → Adds b c (text_line b.colour Plain table.titles)
    → Adds c d (row_lines table c.colour now rows) → Adds a d (table_lines table a.colour now rows)
unfolding table_lines
table_shown table now rows a b c d some p q r =
    adds_more a c d _ _ _ (adds_more a b c _ _ _ p (rw p.1 at q.0, q.1) refl) (rw (q.1, p.1) at r.0, r.1)
    (rw (titles_shown table a.colour rows some))
