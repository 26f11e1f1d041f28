-- Lemmas on what is shown of an incident.
use Rattle.std.proofs.Common.{ℕ, refl}
use Rattle.dispatch_room_board.specs.declared.history_lines.History.{History}
use Rattle.dispatch_room_board.specs.declared.board_pages.Page.{Page}
use Rattle.dispatch_room_board.specs.declared.board_pages.Paint.TheVariants.{Plain, Title}
use Rattle.dispatch_room_board.specs.declared.summary_columns.IncidentSummary.{IncidentSummary}
use Rattle.dispatch_room_board.specs.CellLayout.{row_of}
use Rattle.dispatch_room_board.specs.Histories.{call_table, history_lines, summary_columns}
use Rattle.dispatch_room_board.specs.Histories.{summary_lines, summary_texts, summary_title}
use Rattle.dispatch_room_board.specs.Histories.{summary_titles, turn_table}
use Rattle.dispatch_room_board.specs.Pages.{Adds, line_of, spaced_line, text_line}
use Rattle.dispatch_room_board.specs.BoardTables.{table_lines}
use Rattle.dispatch_room_board.proofs.Shown.{adds_more}

pub summary_shown : (now : ℕ) (s : IncidentSummary) (a b c d : Page)
    → Adds a b (spaced_line a.colour Title (summary_title s))
    → Adds b c (text_line b.colour Plain summary_titles)
    → Adds c d (line_of c.colour Plain (row_of summary_columns (summary_texts now s)))
    → Adds a d (summary_lines a.colour now s)
summary_shown now s a b c d p q r =
    adds_more a c d _ _ _ (adds_more a b c _ _ _ p (rw p.1 at q.0, q.1) refl)
    (rw (q.1, p.1) at r.0, r.1) refl

pub history_shown : (now : ℕ) (h : History) (a b c d : Page)
    → Adds a b (summary_lines a.colour now h.summary)
    → Adds b c (table_lines call_table b.colour now h.calls)
    → Adds c d (table_lines turn_table c.colour now h.turns)
    → Adds a d (history_lines a.colour now h)
history_shown now h a b c d p q r =
    adds_more a c d _ _ _ (adds_more a b c _ _ _ p (rw p.1 at q.0, q.1) refl)
    (rw (q.1, p.1) at r.0, r.1) refl
