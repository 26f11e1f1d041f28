use Rattle.std.proofs.Common.{◌≡◌, ◌-◌, suc, true, false, true≢false, refl, sym, ap, ◌∙◌, arith}
use Rattle.std.proofs.Common.{is_lt, Less}
use Rattle.std.proofs.lemmas.Cmp.{nat_list_cmp_total}
use Rattle.std.proofs.lemmas.List.{get_or_read}
use Rattle.std.proofs.lemmas.List.Sorted.{all_adjacent_more}
use Rattle.room_tables_schema.proofs.Openings.{keyed_adjacent}
use Rattle.room_types.specs.KeyedRows.{IsKeyed}
use Rattle.room_model.specs.FleetRows.{token_cmp, terminal_key}
use Rattle.room_tables_rows.specs.TerminalSql.{terminal_row}
use Rattle.room_tables_rows.proofs.Found.{is_less}
use Rattle.room_tables.proofs.Unread.{adjacent_less}
use Rattle.room_tables.proofs.terminal_table.are_in_order.Goals as goal

pub loop-at-preserved : goal.loop-at-preserved
loop-at-preserved c =
    let xs = c.args.terminals.now in
    let at = c.loop-at.at in
    let a = c.index-terminals-at.result in
    let b = c.index-terminals-at-in-loop-at.result in
    let below : is_lt (token_cmp a.token b.token) ≡ true = cc in
    all_adjacent_more xs (λ x y. token_cmp (terminal_key x) (terminal_key y) ≡ Less) at (omega arith)
    c.loop-at.invariant
    (λ d. let first = get_or_read xs (at - 1) a (omega arith) c.index-terminals-at.is d in
    let next = get_or_read xs at b (omega arith) c.index-terminals-at-in-loop-at.is d in
    ((λ j. token_cmp (terminal_key (sym first j)) (terminal_key (sym next j)))
    ∙ is_less (token_cmp a.token b.token) below))

pub returns : goal.returns
returns c = (
  λ in_order.
      keyed_adjacent token_cmp terminal_key terminal_row nat_list_cmp_total c.args.terminals.now
      (λ k d low. c.loop-at.invariant k d (omega arith)),
  λ keyed. refl,
)

pub returns-then-not-is_lt : goal.returns-then-not-is_lt
returns-then-not-is_lt c =
    let xs = c.args.terminals.now in
    let a = c.index-terminals-at.result in
    let b = c.index-terminals-at-in-loop-at.result in
    let at_is : c.loop-at.at ≡ suc (c.loop-at.at - 1) = omega arith in
    let stated : is_lt (token_cmp a.token b.token) ≡ false = cc in
    let less = λ (keyed : IsKeyed token_cmp terminal_key xs).
    adjacent_less token_cmp terminal_key xs (c.loop-at.at - 1) a b (omega arith) c.index-terminals-at.is
    (rw at_is at c.index-terminals-at-in-loop-at.is) keyed in
    (λ no. absurd (true≢false (sym no)), λ keyed. absurd (true≢false (sym (ap is_lt (less keyed)) ∙ stated)))
