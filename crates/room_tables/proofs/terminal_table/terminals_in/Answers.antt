-- What is not read is a stranger.
use Rattle.std.proofs.Common.{[], inl, inr, refl, sym, true≢false, ◌∙◌}
use Rattle.std.proofs.lemmas.List.{append-nil, take_all}
use Rattle.room_tables_rows.specs.TerminalSql.{is_terminal_row, terminal_row}
use Rattle.room_tables.proofs.ReadFailures.{memory_fails}
use Rattle.room_tables.proofs.Unread.{read_more, stranger_at}
use Rattle.room_tables.proofs.terminal_table.terminals_in.Goals as goal

pub loop-columns-preserved : goal.loop-columns-preserved
loop-columns-preserved c =
    rw c.in_ok-push.ensures.items (read_more c.args.shown.now c.loop-columns.columns-index c.columns-item.result
    c.loop-columns-test.true c.columns-item.is terminal_row c.loop-columns.terminals.items c.in-Some.terminal
    c.loop-columns.invariant c.in-Some.ensures.row)

pub returns-in_default-clause-why : goal.returns-in_default-clause-why
returns-in_default-clause-why c =
    inl (stranger_at c.args.shown.now c.loop-columns.columns-index c.columns-item.result c.loop-columns-test.true
    c.columns-item.is is_terminal_row (sym c.in_default.ensures.has_one))

pub returns-then-are_in_order-clause-shown : goal.returns-then-are_in_order-clause-shown
returns-then-are_in_order-clause-shown c =
    c.loop-columns.invariant ∙ take_all c.loop-columns.columns-index c.args.shown.now c.loop-columns-test.false

pub returns-else-are_in_order-clause-why : goal.returns-else-are_in_order-clause-why
returns-else-are_in_order-clause-why c =
    let read = c.loop-columns.invariant
    ∙ take_all c.loop-columns.columns-index c.args.shown.now c.loop-columns-test.false in
    let stated = rw c.as_slice.ensures.value at c.are_in_order.ensures in
    inr (
      c.loop-columns.terminals.items,
      [],
      append-nil _ ∙ read,
      λ keyed. true≢false (sym (stated.1 keyed) ∙ c.if-are_in_order.false),
    )

pub loop-columns-init : goal.loop-columns-init
loop-columns-init c = rw c.new-terminals.ensures.items refl

pub returns-in_err-push-clause-why : goal.returns-in_err-push-clause-why
returns-in_err-push-clause-why c = memory_fails _ c.from_residual.result c.from_residual.ensures.1

pub returns-then-are_in_order-clause-keyed : goal.returns-then-are_in_order-clause-keyed
returns-then-are_in_order-clause-keyed c =
    let stated = rw c.as_slice.ensures.value at c.are_in_order.ensures in stated.0 c.if-are_in_order.true
