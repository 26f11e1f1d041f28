use Rattle.std.proofs.Common.{◌≡◌, ◌+◌, inl, inr, refl, sym, ◌∙◌, arith}
use Rattle.std.proofs.lemmas.Grind.{common_steps}
use Rattle.std.proofs.lemmas.List.{take_all}
use Rattle.room_tables_rows.proofs.PlanLaws.{areas_more}
use Rattle.room_tables_rows.specs.AreaSql.{is_area_row}
use Rattle.room_tables.proofs.ReadFailures.{memory_fails}
use Rattle.room_tables.proofs.Unread.{misnumbered_at, stranger_at}
use Rattle.room_tables.proofs.area_table.areas_in.Goals as goal

pub loop-index-preserved : goal.loop-index-preserved
loop-index-preserved c =
    let place : c.in-Some.numbered.0 ≡ c.loop-index.index + 1 = omega arith in
    record {
      count = grind (arith, common_steps);
      read =
          rw c.in_ok-push.ensures.items (areas_more c.loop-index.areas.items c.args.shown.now c.loop-index.index
          c.in-Some.numbered.0 c.in-Some.numbered.1 c.index-shown-index.result
          c.loop-index.invariant.count c.loop-index.invariant.read c.loop-index-test.true c.index-shown-index.is
          c.in-Some.ensures.row place);
    }

pub returns-in_default-clause-why : goal.returns-in_default-clause-why
returns-in_default-clause-why c =
    inl (stranger_at c.args.shown.now c.loop-index.index c.index-shown-index.result c.loop-index-test.true
    c.index-shown-index.is is_area_row (sym c.in_default.ensures.has_one))

pub returns-then-numbered-index-clause-why : goal.returns-then-numbered-index-clause-why
returns-then-numbered-index-clause-why c =
    inr (misnumbered_at c.args.shown.now c.loop-index.index c.index-shown-index.result c.loop-index-test.true
    c.index-shown-index.is c.in-Some.numbered c.in-Some.ensures.row
    (λ same. omega (arith, same, c.if-numbered-index.true)))

pub loop-index-init : goal.loop-index-init
loop-index-init c = rw c.new-areas.ensures.items (record { count = refl; read = refl })

pub returns-clause-areas : goal.returns-clause-areas
returns-clause-areas c =
    c.loop-index.invariant.read ∙ take_all c.loop-index.index c.args.shown.now c.loop-index-test.false

pub returns-in_err-push-clause-why : goal.returns-in_err-push-clause-why
returns-in_err-push-clause-why c = memory_fails _ c.from_residual.result c.from_residual.ensures.1
