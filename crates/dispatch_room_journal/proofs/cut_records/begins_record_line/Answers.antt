use Rattle.std.proofs.Common.{refl, subst, sym, take_all, ◌∙◌}
use Rattle.dispatch_room_journal.proofs.RecordLineLemmas.{StandFrom, left_where_all, not_left}
use Rattle.dispatch_room_journal.proofs.RecordLineLemmas.{stand_more}
use Rattle.dispatch_room_journal.proofs.cut_records.begins_record_line.Goals as goal

pub loop-at-init : goal.loop-at-init
loop-at-init c = tt

pub loop-at-preserved : goal.loop-at-preserved
loop-at-preserved c =
    stand_more c.args.line.now c.loop-at.at c.loop-at-test.true c.loop-at.invariant
    (sym c.may_stand.ensures ∙ c.if-not-may_stand.false)

pub returns-then-not-may_stand : goal.returns-then-not-may_stand
returns-then-not-may_stand c = (
  λ is. absurd (cc is),
  λ left.
      absurd
      (not_left c.args.line.now c.loop-at.at c.loop-at-test.true
      (sym c.may_stand.ensures ∙ c.if-not-may_stand.true) left),
)

pub returns : goal.returns
returns c = (
  λ is.
      left_where_all c.args.line.now c.requires
      (subst (λ l. StandFrom 0 l) (take_all c.loop-at.at c.args.line.now c.loop-at-test.false) c.loop-at.invariant),
  λ left. refl,
)
