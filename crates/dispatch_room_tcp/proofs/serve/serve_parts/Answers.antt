use Rattle.std.proofs.Common.{◌∙◌, ap, arith, inl, inr, refl, sym}
use Rattle.dispatch_room_serving.proofs.CallerLemmas.{may_of, printed_once}
use Rattle.dispatch_room_tcp.proofs.PartLemmas.{called_before, ends_badly, ends_once, first_before}
use Rattle.dispatch_room_tcp.proofs.PartLemmas.{first_part, next_before, not_false, not_true}
use Rattle.dispatch_room_tcp.proofs.PartLemmas.{second_true, where_failed}
use Rattle.dispatch_room_disk.proofs.WorkLemmas.{handed_on}
use Rattle.dispatch_room_tcp.proofs.serve.serve_parts.Goals as goal

pub loop-part-init : goal.loop-part-init
loop-part-init g c = record {
  outside = c.in_ok-first.ensures.outside;
  listed = c.is_some-has_journal.ensures;
  served = λ first same is. (first_part _ _ first _ _ (sym same) is, refl);
  few = omega arith;
  prints = c.in_ok-first.ensures.prints;
}

pub loop-part-preserved : goal.loop-part-preserved
loop-part-preserved g c =
    let renews = sym (ap (λ limits. limits.renews) c.limits_of.ensures) ∙ not_false _ c.if-not-limits_of.false in
    let well = sym c.is_err.ensures.value ∙ c.if-is_err.false in
    let listed = c.in-Ok.ensures.listed ∙ c.loop-part.invariant.listed in
    record {
      outside = c.in_ok-next.ensures.outside;
      listed = c.loop-part.invariant.listed;
      served = λ first same is.
          let before = c.loop-part.invariant.served first same is in
          let next = next_before _ _ first _ _ renews well before.0 in (
            record {
              at = _;
              before = next.0;
              list = _;
              listed = next.2 _ _ _ (rw c.loop-part.invariant.listed at c.in-Ok.ensures.opens);
              is = rw listed at c.in_ok-next.ensures.served;
            },
            omega (arith, next.1, before.1),
          );
      few = omega (arith, c.loop-part-test.true);
      prints =
          printed_once _ _ _ c.in_ok-next.next (may_of _ _ _ well c.loop-part.invariant.prints)
          c.in_ok-next.ensures.prints;
    }

pub next_list-requires : goal.next_list-requires
next_list-requires g c = record {
  journal =
      second_true _ _
      (sym (ap (λ limits. limits.renews) c.limits_of.ensures) ∙ not_false _ c.if-not-limits_of.false);
}

pub returns-in_err-first-clause-fault : goal.returns-in_err-first-clause-fault
returns-in_err-first-clause-fault g c =
    handed_on c.from_residual.result _ c.from_residual.ensures.1
    (λ fault is. record {
      at = _;
      before = first_before _ _ _;
      list = c.args.list;
      listed = (refl, refl);
      unopened = rw is c.in_err-first.ensures.fault;
    })

pub returns-then-not-limits_of-clause-served : goal.returns-then-not-limits_of-clause-served
returns-then-not-limits_of-clause-served g c =
    inl (ends_once _ _ _ _ _
    (sym (ap (λ limits. limits.renews) c.limits_of.ensures) ∙ not_true _ c.if-not-limits_of.true)
    refl c.in_ok-first.ensures.served)

pub returns-then-is_err-clause-served : goal.returns-then-is_err-clause-served
returns-then-is_err-clause-served g c =
    inl (ends_badly _ _ _ _ _ (sym c.is_err.ensures.value ∙ c.if-is_err.true)
    (c.loop-part.invariant.served _ refl c.in_ok-first.ensures.served).0)

pub returns-in-Err-clause-served : goal.returns-in-Err-clause-served
returns-in-Err-clause-served g c =
    let renews = sym (ap (λ limits. limits.renews) c.limits_of.ensures) ∙ not_false _ c.if-not-limits_of.false in
    let well = sym c.is_err.ensures.value ∙ c.if-is_err.false in
    inr (record {
      renews = renews;
      at = _;
      before = (next_before _ _ _ _ _ renews well
          (c.loop-part.invariant.served _ refl c.in_ok-first.ensures.served).0).0;
      fault = c.in-Err.fault;
      result_is = refl;
      why = rw c.loop-part.invariant.listed at c.in-Err.ensures.opens;
      same = refl;
    })

pub returns-in_err-next-clause-fault : goal.returns-in_err-next-clause-fault
returns-in_err-next-clause-fault g c =
    let renews = sym (ap (λ limits. limits.renews) c.limits_of.ensures) ∙ not_false _ c.if-not-limits_of.false in
    let well = sym c.is_err.ensures.value ∙ c.if-is_err.false in
    let next = next_before _ _ _ _ _ renews well
    (c.loop-part.invariant.served _ refl c.in_ok-first.ensures.served).0 in
    handed_on c.from_residual-in_err-next.result _ c.from_residual-in_err-next.ensures.1
    (λ fault is. record {
      at = _;
      before = next.0;
      list = _;
      listed = next.2 _ _ _ (rw c.loop-part.invariant.listed at c.in-Ok.ensures.opens);
      unopened = rw is c.in_err-next.ensures.fault;
    })

pub returns-clause-served : goal.returns-clause-served
returns-clause-served g c =
    let last = c.loop-part.invariant.served _ refl c.in_ok-first.ensures.served in
    inl (record {
      part = last.0;
      followed = λ renews well. omega (arith, last.1, c.loop-part.invariant.few, c.loop-part-test.false);
    })

pub returns-in-Err-clause-prints : goal.returns-in-Err-clause-prints
returns-in-Err-clause-prints g c =
    let well = sym c.is_err.ensures.value ∙ c.if-is_err.false in
    inr (inl (may_of _ _ _ well c.loop-part.invariant.prints))

pub returns-in_err-next-clause-unopened : goal.returns-in_err-next-clause-unopened
returns-in_err-next-clause-unopened g c =
    let well = sym c.is_err.ensures.value ∙ c.if-is_err.false in
    where_failed c.from_residual-in_err-next.result _
    (inr (called_before _ _ _ (may_of _ _ _ well c.loop-part.invariant.prints) c.in_err-next.ensures.unopened))

pub returns-in_err-first-clause-unopened : goal.returns-in_err-first-clause-unopened
returns-in_err-first-clause-unopened g c =
    where_failed c.from_residual.result _ (inl c.in_err-first.ensures.unopened)
