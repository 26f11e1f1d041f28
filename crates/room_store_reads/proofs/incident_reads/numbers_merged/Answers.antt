use Rattle.std.proofs.Common.{[], ap, arith, get_or, length, not, sym, take, take_all, ◌+◌, ◌++◌}
use Rattle.std.proofs.Common.{◌<◌, ◌&&◌, ◌∙◌, ◌∷◌, ◌≡◌, ◌≤◌, ◌||◌}
use Rattle.std.specs.Prelude.{◌==◌}
use Rattle.std.proofs.lemmas.List.{take_more}
use Rattle.room_store_reads.specs.RequestReads.{is_merged}
use Rattle.room_store_reads.proofs.MergedNumbers.{merged_last, merged_none}
use Rattle.room_store_reads.proofs.incident_reads.numbers_merged.Goals as goal

pub loop-call-init : goal.loop-call-init
loop-call-init c n = rw c.new-numbers.ensures.items (sym (merged_none c.args.number n))

pub loop-call-preserved : goal.loop-call-preserved
loop-call-preserved c n =
    let number = c.args.number in
    let calls = c.args.calls.now in
    let i = c.loop-call.call-index in
    let call = c.call-item.result in
    let inside : i < length calls = rw c.as_slice-call-items.ensures.all at c.loop-call-test.true in
    let here : call ≡ get_or calls i call = rw c.as_slice-call-items.ensures.all at c.call-item.is in
    let more : take (i + 1) calls ≡ take i calls ++ call ∷ [] = rw here (take_more calls i _ inside) in
    c.in_ok-add_merged.ensures n
    ∙ ap (λ b. b || (not (number == n) && call.given == n)) (c.loop-call.invariant n)
    ∙ merged_last n number call (take i calls)
    ∙ ap (λ cs. is_merged number cs n) (sym more)

pub returns-clause-ok : goal.returns-clause-ok
returns-clause-ok c n =
    let past : length c.as_slice-call-items.result.now
    ≤ c.loop-call.call-index = omega (arith, c.loop-call-test.false) in
    let all = take_all c.loop-call.call-index c.args.calls.now (rw c.as_slice-call-items.ensures.all at past) in
    rw all at c.loop-call.invariant n
