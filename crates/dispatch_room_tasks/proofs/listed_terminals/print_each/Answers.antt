use Rattle.std.proofs.Common.{[], ap, append-nil, arith, length, subst, sym, take, ◌+◌, ◌++◌, ◌∙◌}
use Rattle.std.proofs.Common.{◌∷◌, ◌≡◌, ◌≤◌}
use Rattle.std.proofs.lemmas.Grind.{flat_map-append}
use Rattle.std.proofs.lemmas.List.{take_all, take_more}
use Rattle.std.specs.Io.KnownBytes.{Appends}
use Rattle.dispatch_room_tasks.specs.ListedTerminals.{line_text, lines_text}
use Rattle.dispatch_room_tasks.proofs.ListedLemmas.{appends_more}
use Rattle.dispatch_room_tasks.proofs.listed_terminals.print_each.Goals as goal

pub loop-one-preserved : goal.loop-one-preserved
loop-one-preserved g c =
    let xs = c.args.listed.now in
    let at = c.loop-one.one-index in
    let item = c.one-item.result in
    let more : take (at + 1) xs ≡ take at xs ++ item ∷ [] = rw c.one-item.is (take_more xs at _ c.loop-one-test.true) in
    subst (Appends (g.O.Write.contents c.args.out.now) _)
    (sym (ap lines_text more ∙ flat_map-append line_text (take at xs) (item ∷ [])))
    (appends_more _ _ _ (lines_text (take at xs)) _ c.loop-one.invariant
    (subst (Appends _ _) (sym (append-nil (line_text item))) c.in_ok-print_one.ensures))

pub returns : goal.returns
returns g c =
    let xs = c.args.listed.now in
    let past : length xs ≤ c.loop-one.one-index = omega (arith, c.loop-one-test.false) in
    subst (λ ys. Appends (g.O.Write.contents c.args.out.now) (g.O.Write.contents c.loop-one.out) (lines_text ys))
    (take_all c.loop-one.one-index xs past) c.loop-one.invariant
