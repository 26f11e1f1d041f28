use Rattle.std.proofs.Common.{arith, inl, inr, sym, ◌∙◌, ◌≡◌, ◌+◌, ◌⊎◌}
use Rattle.room_place.proofs.ReferenceLaws.{parse-square, rest-drop, square_of-letters}
use Rattle.room_place.proofs.grid_references.read.Goals as goal
use Rattle.room_place.proofs.grid_references.read.Goals.{in-6, in-8, in-10}

pub returns : goal.returns
returns c =
    let text = c.as_bytes.result.now in
    let half = c.match-digit_count.half in
    let square = square_of-letters text c.in-len2-up.len_at_least ∙ (sym c.corner_of.ensures.value ∙ c.in-Some.is) in
    let twice : c.digit_count.result
    ≡ half + half =
    elim c.match-digit_count.branch [ in-6 w ↦ omega arith | in-8 w ↦ omega arith | in-10 w ↦ omega arith ] in
    let size : (half ≡ 3)
    ⊎ ((half ≡ 4) ⊎ (half ≡ 5)) =
    elim c.match-digit_count.branch
    [ in-6 w ↦ inl w.half-is | in-8 w ↦ inr (inl w.half-is) | in-10 w ↦ inr (inr w.half-is) ] in
    let read = parse-square text _ c.in-Some.corner half square (rest-drop text)
    (sym c.are_allowed.ensures ∙ c.if-not-are_allowed.false) (sym c.digit_count.ensures ∙ twice) size in
    cc
