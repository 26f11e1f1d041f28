-- The path of a target is what stands before the first question mark.
use Rattle.std.proofs.Common.{◌≡◌, ℕ, List, ◌∷◌, ◌++◌, ◌==◌, length, refl, arith}
use Rattle.std.proofs.lemmas.List.{length-append}
use Rattle.std.proofs.Math.Seq.{take-length, take-append_seam, get_or-append_seam}
use Rattle.std.proofs.lemmas.List.{get_or_append_left}
use Rattle.std.proofs.lemmas.List.Sums.{position_or_len_is}
use Rattle.dispatch_room_journal.specs.TextParts.{Lacks}
use Rattle.dispatch_room_serving.specs.LogLines.{path_of}

-- where there is one, what stands before it
pub path_before : (path rest : List ℕ) → Lacks 63 path → path_of (path ++ 63 ∷ rest) ≡ path
path_before path rest lacks =
    let at = position_or_len_is (λ byte. byte == 63) (path ++ 63 ∷ rest) (length path) 0
    (rw (length-append path (63 ∷ rest)) (grind arith))
    (λ k below. rw (get_or_append_left path (63 ∷ rest) 0 k below)
    (let apart = lacks k 0 below in grind arith))
    (λ _. rw (get_or-append_seam path 63 rest 0) refl) in
    rw at (take-append_seam path (63 ∷ rest))

-- where there is none, all of it
pub path_whole : (path : List ℕ) → Lacks 63 path → path ≡ path_of path
path_whole path lacks =
    let at = position_or_len_is (λ byte. byte == 63) path (length path) 0
    (grind arith)
    (λ k below. let apart = lacks k 0 below in grind arith)
    (λ over. grind arith) in
    rw at (rw take-length refl)
