-- A list of what is made of rows that pass, as it is gathered.
use Rattle.std.proofs.Common.{add-one, drop, drop-cons, get_or, length, suc, ◌+◌, ◌<◌, List, [], ap}
use Rattle.std.proofs.Common.{append_assoc, subst, sym, ℕ, ◌++◌, ◌∙◌, ◌∷◌, ◌≡◌, Bool, true, false}
use Rattle.std.proofs.Common.{cond}
use Rattle.std.specs.Prelude.{map, filter}

-- the item at a place, and what is left after it
pub drop_item : {R : Type 0} (xs items : List R) (i : ℕ) (x : R) → items ≡ xs → i < length items
    → x ≡ get_or items i x → drop i xs ≡ x ∷ drop (i + 1) xs
drop_item xs items i x same inside item =
    let here : x ≡ get_or xs i x = item ∙ ap (λ ys. get_or ys i x) same in
    let within : i < length xs = subst (λ ys. i < length ys) same inside in
    drop-cons xs i x within ∙ (ap (λ y. y ∷ drop (suc i) xs) (sym here) ∙ ap (λ n. x ∷ drop n xs) (sym (add-one i)))

-- ---- a list of what is made of rows that pass
module _ {R X : Type 0} (make : R → X) (p : R → Bool) (done : List X) (rest : List R)
    (all : List X) (x : R) (so_far : done ++ map make (filter p (x ∷ rest)) ≡ all) where
  pub made_more : (made : X) → made ≡ make x → p x ≡ true
      → (done ++ made ∷ []) ++ map make (filter p rest) ≡ all
  made_more made e passes =
      append_assoc done (made ∷ []) (map make (filter p rest))
      ∙ (ap (λ z. done ++ z ∷ map make (filter p rest)) e
      ∙ (ap (λ (b : Bool). done ++ map make (cond b (x ∷ filter p rest) (filter p rest))) (sym passes) ∙ so_far))

  pub made_none : p x ≡ false → done ++ map make (filter p rest) ≡ all
  made_none fails =
      ap (λ (b : Bool). done ++ map make (cond b (x ∷ filter p rest) (filter p rest))) (sym fails) ∙ so_far
