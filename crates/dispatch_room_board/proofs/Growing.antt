-- Texts that grow.
use Rattle.std.proofs.Common.{◌≡◌, ◌∙◌, List, ℕ, ◌++◌, append_assoc}

pub one_more : {b c : List ℕ} (a xs ys : List ℕ) → b ≡ a ++ xs → c ≡ b ++ ys → c ≡ a ++ (xs ++ ys)
one_more a xs ys first second = second ∙ rw first (append_assoc a xs ys)
