-- Lemmas on texts: first parts, and what stands before a mark.
use Rattle.std.proofs.Common.{◌≡◌, ◌≢◌, ◌∙◌, sym, ap, refl, ℕ, ◌+◌, List, [], ◌∷◌, ◌++◌, length}
use Rattle.std.proofs.Common.{take, drop, get_or, true, false}
use Rattle.std.proofs.lemmas.Bool.{ne_eqb}
use Rattle.std.specs.Prelude.{◌==◌}
use Rattle.dispatch_room_journal.specs.Chains.{is_whole_line, row_body, said_by}
use Rattle.std.proofs.Common.{◌⊎◌, inl, inr}
use Rattle.std.proofs.lemmas.List.{take_at, drop_at}
use Rattle.std.proofs.lemmas.List.Elements.{All-head, All-tail, All-cons}
use Rattle.dispatch_room_journal.specs.TextParts.{Lacks}

abbrev pub head : List ℕ → ℕ
head t = get_or t 0 0

-- of two first parts of one text, one is a first part of the other
pub split : (a b x y : List ℕ) → a ++ x ≡ b ++ y
    → ((c : List ℕ) × (b ≡ a ++ c) × (x ≡ c ++ y)) ⊎ ((c : List ℕ) × (a ≡ b ++ c) × (y ≡ c ++ x))
split [] b x y is = inl (b, refl, is)
split (k ∷ a) [] x y is = inr (k ∷ a, refl, sym is)
split (k ∷ a) (m ∷ b) x y is = go (split a b x y (ap (drop 1) is))
  where
    go : ((c : List ℕ) × (b ≡ a ++ c) × (x ≡ c ++ y)) ⊎ ((c : List ℕ) × (a ≡ b ++ c) × (y ≡ c ++ x))
        → ((c : List ℕ) × (m ∷ b ≡ k ∷ (a ++ c)) × (x ≡ c ++ y))
        ⊎ ((c : List ℕ) × (k ∷ a ≡ m ∷ (b ++ c)) × (y ≡ c ++ x))
    go (inl found) = inl (found.0, (λ i. ap head (sym is) i ∷ found.1 i), found.2)
    go (inr found) = inr (found.0, (λ i. ap head is i ∷ found.1 i), found.2)

-- equal lists with parts of one length at the front have equal parts
pub parts_of : (a b x y : List ℕ) → a ++ x ≡ b ++ y → length a ≡ length b → (a ≡ b) × (x ≡ y)
parts_of a b x y same len = (
  sym (take_at a x (length b) len) ∙ ap (take (length b)) same ∙ take_at b y (length b) refl,
  sym (drop_at a x (length b) len) ∙ ap (drop (length b)) same ∙ drop_at b y (length b) refl,
)

-- a text with the mark in it doesn't lack it
pub has_mark : (mark : ℕ) (a b : List ℕ) → ¬ (Lacks mark (a ++ mark ∷ b))
has_mark mark [] b none = All-head (λ byte. byte ≢ mark) mark b none refl
has_mark mark (k ∷ a) b none = has_mark mark a b (All-tail (λ byte. byte ≢ mark) k (a ++ mark ∷ b) none)

-- what stands before the first mark, and what after it, is one
pub cut_unique : (mark : ℕ) (a b c d : List ℕ) → Lacks mark a → Lacks mark c
    → a ++ mark ∷ b ≡ c ++ mark ∷ d → (a ≡ c) × (b ≡ d)
cut_unique mark [] b [] d a_lacks c_lacks is = (refl, ap (drop 1) is)
cut_unique mark [] b (k ∷ c) d a_lacks c_lacks is =
    absurd (All-head (λ byte. byte ≢ mark) k c c_lacks (ap head (sym is)))
cut_unique mark (k ∷ a) b [] d a_lacks c_lacks is = absurd (All-head (λ byte. byte ≢ mark) k a a_lacks (ap head is))
cut_unique mark (k ∷ a) b (m ∷ c) d a_lacks c_lacks is =
    let parts = cut_unique mark a b c d (All-tail (λ byte. byte ≢ mark) k a a_lacks)
    (All-tail (λ byte. byte ≢ mark) m c c_lacks) (ap (drop 1) is) in
    ((λ i. ap head is i ∷ parts.0 i), parts.1)

-- a line end is not its last byte
pub lacks_line : (text : List ℕ) → Lacks 10 text → is_whole_line text ≡ false
lacks_line [] lacks = refl
lacks_line (byte ∷ text) lacks =
    let other : (byte == 10) ≡ false = ne_eqb byte 10 (All-head (λ b. b ≢ 10) byte text lacks) in
    rw other (lacks_line text (All-tail (λ b. b ≢ 10) byte text lacks))

-- what stands before the first line end is the line where nothing stands behind it
pub cut_line : (front back : List ℕ) → Lacks 10 front → is_whole_line (front ++ 10 ∷ back) ≡ (length back == 0)
cut_line [] back lacks = refl
cut_line (byte ∷ front) back lacks =
    let other : (byte == 10) ≡ false = ne_eqb byte 10 (All-head (λ b. b ≢ 10) byte front lacks) in
    rw other (cut_line front back (All-tail (λ b. b ≢ 10) byte front lacks))

-- the record of a line says nothing
pub row_said : (line : List ℕ) → Lacks 10 line → said_by (row_body line) ≡ []
row_said line lacks = let is : is_whole_line (line ++ 10 ∷ []) ≡ true = cut_line line [] lacks in rw is refl

-- the first byte of a text that is not empty is in it, and the mark is not
pub lacks_append : (mark : ℕ) (a b : List ℕ) → Lacks mark a → Lacks mark b → Lacks mark (a ++ b)
lacks_append mark [] b a_lacks b_lacks = b_lacks
lacks_append mark (k ∷ a) b a_lacks b_lacks =
    All-cons (λ byte. byte ≢ mark) k (a ++ b) (All-head (λ byte. byte ≢ mark) k a a_lacks)
    (lacks_append mark a b (All-tail (λ byte. byte ≢ mark) k a a_lacks) b_lacks)
