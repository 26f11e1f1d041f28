-- Bytes added to a hash, one after another.
use Rattle.std.proofs.Common.{◌≡◌, ◌++◌, List, [], ℕ, refl, sym, subst, ap, ◌∙◌, append_assoc}
use Rattle.std.proofs.Common.{append-nil}
use Rattle.sha2.specs.Hashers.{Holds256}
use Rattle.sha2.specs.declared.Sha256.{Sha256}
use Rattle.room_store_file.specs.RowHash.{Adds}

-- some bytes were added of all, and these are left
pub record Adding (old now : Sha256) (all left : List ℕ) : Type 0 where
  pub done : List ℕ
  pub parts : done ++ left ≡ all
  pub added : Adds old now done

module _ {a : Sha256} where
  -- nothing was added yet
  pub adds_none : Adds a a []
  adds_none = record { holds = λ before h. subst (Holds256 a) (sym (append-nil before)) h }

  pub all_left : {all : List ℕ} → Adding a a all all
  all_left = record { done = []; parts = refl; added = adds_none }

module _ {a b c : Sha256} where
  pub adds_both : {s t : List ℕ} → Adds a b s → Adds b c t → Adds a c (s ++ t)
  adds_both {s = s} {t = t} one two = record {
    holds = λ before h. subst (Holds256 c) (append_assoc before s t) (two.holds (before ++ s) (one.holds before h));
  }

  -- some of what is left was added
  pub less_left : {all s t left : List ℕ} → left ≡ s ++ t → Adding a b all left → Adds b c s
      → Adding a c all t
  less_left {s = s} {t = t} is it next = record {
    done = it.done ++ s;
    parts = append_assoc it.done s t ∙ ap (λ l. it.done ++ l) (sym is) ∙ it.parts;
    added = adds_both it.added next;
  }

  -- all that is left was added
  pub last_added : {all left s : List ℕ} → left ≡ s → Adding a b all left → Adds b c s
      → Adds a c all
  last_added is it next = subst (Adds a c) (ap (λ l. it.done ++ l) (sym is) ∙ it.parts) (adds_both it.added next)

  -- one after another
  pub adds_then : {s t all : List ℕ} → s ++ t ≡ all → Adds a b s → Adds b c t → Adds a c all
  adds_then is one two = subst (Adds a c) is (adds_both one two)

-- nothing is left
pub none_left : {a b : Sha256} {all left : List ℕ} → left ≡ [] → Adding a b all left → Adds a b all
none_left {a = a} {b = b} is it =
    subst (Adds a b) (sym (append-nil it.done) ∙ ap (λ l. it.done ++ l) (sym is) ∙ it.parts) it.added
