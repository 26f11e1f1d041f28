-- Lemmas on what is read of several values.
use Rattle.std.proofs.Common.{◌≡◌, ◌∙◌, sym, ℕ, List, Option, None, Some}
use Rattle.std.specs.Prelude.{codes}
use Rattle.std.specs.Option.{option_zip}
use Rattle.std.proofs.lemmas.Option.{same_Some}
use Rattle.serde_json.specs.Data.{Data}
use Rattle.serde_json.specs.Find.{as_str}
use Rattle.dispatch_room_board.specs.declared.board_errors.BoardError.{BoardError}
use Rattle.dispatch_room_board.specs.declared.board_errors.BoardError.TheVariants.{Unheard, Foreign}
use Rattle.dispatch_room_board.specs.declared.board_errors.BoardError.TheVariants.{Refused}
use Rattle.dispatch_room_board.specs.declared.board_errors.Name.{Name}
use Rattle.dispatch_room_board.specs.Members.{HasMember, IsByte, IsRead}
use Rattle.dispatch_room_board.specs.BoardErrors.{IsErrorIn, IsName, IsNameOf}

-- two are read where each is
pub read_both : {A B : Type 0} {P : A → Type 0} {Q : B → Type 0} {r : Option A} {s : Option B}
    {z : Option (A × B)}
    → z ≡ option_zip r s → IsRead P r → IsRead Q s → IsRead (λ x. P x.0 × Q x.1) z
read_both {A} {B} {P} {Q} {r} {s} {z} same p q = rw same (both r s p q)
  where
    both : (r : Option A) (s : Option B) → IsRead P r → IsRead Q s
        → IsRead (λ x. P x.0 × Q x.1) (option_zip r s)
    both None s p q = record { is = λ x h. p.is x.0 h.0 }
    both (Some a) None p q = record { is = λ x h. q.is x.1 h.1 }
    both (Some a) (Some b) p q = record { is = (p.is, q.is) }

-- none is read of a value that says none of its parts
pub read_none : {A R : Type 0} {P : A → Type 0} {o : Option A} (Q : R → Type 0) → o ≡ None
    → IsRead P o → (part : R → A)
    → ((it : R) → Q it → P (part it)) → IsRead Q None
read_none Q is read part says = record { is = λ it h. (rw is at read).is (part it) (says it h) }

-- a name is read where the text is one
pub read_name : (d : Data) (text : List ℕ) (r : Option Name) → Some text ≡ as_str d
    → IsRead (IsNameOf text) r → IsRead (IsName d) r
read_name d text None is read =
    record { is = λ name h. let e = same_Some text h.0 (is ∙ h.1) in read.is name (rw e h.2) }
read_name d text (Some name) is read = record { is = (text, sym is, read.is) }

-- nothing is reported where there is no number with a name
pub none_read : (d : Data) → IsRead {T = ℕ × Name}
    (λ x. HasMember IsByte (codes "number") d x.0 × HasMember IsName (codes "error") d x.1) None
    → IsRead (IsErrorIn d) None
none_read d none = record { is = not }
  where
    not : (t : BoardError) → ¬ IsErrorIn d t
    not Unheard h = h
    not Foreign h = h
    not (Refused number name) h = none.is (number, name) (h.0, h.1)
