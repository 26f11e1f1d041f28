-- What a search reports beside the test that it stands for.
use Rattle.std.specs.Bool.{Decides}
use Rattle.std.specs.List.{list_all}
use Rattle.std.specs.Option.{option_or}
use Rattle.std.specs.Prelude.{is_some, not, option_map, ◌&&◌}
use Rattle.std.proofs.Common.{Bool, List, None, Option, Some, [], false, inl, inr, refl, subst, sym}
use Rattle.std.proofs.Common.{true, ◌∙◌, ◌∷◌, ◌≡◌}
use Rattle.std.proofs.lemmas.Bool.{false≢true}
use Rattle.room_place.specs.Choice.{Among}
use Rattle.room_model.specs.Room.{Room}
use Rattle.room_model.specs.RoomAgreements.{IsWellFormed}
use Rattle.room_store_check_rows.specs.FirstFaults.{first_of, unless}
use Rattle.room_store_check_rows.specs.Disagreements.{Detects, IsWrong}
use Rattle.room_store_check_rows.specs.declared.disagreements.Disagreement.{Disagreement}

-- nothing where the test passes, and where it fails what holds
abbrev pub Reported : {X : Type 0} → Bool → (X → Type 0) → Option X → Type 0
Reported fits P None = fits ≡ true
Reported fits P (Some x) = (fits ≡ false) × P x

pub record Finds {X : Type 0} (fits : Bool) (P : X → Type 0) (found : Option X) : Type 0 where
  pub reported : Reported fits P found

pub find_unless : {X : Type 0} (P : X → Type 0) (fits : Bool) (x : X) → (fits ≡ false → P x)
    → Finds fits P (unless fits x)
find_unless P true x f = record { reported = refl }
find_unless P false x f = record { reported = (refl, f refl) }

either : {X : Type 0} (P : X → Type 0) (a b : Bool) (o q : Option X) → Reported a P o → Reported b P q
    → Reported (a && b) P (option_or o q)
either P true b None q h g = g
either P false b None q h g = absurd (false≢true h)
either P true b (Some x) q h g = absurd (false≢true (sym h.0))
either P false b (Some x) q h g = h

pub find_or : {X : Type 0} {P : X → Type 0} {a b : Bool} {o q : Option X} → Finds a P o
    → Finds b P q → Finds (a && b) P (option_or o q)
find_or {X} {P} {a} {b} {o} {q} h g = record { reported = either P a b o q h.reported g.reported }

more_reported : {X Y : Type 0} (P : X → Type 0) (Q : Y → Type 0) (fits : Bool) (f : X → Y)
    (o : Option X) → ((x : X) → P x → Q (f x)) → Reported fits P o → Reported fits Q (option_map f o)
more_reported P Q fits f None more h = h
more_reported P Q fits f (Some x) more h = (h.0, more x h.1)

pub find_more : {X Y : Type 0} (P : X → Type 0) (Q : Y → Type 0) (fits : Bool) (f : X → Y)
    (o : Option X) → ((x : X) → P x → Q (f x)) → Finds fits P o → Finds fits Q (option_map f o)
find_more P Q fits f o more h = record { reported = more_reported P Q fits f o more h.reported }

pub find_like : {X : Type 0} {P : X → Type 0} (a b : Bool) {o : Option X} → a ≡ b → Finds a P o
    → Finds b P o
find_like {X} {P} a b {o} same h = subst (λ c. Finds c P o) same h

pub find_first : {R X : Type 0} (P : X → Type 0) (p : R → Bool) (f : R → Option X) (rows : List R)
    → ((x : R) → Among x rows → Finds (p x) P (f x)) → Finds (list_all p rows) P (first_of f rows)
find_first P p f [] h = record { reported = refl }
find_first P p f (x ∷ xs) h = find_or (h x (inl refl)) (find_first P p f xs (λ y there. h y (inr there)))

pub regrouped : (x y z : Bool) → ((x && y) && z) ≡ (x && (y && z))
regrouped true y z = refl
regrouped false y z = refl

pub first_alike : {R X : Type 0} (f g : R → Option X) (rows : List R)
    → ((x : R) → Among x rows → f x ≡ g x) → first_of f rows ≡ first_of g rows
first_alike f g [] same = refl
first_alike f g (x ∷ xs) same = rw (same x (inl refl), first_alike f g xs (λ y there. same y (inr there))) refl

-- a test that fails
pub not_so : {P : Type 0} (b : Bool) → Decides b P → b ≡ false → ¬ P
not_so b d e h = false≢true (sym e ∙ d.1 h)

-- nothing is reported exactly where the room is well-formed
pub none_detected : (r : Room) (o : Option Disagreement) (none : Bool) → is_some o ≡ not none
    → Detects r o → Decides none (IsWellFormed r)
none_detected r None true e h = (λ q. h, λ w. refl)
none_detected r None false e h = absurd (false≢true e)
none_detected r (Some x) true e h = absurd (false≢true (sym e))
none_detected r (Some x) false e h = (λ q. absurd (false≢true q), λ w. absurd (h.1 w))

pub detects : (r : Room) (fits : Bool) (o : Option Disagreement) → Decides fits (IsWellFormed r)
    → Finds fits (IsWrong r) o → Detects r o
detects r fits None d h = d.0 h.reported
detects r fits (Some x) d h = (h.reported.1, not_so fits d h.reported.0)
