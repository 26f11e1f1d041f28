-- What stands first by an order in which two may tie.
use Rattle.std.proofs.Common.{Bool, List, None, Option, Some, [], ap, cond, false, inl, inr, refl}
use Rattle.std.proofs.Common.{subst, sym, true, ◌∙◌, ◌∷◌, ◌≡◌, ◌⊎◌}
use Rattle.std.specs.Prelude.{filter}
use Rattle.room_place.specs.Choice.{Among, least, least_from}

pub into_filter : {X : Type 0} (p : X → Bool) (xs : List X) (y : X) → Among y xs → p y ≡ true
    → Among y (filter p xs)
into_filter p [] y h e = absurd h
into_filter {X} p (x ∷ xs) y h e =
    (elim (p x) as (λ (b : Bool). p x ≡ b → Among y (cond b (x ∷ filter p xs) (filter p xs))) [
      | true ↦ λ f. elim h [ inl k ↦ inl k | inr k ↦ inr (into_filter p xs y k e) ]
      | false ↦ λ f. elim h [ inl k ↦ let passes = ap p k in absurd (cc) | inr k ↦ into_filter p xs y k e ]
    ]) refl

module _ {X : Type 0} (lt : X → X → Bool) (turned : (x y : X) → lt x y ≡ true → lt y x ≡ false)
    (passed : (x y z : X) → lt y x ≡ false → lt z y ≡ false → lt z x ≡ false) where
  -- x is the old best or one of the list, and none of these is below it
  record IsFound (o : Option X) (ys : List X) (x : X) : Type 0 where
    from : (o ≡ Some x) ⊎ Among x ys
    old : (z : X) → o ≡ Some z → lt z x ≡ false
    all : (y : X) → Among y ys → lt y x ≡ false

  itself : (b : Bool) (x : X) → lt x x ≡ b → b ≡ false
  itself true x e = sym e ∙ turned x x e
  itself false x e = refl

  found_again : (o : Option X) (w y x : X) (ys : List X) → IsFound (Some w) ys x
      → (w ≡ y) ⊎ (o ≡ Some w) → lt y w ≡ false → ((z : X) → o ≡ Some z → lt z w ≡ false)
      → IsFound o (y ∷ ys) x
  found_again o w y x ys f chosen here before = record {
    from = elim f.from [
      | inl g ↦ let same : w ≡ x = cc in elim chosen
          [ inl k ↦ inr (inl (sym same ∙ k)) | inr k ↦ inl (k ∙ ap Some same) ]
      | inr g ↦ inr (inr g)
    ];
    old = λ z g. passed x w z (f.old w refl) (before z g);
    all = λ z h. elim h [ inl g ↦ ap (λ q. lt q x) g ∙ passed x w y (f.old w refl) here | inr g ↦ f.all z g ];
  }

  finds : (ys : List X) (o : Option X) (x : X) → least_from lt o ys ≡ Some x → IsFound o ys x
  finds [] o x e = record {
    from = inl e;
    old = λ z f. let same : x ≡ z = cc in ap (lt z) same ∙ itself _ z refl;
    all = λ y h. absurd h;
  }
  finds (y ∷ ys) None x e = found_again None y y x ys (finds ys (Some y) x e) (inl refl) (itself _ y refl) (λ z g. cc)
  finds (y ∷ ys) (Some w) x e =
      (elim (lt y w) as (λ (b : Bool).
      lt y w ≡ b → least_from lt (cond b (Some y) (Some w)) ys ≡ Some x → IsFound (Some w) (y ∷ ys) x) [
        | true ↦
            λ q g.
            found_again (Some w) y y x ys (finds ys (Some y) x g) (inl refl) (itself _ y refl)
            (λ z k. let same : w ≡ z = cc in subst (λ v. lt v y ≡ false) same (turned y w q))
        | false ↦
            λ q g.
            found_again (Some w) w y x ys (finds ys (Some w) x g) (inr refl) q
            (λ z k. let same : w ≡ z = cc in subst (λ v. lt v w ≡ false) same (itself _ w refl))
      ]) refl e

  none_least : (ys : List X) (y : X) → least_from lt (Some y) ys ≡ None → ⊥
  none_least [] y e = cc
  none_least (z ∷ ys) y e = (elim (lt z y) as (λ (b : Bool). least_from lt (cond b (Some z) (Some y)) ys ≡ None → ⊥) [
    | true ↦ λ g. none_least ys z g
    | false ↦ λ g. none_least ys y g
  ]) e

  -- the least is of the list, and nothing of it is below the least
  pub least_among : (ys : List X) (x : X) → least lt ys ≡ Some x → Among x ys
  least_among ys x e = elim (finds ys None x e).from [ inl g ↦ absurd (cc) | inr g ↦ g ]

  pub least_below : (ys : List X) (x : X) → least lt ys ≡ Some x → (y : X) → Among y ys
      → lt y x ≡ false
  least_below ys x e = (finds ys None x e).all

  -- only an empty list has none
  pub none_among : (ys : List X) (y : X) → least lt ys ≡ None → Among y ys → ⊥
  none_among [] y e h = h
  none_among (z ∷ ys) y e h = none_least ys z e
