-- Choosing the least again and again gives the first few.
use Rattle.std.proofs.Common.{◌≡◌, ℕ, zero, suc, ◌+◌, ◌-◌, ◌<◌, ◌≤◌, ◌++◌, Bool, true, false, cond}
use Rattle.std.proofs.Common.{List, [], ◌∷◌, length, Option, Some, None, ◌⊎◌, inl, inr, refl, sym}
use Rattle.std.proofs.Common.{ap, ◌∙◌, subst, arith}
use Rattle.std.specs.Prelude.{filter}
use Rattle.std.proofs.lemmas.Bool.{false≢true}
use Rattle.room_place.specs.Choice.{least, least_from, comes_after, extend, chosen, Among}
use Rattle.room_place.specs.Choice.{AreDistinct, AreBefore, IsStrict, AreFirst}

module _ {X : Type 0} (lt : X → X → Bool) (order : IsStrict lt) where
  irreflexive : (b : Bool) (x : X) → lt x x ≡ b → b ≡ false
  irreflexive true x e = sym e ∙ order.apart x x e
  irreflexive false x e = refl

  -- what the fold finds is the old best or one of the list, and none of these is below it
  pub record IsFound (o : Option X) (ys : List X) (x : X) : Type 0 where
    pub from : (o ≡ Some x) ⊎ Among x ys
    pub old : (z : X) → o ≡ Some z → lt z x ≡ false
    pub all : (y : X) → Among y ys → lt y x ≡ false

  not_below : (x y z : X) → lt y x ≡ false → lt z y ≡ false → lt z x ≡ false
  not_below x y z e f = (elim (lt z x) as (λ (b : Bool). lt z x ≡ b → b ≡ false) [
    | true ↦ λ g. (elim (lt x y) as (λ (b : Bool). lt x y ≡ b → true ≡ false) [
      | true ↦ λ q. sym (order.steps z x y g q) ∙ f
      | false ↦ λ q. sym g ∙ (ap (lt z) (order.total x y q e) ∙ f)
    ]) refl
    | false ↦ λ g. refl
  ]) refl

  pub finds : (ys : List X) (o : Option X) (x : X) → least_from lt o ys ≡ Some x → IsFound o ys x
  finds [] o x e = record {
    from = inl e;
    old = λ z f. let same : x ≡ z = cc in ap (lt z) same ∙ irreflexive _ z refl;
    all = λ y h. absurd h;
  }
  finds (y ∷ ys) None x e =
      let f = finds ys (Some y) x e in
      record {
        from = inr (elim f.from [ inl g ↦ let same : x ≡ y = cc in inl same | inr g ↦ inr g ]);
        old = λ z g. cc;
        all = λ z h. elim h [ inl g ↦ ap (λ q. lt q x) g ∙ f.old y refl | inr g ↦ f.all z g ];
      }
  finds (y ∷ ys) (Some w) x e =
      (elim (lt y w) as (λ (b : Bool).
      lt y w ≡ b → least_from lt (cond b (Some y) (Some w)) ys ≡ Some x → IsFound (Some w) (y ∷ ys) x) [
        | true ↦ λ q g.
            let f = finds ys (Some y) x g in
            record {
              from = inr (elim f.from [ inl k ↦ let same : x ≡ y = cc in inl same | inr k ↦ inr k ]);
              old =
                  λ z k.
                  let same : w ≡ z = cc in
                  not_below x y z (f.old y refl) (ap (λ p. lt p y) (sym same) ∙ order.apart y w q);
              all = λ z h. elim h [ inl k ↦ ap (λ p. lt p x) k ∙ f.old y refl | inr k ↦ f.all z k ];
            }
        | false ↦ λ q g.
            let f = finds ys (Some w) x g in
            record {
              from = elim f.from [ inl k ↦ inl k | inr k ↦ inr (inr k) ];
              old = f.old;
              all = λ z h. elim h [ inl k ↦ ap (λ p. lt p x) k ∙ not_below x w y (f.old w refl) q | inr k ↦ f.all z k ];
            }
      ]) refl e

  pub none_least : (ys : List X) (y : X) → least_from lt (Some y) ys ≡ None → ⊥
  none_least [] y e = cc
  none_least (z ∷ ys) y e = (elim (lt z y) as (λ (b : Bool). least_from lt (cond b (Some z) (Some y)) ys ≡ None → ⊥) [
    | true ↦ λ g. none_least ys z g
    | false ↦ λ g. none_least ys y g
  ]) e

  -- only an empty list has no least
  pub empty : (ys : List X) → least lt ys ≡ None → ys ≡ []
  empty [] e = refl
  empty (y ∷ ys) e = absurd (none_least ys y e)

  in_filter : (p : X → Bool) (xs : List X) (y : X) → Among y (filter p xs)
      → Among y xs × (p y ≡ true)
  in_filter p [] y h = absurd h
  in_filter p (x ∷ xs) y h =
      (elim (p
      x) as (λ (b : Bool). p x ≡ b → Among y (cond b (x ∷ filter p xs) (filter p xs)) → Among y (x ∷ xs) × (p y ≡ true)) [
        | true ↦ λ e g. elim g [ inl k ↦ (inl k, ap p k ∙ e) | inr k ↦ let f = in_filter p xs y k in (inr f.0, f.1) ]
        | false ↦ λ e g. let f = in_filter p xs y g in (inr f.0, f.1)
      ]) refl h

  into_filter : (p : X → Bool) (xs : List X) (y : X) → Among y xs → p y ≡ true
      → Among y (filter p xs)
  into_filter p [] y h e = absurd h
  into_filter p (x ∷ xs) y h e =
      (elim (p x) as (λ (b : Bool). p x ≡ b → Among y (cond b (x ∷ filter p xs) (filter p xs))) [
        | true ↦ λ f. elim h [ inl k ↦ inl k | inr k ↦ inr (into_filter p xs y k e) ]
        | false ↦
            λ f. elim h [ inl k ↦ absurd (false≢true (sym f ∙ (ap p (sym k) ∙ e))) | inr k ↦ into_filter p xs y k e ]
      ]) refl

  -- where p passes just x and what q passes
  module _ (p q : X → Bool) (x : X) (more : (y : X) → q y ≡ true → p y ≡ true) (here : p x ≡ true)
      (past : q x ≡ false) where
    same_length : (ys : List X) → ((y : X) → Among y ys → p y ≡ true → q y ≡ false → y ≡ x)
        → (Among x ys → ⊥) → length (filter p ys) ≡ length (filter q ys)
    same_length [] only h = refl
    same_length (y ∷ ys) only h =
        (elim (p
        y) as (λ (b : Bool). p y ≡ b → length (cond b (y ∷ filter p ys) (filter p ys)) ≡ length (filter q (y ∷ ys))) [
          | true ↦
              λ e.
              (elim (q
              y) as (λ (c : Bool).
              q y ≡ c → suc (length (filter p ys)) ≡ length (cond c (y ∷ filter q ys) (filter q ys))) [
                | true ↦ λ f. ap suc (same_length ys (λ z k. only z (inr k)) (λ k. h (inr k)))
                | false ↦ λ f. absurd (h (inl (sym (only y (inl refl) e f))))
              ]) refl
          | false ↦
              λ e.
              (elim (q
              y) as (λ (c : Bool). q y ≡ c → length (filter p ys) ≡ length (cond c (y ∷ filter q ys) (filter q ys))) [
                | true ↦ λ f. absurd (false≢true (sym e ∙ more y f))
                | false ↦ λ f. same_length ys (λ z k. only z (inr k)) (λ k. h (inr k))
              ]) refl
        ]) refl

    one_more : (ys : List X) → ((y : X) → Among y ys → p y ≡ true → q y ≡ false → y ≡ x)
        → AreDistinct ys → Among x ys → length (filter p ys) ≡ suc (length (filter q ys))
    one_more [] only d h = absurd h
    one_more (y ∷ ys) only d h =
        (elim (p y) as (λ (b : Bool).
        p y ≡ b → length (cond b (y ∷ filter p ys) (filter p ys)) ≡ suc (length (filter q (y ∷ ys)))) [
          | true ↦
              λ e.
              (elim (q y) as (λ (c : Bool).
              q y ≡ c → suc (length (filter p ys)) ≡ suc (length (cond c (y ∷ filter q ys) (filter q ys)))) [
                | true ↦
                    λ f.
                    ap suc (elim h [
                      | inl k ↦ absurd (false≢true (sym past ∙ (ap q k ∙ f)))
                      | inr k ↦ one_more ys (λ z g. only z (inr g)) d.1 k
                    ])
                | false ↦
                    λ f.
                    ap suc (same_length ys (λ z g. only z (inr g))
                    (λ k. d.0 (subst (λ z. Among z ys) (sym (only y (inl refl) e f)) k)))
              ]) refl
          | false ↦
              λ e.
              (elim (q
              y) as (λ (c : Bool).
              q y ≡ c → length (filter p ys) ≡ suc (length (cond c (y ∷ filter q ys) (filter q ys)))) [
                | true ↦ λ f. absurd (false≢true (sym e ∙ more y f))
                | false ↦
                    λ f.
                    elim h [
                      | inl k ↦ absurd (false≢true (sym e ∙ (ap p (sym k) ∙ here)))
                      | inr k ↦ one_more ys (λ z g. only z (inr g)) d.1 k
                    ]
              ]) refl
        ]) refl

  after_more : (last : Option X) (x y : X) → comes_after lt last x ≡ true → lt x y ≡ true
      → comes_after lt last y ≡ true
  after_more None x y e f = refl
  after_more (Some z) x y e f = order.steps z x y e f

  -- each time the least that is left: these are the first
  pub chosen_first : (n : ℕ) (last : Option X) (xs : List X) → AreDistinct xs
      → AreFirst lt n last xs (chosen lt n last xs)
  chosen_first zero last xs d =
      record { count = omega arith; members = λ y h. absurd h; rising = tt; outside = λ y h e. inr tt }
  chosen_first (suc n) last xs d =
      (elim (least lt (filter (comes_after lt last) xs)) as (λ (o : Option X).
      least lt (filter (comes_after lt last) xs) ≡ o
      → AreFirst lt (suc n) last xs (extend o (λ x. chosen lt n (Some x) xs))) [
        | None ↦ λ e.
            let none = empty _ e in
            record {
              count = rw none (omega arith);
              members = λ y h. absurd h;
              rising = tt;
              outside =
                  λ y h f. absurd (subst (Among y) none (into_filter (comes_after lt last) xs y h f));
            }
        | Some x ↦ λ e.
            let found = finds (filter (comes_after lt last) xs) None x e in
            let among : Among x (filter (comes_after lt last) xs) = elim found.from [ inl k ↦ cc | inr k ↦ k ] in
            let here = in_filter (comes_after lt last) xs x among in
            let rest = chosen_first n (Some x) xs d in
            let lowest = λ (y : X) (h : Among y xs) (f : comes_after lt last y ≡ true).
            found.all y (into_filter (comes_after lt last) xs y h f) in
            let fewer : length (filter (comes_after lt last) xs)
            ≡ suc (length (filter (lt x) xs)) =
            one_more (comes_after lt last) (lt x) x (λ y q. after_more last x y here.1 q) here.1 (irreflexive _ x refl)
            xs
            (λ y g f q. order.total y x (lowest y g f) q) d here.0 in
            record {
              count = omega (arith, rest.count, fewer);
              members =
                  λ y h.
                  elim h [
                    | inl k ↦ (subst (λ z. Among z xs) (sym k) here.0, ap (comes_after lt last) k ∙ here.1)
                    | inr k ↦ let f = rest.members y k in (f.0, after_more last x y here.1 f.1)
                  ];
              rising = (here.1, rest.rising);
              outside =
                  λ y h f.
                  (elim (lt x y) as (λ (b : Bool).
                  lt x y ≡ b → Among y (x ∷ chosen lt n (Some x) xs) ⊎ AreBefore lt (x ∷ chosen lt n (Some x) xs) y) [
                    | true ↦ λ q. elim (rest.outside y h q) [ inl k ↦ inl (inr k) | inr k ↦ inr (q, k) ]
                    | false ↦ λ q. inl (inl (order.total y x (lowest y h f) q))
                  ]) refl;
            }
      ]) refl

module _ {X : Type 0} (lt : X → X → Bool) where
  pub choose_more : (n i : ℕ) (last : Option X) (xs : List X) (x : X) → i < n
      → Some x ≡ least lt (filter (comes_after lt last) xs)
      → chosen lt (n - i) last xs ≡ x ∷ chosen lt (n - (i + 1)) (Some x) xs
  choose_more n i last xs x h e =
      let left : n - i ≡ suc (n - (i + 1)) = omega arith in
      ap (λ k. chosen lt k last xs) left ∙ ap (λ o. extend o (λ y. chosen lt (n - (i + 1)) (Some y) xs)) (sym e)

  none_left : (k : ℕ) (last : Option X) (xs : List X)
      → None ≡ least lt (filter (comes_after lt last) xs) → chosen lt k last xs ≡ []
  none_left zero last xs e = refl
  none_left (suc k) last xs e = ap (λ o. extend o (λ y. chosen lt k (Some y) xs)) (sym e)

  append_nil : (xs : List X) → xs ++ [] ≡ xs
  append_nil [] = refl
  append_nil (x ∷ xs) = ap (λ ys. x ∷ ys) (append_nil xs)

  pub chosen_none : (few : List X) (k : ℕ) (last : Option X) (xs all : List X)
      → None ≡ least lt (filter (comes_after lt last) xs) → few ++ chosen lt k last xs ≡ all
      → few ≡ all
  chosen_none few k last xs all e h = sym (append_nil few) ∙ ap (λ ys. few ++ ys) (sym (none_left k last xs e)) ∙ h

  pub chosen_all : (few : List X) (n i : ℕ) (last : Option X) (xs all : List X) → n ≤ i
      → few ++ chosen lt (n - i) last xs ≡ all → few ≡ all
  chosen_all few n i last xs all le h =
      let none : n - i ≡ 0 = omega arith in sym (append_nil few) ∙ ap (λ k. few ++ chosen lt k last xs) (sym none) ∙ h
