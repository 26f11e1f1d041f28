-- The crews of vehicles among terminals: which there are, and that no vehicle has two.
use Rattle.std.specs.Cmp.{Equal-is}
use Rattle.std.specs.List.{AllByRecursion, IsDistinct, cons_option, list_any}
use Rattle.std.specs.Ordering.{is_eq, ordering_reverse}
use Rattle.std.specs.Prelude.{◌||◌}
use Rattle.std.specs.declared.cmp.Ordering.TheVariants.{Equal, Greater, Less}
use Rattle.std.specs.declared.cmp.Ordering.{Ordering}
use Rattle.std.proofs.Common.{Bool, List, None, Some, [], ap, cond, false, inl, inr, refl, subst}
use Rattle.std.proofs.Common.{sym, true, ◌∙◌, ◌∷◌, ◌≡◌, ◌⊎◌}
use Rattle.std.proofs.lemmas.Bool.{false_from_ne_true, false≢true, or_parts}
use Rattle.std.proofs.lemmas.Cmp.{tied_itself}
use Rattle.room_types.specs.KeyedRows.{IsKeyed}
use Rattle.room_types.specs.Keys.{callsign_cmp, same_callsign}
use Rattle.room_types.specs.KeyLemmas.{callsigns_total, exact_callsigns}
use Rattle.room_types.specs.Texts.{Callsign, Token}
use Rattle.room_types.specs.declared.asks.Who.TheVariants.{Crew, Desk, Position}
use Rattle.room_types.specs.declared.asks.Who.{Who}
use Rattle.room_types.specs.declared.fleet.Terminal.{Terminal}
use Rattle.room_types.proofs.KeyedLaws.{row_below}
use Rattle.room_model.specs.FleetRows.{is_crew, terminal_at, terminal_key, token_cmp}
use Rattle.room_store_check_rows.specs.TerminalCrews.{crew_of, crews_of}
use Rattle.room_store_check_rows.proofs.PassingRows.{behind, passed, passing}

-- ---- a vehicle's crew
pub who_is : (c : Callsign) (w : Who) → is_crew c w ≡ true → w ≡ Crew c
who_is c (Crew k) e = ap Crew (exact_callsigns k c ((Equal-is (callsign_cmp k c)).0 e))
who_is c (Desk d) e = absurd (false≢true e)
who_is c (Position p) e = absurd (false≢true e)

pub its_crew : (c : Callsign) → is_crew c (Crew c) ≡ true
its_crew c = ap is_eq (tied_itself callsigns_total c)

abbrev pub crew : Token → Callsign → Terminal
crew k c = record { token = k; who = Crew c }

abbrev pub has_crew : Callsign → List Terminal → Bool
has_crew c ts = list_any (λ t. is_crew c t.who) ts

pub crew_found : (c : Callsign) (ts : List Terminal) → IsKeyed token_cmp terminal_key ts
    → has_crew c ts ≡ true → (k : Token) × (terminal_at k ts ≡ Some (crew k c))
crew_found c ts in_order h =
    let found = passing token_cmp terminal_key callsigns_total exact_callsigns (λ t. is_crew c t.who) ts in_order h in (
      found.row.token,
      found.there ∙ ap (λ w. Some (record { token = found.row.token; who = w })) (who_is c found.row.who found.passes),
    )

pub crew_there : (c : Callsign) (ts : List Terminal) (k : Token)
    → terminal_at k ts ≡ Some (crew k c) → has_crew c ts ≡ true
crew_there c ts k e =
    (rw e at (passed {R = Terminal} {K = Token} token_cmp terminal_key callsigns_total exact_callsigns
    (λ t. is_crew c t.who) ts k)) (its_crew c)

turned : (o : Ordering) → is_eq (ordering_reverse o) ≡ is_eq o
turned Less = refl
turned Equal = refl
turned Greater = refl

-- the crews' vehicles, one by one
crew_first : (c : Callsign) (w : Who) (xs : List Callsign)
    → list_any (same_callsign c) (cons_option (crew_of w) xs)
    ≡ (is_crew c w || list_any (same_callsign c) xs)
crew_first c (Crew k) xs =
    ap (λ b. b || list_any (same_callsign c) xs) (ap is_eq (callsigns_total.antisymm c k) ∙ turned (callsign_cmp k c))
crew_first c (Desk d) xs = refl
crew_first c (Position p) xs = refl

pub crew_shown : (c : Callsign) (ts : List Terminal)
    → list_any (same_callsign c) (crews_of ts) ≡ has_crew c ts
crew_shown c [] = refl
crew_shown c (t ∷ ts) = crew_first c t.who (crews_of ts) ∙ ap (λ b. is_crew c t.who || b) (crew_shown c ts)

-- ---- no vehicle has two
abbrev pub AreApart : List Terminal → Type 0
AreApart [] = Unit {0}
AreApart (t ∷ ts) = ((c : Callsign) → is_crew c t.who ≡ true → has_crew c ts ≡ false) × AreApart ts

first_or_later : (c : Callsign) (t : Terminal) (ts : List Terminal) (k : Token)
    → terminal_at k (t ∷ ts) ≡ Some (crew k c)
    → ((k ≡ t.token) × (is_crew c t.who ≡ true)) ⊎ (terminal_at k ts ≡ Some (crew k c))
first_or_later c t ts k =
    (elim (is_eq (token_cmp k t.token)) as (λ (b : Bool).
    is_eq (token_cmp k t.token) ≡ b → cond b (Some t) (terminal_at k ts) ≡ Some (crew k c)
    → ((k ≡ t.token) × (is_crew c t.who ≡ true)) ⊎ (terminal_at k ts ≡ Some (crew k c))) [
      | true ↦ λ q e.
          let same : t ≡ crew k c = cc in
          inl (
            exact_callsigns _ _ ((Equal-is (token_cmp k t.token)).0 q),
            ap (λ (t : Terminal). is_crew c t.who) same ∙ its_crew c,
          )
      | false ↦ λ q e. inr e
    ]) refl

pub one_crew : (c : Callsign) (ts : List Terminal) → AreApart ts → (j k : Token)
    → terminal_at j ts ≡ Some (crew j c) → terminal_at k ts ≡ Some (crew k c) → j ≡ k
one_crew c [] apart j k e g = cc
one_crew c (t ∷ ts) apart j k e g = elim (first_or_later c t ts j e) [
  | inl a ↦ elim (first_or_later c t ts k g) [
    | inl b ↦ a.0 ∙ sym b.0
    | inr there ↦ absurd (false≢true (sym (apart.0 c a.1) ∙ crew_there c ts k there))
  ]
  | inr here ↦ elim (first_or_later c t ts k g) [
    | inl b ↦ absurd (false≢true (sym (apart.0 c b.1) ∙ crew_there c ts j here))
    | inr there ↦ one_crew c ts apart.1 j k here there
  ]
]

abbrev pub IsOneEach : List Terminal → Type 0
IsOneEach ts =
    (j k : Token) (c : Callsign) → terminal_at j ts ≡ Some (crew j c) → terminal_at k ts ≡ Some (crew k c) → j ≡ k

pub apart_from_one : (ts : List Terminal) → IsKeyed token_cmp terminal_key ts → IsOneEach ts
    → AreApart ts
apart_from_one [] in_order one = tt
apart_from_one (t ∷ ts) in_order one =
    let kept = behind token_cmp terminal_key callsigns_total exact_callsigns t ts in (
      λ c e. false_from_ne_true _ (λ any.
          let found = crew_found c ts in_order.1 any in
          let here : terminal_at t.token (t ∷ ts)
          ≡ Some (crew t.token c) =
          rw (tied_itself callsigns_total t.token)
          (ap (λ w. Some (record { token = t.token; who = w })) (who_is c t.who e)) in
          let same : t.token ≡ found.0 = one t.token found.0 c here (kept found.0 _ in_order.0 found.1) in
          let gone : None
          ≡ Some (crew found.0 c) =
          sym (row_below token_cmp terminal_key callsigns_total ts t.token in_order.0) ∙ ap (λ k. terminal_at k ts) same
          ∙ found.1 in
          cc),
      apart_from_one ts in_order.1 (λ j k c e g. one j k c (kept j _ in_order.0 e) (kept k _ in_order.0 g)),
    )

-- ---- the same as distinct vehicles
none_like : (q : Callsign → Bool) (xs : List Callsign) → AllByRecursion (λ y. q y ≡ false) xs
    → list_any q xs ≡ false
none_like q [] h = refl
none_like q (x ∷ xs) h = rw (h.0, none_like q xs h.1) refl

each_unlike : (q : Callsign → Bool) (xs : List Callsign) → list_any q xs ≡ false
    → AllByRecursion (λ y. q y ≡ false) xs
each_unlike q [] h = tt
each_unlike q (x ∷ xs) h =
    let parts = or_parts (q x) (list_any q xs) h in
    (parts.0, each_unlike q xs parts.1)

distinct_first : (w : Who) (xs : List Callsign)
    → IsDistinct same_callsign (cons_option (crew_of w) xs)
    → ((c : Callsign) → is_crew c w ≡ true → list_any (same_callsign c) xs ≡ false)
    × IsDistinct same_callsign xs
unfolding IsDistinct
distinct_first (Crew k) xs h = (
  λ c e.
      subst (λ a. list_any (same_callsign a) xs ≡ false) (exact_callsigns k c ((Equal-is (callsign_cmp k c)).0 e))
      (none_like _ xs h.0),
  h.1,
)
distinct_first (Desk d) xs h = (λ c e. absurd (false≢true e), h)
distinct_first (Position p) xs h = (λ c e. absurd (false≢true e), h)

first_distinct : (w : Who) (xs : List Callsign)
    → ((c : Callsign) → is_crew c w ≡ true → list_any (same_callsign c) xs ≡ false)
    → IsDistinct same_callsign xs → IsDistinct same_callsign (cons_option (crew_of w) xs)
unfolding IsDistinct
first_distinct (Crew k) xs f h = (each_unlike _ xs (f k (its_crew k)), h)
first_distinct (Desk d) xs f h = h
first_distinct (Position p) xs f h = h

pub apart_from_distinct : (ts : List Terminal) → IsDistinct same_callsign (crews_of ts)
    → AreApart ts
apart_from_distinct [] h = tt
apart_from_distinct (t ∷ ts) h =
    let parts = distinct_first t.who (crews_of ts) h in
    (λ c e. sym (crew_shown c ts) ∙ parts.0 c e, apart_from_distinct ts parts.1)

pub distinct_from_apart : (ts : List Terminal) → AreApart ts
    → IsDistinct same_callsign (crews_of ts)
unfolding IsDistinct
distinct_from_apart [] h = tt
distinct_from_apart (t ∷ ts) h =
    first_distinct t.who (crews_of ts) (λ c e. crew_shown c ts ∙ h.0 c e) (distinct_from_apart ts h.1)
