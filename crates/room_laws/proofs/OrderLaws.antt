-- Orders stand until they are ended, and reach their crews.
use Rattle.std.proofs.Common.{ap, inl, inr, subst, sym, ◌∙◌}
use Rattle.std.specs.Ordering.{is_eq}
use Rattle.std.specs.Prelude.{Bool, List, None, Option, Some, [], cond, false, refl, true, ◌∷◌, ◌≡◌}
use Rattle.std.specs.Prelude.{◌⊎◌}
use Rattle.room_place.specs.Choice.{Among}
use Rattle.room_types.proofs.KeyedLaws.{keyed_drop, keyed_put, row_drop_other, row_drop_same}
use Rattle.room_types.proofs.KeyedLaws.{row_put}
use Rattle.room_types.specs.KeyLemmas.{callsigns_total, exact_callsigns}
use Rattle.room_types.specs.KeyedRows.{IsKeyed, drop_row, put_row, row_at}
use Rattle.room_types.specs.Keys.{assignment_key, callsign_cmp}
use Rattle.room_types.specs.Texts.{Callsign}
use Rattle.room_types.specs.declared.asks.Event.{Event}
use Rattle.room_types.specs.declared.tables.Assignment.{Assignment}
use Rattle.room_model.proofs.KeptEvents.{addressed_still, event_kept}
use Rattle.room_model.proofs.OpenTurns.{row_there}
use Rattle.room_model.proofs.Runs.{AreWellFormed}
use Rattle.room_model.proofs.Tests.{is_equal, row_among}
use Rattle.room_model.specs.Decisions.{changes_of}
use Rattle.room_model.specs.Events.{AreAddressed}
use Rattle.room_model.specs.Queries.{assignment_at}
use Rattle.room_model.specs.Room.{Room}
use Rattle.room_model.specs.RoomAgreements.{IsWellFormed}
use Rattle.room_model.specs.Run.{room_run}
use Rattle.room_model.specs.Step.{decided, room_after}
use Rattle.room_laws.proofs.OrderEnds.{ended_drops}
use Rattle.room_laws.proofs.OrderSteps.{Moves, event_moves}
use Rattle.room_laws.proofs.Steps.{AreSingle, IsSingle, steps_met, steps_run, steps_single}
use Rattle.room_laws.specs.Happens.{Happens, HappensIn, HoldsIn, steps_of}
use Rattle.room_laws.specs.Orders.{AreKept, EndsOrder, IsSent}

abbrev AreKeyed : List Assignment → Type 0
AreKeyed xs = IsKeyed callsign_cmp assignment_key xs

abbrev order_at : List Assignment → Assignment → Option Assignment
order_at xs a = row_at callsign_cmp assignment_key xs a.callsign

found : (xs : List Assignment) (a : Assignment) → AreKeyed xs → Among a xs → order_at xs a ≡ Some a
found xs a h here = row_among callsign_cmp assignment_key callsigns_total xs a h here

there : (xs : List Assignment) (a : Assignment) → order_at xs a ≡ Some a → Among a xs
there xs a e = row_there callsign_cmp assignment_key xs a.callsign a e

-- ---- one put, one drop
module _ (xs : List Assignment) (h : AreKeyed xs) (a : Assignment) where
  put_gives : (x : Assignment) → Among a (put_row callsign_cmp assignment_key xs x)
      → Among a xs ⊎ (a ≡ x)
  put_gives x here =
      let is : cond (is_eq (callsign_cmp a.callsign x.callsign)) (Some x) (order_at xs a) ≡ Some a =
      sym (row_put callsign_cmp assignment_key callsigns_total xs x a.callsign)
      ∙ found _ a (keyed_put callsign_cmp assignment_key callsigns_total xs x h) here in
      (elim (is_eq (callsign_cmp a.callsign x.callsign)) as (λ (b : Bool).
      cond b (Some x) (order_at xs a) ≡ Some a → Among a xs ⊎ (a ≡ x)) [
        | true ↦ λ e. let same : a ≡ x = cc in inr same
        | false ↦ λ e. inl (there xs a e)
      ]) is

  put_keeps : (x : Assignment) → row_at callsign_cmp assignment_key xs x.callsign ≡ None → Among a xs
      → Among a (put_row callsign_cmp assignment_key xs x)
  put_keeps x none here =
      let now = row_put callsign_cmp assignment_key callsigns_total xs x a.callsign in
      there _ a (now ∙ (elim (is_eq (callsign_cmp a.callsign x.callsign)) as (λ (b : Bool).
      is_eq (callsign_cmp a.callsign x.callsign) ≡ b → cond b (Some x) (order_at xs a) ≡ Some a) [
        | true ↦ λ e.
            let same = exact_callsigns a.callsign x.callsign (is_equal _ e) in
            let none_here : order_at xs a ≡ None = ap (row_at callsign_cmp assignment_key xs) same ∙ none in
            let some_here = found xs a h here in
            cc
        | false ↦ λ e. found xs a h here
      ]) refl)

  drop_gives : (k : Callsign) → Among a (drop_row callsign_cmp assignment_key xs k) → Among a xs
  drop_gives k here = go xs here
    where
      go : (ys : List Assignment) → Among a (drop_row callsign_cmp assignment_key ys k) → Among a ys
      go [] e = e
      go (y ∷ ys) e =
          (elim (is_eq (callsign_cmp k y.callsign)) as (λ (b : Bool).
          Among a (cond b ys (y ∷ drop_row callsign_cmp assignment_key ys k)) → Among a (y ∷ ys)) [
            | true ↦ λ f. inr f
            | false ↦ λ f. elim f [ inl g ↦ inl g | inr g ↦ inr (go ys g) ]
          ]) e

  drop_keeps : (k : Callsign) → Among a xs
      → Among a (drop_row callsign_cmp assignment_key xs k) ⊎ (k ≡ a.callsign)
  drop_keeps k here =
      (elim (is_eq (callsign_cmp a.callsign k)) as (λ (b : Bool).
      is_eq (callsign_cmp a.callsign k) ≡ b
      → Among a (drop_row callsign_cmp assignment_key xs k) ⊎ (k ≡ a.callsign)) [
        | true ↦ λ e. inr (sym (exact_callsigns a.callsign k (is_equal _ e)))
        | false ↦ λ e.
            inl (there _ a (row_drop_other callsign_cmp assignment_key callsigns_total xs k a.callsign e
            ∙ found xs a h here))
      ]) refl

  pub drop_ends : Among a (drop_row callsign_cmp assignment_key xs a.callsign) → ⊥
  drop_ends here =
      let some_here = found _ a (keyed_drop callsign_cmp assignment_key callsigns_total xs a.callsign h) here in
      let none_here = row_drop_same callsign_cmp assignment_key callsigns_total xs a.callsign h in
      let clash : None ≡ Some a = sym none_here ∙ some_here in
      absurd (let none_some : ⊥ = cc in none_some)

-- ---- one step
module _ (e : Event) (r : Room) (w : IsWellFormed r) (single : IsSingle e) where
  given_by : (a : Assignment) (after : List Assignment) → Moves e r after → Among a after
      → Among a r.assignments ⊎ IsSent e r a
  given_by a after (inl same) here = inl (subst (Among a) same here)
  given_by a after (inr (inl is)) here =
      elim (put_gives r.assignments w.order.assignments a is.order (subst (Among a) is.put here)) [
        | inl old ↦ inl old
        | inr new ↦ inr (subst (IsSent e r) (sym new) is.sent)
      ]
  given_by a after (inr (inr is)) here =
      inl (drop_gives r.assignments w.order.assignments a is.callsign (subst (Among a) is.dropped here))

  stays_by : (a : Assignment) (after : List Assignment) → Moves e r after → Among a r.assignments
      → Among a after ⊎ EndsOrder e r a
  unfolding assignment_at
  stays_by a after (inl same) here = inl (subst (Among a) (sym same) here)
  stays_by a after (inr (inl is)) here =
      inl (subst (Among a) (sym is.put)
      (put_keeps r.assignments w.order.assignments a is.order is.sent.without_order here))
  stays_by a after (inr (inr is)) here =
      elim (drop_keeps r.assignments w.order.assignments a is.callsign here) [
        | inl still ↦ inl (subst (Among a) (sym is.dropped) still)
        | inr gone ↦ inr (is.ended a here gone)
      ]

  pub given_by_step : (a : Assignment) → Among a (room_after e r).assignments
      → Among a r.assignments ⊎ IsSent e r a
  given_by_step a here = given_by a (room_after e r).assignments (event_moves r w e single) here

  pub stays_by_step : (a : Assignment) → Among a r.assignments
      → Among a (room_after e r).assignments ⊎ EndsOrder e r a
  stays_by_step a here = stays_by a (room_after e r).assignments (event_moves r w e single) here

  pub ended_by_step : (a : Assignment) → Among a r.assignments → EndsOrder e r a
      → Among a (room_after e r).assignments → ⊥
  ended_by_step a here ended still =
      drop_ends r.assignments w.order.assignments a (subst (Among a) (ended_drops r w a here e ended) still)

-- ---- some steps
module _ (a : Assignment) where
  given_steps : (es : List Event) (r : Room) → AreWellFormed es r → AreSingle es
      → Among a (room_run es r).assignments
      → Among a r.assignments ⊎ HappensIn (λ step now. IsSent step now a) es r
  given_steps [] r met single here = inl here
  given_steps (e ∷ es) r met single here =
      elim (given_steps es (room_after e r) met.1 single.1 here) [
        | inr later ↦ inr (inr later)
        | inl now ↦ elim (given_by_step e r met.0 single.0 a now) [
          | inl old ↦ inl old
          | inr sent ↦ inr (inl sent)
        ]
      ]

  stays_steps : (es : List Event) (r : Room) → AreWellFormed es r → AreSingle es
      → Among a r.assignments
      → Among a (room_run es r).assignments ⊎ HappensIn (λ step now. EndsOrder step now a) es r
  stays_steps [] r met single here = inl here
  stays_steps (e ∷ es) r met single here = elim (stays_by_step e r met.0 single.0 a here) [
    | inr ended ↦ inr (inl ended)
    | inl still ↦ elim (stays_steps es (room_after e r) met.1 single.1 still) [
      | inl last ↦ inl last
      | inr later ↦ inr (inr later)
    ]
  ]

  ended_steps : (es : List Event) (r : Room) → AreWellFormed es r → AreSingle es
      → HoldsIn (λ step now. Among a now.assignments → EndsOrder step now a
      → Among a (room_after step now).assignments → ⊥) es r
  ended_steps [] r met single = tt
  ended_steps (e ∷ es) r met single =
      (ended_by_step e r met.0 single.0 a, ended_steps es (room_after e r) met.1 single.1)

-- ---- one event
pub orders_kept : (e : Event) (r : Room) → IsWellFormed r → AreKept e r
orders_kept e r w =
    let steps = steps_of e r in
    let met = steps_met e r w in
    let single = steps_single e r in
    record {
      given = λ a here.
          given_steps a steps r met single (subst (λ s. Among a s.assignments) (steps_run e r) here);
      stays = λ a here.
          subst
          (λ s. Among a s.assignments ⊎ HappensIn (λ step now. EndsOrder step now a) steps r)
          (sym (steps_run e r)) (stays_steps a steps r met single here);
      ends = λ a. ended_steps a steps r met single;
    }

-- ---- a run
pub given_in : (events : List Event) (r : Room) (a : Assignment) → IsWellFormed r
    → AreAddressed events r → Among a (room_run events r).assignments
    → Among a r.assignments ⊎ Happens (λ event now. IsSent event now a) events r
given_in [] r a w known here = inl here
given_in (e ∷ events) r a w known here =
    elim (given_in events (room_after e r) a (event_kept e r w known.0 known.1)
    (addressed_still events r (changes_of (decided e r)) known.2) here) [
      | inr later ↦ inr (inr later)
      | inl now ↦ elim ((orders_kept e r w).given a now) [
        | inl old ↦ inl old
        | inr sent ↦ inr (inl sent)
      ]
    ]

pub stays_in : (events : List Event) (r : Room) (a : Assignment) → IsWellFormed r
    → AreAddressed events r → Among a r.assignments
    → Among a (room_run events r).assignments ⊎ Happens (λ event now. EndsOrder event now a) events r
stays_in [] r a w known here = inl here
stays_in (e ∷ events) r a w known here = elim ((orders_kept e r w).stays a here) [
  | inr ended ↦ inr (inl ended)
  | inl still ↦ elim (stays_in events (room_after e r) a (event_kept e r w known.0 known.1)
      (addressed_still events r (changes_of (decided e r)) known.2) still) [
        | inl last ↦ inl last
        | inr later ↦ inr (inr later)
      ]
]
