-- Terminals are in token order where each token is below the next.
use Rattle.std.specs.Bool.{Decides}
use Rattle.std.specs.List.{IsAllAdjacentAnswer}
use Rattle.std.specs.Ordering.{is_lt}
use Rattle.std.specs.declared.cmp.Ordering.TheVariants.{Equal, Greater, Less}
use Rattle.std.specs.declared.cmp.Ordering.{Ordering}
use Rattle.std.proofs.Common.{Bool, List, [], add-one, ap, arith, false, get_or, length, refl}
use Rattle.std.proofs.Common.{subst, suc, sym, true, zero, ℕ, ◌+◌, ◌<◌, ◌∙◌, ◌∷◌, ◌≡◌}
use Rattle.std.proofs.lemmas.Bool.{false≢true}
use Rattle.room_types.specs.KeyedRows.{IsKeyed}
use Rattle.room_types.specs.KeyLemmas.{callsigns_total}
use Rattle.room_types.specs.declared.fleet.Terminal.{Terminal}
use Rattle.room_types.proofs.KeyedLaws.{below_from_less}
use Rattle.room_model.specs.FleetRows.{terminal_key, token_cmp}

abbrev is_before : Terminal → Terminal → Bool
is_before t u = is_lt (token_cmp t.token u.token)

less : (o : Ordering) → true ≡ is_lt o → o ≡ Less
less Less e = refl
less Equal e = cc
less Greater e = cc

keyed_from_steps : (ts : List Terminal)
    → ((k : ℕ) (d : Terminal) → suc k < length ts
    → true ≡ is_before (get_or ts k d) (get_or ts (suc k) d))
    → IsKeyed token_cmp terminal_key ts
keyed_from_steps [] h = tt
keyed_from_steps (t ∷ []) h = (tt, tt)
keyed_from_steps (t ∷ u ∷ ts) h =
    let rest = keyed_from_steps (u ∷ ts) (λ k d inside. h (suc k) d (omega (arith, inside))) in
    (below_from_less token_cmp terminal_key callsigns_total t.token u ts (less _ (h 0 t (omega arith))) rest, rest)

steps_from_keyed : (ts : List Terminal) → IsKeyed token_cmp terminal_key ts
    → (k : ℕ) (d : Terminal) → suc k < length ts
    → is_before (get_or ts k d) (get_or ts (suc k) d) ≡ true
steps_from_keyed [] in_order k d inside = absurd (omega arith)
steps_from_keyed (t ∷ []) in_order k d inside = absurd (omega arith)
steps_from_keyed (t ∷ u ∷ ts) in_order zero d inside = ap is_lt in_order.0.0
steps_from_keyed (t ∷ u ∷ ts) in_order (suc k) d inside =
    steps_from_keyed (u ∷ ts) in_order.1 k d (omega (arith, inside))

no_step : (ts : List Terminal) → IsKeyed token_cmp terminal_key ts → (k : ℕ) → k + 1 < length ts
    → ((d : Terminal) → false ≡ is_before (get_or ts k d) (get_or ts (k + 1) d)) → ⊥
no_step [] in_order k inside h = omega arith
no_step (t ∷ ts) in_order k inside h =
    false≢true (h t
    ∙ subst (λ n. is_before (get_or (t ∷ ts) k t) (get_or (t ∷ ts) n t) ≡ true) (sym (add-one k))
    (steps_from_keyed (t ∷ ts) in_order k t (omega arith)))

pub keyed_decides : (ts : List Terminal) (r : Bool)
    → IsAllAdjacentAnswer (λ t u b. b ≡ is_before t u) ts r
    → Decides r (IsKeyed token_cmp terminal_key ts)
keyed_decides ts true h = (
  λ e.
      keyed_from_steps ts
      (λ k d inside.
      subst (λ n. true ≡ is_before (get_or ts k d) (get_or ts n d)) (add-one k) (h k d (omega (arith, inside)))),
  λ in_order. refl,
)
keyed_decides ts false h = (λ e. absurd (false≢true e), λ in_order. absurd (no_step ts in_order h.0 h.1 h.2))
