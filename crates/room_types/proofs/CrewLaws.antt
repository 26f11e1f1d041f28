-- The test of a vehicle's rows says what they agree in.
use Rattle.std.proofs.Common.{ap, ◌≡◌, ℕ, Bool, true, subst, Option, Some, None, refl}
use Rattle.std.specs.Prelude.{IfSome, is_none}
use Rattle.std.specs.Bool.{Decides}
use Rattle.std.specs.Cmp.{Equal-is}
use Rattle.std.proofs.lemmas.Cmp.{tied_itself}
use Rattle.std.specs.Ordering.{is_eq}
use Rattle.std.proofs.lemmas.Bool.Decides.{Decides-and, Decides-like}
use Rattle.room_types.specs.Crews.{IsCrew, is_crew, passes}
use Rattle.room_types.specs.Keys.{callsign_cmp, same_callsign}
use Rattle.room_types.specs.KeyLemmas.{callsigns_total, exact_callsigns}
use Rattle.room_types.specs.Texts.{Callsign}
use Rattle.room_types.specs.declared.crews.CrewRows.{CrewRows}
use Rattle.room_types.proofs.SentLaws.{sent_decides}

callsigns_decide : (a b : Callsign) → Decides (same_callsign a b) (a ≡ b)
callsigns_decide a b = (
  λ h. exact_callsigns a b ((Equal-is (callsign_cmp a b)).0 h),
  λ e. subst (λ c. same_callsign a c ≡ true) e (ap is_eq (tied_itself callsigns_total a)),
)

passes_decides : {R : Type 0} (p : R → Bool) (P : R → Type 0) → ((x : R) → Decides (p x) (P x))
    → (o : Option R) → Decides (passes p o) (IfSome o P)
passes_decides p P decides None = (λ h. tt, λ h. refl)
passes_decides p P decides (Some x) = decides x

none_decides : (o : Option ℕ) → Decides (is_none o) (o ≡ None)
none_decides None = (λ h. refl, λ h. refl)
none_decides (Some at) = (λ h. cc, λ h. cc)

pub crew_decides : (r : CrewRows) → Decides (is_crew r) (IsCrew r)
unfolding is_crew
crew_decides r = Decides-like _
    (λ h. record { assignment = h.0.0; turn = h.0.1.0; loan = h.0.1.1; sent = h.1 })
    (λ h. ((h.assignment, (h.turn, h.loan)), h.sent))
    (Decides-and _ _
    (Decides-and _ _ (passes_decides _ _ (λ a. callsigns_decide a.callsign _) r.assignment)
    (Decides-and _ _
    (passes_decides _ _ (λ t. Decides-and _ _ (callsigns_decide t.callsign _) (none_decides t.ended)) r.turn)
    (passes_decides _ _ (λ l. callsigns_decide l.callsign _) r.loan)))
    (sent_decides _ _ _))
