-- The test of a vehicle's assignment and open turn says what they agree in.
use Rattle.std.proofs.Common.{false, refl, ◌≡◌, Bool, true, Option, Some, None, ap}
use Rattle.std.specs.Bool.{Decides}
use Rattle.std.proofs.lemmas.Bool.{not-true}
use Rattle.std.proofs.lemmas.Bool.Decides.{Decides-and, Decides-eqb, Decides-like}
use Rattle.std.specs.Prelude.{not}
use Rattle.room_types.specs.declared.tables.Assignment.{Assignment}
use Rattle.room_types.specs.declared.tables.Turn.{Turn}
use Rattle.room_types.specs.declared.tables.Vehicle.{Vehicle}
use Rattle.room_types.specs.SentVehicles.{IsAssigned, IsOrdered, IsSent, PartsAgree, SentAgrees}
use Rattle.room_types.specs.SentVehicles.{is_assigned, is_ordered, is_sent, parts_agree}
use Rattle.room_types.specs.SentVehicles.{sent_agrees}
use Rattle.room_types.specs.Codes.{is_busy}

-- a test is its own answer
pub itself : (b : Bool) → Decides b (b ≡ true)
itself b = (λ h. h, λ h. h)

is_sent_decides : (v : Vehicle) (a : Assignment) (t : Turn) → Decides (is_sent v a t) (IsSent v a t)
is_sent_decides v a t = Decides-like _
    (λ h. record {
      busy = h.0;
      assigned_by_holder = h.1.0;
      ordered_by_holder = h.1.1.0;
      same_incident = h.1.1.1.0;
      assigned_last = h.1.1.1.1.0;
      ordered_last = h.1.1.1.1.1;
    })
    (λ h. (h.busy, (h.assigned_by_holder, (h.ordered_by_holder, (h.same_incident, (h.assigned_last, h.ordered_last))))))
    (Decides-and _ _ (itself _) (Decides-and _ _ (Decides-eqb _ _)
    (Decides-and _ _ (Decides-eqb _ _)
    (Decides-and _ _ (Decides-eqb _ _) (Decides-and _ _ (Decides-eqb _ _) (Decides-eqb _ _))))))

is_assigned_decides : (v : Vehicle) (a : Assignment) → Decides (is_assigned v a) (IsAssigned v a)
is_assigned_decides v a = Decides-like _
    (λ h. record { busy = h.0; assigned_by_holder = h.1.0; assigned_last = h.1.1 })
    (λ h. (h.busy, (h.assigned_by_holder, h.assigned_last)))
    (Decides-and _ _ (itself _) (Decides-and _ _ (Decides-eqb _ _) (Decides-eqb _ _)))

is_ordered_decides : (v : Vehicle) (t : Turn) → Decides (is_ordered v t) (IsOrdered v t)
is_ordered_decides v t = Decides-like _
    (λ h. record { busy = h.0; ordered_by_holder = h.1.0; ordered_last = h.1.1 })
    (λ h. (h.busy, (h.ordered_by_holder, h.ordered_last)))
    (Decides-and _ _ (itself _) (Decides-and _ _ (Decides-eqb _ _) (Decides-eqb _ _)))

pub sent_decides : (v : Vehicle) (a : Option Assignment) (t : Option Turn)
    → Decides (sent_agrees v a t) (SentAgrees v a t)
sent_decides v None None = (not-true _, ap not)
sent_decides v None (Some t) = (λ h. cc, λ h. absurd h)
sent_decides v (Some a) None = (λ h. cc, λ h. absurd h)
sent_decides v (Some a) (Some t) = is_sent_decides v a t

pub parts_decide : (v : Vehicle) (a : Option Assignment) (t : Option Turn)
    → Decides (parts_agree v a t) (PartsAgree v a t)
parts_decide v None None = (λ h. tt, λ h. refl)
parts_decide v None (Some t) = is_ordered_decides v t
parts_decide v (Some a) None = is_assigned_decides v a
parts_decide v (Some a) (Some t) = is_sent_decides v a t

-- ---- what the agreement says
pub idle_apart : (v : Vehicle) (a : Option Assignment) (t : Option Turn) → PartsAgree v a t
    → is_busy v.status ≡ false → a ≡ None
idle_apart v None t h idle = refl
idle_apart v (Some a) None h idle = let busy = h.busy in cc
idle_apart v (Some a) (Some t) h idle = let busy = h.busy in cc
