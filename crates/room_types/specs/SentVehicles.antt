-- A vehicle that is sent: its assignment and its open turn.
use Rattle.std.specs.Prelude.{◌≡◌, Bool, true, false, not, ◌==◌, ◌&&◌, Option, Some, None}
use Rattle.room_types.specs.Codes.{is_busy}
use Rattle.room_types.specs.declared.tables.Assignment.{Assignment}
use Rattle.room_types.specs.declared.tables.Turn.{Turn}
use Rattle.room_types.specs.declared.tables.Vehicle.{Vehicle}

-- a busy vehicle's assignment and open turn are its holder's, for one incident, and of its last
-- order
pub record IsSent (v : Vehicle) (a : Assignment) (t : Turn) : Type 0 where
  pub busy : is_busy v.status ≡ true
  pub assigned_by_holder : a.division ≡ v.holder
  pub ordered_by_holder : t.division ≡ v.holder
  pub same_incident : t.incident ≡ a.incident
  pub assigned_last : a.order ≡ v.last_order
  pub ordered_last : t.order ≡ v.last_order

-- a busy vehicle's assignment is its holder's, and of its last order
pub record IsAssigned (v : Vehicle) (a : Assignment) : Type 0 where
  pub busy : is_busy v.status ≡ true
  pub assigned_by_holder : a.division ≡ v.holder
  pub assigned_last : a.order ≡ v.last_order

-- and so is its open turn
pub record IsOrdered (v : Vehicle) (t : Turn) : Type 0 where
  pub busy : is_busy v.status ≡ true
  pub ordered_by_holder : t.division ≡ v.holder
  pub ordered_last : t.order ≡ v.last_order

-- a vehicle has an assignment, and an open turn, exactly where it is busy
abbrev pub SentAgrees : Vehicle → Option Assignment → Option Turn → Type 0
SentAgrees v None None = is_busy v.status ≡ false
SentAgrees v None (Some t) = ⊥
SentAgrees v (Some a) None = ⊥
SentAgrees v (Some a) (Some t) = IsSent v a t

-- what is there of a vehicle's assignment and open turn belongs to it, and together
abbrev pub PartsAgree : Vehicle → Option Assignment → Option Turn → Type 0
PartsAgree v None None = Unit {0}
PartsAgree v None (Some t) = IsOrdered v t
PartsAgree v (Some a) None = IsAssigned v a
PartsAgree v (Some a) (Some t) = IsSent v a t

-- ---- the same as tests
abbrev pub is_sent : Vehicle → Assignment → Turn → Bool
is_sent v a t = is_busy v.status && (a.division == v.holder
    && (t.division == v.holder && (t.incident == a.incident
    && (a.order == v.last_order && t.order == v.last_order))))

abbrev pub is_assigned : Vehicle → Assignment → Bool
is_assigned v a = is_busy v.status && (a.division == v.holder && a.order == v.last_order)

abbrev pub is_ordered : Vehicle → Turn → Bool
is_ordered v t = is_busy v.status && (t.division == v.holder && t.order == v.last_order)

abbrev pub sent_agrees : Vehicle → Option Assignment → Option Turn → Bool
sent_agrees v None None = not (is_busy v.status)
sent_agrees v None (Some t) = false
sent_agrees v (Some a) None = false
sent_agrees v (Some a) (Some t) = is_sent v a t

abbrev pub parts_agree : Vehicle → Option Assignment → Option Turn → Bool
parts_agree v None None = true
parts_agree v None (Some t) = is_ordered v t
parts_agree v (Some a) None = is_assigned v a
parts_agree v (Some a) (Some t) = is_sent v a t
