-- What leaves all orders as they are: every ask but to mobilise, to stand down and to report.
use Rattle.std.specs.Prelude.{Bool, List, None, Option, Some, [], false, is_some, map, not, refl}
use Rattle.std.specs.Prelude.{true, ℕ, ◌∷◌, ◌≡◌}
use Rattle.room_types.specs.Codes.{is_active}
use Rattle.room_types.specs.declared.asks.Ask.{Ask}
use Rattle.room_types.specs.declared.asks.NewCall.{NewCall}
use Rattle.room_types.specs.declared.asks.Who.TheVariants.{Desk, Position}
use Rattle.room_types.specs.declared.refusal_statuses.Refusal.{Refusal}
use Rattle.room_types.specs.declared.tables.Call.{Call}
use Rattle.room_types.specs.declared.tables.Division.{Division}
use Rattle.room_types.specs.declared.tables.Incident.{Incident}
use Rattle.room_types.specs.declared.tables.Loan.{Loan}
use Rattle.room_types.specs.declared.tables.Offer.{Offer}
use Rattle.room_types.specs.declared.tables.Report.{Report}
use Rattle.room_types.specs.declared.tables.Vehicle.{Vehicle}
use Rattle.room_model.proofs.DecisionLaws.{by_refuse}
use Rattle.room_model.proofs.Questions.{by_quiet}
use Rattle.room_model.specs.Calls.{call_in, call_kept, call_somewhere, call_taken, new_call}
use Rattle.room_model.specs.Decisions.{Verdict, changes_of, refuse_if, where_active, where_held}
use Rattle.room_model.specs.Incidents.{change_needs, close, close_active, merge, merge_of}
use Rattle.room_model.specs.Incidents.{moved_call, needs_changed}
use Rattle.room_model.specs.Loans.{accept, accepted, decline, declined, give_back, given_back, lend}
use Rattle.room_model.specs.Loans.{offered, recall, recall_lent, withdraw, withdrawn}
use Rattle.room_model.specs.Queries.{borrowed, held, incident_of, is_attended, kept_call}
use Rattle.room_model.specs.Queries.{last_number, lent, link_target, offered_by, point_of, served}
use Rattle.room_model.specs.Queue.{clear, clear_found}
use Rattle.room_model.specs.Room.{Room, apply}
use Rattle.room_model.specs.Step.{desk_asks, position_asks}
use Rattle.room_model.specs.Vehicles.{duty, off, off_duty, on_duty, standby, standby_at, stands_by}
use Rattle.room_place.specs.Plans.{division_of}
use Rattle.room_types.specs.declared.asks.Ask.TheVariants as ask
use Rattle.room_types.specs.declared.refusal_statuses.Refusal.TheVariants as refusal

-- the asks of a desk that give an order or take one back
abbrev pub moves_orders : Ask → Bool
moves_orders (ask.Mobilise n c) = true
moves_orders (ask.Moves ms) = true
moves_orders (ask.StandDown c) = true
moves_orders a = false

-- calls that go to another incident
calls_moved : (r : Room) (m : ℕ) (cs : List Call)
    → (apply r (map (moved_call m) cs)).assignments ≡ r.assignments
calls_moved r m [] = refl
calls_moved r m (c ∷ cs) = calls_moved (apply r (moved_call m c ∷ [])) m cs

module _ (r : Room) where
  abbrev pub Leaves : Verdict → Type 0
  Leaves x = (apply r (changes_of x)).assignments ≡ r.assignments

  refuse : (b : Bool) (e : Refusal) (x : Verdict) → Leaves x → Leaves (refuse_if b e x)
  refuse b e x f = by_refuse Leaves b e x refl (λ g. f)

  by_vehicle : (o : Option Vehicle) (l : Option Loan) (f : Vehicle → Verdict)
      → ((v : Vehicle) → Leaves (f v)) → Leaves (where_held o l f)
  by_vehicle None l f g = refl
  by_vehicle (Some v) l f g = g v

  by_incident : (o : Option Incident) (f : Incident → Verdict) → ((i : Incident) → Leaves (f i))
      → Leaves (where_active o f)
  by_incident None f g = refl
  by_incident (Some i) f g = refuse (not (is_active i.state)) refusal.IncidentNotOpen (f i) (g i)

  merged : (n m : Option Incident) (b : Bool) (cs : List Call) → Leaves (merge_of n m b cs)
  merged None m b cs = refl
  merged (Some n) None b cs = refl
  merged (Some n) (Some m) b cs =
      refuse _ _ _ (refuse _ _ _ (refuse _ _ _ (refuse _ _ _ (calls_moved _ m.number cs))))

  stood_by : (p : Option ℕ) (has : ℕ → Bool) (at : ℕ) (v : Vehicle) → Leaves (standby_at p has at v)
  stood_by None has at v = refl
  stood_by (Some n) has at v = refuse _ _ _ (refuse _ _ _ refl)

  taken_back : (o : Option Offer) (v : Vehicle) → Leaves (withdrawn o v)
  taken_back None v = refl
  taken_back (Some o) v = refl

  refused : (o : Option Offer) → Leaves (declined o)
  refused None = refl
  refused (Some o) = refl

  taken : (o : Option Offer) (at : ℕ) → Leaves (accepted o at)
  taken None at = refl
  taken (Some o) at = refl

  recalled : (l : Option Loan) (v : Option Vehicle) → Leaves (recall_lent l v)
  recalled (Some l) v = refl
  recalled None (Some v) = refl
  recalled None None = refl

  cleared : (o : Option Report) → Leaves (clear_found o)
  cleared None = refl
  cleared (Some x) = refuse _ _ _ refl

  pub desk_leaves : (d : ℕ) (a : Ask) (at : ℕ) → moves_orders a ≡ false
      → Leaves (desk_asks d a at r)
  unfolding change_needs merge close standby duty off lend withdraw decline accept recall give_back clear
  desk_leaves d (ask.Mobilise n c) at h = cc
  desk_leaves d (ask.Moves ms) at h = cc
  desk_leaves d (ask.StandDown c) at h = cc
  desk_leaves d (ask.Needs n needs) at h =
      by_incident (incident_of d n r) (needs_changed needs (λ k. served d n k r)) (λ i. refuse _ _ _ refl)
  desk_leaves d (ask.Merge n m) at h = merged _ _ _ _
  desk_leaves d (ask.Close n) at h =
      by_incident (incident_of d n r) (close_active (is_attended d n r)) (λ i. refuse _ _ _ refl)
  desk_leaves d (ask.Standby c p) at h =
      by_vehicle (held d c r) (lent d c r) (stands_by p (λ n. is_some (point_of d n r)) at)
      (λ v. refuse _ _ _ (stood_by p _ at v))
  desk_leaves d (ask.Duty c place until) at h =
      by_vehicle (held d c r) (lent d c r) (on_duty place until at) (λ v. refuse _ _ _ (refuse _ _ _ refl))
  desk_leaves d (ask.Off c) at h =
      by_vehicle (held d c r) (lent d c r) off_duty (λ v. refuse _ _ _ (refuse _ _ _ refl))
  desk_leaves d (ask.Lend c to until) at h =
      by_vehicle (held d c r) (lent d c r) (offered r.plan d to until at)
      (λ v. refuse _ _ _ (refuse _ _ _ (refuse _ _ _ (refuse _ _ _ (refuse _ _ _ refl)))))
  desk_leaves d (ask.Withdraw c) at h =
      by_vehicle (held d c r) (lent d c r) (withdrawn (offered_by d c r)) (taken_back (offered_by d c r))
  desk_leaves d (ask.Decline c) at h = refused _
  desk_leaves d (ask.Accept c) at h = taken _ at
  desk_leaves d (ask.Recall c) at h = recalled _ _
  desk_leaves d (ask.GiveBack c) at h =
      by_vehicle (held d c r) (lent d c r) (given_back d (borrowed d c r)) (λ v. refuse _ _ _ (refuse _ _ _ refl))
  desk_leaves d (ask.Clear c n) at h = cleared _
  desk_leaves d (ask.SetPoint n place cover) at h = refl
  desk_leaves d a at h = by_quiet at r (λ cs. (apply r cs).assignments ≡ r.assignments) (Desk d) a refl refl

  -- ---- a call
  call_taken_leaves : (d : ℕ) (new : NewCall) (i : Option Incident) (v : Option Division)
      → Leaves (call_taken d new i v)
  call_taken_leaves d new (Some i) v = refl
  call_taken_leaves d new None None = refl
  call_taken_leaves d new None (Some v) = refuse _ _ _ refl

  somewhere : (o : Option ℕ) (new : NewCall) → Leaves (call_somewhere o new r)
  unfolding call_in
  somewhere None new = refl
  somewhere (Some d) new = call_taken_leaves d new (link_target d new.place new.at r) (last_number d r)

  call_leaves : (new : NewCall) (o : Option Call) → Leaves (call_kept o new r)
  call_leaves new (Some k) = refuse _ _ _ refl
  call_leaves new None = somewhere (division_of r.plan new.place) new

  pub position_leaves : (p : ℕ) (a : Ask) (at : ℕ) → Leaves (position_asks p a at r)
  position_leaves p (ask.Call f) at = call_leaves (new_call p f at) (kept_call p f.serial r)
  position_leaves p a at =
      by_quiet at r (λ cs. (apply r cs).assignments ≡ r.assignments) (Position p) a refl refl
