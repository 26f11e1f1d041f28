-- No event adds a vehicle, or changes a vehicle's home or kind.
use Rattle.std.proofs.Common.{ap, sym, ◌∙◌}
use Rattle.std.specs.Prelude.{Bool, List, None, Option, Some, [], cond, false, is_some, map}
use Rattle.std.specs.Prelude.{option_map, refl, true, ℕ, ◌&&◌, ◌++◌, ◌==◌, ◌∷◌, ◌≡◌}
use Rattle.room_place.specs.Plans.{has_division}
use Rattle.room_types.specs.KeyedRows.{row_at}
use Rattle.room_types.specs.Keys.{callsign_cmp, vehicle_key}
use Rattle.room_types.specs.KeyLemmas.{callsigns_total, exact_callsigns}
use Rattle.room_types.specs.Texts.{Callsign}
use Rattle.room_types.specs.declared.asks.Move.{Move}
use Rattle.room_types.specs.declared.asks.Ask.{Ask}
use Rattle.room_types.specs.declared.asks.Event.{Event}
use Rattle.room_types.specs.declared.asks.NewCall.{NewCall}
use Rattle.room_types.specs.declared.asks.Press.{Press}
use Rattle.room_types.specs.declared.asks.Who.{Who}
use Rattle.room_types.specs.declared.asks.Who.TheVariants.{Crew, Desk, Position}
use Rattle.room_types.specs.declared.changes.Change.{Change}
use Rattle.room_types.specs.declared.changes.Change.TheVariants.{DropAssignment, PutReport}
use Rattle.room_types.specs.declared.changes.Change.TheVariants.{PutVehicle, Settle}
use Rattle.room_types.specs.declared.codes.Button.{Button}
use Rattle.room_types.specs.declared.codes.Kind.{Kind}
use Rattle.room_types.specs.declared.codes.Outcome.{Outcome}
use Rattle.room_types.specs.declared.codes.Status.TheVariants.{Returning}
use Rattle.room_types.specs.declared.fleet.FleetRow.{FleetRow}
use Rattle.room_types.specs.declared.fleet.RowFate.TheVariants.{Refused, Same}
use Rattle.room_types.specs.declared.fleet.Terminal.{Terminal}
use Rattle.room_types.specs.declared.refusal_statuses.Refusal.{Refusal}
use Rattle.room_types.specs.declared.tables.Call.{Call}
use Rattle.room_types.specs.declared.tables.Division.{Division}
use Rattle.room_types.specs.declared.tables.Incident.{Incident}
use Rattle.room_types.specs.declared.tables.Loan.{Loan}
use Rattle.room_types.specs.declared.tables.Offer.{Offer}
use Rattle.room_types.specs.declared.tables.Report.{Report}
use Rattle.room_types.specs.declared.tables.Turn.{Turn}
use Rattle.room_types.specs.declared.tables.Vehicle.{Vehicle}
use Rattle.room_model.proofs.MoveFolds.{by_moves}
use Rattle.room_model.proofs.IncidentChanges.{vehicles_put}
use Rattle.room_model.proofs.KeptEvents.{plan_stays}
use Rattle.room_model.proofs.Others.{held_is}
use Rattle.room_model.proofs.Questions.{IsQuiet, by_quiet}
use Rattle.room_model.proofs.Tests.{row_key}
use Rattle.room_model.proofs.VehicleRows.{settle}
use Rattle.room_model.specs.Calls.{call_in, call_kept, call_new, call_somewhere, call_taken}
use Rattle.room_model.specs.Calls.{new_call}
use Rattle.room_types.specs.Codes.{acts, same_kind}
use Rattle.room_model.specs.Decisions.{Verdict, changes_of, refuse_if, where_active, where_held}
use Rattle.room_model.specs.Decisions.{with_changes}
use Rattle.room_model.specs.FleetRows.{AreTerminals, fate_by, fate_of, fleet_at, home_and_kind}
use Rattle.room_model.specs.FleetRows.{is_crews_terminal, terminal_at}
use Rattle.room_model.specs.Incidents.{change_needs, close, close_active, merge, merge_of}
use Rattle.room_model.specs.Incidents.{moved_call, needs_changed}
use Rattle.room_model.specs.Loans.{accept, accepted, decline, declined, give_back, given_back, lend}
use Rattle.room_model.specs.Loans.{offered, recall, recall_lent, withdraw, withdrawn}
use Rattle.room_model.specs.Queries.{borrowed, held, incident_of, is_attended, lent, offered_by}
use Rattle.room_model.specs.Queries.{open_turn, point_of, served}
use Rattle.room_model.specs.Queue.{clear, clear_found}
use Rattle.room_model.specs.Reports.{back_changes, drop_changes, ends_turn, is_due, is_home}
use Rattle.room_model.specs.Reports.{report_held, report_in, report_kept, report_made, report_row}
use Rattle.room_model.specs.Reports.{report_somewhere, turn_changes, with_report}
use Rattle.room_model.specs.Room.{Room, apply, apply_one, settled}
use Rattle.room_model.specs.Run.{room_run}
use Rattle.room_model.specs.Step.{ask_of, course, decided, desk_asks, moves_in, position_asks}
use Rattle.room_model.specs.Step.{room_after, single_asks, verdict_of, who_asks}
use Rattle.room_model.specs.Vehicles.{duty, mobilise, mobilise_held, mobilised, off, off_duty}
use Rattle.room_model.specs.Vehicles.{on_duty, stand_down, stand_down_held, standby, standby_at}
use Rattle.room_model.specs.Vehicles.{stands_by, turn_stood_down}
use Rattle.room_types.specs.declared.answers.Answer.TheVariants as answer
use Rattle.room_types.specs.declared.asks.Ask.TheVariants as ask
use Rattle.room_types.specs.declared.refusal_statuses.Refusal.TheVariants as refusal

-- the vehicle that a change puts is there, with its home and kind
abbrev pub KeepsFleet : Room → Change → Type 0
KeepsFleet r (PutVehicle x) = fleet_at x.callsign r ≡ Some (home_and_kind x)
KeepsFleet r x = Unit {0}

abbrev pub AllKeepFleet : Room → List Change → Type 0
AllKeepFleet r [] = Unit {0}
AllKeepFleet r (x ∷ xs) = KeepsFleet r x × AllKeepFleet r xs

settled_fleet : (c k : Callsign) (d : ℕ) (r : Room) (o : Option Vehicle)
    → row_at callsign_cmp vehicle_key r.vehicles k ≡ o
    → option_map home_and_kind (row_at callsign_cmp vehicle_key (settled o d r.vehicles) c)
    ≡ fleet_at c r
settled_fleet c k d r None e = refl
settled_fleet c k d r (Some v) e =
    let key : k ≡ v.callsign = row_key callsign_cmp vehicle_key callsigns_total exact_callsigns r.vehicles k v e in
    vehicles_put (λ j o. option_map home_and_kind o ≡ fleet_at j r) r.vehicles (settle d v)
    (sym (ap (λ j. fleet_at j r) (sym key) ∙ ap (option_map home_and_kind) e)) (λ j apart. refl) c

fleet_one : (c : Callsign) (r : Room) (x : Change) → KeepsFleet r x
    → fleet_at c (apply_one r x) ≡ fleet_at c r
fleet_one c r (PutVehicle x) h =
    vehicles_put (λ j o. option_map home_and_kind o ≡ fleet_at j r) r.vehicles x (sym h) (λ j apart. refl) c
fleet_one c r (Settle k d) h = settled_fleet c k d r _ refl
fleet_one c r x h = refl

still_keeps : (r s : Room) (x : Change) → ((c : Callsign) → fleet_at c s ≡ fleet_at c r)
    → KeepsFleet r x → KeepsFleet s x
still_keeps r s (PutVehicle x) f h = f x.callsign ∙ h
still_keeps r s x f h = tt

all_still_keep : (r s : Room) (xs : List Change) → ((c : Callsign) → fleet_at c s ≡ fleet_at c r)
    → AllKeepFleet r xs → AllKeepFleet s xs
all_still_keep r s [] f h = tt
all_still_keep r s (x ∷ xs) f h = (still_keeps r s x f h.0, all_still_keep r s xs f h.1)

fleet_after : (c : Callsign) (r : Room) (xs : List Change) → AllKeepFleet r xs
    → fleet_at c (apply r xs) ≡ fleet_at c r
fleet_after c r [] h = refl
fleet_after c r (x ∷ xs) h =
    fleet_after c (apply_one r x) xs (all_still_keep r (apply_one r x) xs (λ k. fleet_one k r x h.0) h.1)
    ∙ fleet_one c r x h.0

-- ---- each decision's changes
module _ (r : Room) where
  abbrev SameFleet : Verdict → Type 0
  SameFleet x = AllKeepFleet r (changes_of x)

  -- the vehicle is there with its home and kind
  abbrev IsThere : Vehicle → Type 0
  IsThere v = fleet_at v.callsign r ≡ Some (home_and_kind v)

  refused_fleet : (b : Bool) (e : Refusal) (x : Verdict) → SameFleet x → SameFleet (refuse_if b e x)
  unfolding refuse_if
  refused_fleet true e x f = tt
  refused_fleet false e x f = f

  held_fleet : (d : ℕ) (c : Callsign) (f : Vehicle → Verdict)
      → ((v : Vehicle) → IsThere v → SameFleet (f v))
      → SameFleet (where_held (held d c r) (lent d c r) f)
  held_fleet d c f g =
      (elim (held d c r) as (λ (o : Option Vehicle). held d c r ≡ o → SameFleet (where_held o (lent d c r) f)) [
        | None ↦ λ e. tt
        | Some v ↦ λ e. g v (ap (option_map home_and_kind) (held_is d c r v e).there)
      ]) refl

  active_fleet : (o : Option Incident) (f : Incident → Verdict)
      → ((i : Incident) → SameFleet (f i)) → SameFleet (where_active o f)
  active_fleet None f g = tt
  active_fleet (Some i) f g = refused_fleet _ _ _ (g i)

  fleet_append : (xs ys : List Change) → AllKeepFleet r xs → AllKeepFleet r ys
      → AllKeepFleet r (xs ++ ys)
  fleet_append [] ys f g = g
  fleet_append (x ∷ xs) ys f g = (f.0, fleet_append xs ys f.1 g)

  calls_fleet : (m : ℕ) (cs : List Call) → AllKeepFleet r (map (moved_call m) cs)
  calls_fleet m [] = tt
  calls_fleet m (c ∷ cs) = (tt, calls_fleet m cs)

  merge_fleet : (n m : Option Incident) (b : Bool) (cs : List Call) → SameFleet (merge_of n m b cs)
  merge_fleet None m b cs = tt
  merge_fleet (Some n) None b cs = tt
  merge_fleet (Some n) (Some m) b cs =
      refused_fleet _ _ _
      (refused_fleet _ _ _ (refused_fleet _ _ _ (refused_fleet _ _ _ (tt, (tt, calls_fleet m.number cs)))))

  turn_fleet : (at : ℕ) (o : Option Turn) → AllKeepFleet r (turn_stood_down at o)
  turn_fleet at None = tt
  turn_fleet at (Some t) = (tt, tt)

  standby_fleet : (p : Option ℕ) (has : ℕ → Bool) (at : ℕ) (v : Vehicle) → IsThere v
      → SameFleet (standby_at p has at v)
  standby_fleet None has at v k = (k, tt)
  standby_fleet (Some n) has at v k = refused_fleet _ _ _ (refused_fleet _ _ _ (k, tt))

  withdrawn_fleet : (o : Option Offer) (v : Vehicle) → IsThere v → SameFleet (withdrawn o v)
  withdrawn_fleet None v k = tt
  withdrawn_fleet (Some o) v k = (k, (tt, tt))

  declined_fleet : (o : Option Offer) → SameFleet (declined o)
  declined_fleet None = tt
  declined_fleet (Some o) = (tt, (tt, tt))

  accepted_fleet : (o : Option Offer) (at : ℕ) → SameFleet (accepted o at)
  accepted_fleet None at = tt
  accepted_fleet (Some o) at = (tt, (tt, (tt, tt)))

  recalled_fleet : (l : Option Loan) (v : Option Vehicle) → SameFleet (recall_lent l v)
  recalled_fleet (Some l) v = (tt, tt)
  recalled_fleet None (Some v) = tt
  recalled_fleet None None = tt

  cleared_fleet : (o : Option Report) → SameFleet (clear_found o)
  cleared_fleet None = tt
  cleared_fleet (Some x) = refused_fleet _ _ _ (tt, tt)

  quiet_fleet : (who : Who) (a : Ask) (at : ℕ) → IsQuiet who a → SameFleet (who_asks who a at r)
  quiet_fleet who a at h = by_quiet at r (AllKeepFleet r) who a h tt

  pub single_fleet : (d : ℕ) (a : Ask) (at : ℕ) → SameFleet (single_asks d a at r)
  unfolding mobilise change_needs merge close stand_down standby duty off lend withdraw decline accept recall give_back
      clear
  single_fleet d (ask.Mobilise n c) at =
      active_fleet (incident_of d n r) (mobilise_held d (held d c r) (lent d c r) at (λ k. served d n k r))
      (λ i.
      held_fleet d c (mobilised d i at (λ k. served d n k r))
      (λ v k.
      refused_fleet _ _ _ (refused_fleet _ _ _ (refused_fleet _ _ _ (refused_fleet _ _ _ (tt, (k, (tt, (tt, tt)))))))))
  single_fleet d (ask.Needs n needs) at =
      active_fleet (incident_of d n r) (needs_changed needs (λ k. served d n k r)) (λ i. refused_fleet _ _ _ (tt, tt))
  single_fleet d (ask.Merge n m) at = merge_fleet _ _ _ _
  single_fleet d (ask.Close n) at =
      active_fleet (incident_of d n r) (close_active (is_attended d n r)) (λ i. refused_fleet _ _ _ (tt, tt))
  single_fleet d (ask.Moves ms) at = tt
  single_fleet d (ask.StandDown c) at =
      held_fleet d c (stand_down_held at (open_turn d c r)) (λ v k.
      refused_fleet _ _ _ (fleet_append (turn_stood_down at (open_turn d c r))
      (DropAssignment v.callsign ∷ PutVehicle (record v { status = Returning }) ∷ []) (turn_fleet at (open_turn d c r))
      (tt, (k, tt))))
  single_fleet d (ask.Standby c p) at =
      held_fleet d c (stands_by p (λ n. is_some (point_of d n r)) at)
      (λ v k. refused_fleet _ _ _ (standby_fleet p _ at v k))
  single_fleet d (ask.Duty c place until) at =
      held_fleet d c (on_duty place until at) (λ v k. refused_fleet _ _ _ (refused_fleet _ _ _ (k, tt)))
  single_fleet d (ask.Off c) at = held_fleet d c off_duty (λ v k. refused_fleet _ _ _ (refused_fleet _ _ _ (k, tt)))
  single_fleet d (ask.Lend c to until) at =
      held_fleet d c (offered r.plan d to until at) (λ v k.
      refused_fleet _ _ _
      (refused_fleet _ _ _ (refused_fleet _ _ _ (refused_fleet _ _ _ (refused_fleet _ _ _ (k, (tt, tt)))))))
  single_fleet d (ask.Withdraw c) at =
      held_fleet d c (withdrawn (offered_by d c r)) (λ v k. withdrawn_fleet (offered_by d c r) v k)
  single_fleet d (ask.Decline c) at = declined_fleet _
  single_fleet d (ask.Accept c) at = accepted_fleet _ at
  single_fleet d (ask.Recall c) at = recalled_fleet _ _
  single_fleet d (ask.GiveBack c) at =
      held_fleet d c (given_back d (borrowed d c r)) (λ v k. refused_fleet _ _ _ (refused_fleet _ _ _ (k, (tt, tt))))
  single_fleet d (ask.Clear c n) at = cleared_fleet _
  single_fleet d (ask.SetPoint n place cover) at = (tt, tt)
  single_fleet d a at = quiet_fleet (Desk d) a at refl

  -- ---- calls
  new_fleet : (d : ℕ) (new : NewCall) (v : Option Division) → SameFleet (call_new d new v)
  new_fleet d new None = tt
  new_fleet d new (Some v) = refused_fleet _ _ _ (tt, (tt, (tt, tt)))

  taken_fleet : (d : ℕ) (new : NewCall) (i : Option Incident) (v : Option Division)
      → SameFleet (call_taken d new i v)
  taken_fleet d new (Some i) v = (tt, (tt, tt))
  taken_fleet d new None v = new_fleet d new v

  somewhere_fleet : (o : Option ℕ) (new : NewCall) → SameFleet (call_somewhere o new r)
  unfolding call_in
  somewhere_fleet None new = tt
  somewhere_fleet (Some d) new = taken_fleet d new _ _

  call_fleet : (o : Option Call) (new : NewCall) → SameFleet (call_kept o new r)
  call_fleet None new = somewhere_fleet _ new
  call_fleet (Some k) new = refused_fleet _ _ _ tt

  position_fleet : (p : ℕ) (a : Ask) (at : ℕ) → SameFleet (position_asks p a at r)
  position_fleet p (ask.Call f) at = call_fleet _ (new_call p f at)
  position_fleet p a at = quiet_fleet (Position p) a at refl

  -- ---- reports
  turns_fleet : (b : Button) (at : ℕ) (o : Option Turn) → AllKeepFleet r (turn_changes b at o)
  turns_fleet b at None = tt
  turns_fleet b at (Some t) = (tt, tt)

  drop_fleet : (c : Callsign) (b : Bool) → AllKeepFleet r (drop_changes c b)
  drop_fleet c true = (tt, tt)
  drop_fleet c false = tt

  back_fleet : (c : Callsign) (b : Bool) → AllKeepFleet r (back_changes c b)
  back_fleet c true = (tt, tt)
  back_fleet c false = tt

  either_fleet : (b : Bool) (x y : Verdict) → SameFleet x → SameFleet y → SameFleet (cond b x y)
  either_fleet true x y f g = f
  either_fleet false x y f g = g

  made_fleet : (v : Vehicle) (t : Option Turn) (l : Option Loan) (p : Press) (at : ℕ) (o : Outcome)
      → IsThere v → SameFleet (report_made v t l p at o)
  made_fleet v t l p at o k =
      either_fleet (acts o) _ (with_changes (answer.Reported p.number o v.status)
      (PutReport (report_row v p at o v.status) ∷ PutVehicle (with_report v p) ∷ [])) (
        tt,
        fleet_append (turn_changes p.button at t) _ (turns_fleet p.button at t)
            (fleet_append (drop_changes v.callsign (ends_turn p.button)) _ (drop_fleet v.callsign (ends_turn p.button))
            (fleet_append (back_changes v.callsign (is_home p.button && is_due at l)) _
            (back_fleet v.callsign (is_home p.button && is_due at l)) (k, tt))),
      )
      (tt, (k, tt))

  report_fleet : (d : ℕ) (c : Callsign) (p : Press) (at : ℕ) → SameFleet (report_in d c p at r)
  unfolding report_in
  report_fleet d c p at =
      (elim (held d c
      r) as (λ (o : Option Vehicle). held d c r ≡ o → SameFleet (report_held o (open_turn d c r) (borrowed d c r) p at)) [
        | None ↦ λ e. tt
        | Some v ↦
            λ e.
            made_fleet v (open_turn d c r) (borrowed d c r) p at _
            (ap (option_map home_and_kind) (held_is d c r v e).there)
      ]) refl

  reported_fleet : (o : Option Vehicle) (c : Callsign) (p : Press) (at : ℕ)
      → SameFleet (report_somewhere o c p at r)
  reported_fleet None c p at = tt
  reported_fleet (Some v) c p at = report_fleet v.holder c p at

  kept_fleet : (o : Option Report) (c : Callsign) (p : Press) (at : ℕ)
      → SameFleet (report_kept o c p at r)
  kept_fleet None c p at = reported_fleet _ c p at
  kept_fleet (Some k) c p at = refused_fleet _ _ _ tt

  crew_fleet : (c : Callsign) (a : Ask) (at : ℕ) → SameFleet (who_asks (Crew c) a at r)
  crew_fleet c (ask.Report p) at = kept_fleet _ c p at
  crew_fleet c a at = quiet_fleet (Crew c) a at refl

-- ---- whoever asks
moves_fleet : (d : ℕ) (ms : List Move) (at : ℕ) (r : Room)
    → SameFleet r (verdict_of (course d ms at r))
moves_fleet d ms at r =
    by_moves d at AllKeepFleet (λ s. tt) (λ m s. single_fleet s d (ask_of m) at)
    (λ s cs ds f g.
    fleet_append s cs ds f (all_still_keep (apply s cs) s ds (λ c. sym (fleet_after c s cs f)) g)) ms r

desk_fleet : (d : ℕ) (a : Ask) (at : ℕ) (r : Room) → SameFleet r (desk_asks d a at r)
desk_fleet d (ask.Moves ms) at r = moves_fleet d (moves_in ms) at r
desk_fleet d a at r = single_fleet r d a at

who_fleet : (who : Who) (a : Ask) (at : ℕ) (r : Room) → SameFleet r (who_asks who a at r)
who_fleet (Desk d) a at r = desk_fleet d a at r
who_fleet (Position p) a at r = position_fleet r p a at
who_fleet (Crew c) a at r = crew_fleet r c a at

pub fleet_stays : (c : Callsign) (e : Event) (r : Room) → fleet_at c (room_after e r) ≡ fleet_at c r
fleet_stays c e r = fleet_after c r (changes_of (decided e r)) (who_fleet e.who e.ask e.at r)

-- ---- over lists of events
pub fleet_run : (c : Callsign) (es : List Event) (r : Room)
    → fleet_at c (room_run es r) ≡ fleet_at c r
fleet_run c [] r = refl
fleet_run c (e ∷ es) r = fleet_run c es (room_after e r) ∙ fleet_stays c e r

pub plan_run : (es : List Event) (r : Room) → (room_run es r).plan ≡ r.plan
plan_run [] r = refl
plan_run (e ∷ es) r = plan_run es (room_after e r) ∙ plan_stays r (changes_of (decided e r))

-- a fate looks only at the plan, the fleet and the terminals
pub fate_alike : (v u : Option Vehicle) (t : Option Terminal) (x : FleetRow)
    → option_map home_and_kind v ≡ option_map home_and_kind u → fate_by v t x ≡ fate_by u t x
fate_alike None None t x e = refl
fate_alike None (Some u) t x e = cc
fate_alike (Some v) None t x e = cc
fate_alike (Some v) (Some u) t x e =
    let same : home_and_kind v ≡ home_and_kind u = cc in
    ap (λ (p : ℕ × Kind).
    cond (p.0 == x.division && (same_kind p.1 x.kind && is_crews_terminal x.callsign t)) Same
    (Refused refusal.CallsignTaken)) same

pub fate_run : (es : List Event) (r : Room) (ts : List Terminal) (x : FleetRow)
    → fate_of (room_run es r) ts x ≡ fate_of r ts x
fate_run es r ts x =
    ap (λ plan.
    cond (has_division plan x.division)
    (fate_by (row_at callsign_cmp vehicle_key (room_run es r).vehicles x.callsign) (terminal_at x.token ts) x)
    (Refused refusal.NoSuchDivision)) (plan_run es r)
    ∙ ap (λ f. cond (has_division r.plan x.division) f (Refused refusal.NoSuchDivision))
    (fate_alike _ _ (terminal_at x.token ts) x (fleet_run x.callsign es r))

some_alike : (v u : Option Vehicle) → option_map home_and_kind v ≡ option_map home_and_kind u
    → is_some v ≡ is_some u
some_alike None None e = refl
some_alike None (Some u) e = cc
some_alike (Some v) None e = cc
some_alike (Some v) (Some u) e = refl

-- the terminals fit the room after any events
pub terminals_run : (es : List Event) (r : Room) (ts : List Terminal) → AreTerminals r ts
    → AreTerminals (room_run es r) ts
terminals_run es r ts are = record {
  keyed = are.keyed;
  has_crew = λ c e. are.has_crew c (sym (some_alike _ _ (fleet_run c es r)) ∙ e);
  one_crew = are.one_crew;
  crews = λ k c e. some_alike _ _ (fleet_run c es r) ∙ are.crews k c e;
  desks = λ k d e. ap (λ plan. has_division plan d) (plan_run es r) ∙ are.desks k d e;
}
