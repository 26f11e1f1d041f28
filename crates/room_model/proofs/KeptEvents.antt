-- Each event keeps a room well-formed, and so do lists of events.
use Rattle.std.proofs.Common.{ap, subst, sym, ◌∙◌}
use Rattle.std.specs.Prelude.{List, None, Option, Some, [], is_some, refl, true, ℕ, ◌∷◌, ◌≡◌}
use Rattle.room_place.specs.Plans.{has_division}
use Rattle.room_types.specs.KeyedRows.{put_row, row_at}
use Rattle.room_types.specs.Keys.{callsign_cmp, vehicle_key}
use Rattle.room_types.specs.Texts.{Callsign}
use Rattle.room_types.specs.declared.asks.Ask.{Ask}
use Rattle.room_types.specs.declared.asks.Event.{Event}
use Rattle.room_types.specs.declared.asks.Move.{Move}
use Rattle.room_types.specs.declared.asks.Who.{Who}
use Rattle.room_types.specs.declared.asks.Who.TheVariants.{Crew, Desk, Position}
use Rattle.room_types.specs.declared.changes.Change.{Change}
use Rattle.room_types.specs.declared.changes.Change.TheVariants.{DropAssignment, DropLoan}
use Rattle.room_types.specs.declared.changes.Change.TheVariants.{DropOffer, PutAssignment, PutCall}
use Rattle.room_types.specs.declared.changes.Change.TheVariants.{PutDivision, PutIncident, PutLoan}
use Rattle.room_types.specs.declared.changes.Change.TheVariants.{PutOffer, PutPoint, PutReport}
use Rattle.room_types.specs.declared.changes.Change.TheVariants.{PutTurn, PutVehicle, Settle}
use Rattle.room_types.specs.declared.tables.Vehicle.{Vehicle}
use Rattle.room_model.proofs.IncidentChanges.{vehicles_put}
use Rattle.room_model.proofs.KeptAsks.{Kept, duty_kept, mobilise_kept, off_kept, stand_down_kept}
use Rattle.room_model.proofs.KeptAsks.{standby_kept}
use Rattle.room_model.proofs.KeptCalls.{take_call_kept}
use Rattle.room_model.proofs.KeptIncidents.{clear_kept, close_kept, needs_kept, set_point_kept}
use Rattle.room_model.proofs.KeptLoans.{accept_kept, decline_kept, give_back_kept, lend_kept}
use Rattle.room_model.proofs.KeptLoans.{recall_kept, withdraw_kept}
use Rattle.room_model.proofs.KeptMerge.{merge_kept}
use Rattle.room_model.proofs.KeptReports.{take_report_kept}
use Rattle.room_model.proofs.MoveFolds.{apply_both, by_ask, by_moves}
use Rattle.room_model.proofs.Questions.{IsQuiet, by_quiet}
use Rattle.room_model.proofs.Tests.{both_true, left_true, right_true}
use Rattle.room_model.proofs.VehicleRows.{settle}
use Rattle.room_model.specs.Events.{AreAddressed, IsNumbered}
use Rattle.room_model.specs.Calls.{new_call}
use Rattle.room_model.specs.Decisions.{changes_of}
use Rattle.room_model.specs.Queries.{vehicle_at}
use Rattle.room_model.specs.Room.{Room, apply, apply_one, settled}
use Rattle.room_model.specs.Run.{room_run}
use Rattle.room_model.specs.Step.{IsAddressed, course, decided, desk_asks, is_crews, is_desks}
use Rattle.room_model.specs.Step.{is_for, moves_in, position_asks, room_after, single_asks}
use Rattle.room_model.specs.Step.{verdict_of, who_asks}
use Rattle.room_model.specs.RoomAgreements.{IsWellFormed}
use Rattle.room_types.specs.declared.asks.Ask.TheVariants as ask

quiet_kept : (who : Who) (a : Ask) (at : ℕ) (r : Room) → IsWellFormed r → IsQuiet who a
    → IsWellFormed (apply r (changes_of (who_asks who a at r)))
quiet_kept who a at r w h = by_quiet at r (λ xs. IsWellFormed (apply r xs)) who a h w

moves_kept : (d : ℕ) (ms : List Move) (at : ℕ) (r : Room) → IsWellFormed r
    → IsWellFormed (apply r (changes_of (verdict_of (course d ms at r))))
moves_kept d ms at r w =
    by_moves d at (λ s cs. IsWellFormed s → IsWellFormed (apply s cs)) (λ s v. v)
    (λ m s. by_ask (λ a. (v : IsWellFormed s) → Kept d s v (single_asks d a at s))
    (λ c v. stand_down_kept d s v c at) (λ n c v. mobilise_kept d s v n c at) m)
    (λ s cs ds f g v. subst IsWellFormed (sym (apply_both s cs ds)) (g (f v))) ms r w

desk_kept : (d : ℕ) (a : Ask) (at : ℕ) (r : Room) (w : IsWellFormed r)
    → has_division r.plan d ≡ true → Kept d r w (desk_asks d a at r)
desk_kept d (ask.Mobilise n c) at r w h = mobilise_kept d r w n c at
desk_kept d (ask.Needs n needs) at r w h = needs_kept d r w n needs
desk_kept d (ask.Merge n m) at r w h = merge_kept d r w n m
desk_kept d (ask.Close n) at r w h = close_kept d r w n
desk_kept d (ask.Moves ms) at r w h = moves_kept d (moves_in ms) at r w
desk_kept d (ask.StandDown c) at r w h = stand_down_kept d r w c at
desk_kept d (ask.Standby c p) at r w h = standby_kept d r w c p at
desk_kept d (ask.Duty c place until) at r w h = duty_kept d r w c place until at
desk_kept d (ask.Off c) at r w h = off_kept d r w c
desk_kept d (ask.Lend c to until) at r w h = lend_kept d r w c to until at
desk_kept d (ask.Withdraw c) at r w h = withdraw_kept d r w c
desk_kept d (ask.Decline c) at r w h = decline_kept d r w c
desk_kept d (ask.Accept c) at r w h = accept_kept d r w c at
desk_kept d (ask.Recall c) at r w h = recall_kept d r w c
desk_kept d (ask.GiveBack c) at r w h = give_back_kept d r w c
desk_kept d (ask.Clear c n) at r w h = clear_kept d r w c n
desk_kept d (ask.SetPoint n place cover) at r w h = set_point_kept d r w n place cover h
desk_kept d a at r w h = quiet_kept (Desk d) a at r w refl

position_kept : (p : ℕ) (a : Ask) (at : ℕ) (r : Room) (w : IsWellFormed r)
    → Kept 0 r w (position_asks p a at r)
position_kept p (ask.Call f) at r w = take_call_kept r w (new_call p f at)
position_kept p a at r w = quiet_kept (Position p) a at r w refl

crew_kept : (c : Callsign) (a : Ask) (at : ℕ) (r : Room) (w : IsWellFormed r) → IsNumbered a
    → Kept 0 r w (who_asks (Crew c) a at r)
crew_kept c (ask.Report p) at r w h = take_report_kept c r w p at h
crew_kept c a at r w h = quiet_kept (Crew c) a at r w refl

who_kept : (who : Who) (a : Ask) (at : ℕ) (r : Room) (w : IsWellFormed r) → is_for who a r ≡ true
    → IsNumbered a → Kept 0 r w (who_asks who a at r)
who_kept (Desk d) a at r w h n = desk_kept d a at r w (right_true (is_desks a) (has_division r.plan d) h)
who_kept (Position p) a at r w h n = position_kept p a at r w
who_kept (Crew c) a at r w h n = crew_kept c a at r w n

pub event_kept : (e : Event) (r : Room) → IsWellFormed r → IsAddressed e r → IsNumbered e.ask
    → IsWellFormed (room_after e r)
event_kept e r w h n = who_kept e.who e.ask e.at r w h n

-- ---- an event takes no address away
plan_one : (r : Room) (x : Change) → (apply_one r x).plan ≡ r.plan
plan_one r (PutDivision x) = refl
plan_one r (PutIncident x) = refl
plan_one r (PutCall x) = refl
plan_one r (PutVehicle x) = refl
plan_one r (PutTurn x) = refl
plan_one r (PutAssignment x) = refl
plan_one r (PutPoint x) = refl
plan_one r (PutLoan x) = refl
plan_one r (PutOffer x) = refl
plan_one r (PutReport x) = refl
plan_one r (DropAssignment c) = refl
plan_one r (DropLoan c) = refl
plan_one r (DropOffer c) = refl
plan_one r (Settle c d) = refl

pub plan_stays : (r : Room) (xs : List Change) → (apply r xs).plan ≡ r.plan
plan_stays r [] = refl
plan_stays r (x ∷ xs) = plan_stays (apply_one r x) xs ∙ plan_one r x

abbrev IsThere : Callsign → List Vehicle → Type 0
IsThere c vs = is_some (row_at callsign_cmp vehicle_key vs c) ≡ true

pub put_there : (c : Callsign) (vs : List Vehicle) (v : Vehicle) → IsThere c vs
    → IsThere c (put_row callsign_cmp vehicle_key vs v)
put_there c vs v h =
    vehicles_put (λ k o. is_some (row_at callsign_cmp vehicle_key vs k) ≡ true → is_some o ≡ true) vs v (λ f. refl)
    (λ k apart f. f) c h

settled_there : (c : Callsign) (o : Option Vehicle) (d : ℕ) (vs : List Vehicle) → IsThere c vs
    → IsThere c (settled o d vs)
settled_there c None d vs h = h
settled_there c (Some v) d vs h = put_there c vs (settle d v) h

there_one : (c : Callsign) (r : Room) (x : Change) → IsThere c r.vehicles
    → IsThere c (apply_one r x).vehicles
there_one c r (PutVehicle x) h = put_there c r.vehicles x h
there_one c r (Settle k d) h = settled_there c (row_at callsign_cmp vehicle_key r.vehicles k) d r.vehicles h
there_one c r (PutDivision x) h = h
there_one c r (PutIncident x) h = h
there_one c r (PutCall x) h = h
there_one c r (PutTurn x) h = h
there_one c r (PutAssignment x) h = h
there_one c r (PutPoint x) h = h
there_one c r (PutLoan x) h = h
there_one c r (PutOffer x) h = h
there_one c r (PutReport x) h = h
there_one c r (DropAssignment k) h = h
there_one c r (DropLoan k) h = h
there_one c r (DropOffer k) h = h

there_still : (c : Callsign) (r : Room) (xs : List Change) → IsThere c r.vehicles
    → IsThere c (apply r xs).vehicles
there_still c r [] h = h
there_still c r (x ∷ xs) h = there_still c (apply_one r x) xs (there_one c r x h)

still_for : (who : Who) (a : Ask) (r : Room) (xs : List Change) → is_for who a r ≡ true
    → is_for who a (apply r xs) ≡ true
unfolding vehicle_at
still_for (Desk d) a r xs h =
    both_true (is_desks a) _ (left_true (is_desks a) _ h)
    (ap (λ p. has_division p d) (plan_stays r xs) ∙ right_true (is_desks a) _ h)
still_for (Position p) a r xs h = h
still_for (Crew c) a r xs h =
    both_true (is_crews a) _ (left_true (is_crews a) _ h) (there_still c r xs (right_true (is_crews a) _ h))

pub addressed_still : (es : List Event) (r : Room) (xs : List Change) → AreAddressed es r
    → AreAddressed es (apply r xs)
addressed_still [] r xs h = tt
addressed_still (e ∷ es) r xs h = (still_for e.who e.ask r xs h.0, h.1, addressed_still es r xs h.2)

pub addressed_run : (es : List Event) (r : Room) (e : Event) → IsAddressed e r
    → IsAddressed e (room_run es r)
addressed_run [] r e h = h
addressed_run (other ∷ es) r e h =
    addressed_run es (room_after other r) e (still_for e.who e.ask r (changes_of (decided other r)) h)

pub run_kept : (es : List Event) (r : Room) → IsWellFormed r → AreAddressed es r
    → IsWellFormed (room_run es r)
run_kept [] r w h = w
run_kept (e ∷ es) r w h =
    run_kept es (room_after e r) (event_kept e r w h.0 h.1) (addressed_still es r (changes_of (decided e r)) h.2)
