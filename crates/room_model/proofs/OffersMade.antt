-- Nothing but a lend makes an offer.
use Rattle.std.proofs.Common.{ap}
use Rattle.std.specs.Prelude.{Bool, List, None, Option, Some, [], cond, false, is_some, map, refl}
use Rattle.std.specs.Prelude.{true, ℕ, ◌&&◌, ◌++◌, ◌∷◌, ◌≡◌}
use Rattle.room_types.specs.Codes.{acts}
use Rattle.room_types.specs.KeyedRows.{drop_row}
use Rattle.room_types.specs.Keys.{callsign_cmp, offer_key}
use Rattle.room_types.specs.Texts.{Callsign}
use Rattle.room_types.specs.declared.asks.Move.{Move}
use Rattle.room_types.specs.declared.asks.Ask.{Ask}
use Rattle.room_types.specs.declared.asks.Event.{Event}
use Rattle.room_types.specs.declared.asks.NewCall.{NewCall}
use Rattle.room_types.specs.declared.asks.Press.{Press}
use Rattle.room_types.specs.declared.asks.Who.{Who}
use Rattle.room_types.specs.declared.asks.Who.TheVariants.{Crew, Desk, Position}
use Rattle.room_types.specs.declared.changes.Change.{Change}
use Rattle.room_types.specs.declared.changes.Change.TheVariants.{DropAssignment, DropOffer}
use Rattle.room_types.specs.declared.changes.Change.TheVariants.{PutOffer, PutReport, PutVehicle}
use Rattle.room_types.specs.declared.codes.Button.{Button}
use Rattle.room_types.specs.declared.codes.Outcome.{Outcome}
use Rattle.room_types.specs.declared.codes.Status.TheVariants.{Returning}
use Rattle.room_types.specs.declared.refusal_statuses.Refusal.{Refusal}
use Rattle.room_types.specs.declared.tables.Call.{Call}
use Rattle.room_types.specs.declared.tables.Division.{Division}
use Rattle.room_types.specs.declared.tables.Incident.{Incident}
use Rattle.room_types.specs.declared.tables.Loan.{Loan}
use Rattle.room_types.specs.declared.tables.Offer.{Offer}
use Rattle.room_types.specs.declared.tables.Report.{Report}
use Rattle.room_types.specs.declared.tables.Turn.{Turn}
use Rattle.room_types.specs.declared.tables.Vehicle.{Vehicle}
use Rattle.room_model.proofs.MoveFolds.{by_ask, by_moves}
use Rattle.room_model.proofs.Questions.{IsQuiet, by_quiet}
use Rattle.room_model.specs.Calls.{call_in, call_kept, call_new, call_somewhere, call_taken}
use Rattle.room_model.specs.Calls.{new_call}
use Rattle.room_model.specs.Decisions.{Verdict, changes_of, refuse_if, where_active, where_held}
use Rattle.room_model.specs.Decisions.{with_changes}
use Rattle.room_model.specs.Incidents.{change_needs, close, close_active, merge, merge_of}
use Rattle.room_model.specs.Incidents.{moved_call, needs_changed}
use Rattle.room_model.specs.Loans.{accept, accepted, decline, declined, give_back, given_back}
use Rattle.room_model.specs.Loans.{recall, recall_lent, withdraw, withdrawn}
use Rattle.room_model.specs.UnofferedRooms.{IsUnoffered, NobodyAsksToLend}
use Rattle.room_model.specs.Events.{is_lend}
use Rattle.room_model.specs.Queries.{borrowed, held, incident_of, is_attended, lent, offered_by}
use Rattle.room_model.specs.Queries.{open_turn, point_of, served}
use Rattle.room_model.specs.Queue.{clear, clear_found}
use Rattle.room_model.specs.Reports.{back_changes, drop_changes, ends_turn, is_due, is_home}
use Rattle.room_model.specs.Reports.{report_held, report_in, report_kept, report_made, report_row}
use Rattle.room_model.specs.Reports.{report_somewhere, turn_changes, with_report}
use Rattle.room_model.specs.Room.{Room, apply, apply_one}
use Rattle.room_model.specs.Run.{room_run}
use Rattle.room_model.specs.Step.{ask_of, course, decided, desk_asks, moves_in, position_asks}
use Rattle.room_model.specs.Step.{room_after, single_asks, verdict_of, who_asks}
use Rattle.room_model.specs.Vehicles.{duty, mobilise, mobilise_held, mobilised, off, off_duty}
use Rattle.room_model.specs.Vehicles.{on_duty, stand_down, stand_down_held, standby, standby_at}
use Rattle.room_model.specs.Vehicles.{stands_by, turn_stood_down}
use Rattle.room_types.specs.declared.answers.Answer.TheVariants as answer
use Rattle.room_types.specs.declared.asks.Ask.TheVariants as ask

-- the change puts no offer
abbrev pub MakesNone : Change → Type 0
MakesNone (PutOffer x) = ⊥
MakesNone x = Unit {0}

abbrev pub AllMakeNone : List Change → Type 0
AllMakeNone [] = Unit {0}
AllMakeNone (x ∷ xs) = MakesNone x × AllMakeNone xs

abbrev NoneMade : Verdict → Type 0
NoneMade x = AllMakeNone (changes_of x)

-- ---- by the form of a decision
refused_none : (b : Bool) (e : Refusal) (x : Verdict) → NoneMade x → NoneMade (refuse_if b e x)
unfolding refuse_if
refused_none true e x f = tt
refused_none false e x f = f

held_none : (v : Option Vehicle) (l : Option Loan) (f : Vehicle → Verdict)
    → ((v : Vehicle) → NoneMade (f v)) → NoneMade (where_held v l f)
held_none None l f g = tt
held_none (Some v) l f g = g v

active_none : (o : Option Incident) (f : Incident → Verdict) → ((i : Incident) → NoneMade (f i))
    → NoneMade (where_active o f)
active_none None f g = tt
active_none (Some i) f g = refused_none _ _ _ (g i)

append_none : (xs ys : List Change) → AllMakeNone xs → AllMakeNone ys → AllMakeNone (xs ++ ys)
append_none [] ys f g = g
append_none (x ∷ xs) ys f g = (f.0, append_none xs ys f.1 g)

either_none : (b : Bool) (x y : Verdict) → NoneMade x → NoneMade y → NoneMade (cond b x y)
either_none true x y f g = f
either_none false x y f g = g

-- ---- a desk's asks
calls_none : (m : ℕ) (cs : List Call) → AllMakeNone (map (moved_call m) cs)
calls_none m [] = tt
calls_none m (c ∷ cs) = (tt, calls_none m cs)

merge_none : (n m : Option Incident) (b : Bool) (cs : List Call) → NoneMade (merge_of n m b cs)
merge_none None m b cs = tt
merge_none (Some n) None b cs = tt
merge_none (Some n) (Some m) b cs =
    refused_none _ _ _ (refused_none _ _ _ (refused_none _ _ _ (refused_none _ _ _ (tt, (tt, calls_none m.number cs)))))

turn_none : (at : ℕ) (o : Option Turn) → AllMakeNone (turn_stood_down at o)
turn_none at None = tt
turn_none at (Some t) = (tt, tt)

standby_none : (p : Option ℕ) (has : ℕ → Bool) (at : ℕ) (v : Vehicle)
    → NoneMade (standby_at p has at v)
standby_none None has at v = (tt, tt)
standby_none (Some n) has at v = refused_none _ _ _ (refused_none _ _ _ (tt, tt))

withdrawn_none : (o : Option Offer) (v : Vehicle) → NoneMade (withdrawn o v)
withdrawn_none None v = tt
withdrawn_none (Some o) v = (tt, (tt, tt))

declined_none : (o : Option Offer) → NoneMade (declined o)
declined_none None = tt
declined_none (Some o) = (tt, (tt, tt))

accepted_none : (o : Option Offer) (at : ℕ) → NoneMade (accepted o at)
accepted_none None at = tt
accepted_none (Some o) at = (tt, (tt, (tt, tt)))

recalled_none : (l : Option Loan) (v : Option Vehicle) → NoneMade (recall_lent l v)
recalled_none (Some l) v = (tt, tt)
recalled_none None (Some v) = tt
recalled_none None None = tt

cleared_none : (o : Option Report) → NoneMade (clear_found o)
cleared_none None = tt
cleared_none (Some x) = refused_none _ _ _ (tt, tt)

quiet_none : (who : Who) (a : Ask) (at : ℕ) (r : Room) → IsQuiet who a
    → NoneMade (who_asks who a at r)
quiet_none who a at r h = by_quiet at r AllMakeNone who a h tt

mobilise_none : (d n : ℕ) (c : Callsign) (at : ℕ) (r : Room) → NoneMade (mobilise d n c at r)
unfolding mobilise
mobilise_none d n c at r =
    active_none (incident_of d n r) (mobilise_held d (held d c r) (lent d c r) at (λ k. served d n k r))
    (λ i.
    held_none (held d c r) (lent d c r) (mobilised d i at (λ k. served d n k r))
    (λ v. refused_none _ _ _ (refused_none _ _ _ (refused_none _ _ _ (refused_none _ _ _ (tt, (tt, (tt, (tt, tt)))))))))

stand_down_none : (d : ℕ) (c : Callsign) (at : ℕ) (r : Room) → NoneMade (stand_down d c at r)
unfolding stand_down
stand_down_none d c at r =
    held_none (held d c r) (lent d c r) (stand_down_held at (open_turn d c r))
    (λ v.
    refused_none _ _ _ (append_none (turn_stood_down at (open_turn d c r))
    (DropAssignment v.callsign ∷ PutVehicle (record v { status = Returning }) ∷ []) (turn_none at (open_turn d c r))
    (tt, (tt, tt))))

pub move_none : (d : ℕ) (m : Move) (at : ℕ) (r : Room) → NoneMade (single_asks d (ask_of m) at r)
move_none d m at r =
    by_ask (λ a. NoneMade (single_asks d a at r)) (λ c. stand_down_none d c at r)
    (λ n c. mobilise_none d n c at r) m

moves_none : (d : ℕ) (ms : List Move) (at : ℕ) (r : Room)
    → NoneMade (verdict_of (course d ms at r))
moves_none d ms at r =
    by_moves d at (λ s cs. AllMakeNone cs) (λ s. tt) (λ m s. move_none d m at s)
    (λ s cs ds f g. append_none cs ds f g) ms r

desk_none : (d : ℕ) (a : Ask) (at : ℕ) (r : Room) → is_lend a ≡ false
    → NoneMade (desk_asks d a at r)
unfolding change_needs merge close standby duty off withdraw decline accept recall give_back clear
desk_none d (ask.Mobilise n c) at r h = mobilise_none d n c at r
desk_none d (ask.Needs n needs) at r h =
    active_none (incident_of d n r) (needs_changed needs (λ k. served d n k r)) (λ i. refused_none _ _ _ (tt, tt))
desk_none d (ask.Merge n m) at r h = merge_none _ _ _ _
desk_none d (ask.Close n) at r h =
    active_none (incident_of d n r) (close_active (is_attended d n r)) (λ i. refused_none _ _ _ (tt, tt))
desk_none d (ask.Moves ms) at r h = moves_none d (moves_in ms) at r
desk_none d (ask.StandDown c) at r h = stand_down_none d c at r
desk_none d (ask.Standby c p) at r h =
    held_none (held d c r) (lent d c r) (stands_by p (λ n. is_some (point_of d n r)) at)
    (λ v. refused_none _ _ _ (standby_none p _ at v))
desk_none d (ask.Duty c place until) at r h =
    held_none (held d c r) (lent d c r) (on_duty place until at) (λ v. refused_none _ _ _ (refused_none _ _ _ (tt, tt)))
desk_none d (ask.Off c) at r h =
    held_none (held d c r) (lent d c r) off_duty (λ v. refused_none _ _ _ (refused_none _ _ _ (tt, tt)))
desk_none d (ask.Lend c to until) at r h = cc
desk_none d (ask.Withdraw c) at r h =
    held_none (held d c r) (lent d c r) (withdrawn (offered_by d c r)) (λ v. withdrawn_none (offered_by d c r) v)
desk_none d (ask.Decline c) at r h = declined_none _
desk_none d (ask.Accept c) at r h = accepted_none _ at
desk_none d (ask.Recall c) at r h = recalled_none _ _
desk_none d (ask.GiveBack c) at r h =
    held_none (held d c r) (lent d c r) (given_back d (borrowed d c r))
    (λ v. refused_none _ _ _ (refused_none _ _ _ (tt, (tt, tt))))
desk_none d (ask.Clear c n) at r h = cleared_none _
desk_none d (ask.SetPoint n place cover) at r h = (tt, tt)
desk_none d a at r h = quiet_none (Desk d) a at r refl

-- ---- calls
new_none : (d : ℕ) (new : NewCall) (v : Option Division) → NoneMade (call_new d new v)
new_none d new None = tt
new_none d new (Some v) = refused_none _ _ _ (tt, (tt, (tt, tt)))

taken_none : (d : ℕ) (new : NewCall) (i : Option Incident) (v : Option Division)
    → NoneMade (call_taken d new i v)
taken_none d new (Some i) v = (tt, (tt, tt))
taken_none d new None v = new_none d new v

somewhere_none : (o : Option ℕ) (new : NewCall) (r : Room) → NoneMade (call_somewhere o new r)
unfolding call_in
somewhere_none None new r = tt
somewhere_none (Some d) new r = taken_none d new _ _

call_none : (o : Option Call) (new : NewCall) (r : Room) → NoneMade (call_kept o new r)
call_none None new r = somewhere_none _ new r
call_none (Some k) new r = refused_none _ _ _ tt

position_none : (p : ℕ) (a : Ask) (at : ℕ) (r : Room) → NoneMade (position_asks p a at r)
position_none p (ask.Call f) at r = call_none _ (new_call p f at) r
position_none p a at r = quiet_none (Position p) a at r refl

-- ---- reports
turns_none : (b : Button) (at : ℕ) (o : Option Turn) → AllMakeNone (turn_changes b at o)
turns_none b at None = tt
turns_none b at (Some t) = (tt, tt)

drop_none : (c : Callsign) (b : Bool) → AllMakeNone (drop_changes c b)
drop_none c true = (tt, tt)
drop_none c false = tt

back_none : (c : Callsign) (b : Bool) → AllMakeNone (back_changes c b)
back_none c true = (tt, tt)
back_none c false = tt

made_none : (v : Vehicle) (t : Option Turn) (l : Option Loan) (p : Press) (at : ℕ) (o : Outcome)
    → NoneMade (report_made v t l p at o)
made_none v t l p at o =
    either_none (acts o) _ (with_changes (answer.Reported p.number o v.status)
    (PutReport (report_row v p at o v.status) ∷ PutVehicle (with_report v p) ∷ [])) (
      tt,
      append_none (turn_changes p.button at t) _ (turns_none p.button at t)
          (append_none (drop_changes v.callsign (ends_turn p.button)) _ (drop_none v.callsign (ends_turn p.button))
          (append_none (back_changes v.callsign (is_home p.button && is_due at l)) _
          (back_none v.callsign (is_home p.button && is_due at l)) (tt, tt))),
    )
    (tt, (tt, tt))

report_none : (v : Option Vehicle) (t : Option Turn) (l : Option Loan) (p : Press) (at : ℕ)
    → NoneMade (report_held v t l p at)
report_none None t l p at = tt
report_none (Some v) t l p at = made_none v t l p at _

reported_none : (o : Option Vehicle) (c : Callsign) (p : Press) (at : ℕ) (r : Room)
    → NoneMade (report_somewhere o c p at r)
unfolding report_in
reported_none None c p at r = tt
reported_none (Some v) c p at r = report_none _ _ _ p at

kept_none : (o : Option Report) (c : Callsign) (p : Press) (at : ℕ) (r : Room)
    → NoneMade (report_kept o c p at r)
kept_none None c p at r = reported_none _ c p at r
kept_none (Some k) c p at r = refused_none _ _ _ tt

crew_none : (c : Callsign) (a : Ask) (at : ℕ) (r : Room) → NoneMade (who_asks (Crew c) a at r)
crew_none c (ask.Report p) at r = kept_none _ c p at r
crew_none c a at r = quiet_none (Crew c) a at r refl

-- ---- whoever asks
pub none_made : (who : Who) (a : Ask) (at : ℕ) (r : Room) → is_lend a ≡ false
    → AllMakeNone (changes_of (who_asks who a at r))
none_made (Desk d) a at r h = desk_none d a at r h
none_made (Position p) a at r h = position_none p a at r
none_made (Crew c) a at r h = crew_none c a at r

unoffered_one : (r : Room) (x : Change) → MakesNone x → IsUnoffered r → IsUnoffered (apply_one r x)
unoffered_one r (PutOffer x) h n = absurd h
unoffered_one r (DropOffer c) h n = ap (λ (os : List Offer). drop_row callsign_cmp offer_key os c) n
unoffered_one r x h n = n

unoffered_after : (r : Room) (xs : List Change) → AllMakeNone xs → IsUnoffered r
    → IsUnoffered (apply r xs)
unoffered_after r [] h n = n
unoffered_after r (x ∷ xs) h n = unoffered_after (apply_one r x) xs h.1 (unoffered_one r x h.0 n)

pub unoffered_run : (es : List Event) (r : Room) → IsUnoffered r → NobodyAsksToLend es
    → IsUnoffered (room_run es r)
unoffered_run [] r n h = n
unoffered_run (e ∷ es) r n h =
    unoffered_run es (room_after e r)
    (unoffered_after r (changes_of (decided e r)) (none_made e.who e.ask e.at r h.0) n) h.1
