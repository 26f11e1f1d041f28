-- What an event may change: a fact of each change that an event may make is a fact of all that it
-- makes.
use Rattle.std.proofs.Common.{ap, inl, inr, sym, ◌∙◌}
use Rattle.std.specs.Prelude.{Bool, List, None, Option, Some, [], false, is_some, map, not, refl}
use Rattle.std.specs.Prelude.{true, ℕ, ◌&&◌, ◌++◌, ◌==◌, ◌∷◌, ◌≡◌}
use Rattle.room_place.specs.Choice.{Among}
use Rattle.room_place.specs.Plans.{division_of}
use Rattle.room_types.specs.KeyedRows.{row_at}
use Rattle.room_types.specs.Keys.{numbered_cmp, report_key}
use Rattle.room_types.specs.Texts.{Callsign}
use Rattle.room_types.specs.declared.asks.Move.{Move}
use Rattle.room_types.specs.declared.asks.Ask.{Ask}
use Rattle.room_types.specs.declared.asks.Event.{Event}
use Rattle.room_types.specs.declared.asks.NewCall.{NewCall}
use Rattle.room_types.specs.declared.asks.Press.{Press}
use Rattle.room_types.specs.declared.asks.Who.{Who}
use Rattle.room_types.specs.declared.asks.Who.TheVariants.{Crew, Desk, Position}
use Rattle.room_types.specs.declared.changes.Change.{Change}
use Rattle.room_types.specs.declared.changes.Change.TheVariants.{DropAssignment, PutCall, PutLoan}
use Rattle.room_types.specs.declared.changes.Change.TheVariants.{PutOffer, PutReport, PutVehicle}
use Rattle.room_types.specs.declared.changes.Change.TheVariants.{Settle}
use Rattle.room_types.specs.declared.codes.Button.{Button}
use Rattle.room_types.specs.declared.codes.Status.TheVariants.{Returning}
use Rattle.room_types.specs.declared.refusal_statuses.Refusal.{Refusal}
use Rattle.room_types.specs.declared.tables.Call.{Call}
use Rattle.room_types.specs.declared.tables.Division.{Division}
use Rattle.room_types.specs.declared.tables.Incident.{Incident}
use Rattle.room_types.specs.declared.tables.Loan.{Loan}
use Rattle.room_types.specs.declared.tables.Offer.{Offer}
use Rattle.room_types.specs.declared.tables.Report.{Report}
use Rattle.room_types.specs.declared.tables.Turn.{Turn}
use Rattle.room_types.specs.declared.tables.Vehicle.{Vehicle}
use Rattle.room_model.proofs.Others.{held_is, keep_some}
use Rattle.room_model.proofs.DecisionLaws.{by_refuse, by_report}
use Rattle.room_model.proofs.MoveFolds.{by_ask, by_moves}
use Rattle.room_model.proofs.Questions.{IsQuiet, by_quiet}
use Rattle.room_model.proofs.Tests.{among_filter}
use Rattle.room_model.specs.Calls.{call_in, call_kept, call_somewhere, call_taken, new_call}
use Rattle.room_types.specs.Codes.{is_active}
use Rattle.room_model.specs.Decisions.{Verdict, changes_of, refuse_if, where_active, where_held}
use Rattle.room_model.specs.Incidents.{change_needs, close, close_active, merge, merge_of}
use Rattle.room_model.specs.Incidents.{moved_call, needs_changed}
use Rattle.room_model.specs.Loans.{accept, accepted, decline, declined, give_back, given_back, lend}
use Rattle.room_model.specs.Loans.{offered, recall, recall_lent, withdraw, withdrawn}
use Rattle.room_model.specs.Queries.{borrowed, calls_of, held, incident_of, is_attended, kept_call}
use Rattle.room_model.specs.Queries.{kept_report, last_number, lent, link_target, offered_by}
use Rattle.room_model.specs.Queries.{offered_to, open_turn, point_of, report_of, served, vehicle_at}
use Rattle.room_model.specs.Queue.{clear, clear_found}
use Rattle.room_model.specs.Reports.{back_changes, drop_changes, ends_turn, is_due, is_home}
use Rattle.room_model.specs.Reports.{outcome_of, report_held, report_in, report_kept}
use Rattle.room_model.specs.Reports.{report_somewhere, turn_changes}
use Rattle.room_model.specs.Room.{Room}
use Rattle.room_model.specs.Shares.{ArePlain, IsPlain}
use Rattle.room_model.specs.Step.{course, decided, desk_asks, moves_in, position_asks, single_asks}
use Rattle.room_model.specs.Step.{verdict_of, who_asks}
use Rattle.room_model.specs.Vehicles.{duty, mobilise, mobilise_held, mobilised, off, off_duty}
use Rattle.room_model.specs.Vehicles.{on_duty, stand_down, stand_down_held, standby, standby_at}
use Rattle.room_model.specs.Vehicles.{stands_by, turn_stood_down}
use Rattle.room_types.specs.declared.asks.Ask.TheVariants as ask
use Rattle.room_types.specs.declared.refusal_statuses.Refusal.TheVariants as refusal

-- of each change
abbrev pub AllOf : (Change → Type 0) → List Change → Type 0
AllOf Q [] = Unit {0}
AllOf Q (x ∷ xs) = Q x × AllOf Q xs

-- it puts no call, report, offer or loan, and settles no vehicle
abbrev pub is_silent : Change → Bool
is_silent (PutCall x) = false
is_silent (PutReport x) = false
is_silent (PutOffer x) = false
is_silent (PutLoan x) = false
is_silent (Settle c d) = false
is_silent x = true

-- the fact holds of what may be done to a room: a call is new and placed in its division, or goes
-- to another incident; a report is new, or is cleared; whatever is done to other rows
pub record Allows (r : Room) (Q : Change → Type 0) : Type 0 where
  pub silent : (x : Change) → is_silent x ≡ true → Q x
  pub new_call : (x : Call) → kept_call x.position x.serial r ≡ None
      → division_of r.plan x.place ≡ Some x.division → Q (PutCall x)
  pub moved : (x : Call) → Among x r.calls → (m : ℕ) → Q (PutCall (record x { incident = m }))
  pub new_report : (x : Report) → kept_report x.callsign x.number r ≡ None → Q (PutReport x)
  pub cleared : (c : Callsign) (n : ℕ) (x : Report) → kept_report c n r ≡ Some x
      → Q (PutReport (record x { cleared = true }))

-- and of a vehicle that is offered, settled where its offer is answered, and lent
pub record AllowsLending (Q : Change → Type 0) : Type 0 where
  pub offered : (x : Offer) → Q (PutOffer x)
  pub settled : (c : Callsign) (d : ℕ) → Q (Settle c d)
  pub lent : (x : Loan) → Q (PutLoan x)

-- the asks that do so
abbrev pub lends : Ask → Bool
lends (ask.Lend c to until) = true
lends (ask.Decline c) = true
lends (ask.Accept c) = true
lends (ask.Recall c) = true
lends a = false

module _ (r : Room) (Q : Change → Type 0) (q : Allows r Q) where
  abbrev Holds : Verdict → Type 0
  Holds x = AllOf Q (changes_of x)

  refuse : (b : Bool) (e : Refusal) (x : Verdict) → Holds x → Holds (refuse_if b e x)
  refuse b e x f = by_refuse Holds b e x tt (λ g. f)

  by_vehicle : (o : Option Vehicle) (l : Option Loan) (f : Vehicle → Verdict)
      → ((v : Vehicle) → Holds (f v)) → Holds (where_held o l f)
  by_vehicle None l f g = tt
  by_vehicle (Some v) l f g = g v

  by_incident : (o : Option Incident) (f : Incident → Verdict) → ((i : Incident) → Holds (f i))
      → Holds (where_active o f)
  by_incident None f g = tt
  by_incident (Some i) f g = refuse (not (is_active i.state)) refusal.IncidentNotOpen (f i) (g i)

  append : (cs bs : List Change) → AllOf Q cs → AllOf Q bs → AllOf Q (cs ++ bs)
  append [] bs f g = g
  append (c ∷ cs) bs f g = (f.0, append cs bs f.1 g)

  -- ---- a desk's asks
  stood_down : (at : ℕ) (o : Option Turn) → AllOf Q (turn_stood_down at o)
  stood_down at None = tt
  stood_down at (Some t) = (q.silent _ refl, tt)

  moved_all : (m : ℕ) (cs : List Call) → ((x : Call) → Among x cs → Among x r.calls)
      → AllOf Q (map (moved_call m) cs)
  moved_all m [] g = tt
  moved_all m (c ∷ cs) g = (q.moved c (g c (inl refl)) m, moved_all m cs (λ x a. g x (inr a)))

  own_calls : (d n : ℕ) (x : Call) → Among x (calls_of d n r) → Among x r.calls
  unfolding calls_of
  own_calls d n x a = (among_filter (λ c. c.division == d && c.incident == n) r.calls x a).0

  merged : (n m : Option Incident) (b : Bool) (cs : List Call)
      → ((x : Call) → Among x cs → Among x r.calls) → Holds (merge_of n m b cs)
  merged None m b cs g = tt
  merged (Some n) None b cs g = tt
  merged (Some n) (Some m) b cs g =
      refuse _ _ _
      (refuse _ _ _ (refuse _ _ _ (refuse _ _ _ (q.silent _ refl, (q.silent _ refl, moved_all m.number cs g)))))

  withdrawn_all : (o : Option Offer) (v : Vehicle) → Holds (withdrawn o v)
  withdrawn_all None v = tt
  withdrawn_all (Some o) v = (q.silent _ refl, (q.silent _ refl, tt))

  declined_all : AllowsLending Q → (o : Option Offer) → Holds (declined o)
  declined_all f None = tt
  declined_all f (Some o) = (f.settled _ _, (q.silent _ refl, tt))

  accepted_all : AllowsLending Q → (o : Option Offer) (at : ℕ) → Holds (accepted o at)
  accepted_all f None at = tt
  accepted_all f (Some o) at = (f.settled _ _, (q.silent _ refl, (f.lent _, tt)))

  recalled_all : AllowsLending Q → (l : Option Loan) (v : Option Vehicle) → Holds (recall_lent l v)
  recalled_all f (Some l) v = (f.lent _, tt)
  recalled_all f None (Some v) = tt
  recalled_all f None None = tt

  cleared_all : (d : ℕ) (c : Callsign) (n : ℕ) (o : Option Report) → report_of d c n r ≡ o
      → Holds (clear_found o)
  unfolding report_of kept_report
  cleared_all d c n None e = tt
  cleared_all d c n (Some x) e =
      refuse _ _ _
      (q.cleared c n x (keep_some (λ x. x.division == d) (row_at numbered_cmp report_key r.reports (c, n)) x e).0, tt)

  standby_all : (p : Option ℕ) (has : ℕ → Bool) (at : ℕ) (v : Vehicle)
      → Holds (standby_at p has at v)
  standby_all None has at v = (q.silent _ refl, tt)
  standby_all (Some n) has at v = refuse _ _ _ (refuse _ _ _ (q.silent _ refl, tt))

  quiet_all : (who : Who) (a : Ask) (at : ℕ) → IsQuiet who a → Holds (who_asks who a at r)
  quiet_all who a at h = by_quiet at r (AllOf Q) who a h tt

  mobilise_all : (d n : ℕ) (c : Callsign) (at : ℕ) (s : Room) → Holds (mobilise d n c at s)
  unfolding mobilise
  mobilise_all d n c at s =
      by_incident (incident_of d n s) (mobilise_held d (held d c s) (lent d c s) at (λ k. served d n k s))
      (λ i.
      by_vehicle (held d c s) (lent d c s) (mobilised d i at (λ k. served d n k s))
      (λ v.
      refuse _ _ _ (refuse _ _ _
      (refuse _ _ _ (refuse _ _ _ (q.silent _ refl, (q.silent _ refl, (q.silent _ refl, (q.silent _ refl, tt)))))))))

  stand_down_all : (d : ℕ) (c : Callsign) (at : ℕ) (s : Room) → Holds (stand_down d c at s)
  unfolding stand_down
  stand_down_all d c at s =
      by_vehicle (held d c s) (lent d c s) (stand_down_held at (open_turn d c s))
      (λ v.
      refuse _ _ _ (append (turn_stood_down at (open_turn d c s))
      (DropAssignment v.callsign ∷ PutVehicle (record v { status = Returning }) ∷ []) (stood_down at (open_turn d c s))
      (q.silent _ refl, (q.silent _ refl, tt))))

  -- of moves in whatever room each meets
  moves_all : (d : ℕ) (ms : List Move) (at : ℕ) (s : Room) → Holds (verdict_of (course d ms at s))
  moves_all d ms at s =
      by_moves d at (λ q cs. AllOf Q cs) (λ q. tt)
      (λ m q. by_ask (λ a. Holds (single_asks d a at q)) (λ c. stand_down_all d c at q)
      (λ n c. mobilise_all d n c at q) m) (λ q cs ds f g. append cs ds f g) ms s

  pub desk_all : (d : ℕ) (a : Ask) (at : ℕ) → (lends a ≡ true → AllowsLending Q)
      → Holds (desk_asks d a at r)
  unfolding change_needs merge close standby duty off lend withdraw decline accept recall give_back
      clear
  desk_all d (ask.Mobilise n c) at f = mobilise_all d n c at r
  desk_all d (ask.Needs n needs) at f =
      by_incident (incident_of d n r) (needs_changed needs (λ k. served d n k r))
      (λ i. refuse _ _ _ (q.silent _ refl, tt))
  desk_all d (ask.Merge n m) at f = merged _ _ _ _ (own_calls d n)
  desk_all d (ask.Close n) at f =
      by_incident (incident_of d n r) (close_active (is_attended d n r)) (λ i. refuse _ _ _ (q.silent _ refl, tt))
  desk_all d (ask.Moves ms) at f = moves_all d (moves_in ms) at r
  desk_all d (ask.StandDown c) at f = stand_down_all d c at r
  desk_all d (ask.Standby c p) at f =
      by_vehicle (held d c r) (lent d c r) (stands_by p (λ n. is_some (point_of d n r)) at)
      (λ v. refuse _ _ _ (standby_all p _ at v))
  desk_all d (ask.Duty c place until) at f =
      by_vehicle (held d c r) (lent d c r) (on_duty place until at)
      (λ v. refuse _ _ _ (refuse _ _ _ (q.silent _ refl, tt)))
  desk_all d (ask.Off c) at f =
      by_vehicle (held d c r) (lent d c r) off_duty (λ v. refuse _ _ _ (refuse _ _ _ (q.silent _ refl, tt)))
  desk_all d (ask.Lend c to until) at f =
      by_vehicle (held d c r) (lent d c r) (offered r.plan d to until at)
      (λ v.
      refuse _ _ _
      (refuse _ _ _ (refuse _ _ _ (refuse _ _ _ (refuse _ _ _ (q.silent _ refl, ((f refl).offered _, tt)))))))
  desk_all d (ask.Withdraw c) at f =
      by_vehicle (held d c r) (lent d c r) (withdrawn (offered_by d c r)) (withdrawn_all (offered_by d c r))
  desk_all d (ask.Decline c) at f = declined_all (f refl) (offered_to d c r)
  desk_all d (ask.Accept c) at f = accepted_all (f refl) (offered_to d c r) at
  desk_all d (ask.Recall c) at f = recalled_all (f refl) (lent d c r) (held d c r)
  desk_all d (ask.GiveBack c) at f =
      by_vehicle (held d c r) (lent d c r) (given_back d (borrowed d c r))
      (λ v. refuse _ _ _ (refuse _ _ _ (q.silent _ refl, (q.silent _ refl, tt))))
  desk_all d (ask.Clear c n) at f = cleared_all d c n (report_of d c n r) refl
  desk_all d (ask.SetPoint n place cover) at f = (q.silent _ refl, tt)
  desk_all d a at f = quiet_all (Desk d) a at refl

  -- ---- a call
  taken_all : (d : ℕ) (new : NewCall) (i : Option Incident) (v : Option Division)
      → kept_call new.position new.serial r ≡ None → division_of r.plan new.place ≡ Some d
      → Holds (call_taken d new i v)
  taken_all d new (Some i) v e placed = (q.silent _ refl, (q.new_call _ e placed, tt))
  taken_all d new None None e placed = tt
  taken_all d new None (Some v) e placed =
      refuse _ _ _ (q.silent _ refl, (q.silent _ refl, (q.new_call _ e placed, tt)))

  pub call_in_all : (d : ℕ) (new : NewCall) → kept_call new.position new.serial r ≡ None
      → division_of r.plan new.place ≡ Some d → Holds (call_in d new r)
  unfolding call_in
  call_in_all d new e placed = taken_all d new (link_target d new.place new.at r) (last_number d r) e placed

  somewhere_all : (o : Option ℕ) (new : NewCall) → kept_call new.position new.serial r ≡ None
      → division_of r.plan new.place ≡ o → Holds (call_somewhere o new r)
  somewhere_all None new e placed = tt
  somewhere_all (Some d) new e placed = call_in_all d new e placed

  call_all : (new : NewCall) (o : Option Call) → kept_call new.position new.serial r ≡ o
      → Holds (call_kept o new r)
  call_all new (Some k) e = refuse _ _ _ tt
  call_all new None e = somewhere_all (division_of r.plan new.place) new e refl

  pub position_all : (p : ℕ) (a : Ask) (at : ℕ) → Holds (position_asks p a at r)
  position_all p (ask.Call f) at = call_all (new_call p f at) (kept_call p f.serial r) refl
  position_all p a at = quiet_all (Position p) a at refl

  -- ---- a report
  turn_all : (b : Button) (at : ℕ) (t : Option Turn) → AllOf Q (turn_changes b at t)
  turn_all b at None = tt
  turn_all b at (Some t) = (q.silent _ refl, tt)

  drop_all : (c : Callsign) (b : Bool) → AllOf Q (drop_changes c b)
  drop_all c true = (q.silent _ refl, tt)
  drop_all c false = tt

  back_all : (c : Callsign) (b : Bool) → AllOf Q (back_changes c b)
  back_all c true = (q.silent _ refl, tt)
  back_all c false = tt

  held_all : (h : ℕ) (c : Callsign) (v : Option Vehicle) → held h c r ≡ v
      → (t : Option Turn) (l : Option Loan) (p : Press) (at : ℕ) → kept_report c p.number r ≡ None
      → Holds (report_held v t l p at)
  held_all h c None e t l p at k = tt
  held_all h c (Some v) e t l p at k =
      let fresh : kept_report v.callsign p.number r
      ≡ None = ap (λ c. kept_report c p.number r) (sym (held_is h c r v e).key) ∙ k in
      by_report Holds v t l p at
      (λ o. (
        q.new_report _ fresh,
        append _ _ (turn_all p.button at t) (append _ _ (drop_all v.callsign (ends_turn p.button))
            (append _ _ (back_all v.callsign (is_home p.button && is_due at l)) (q.silent _ refl, tt))),
      ))
      (λ o. (q.new_report _ fresh, (q.silent _ refl, tt)))
      (outcome_of v t p)

  pub report_all : (h : ℕ) (c : Callsign) (p : Press) (at : ℕ) → kept_report c p.number r ≡ None
      → Holds (report_in h c p at r)
  unfolding report_in
  report_all h c p at k = held_all h c (held h c r) refl (open_turn h c r) (borrowed h c r) p at k

  placed_all : (v : Option Vehicle) (c : Callsign) (p : Press) (at : ℕ)
      → kept_report c p.number r ≡ None → Holds (report_somewhere v c p at r)
  placed_all None c p at k = tt
  placed_all (Some v) c p at k = report_all v.holder c p at k

  kept_all : (c : Callsign) (p : Press) (at : ℕ) (o : Option Report) → kept_report c p.number r ≡ o
      → Holds (report_kept o c p at r)
  kept_all c p at (Some k) e = refuse _ _ _ tt
  kept_all c p at None e = placed_all (vehicle_at c r) c p at e

  pub crew_all : (c : Callsign) (a : Ask) (at : ℕ) → Holds (who_asks (Crew c) a at r)
  crew_all c (ask.Report p) at = kept_all c p at (kept_report c p.number r) refl
  crew_all c a at = quiet_all (Crew c) a at refl

  who_all : AllowsLending Q → (who : Who) (a : Ask) (at : ℕ)
      → Holds (decided (record { who = who; ask = a; at = at }) r)
  who_all f (Desk d) a at = desk_all d a at (λ e. f)
  who_all f (Position p) a at = position_all p a at
  who_all f (Crew c) a at = crew_all c a at

  pub event_all : AllowsLending Q → (e : Event) → AllOf Q (changes_of (decided e r))
  event_all f e = who_all f e.who e.ask e.at

-- ---- where no vehicle is settled, the changes are plain puts and drops
pub plain_allowed : (r : Room) → Allows r IsPlain
plain_allowed r = record {
  silent = plain_silent;
  new_call = λ x e placed. tt;
  moved = λ x a m. tt;
  new_report = λ x e. tt;
  cleared = λ c n x e. tt;
}
  where
    plain_silent : (x : Change) → is_silent x ≡ true → IsPlain x
    plain_silent (Settle c d) e = cc
    plain_silent x e = tt

pub all_plain : (cs : List Change) → AllOf IsPlain cs → ArePlain cs
all_plain [] h = tt
all_plain (x ∷ xs) h = (h.0, all_plain xs h.1)
