-- A fleet that is imported again, after whatever came in between.
use Rattle.std.proofs.Common.{ap, inl, inr, subst, sym, ◌∙◌}
use Rattle.std.specs.Prelude.{Bool, List, None, Option, Some, [], cond, false, is_some, option_map}
use Rattle.std.specs.Prelude.{refl, true, ℕ, ◌&&◌, ◌==◌, ◌∷◌, ◌≡◌}
use Rattle.room_place.specs.Plans.{has_division}
use Rattle.room_types.specs.Codes.{same_kind}
use Rattle.room_types.specs.KeyedRows.{row_at}
use Rattle.room_types.specs.Keys.{callsign_cmp, vehicle_key}
use Rattle.room_types.specs.KeyLemmas.{exact_callsigns}
use Rattle.room_types.specs.Texts.{Callsign, Token}
use Rattle.room_types.specs.declared.asks.Event.{Event}
use Rattle.room_types.specs.declared.asks.Who.{Who}
use Rattle.room_types.specs.declared.asks.Who.TheVariants.{Crew, Desk, Position}
use Rattle.room_types.specs.declared.codes.Kind.{Kind}
use Rattle.room_types.specs.declared.fleet.FleetRow.{FleetRow}
use Rattle.room_types.specs.declared.fleet.RowFate.{RowFate}
use Rattle.room_types.specs.declared.fleet.RowFate.TheVariants.{Added, Refused, Same}
use Rattle.room_types.specs.declared.fleet.Terminal.{Terminal}
use Rattle.room_types.specs.declared.tables.Vehicle.{Vehicle}
use Rattle.room_model.proofs.EnrolLaws.{IsAdded, enrolled_again, exact_tokens, is_added}
use Rattle.room_model.proofs.EnrolLaws.{terminals_kept, terminals_put, tokens_total}
use Rattle.room_model.proofs.FleetStays.{fate_alike, fleet_stays}
use Rattle.room_model.proofs.IncidentChanges.{vehicles_put}
use Rattle.room_model.proofs.KeptCalls.{row_stays}
use Rattle.room_model.proofs.KeptEvents.{plan_stays}
use Rattle.room_model.proofs.Tests.{is_equal, row_key}
use Rattle.room_model.specs.Decisions.{changes_of}
use Rattle.room_model.specs.FleetRows.{AreTerminals, fate_again, fate_by, fate_of, fleet_at}
use Rattle.room_model.specs.FleetRows.{home_and_kind, is_crew, is_crews_terminal, is_same_vehicle}
use Rattle.room_model.specs.FleetRows.{new_terminal, new_vehicle, room_by, room_enrolled}
use Rattle.room_model.specs.FleetRows.{terminal_at, terminal_key, terminals_by, terminals_enrolled}
use Rattle.room_model.specs.FleetRows.{token_cmp}
use Rattle.room_model.specs.Fleets.{AreAgain, Imported, MayBecome, Reaching, Sent, enrolled}
use Rattle.room_model.specs.Fleets.{fates_of, since}
use Rattle.room_model.specs.Room.{Room}
use Rattle.room_model.specs.Step.{decided, room_after}
use Rattle.room_types.specs.declared.refusal_statuses.Refusal.TheVariants as refusal

-- ---- what stays
-- From one room and its terminals to later ones: the plan, the fleet and the terminals stay; a new
-- terminal is the crew's of a vehicle that was not there.
record Stays (r : Room) (ts : List Terminal) (s : Room) (us : List Terminal) : Type 0 where
  plan : s.plan ≡ r.plan
  fleet : (c : Callsign) (p : ℕ × Kind) → fleet_at c r ≡ Some p → fleet_at c s ≡ Some p
  terminal : (k : Token) (t : Terminal) → terminal_at k ts ≡ Some t → terminal_at k us ≡ Some t
  fresh : (k : Token) (c : Callsign) → terminal_at k ts ≡ None
      → is_crews_terminal c (terminal_at k us) ≡ true → fleet_at c r ≡ None

none_before : (o p : Option (ℕ × Kind)) → ((x : ℕ × Kind) → o ≡ Some x → p ≡ Some x) → p ≡ None
    → o ≡ None
none_before None p f e = refl
none_before (Some x) p f e = let g = f x refl in cc

stays_itself : (r : Room) (ts : List Terminal) → Stays r ts r ts
stays_itself r ts = record {
  plan = refl;
  fleet = λ c p e. e;
  terminal = λ k t e. e;
  fresh = λ k c e f. absurd (let g : is_crews_terminal c (terminal_at k ts) ≡ false = ap (is_crews_terminal c) e in cc);
}

module _ (q r : Room) (ss ts : List Terminal) (s : Room) (us : List Terminal) (a : Stays q ss r ts)
    (b : Stays r ts s us) where
  fresh_then : (k : Token) (c : Callsign) (o : Option Terminal) → terminal_at k ts ≡ o
      → terminal_at k ss ≡ None → is_crews_terminal c (terminal_at k us) ≡ true
      → fleet_at c q ≡ None
  fresh_then k c None e none f = none_before _ _ (a.fleet c) (b.fresh k c e f)
  fresh_then k c (Some t) e none f = a.fresh k c none (ap (is_crews_terminal c) (e ∙ sym (b.terminal k t e)) ∙ f)

  stays_then : Stays q ss s us
  stays_then = record {
    plan = b.plan ∙ a.plan;
    fleet = λ c p e. b.fleet c p (a.fleet c p e);
    terminal = λ k t e. b.terminal k t (a.terminal k t e);
    fresh = λ k c. fresh_then k c _ refl;
  }

event_stays : (e : Event) (r : Room) (ts : List Terminal) → Stays r ts (room_after e r) ts
event_stays e r ts = record {
  plan = plan_stays r (changes_of (decided e r));
  fleet = λ c p h. fleet_stays c e r ∙ h;
  terminal = λ k t h. h;
  fresh = (stays_itself r ts).fresh;
}

module _ (r : Room) (ts : List Terminal) (x : FleetRow) where
  none_there : IsAdded r ts x → fleet_at x.callsign r ≡ None
  none_there is = ap (option_map home_and_kind) is.new_callsign

  by_fate : (f : RowFate) → fate_of r ts x ≡ f → Stays r ts (room_by f x r) (terminals_by f x ts)
  by_fate Same e = stays_itself r ts
  by_fate (Refused why) e = stays_itself r ts
  by_fate Added e = let is = is_added r ts x e in record {
    plan = refl;
    fleet =
        λ c p.
        vehicles_put (λ j o. fleet_at j r ≡ Some p → option_map home_and_kind o ≡ Some p) r.vehicles (new_vehicle x)
        (λ h. let g = none_there is in cc) (λ j apart h. h) c;
    terminal = λ k t. row_stays token_cmp terminal_key tokens_total exact_tokens ts (new_terminal x) t is.new_token k;
    fresh =
        λ k c.
        terminals_put (λ j o. terminal_at j ts ≡ None → is_crews_terminal c o ≡ true → fleet_at c r ≡ None) ts
        (new_terminal x)
        (λ none same.
        ap (λ (j : Callsign). fleet_at j r) (sym (exact_callsigns x.callsign c (is_equal _ same))) ∙ none_there is)
        (λ j apart none same.
        let g : is_crews_terminal c (terminal_at j ts) ≡ false = ap (is_crews_terminal c) none in absurd cc) k;
  }

  row_stays_so : Stays r ts (room_enrolled r ts x) (terminals_enrolled r ts x)
  row_stays_so = by_fate (fate_of r ts x) refl

since_stays : (xs : List Reaching) (r : Room) (ts : List Terminal)
    → Stays r ts (since xs r ts).0 (since xs r ts).1
since_stays [] r ts = stays_itself r ts
since_stays (Sent e ∷ xs) r ts =
    stays_then r (room_after e r) ts ts _ _ (event_stays e r ts) (since_stays xs (room_after e r) ts)
since_stays (Imported x ∷ xs) r ts =
    stays_then r (room_enrolled r ts x) ts (terminals_enrolled r ts x) _ _ (row_stays_so r ts x)
    (since_stays xs (room_enrolled r ts x) (terminals_enrolled r ts x))

fleet_stays_so : (xs : List FleetRow) (r : Room) (ts : List Terminal)
    → Stays r ts (enrolled xs r ts).0 (enrolled xs r ts).1
fleet_stays_so [] r ts = stays_itself r ts
fleet_stays_so (x ∷ xs) r ts =
    stays_then r (room_enrolled r ts x) ts (terminals_enrolled r ts x) _ _ (row_stays_so r ts x)
    (fleet_stays_so xs (room_enrolled r ts x) (terminals_enrolled r ts x))

-- ---- a row's later fate
not_true : (b : Bool) → (b ≡ true → ⊥) → b ≡ false
not_true true f = absurd (f refl)
not_true false f = refl

by_same : (b : Bool) → MayBecome (cond b Same (Refused refusal.CallsignTaken))
    (cond b Same (Refused refusal.CallsignTaken))
by_same true = refl
by_same false = refl

-- a terminal that isn't the crew's makes no vehicle the row's
not_crews : (a b c : Bool) → c ≡ false
    → cond (a && (b && c)) Same (Refused refusal.CallsignTaken) ≡ Refused refusal.CallsignTaken
not_crews true true c e = rw e
not_crews true false c e = refl
not_crews false b c e = refl

taken_still : (u : Option Vehicle) (t : Terminal) (x : FleetRow) → is_crew x.callsign t.who ≡ false
    → MayBecome (Refused refusal.TokenTaken) (fate_by u (Some t) x)
taken_still None t x e = inl refl
taken_still (Some u) t x e = inr (not_crews _ _ _ e)

module _ (r s : Room) (ts us : List Terminal) (x : FleetRow) (stays : Stays r ts s us)
    (are : AreTerminals r ts) where
  abbrev vehicle_in : Room → Option Vehicle
  vehicle_in q = row_at callsign_cmp vehicle_key q.vehicles x.callsign

  -- a crew's terminal is one of a vehicle that is there
  not_its_crew : (t : Terminal) (who : Who) → t.who ≡ who → terminal_at x.token ts ≡ Some t
      → vehicle_in r ≡ None → is_crew x.callsign who ≡ false
  not_its_crew t (Desk d) is e none = refl
  not_its_crew t (Position p) is e none = refl
  not_its_crew t (Crew k) is e none = not_true _ (λ f.
      let mine : t.who ≡ Crew x.callsign = is ∙ ap Crew (exact_callsigns k x.callsign (is_equal _ f)) in
      let key : x.token ≡ t.token = row_key token_cmp terminal_key tokens_total exact_tokens ts x.token t e in
      let there = are.crews x.token x.callsign
      (e ∙ ap (λ who. Some (record { token = t.token; who = who })) mine
      ∙ ap (λ token. Some (record { token = token; who = Crew x.callsign })) (sym key)) in
      let absent : is_some (vehicle_in r) ≡ false = ap is_some none in
      cc)

  crew_alike : (v : Vehicle) → vehicle_in r ≡ Some v → (t : Option Terminal)
      → terminal_at x.token ts ≡ t → is_crews_terminal x.callsign (terminal_at x.token us)
      ≡ is_crews_terminal x.callsign t
  crew_alike v there (Some t) e = ap (is_crews_terminal x.callsign) (stays.terminal x.token t e)
  crew_alike v there None e =
      not_true _ (λ f.
      let g = stays.fresh x.token x.callsign e f in
      let h : fleet_at x.callsign r ≡ Some (home_and_kind v) = ap (option_map home_and_kind) there in cc)

  by_rows : (v : Option Vehicle) (t : Option Terminal) → vehicle_in r ≡ v
      → terminal_at x.token ts ≡ t → (fate_by v t x ≡ Added → ⊥)
      → MayBecome (fate_by v t x) (fate_by (vehicle_in s) (terminal_at x.token us) x)
  by_rows (Some v) t there e apart =
      let same = fate_alike (vehicle_in s) (Some v) (terminal_at x.token us) x
      (stays.fleet x.callsign (home_and_kind v) (ap (option_map home_and_kind) there))
      ∙ ap
      (λ (b : Bool). cond (v.home == x.division && (same_kind v.kind x.kind && b)) Same (Refused refusal.CallsignTaken))
      (crew_alike v there t e) in
      subst (MayBecome (fate_by (Some v) t x)) (sym same) (by_same (is_same_vehicle v t x))
  by_rows None (Some t) there e apart =
      subst (λ o. MayBecome (Refused refusal.TokenTaken) (fate_by (vehicle_in s) o x))
      (sym (stays.terminal x.token t e)) (taken_still (vehicle_in s) t x (not_its_crew t t.who refl e there))
  by_rows None None there e apart = absurd (apart refl)

  abbrev fate_in : Bool → RowFate → RowFate
  fate_in planned f = cond planned f (Refused refusal.NoSuchDivision)

  by_plan : (b : Bool) → (fate_in b (fate_by (vehicle_in r) (terminal_at x.token ts) x) ≡ Added
      → ⊥) → MayBecome (fate_in b (fate_by (vehicle_in r) (terminal_at x.token ts) x))
      (fate_in b (fate_by (vehicle_in s) (terminal_at x.token us) x))
  by_plan true apart = by_rows _ _ refl refl apart
  by_plan false apart = refl

  later_fate : (fate_of r ts x ≡ Added → ⊥) → MayBecome (fate_of r ts x) (fate_of s us x)
  later_fate apart =
      subst (λ plan.
      MayBecome (fate_of r ts x)
      (fate_in (has_division plan x.division) (fate_by (vehicle_in s) (terminal_at x.token us) x))) (sym stays.plan)
      (by_plan (has_division r.plan x.division) apart)

not_added : (f : RowFate) → fate_again f ≡ Added → ⊥
not_added Added e = cc
not_added Same e = cc
not_added (Refused why) e = cc

since_first : (f g : RowFate) → MayBecome (fate_again f) g → MayBecome f g
since_first Added g h = h
since_first Same g h = h
since_first (Refused why) g h = h

-- a row that was enrolled, after what came in between
row_again : (r : Room) (ts : List Terminal) (x : FleetRow) (s : Room) (us : List Terminal)
    → AreTerminals r ts → Stays (room_enrolled r ts x) (terminals_enrolled r ts x) s us
    → MayBecome (fate_of r ts x) (fate_of s us x)
row_again r ts x s us are stays =
    let again = enrolled_again r ts x in
    since_first (fate_of r ts x) _ (subst (λ f. MayBecome f (fate_of s us x)) again
    (later_fate (room_enrolled r ts x) s (terminals_enrolled r ts x) us x stays (terminals_kept r ts x are)
    (λ e. not_added (fate_of r ts x) (sym again ∙ e))))

never_added : (f : RowFate) → MayBecome f Added → ⊥
never_added Added h = cc
never_added Same h = cc
never_added (Refused refusal.TokenTaken) h = elim h [
  | inl e ↦ cc
  | inr e ↦ cc
]
never_added (Refused why) h = cc

-- and it changes nothing then
nothing_more : (f g : RowFate) (x : FleetRow) (s : Room) (us : List Terminal) → MayBecome f g
    → ◌≡◌ {A = Room × List Terminal} (s, us) (room_by g x s, terminals_by g x us)
nothing_more f Same x s us h = refl
nothing_more f (Refused why) x s us h = refl
nothing_more f Added x s us h = absurd (never_added f h)

-- ---- a fleet
all_again : (xs : List FleetRow) (r : Room) (ts : List Terminal) (s : Room) (us : List Terminal)
    → AreTerminals r ts → Stays (enrolled xs r ts).0 (enrolled xs r ts).1 s us
    → AreAgain xs (fates_of xs r ts) (s, us)
all_again [] r ts s us are stays = record { fates = tt; unchanged = refl }
all_again (x ∷ xs) r ts s us are stays =
    let now = room_enrolled r ts x in
    let known = terminals_enrolled r ts x in
    let row : MayBecome (fate_of r ts x) (fate_of s us x) = row_again r ts x s us are
    (stays_then now _ known _ s us (fleet_stays_so xs now known) stays) in
    let same = nothing_more (fate_of r ts x) (fate_of s us x) x s us row in
    let rest = subst (AreAgain xs (fates_of xs now known)) same
    (all_again xs now known s us (terminals_kept r ts x are) stays) in
    record { fates = (row, rest.fates); unchanged = rest.unchanged ∙ sym same }

pub fleet_again : (xs : List FleetRow) (between : List Reaching) (r : Room) (ts : List Terminal)
    → AreTerminals r ts → AreAgain xs (fates_of xs r ts)
    (since between (enrolled xs r ts).0 (enrolled xs r ts).1)
fleet_again xs between r ts are =
    all_again xs r ts _ _ are (since_stays between (enrolled xs r ts).0 (enrolled xs r ts).1)
