-- Deeds, one after another: what stays, and that a refused one changes nothing.
use Rattle.std.proofs.Common.{ap, arith, inl, inr, map, refl, subst, sym, ◌∙◌}
use Rattle.std.proofs.Math.Nat.{lt-suc_self}
use Rattle.std.proofs.lemmas.Bool.Decides.{nat_tests}
use Rattle.std.proofs.lemmas.Bool.{and_from, and_parts, eqb-true}
use Rattle.std.specs.Prelude.{Bool, Err, List, None, Ok, Option, Result, Some, [], cond, false}
use Rattle.std.specs.Prelude.{is_none, is_some, length, option_map, suc, true, zero, ℕ, ◌&&◌, ◌++◌}
use Rattle.std.specs.Prelude.{◌<◌, ◌==◌, ◌∷◌, ◌≡◌}
use Rattle.room_place.specs.Plans.{has_division}
use Rattle.room_place.specs.declared.plans.Area.{Area}
use Rattle.room_types.specs.KeyedRows.{row_at}
use Rattle.room_types.specs.Keys.{callsign_cmp, vehicle_key}
use Rattle.room_types.specs.Texts.{Callsign}
use Rattle.room_types.specs.declared.answers.Answer.{Answer}
use Rattle.room_types.specs.declared.asks.Ask.{Ask}
use Rattle.room_types.specs.declared.asks.CallForm.{CallForm}
use Rattle.room_types.specs.declared.asks.Event.{Event}
use Rattle.room_types.specs.declared.asks.Press.{Press}
use Rattle.room_types.specs.declared.asks.Who.{Who}
use Rattle.room_types.specs.declared.asks.Who.TheVariants.{Crew, Desk, Position}
use Rattle.room_types.specs.declared.changes.Change.TheVariants.{PutVehicle}
use Rattle.room_types.specs.declared.codes.Kind.{Kind}
use Rattle.room_types.specs.declared.fleet.FleetRow.{FleetRow}
use Rattle.room_types.specs.declared.fleet.RowFate.{RowFate}
use Rattle.room_types.specs.declared.fleet.RowFate.TheVariants.{Added, Refused, Same}
use Rattle.room_types.specs.declared.fleet.Terminal.{Terminal}
use Rattle.room_types.specs.declared.refusal_statuses.Refusal.{Refusal}
use Rattle.room_types.specs.declared.tables.Vehicle.{Vehicle}
use Rattle.room_model.proofs.EnrolLaws.{enrolled_kept, is_added, terminals_kept}
use Rattle.room_model.proofs.FleetStays.{fleet_stays, terminals_run}
use Rattle.room_model.proofs.IncidentChanges.{vehicles_put}
use Rattle.room_model.proofs.KeptEvents.{addressed_run, addressed_still, event_kept, put_there}
use Rattle.room_model.proofs.OwnChanges.{in_order_apply, in_order_one}
use Rattle.room_model.proofs.Tests.{both_true, left_true, none_of, right_true}
use Rattle.room_model.specs.Decisions.{Verdict, answer_of, changes_of}
use Rattle.room_model.specs.Events.{AreAddressed, OnlyAnswers, by_crew, by_position}
use Rattle.room_model.specs.Fleets.{enrolled}
use Rattle.room_model.specs.FleetRows.{fate_of, fleet_at, home_and_kind, new_vehicle, room_by}
use Rattle.room_model.specs.FleetRows.{terminals_by}
use Rattle.room_model.specs.Queries.{vehicle_at}
use Rattle.room_model.specs.Room.{IsInOrder, Room, apply}
use Rattle.room_model.specs.Run.{room_run}
use Rattle.room_model.specs.Step.{IsAddressed, answer_to, decided, is_crews, is_desks, is_for}
use Rattle.room_model.specs.Step.{room_after}
use Rattle.room_store_writes.proofs.FitLaws.{fit}
use Rattle.room_store_writes.specs.TerminalChanges.{config_by, fault_in}
use Rattle.room_store_writes.specs.declared.change_faults.ChangeFault.{ChangeFault}
use Rattle.dispatch_room_csv.specs.declared.plan_file.PlanFile.{PlanFile}
use Rattle.dispatch_room_tasks.proofs.DeedRepeats.{IsKept, KeepsCall, KeepsReport, call_again}
use Rattle.dispatch_room_tasks.proofs.DeedRepeats.{call_first, call_kept_by, call_kept_on}
use Rattle.dispatch_room_tasks.proofs.DeedRepeats.{report_again, report_first, report_kept_by}
use Rattle.dispatch_room_tasks.proofs.DeedRepeats.{report_kept_on}
use Rattle.dispatch_room_tasks.proofs.ReplacedLemmas.{replaced_fit}
use Rattle.dispatch_room_tasks.proofs.ReplannedLemmas.{is_beside, nothing_lacking, still_fit}
use Rattle.dispatch_room_tasks.proofs.ReplannedLemmas.{still_formed}
use Rattle.dispatch_room_tasks.specs.Deeds.{AreHeard, AreSound, Contents, Deed, Enrolled, Given}
use Rattle.dispatch_room_tasks.specs.Deeds.{IsHeard, IsRefused, Listed, Planned, Sent, are_free}
use Rattle.dispatch_room_tasks.specs.Deeds.{contents_after, contents_by, contents_planned}
use Rattle.dispatch_room_tasks.specs.ReplacedTerminals.{AreFree, config_replaced, fault_at}
use Rattle.dispatch_room_tasks.specs.ReplannedRoom.{additions, first_lacking, replanned}
use Rattle.room_types.specs.declared.asks.Ask.TheVariants as ask

-- ---- the rows of a list
module _ (areas : List Area) (ts listed : List Terminal) where
  below : (at n : ℕ) → at < suc n → (at == n) ≡ false → at < n
  below at n h apart = grind (arith, nat_tests)

  pub they_are_free : (n : ℕ) → are_free areas ts listed n ≡ true → AreFree areas ts listed n
  they_are_free zero h at early = absurd (omega (arith, early))
  they_are_free (suc n) h at early =
      let parts = and_parts _ _ h in
      (elim (at == n) as (λ (b : Bool). (at == n) ≡ b → fault_at areas ts listed at ≡ None) [
        | true ↦
            λ same.
            subst (λ (m : ℕ). fault_at areas ts listed m ≡ None) (sym (eqb-true at n same)) (none_of _ parts.1)
        | false ↦ λ apart. they_are_free n parts.0 at (below at n early apart)
      ]) refl

  pub free_so : (n : ℕ) → AreFree areas ts listed n → are_free areas ts listed n ≡ true
  free_so zero free = refl
  free_so (suc n) free =
      and_from _ _ (free_so n (λ at early. free at (omega (arith, early))))
      (ap is_none (free n (lt-suc_self n)))

  -- a row is refused
  pub not_free : (n : ℕ) → (AreFree areas ts listed n → ⊥) → are_free areas ts listed n ≡ false
  not_free n none =
      (elim (are_free areas ts listed n) as (λ (b : Bool).
      are_free areas ts listed n ≡ b → are_free areas ts listed n ≡ false) [
        | true ↦ λ free. absurd (none (they_are_free n free))
        | false ↦ λ so. so
      ]) refl

and_no : (a b : Bool) → b ≡ false → a && b ≡ false
and_no true b h = h
and_no false b h = refl

-- ---- a refused deed
unanswered : (r : Room) (x : Verdict) (why : Refusal) → answer_of x ≡ Err why
    → apply r (changes_of x) ≡ r
unanswered r (Ok x) why e = cc
unanswered r (Err y) why e = refl

pub refused_nothing : (deed : Deed) (now : Contents) → IsRefused deed now
    → contents_by deed now ≡ now
refused_nothing (Sent e) now (why, answered) =
    ap (λ room. record now { room = room }) (unanswered now.room (decided e now.room) why answered)
refused_nothing (Enrolled row) now (why, refused) =
    ap (λ fate. record now {
      config = record now.config { terminals = terminals_by fate row now.config.terminals };
      room = room_by fate row now.room;
    }) refused
refused_nothing (Given who token) now (why, against) =
    ap (λ (fault : Option ChangeFault).
    cond (is_none fault) (record now { config = config_by who token now.config }) now) against
refused_nothing (Listed listed) now refused =
    ap (λ (free : Bool). cond free (record now { config = config_replaced listed now.config }) now)
    (not_free now.room.plan now.config.terminals listed (length listed) refused)
refused_nothing (Planned file) now (inl (d, lacking)) =
    ap (λ (o : Option ℕ).
    cond (is_none o
    && are_free file.plan.areas now.config.terminals file.terminals.items (length file.terminals.items))
    (contents_planned file now) now) lacking
refused_nothing (Planned file) now (inr refused) =
    ap (λ (b : Bool). cond b (contents_planned file now) now)
    (and_no (is_none (first_lacking now.room.plan file.plan.areas)) _
    (not_free file.plan.areas now.config.terminals file.terminals.items (length file.terminals.items) refused))

-- ---- a deed that is made
pub given_is : (who : Who) (token : _) (now : Contents)
    → fault_in now.room.plan now.config.terminals who token ≡ None
    → contents_by (Given who token) now ≡ record now { config = config_by who token now.config }
given_is who token now nothing =
    ap (λ (fault : Option ChangeFault).
    cond (is_none fault) (record now { config = config_by who token now.config }) now) nothing

pub listed_is : (listed : List Terminal) (now : Contents)
    → AreFree now.room.plan now.config.terminals listed (length listed)
    → contents_by (Listed listed) now ≡ record now { config = config_replaced listed now.config }
listed_is listed now free =
    ap (λ (b : Bool). cond b (record now { config = config_replaced listed now.config }) now)
    (free_so now.room.plan now.config.terminals listed (length listed) free)

pub planned_is : (file : PlanFile) (now : Contents)
    → first_lacking now.room.plan file.plan.areas ≡ None
    → AreFree file.plan.areas now.config.terminals file.terminals.items
    (length file.terminals.items)
    → contents_by (Planned file) now ≡ contents_planned file now
planned_is file now agrees free =
    ap (λ (b : Bool). cond b (contents_planned file now) now)
    (and_from _ _ (ap is_none agrees)
    (free_so file.plan.areas now.config.terminals file.terminals.items (length file.terminals.items) free))

-- ---- what holds of what is made, and of what was, holds after a deed
by_given : (P : Contents → Type 0) (who : Who) (token : _) (now : Contents) → P now
    → (fault_in now.room.plan now.config.terminals who token ≡ None
    → P (record now { config = config_by who token now.config }))
    → P (contents_by (Given who token) now)
by_given P who token now old new =
    (elim (is_none (fault_in now.room.plan now.config.terminals who token)) as (λ (b : Bool).
    is_none (fault_in now.room.plan now.config.terminals who token) ≡ b
    → P (cond b (record now { config = config_by who token now.config }) now)) [
      | true ↦ λ nothing. new (none_of _ nothing)
      | false ↦ λ against. old
    ]) refl

by_listed : (P : Contents → Type 0) (listed : List Terminal) (now : Contents) → P now
    → (AreFree now.room.plan now.config.terminals listed (length listed)
    → P (record now { config = config_replaced listed now.config }))
    → P (contents_by (Listed listed) now)
by_listed P listed now old new =
    (elim (are_free now.room.plan now.config.terminals listed (length listed)) as (λ (b : Bool).
    are_free now.room.plan now.config.terminals listed (length listed) ≡ b
    → P (cond b (record now { config = config_replaced listed now.config }) now)) [
      | true ↦ λ free. new (they_are_free now.room.plan now.config.terminals listed (length listed) free)
      | false ↦ λ refused. old
    ]) refl

by_planned : (P : Contents → Type 0) (file : PlanFile) (now : Contents) → P now
    → (first_lacking now.room.plan file.plan.areas ≡ None
    → AreFree file.plan.areas now.config.terminals file.terminals.items
    (length file.terminals.items) → P (contents_planned file now))
    → P (contents_by (Planned file) now)
by_planned P file now old new =
    let free = are_free file.plan.areas now.config.terminals file.terminals.items (length file.terminals.items) in
    (elim (is_none (first_lacking now.room.plan file.plan.areas) && free) as (λ (b : Bool).
    (is_none (first_lacking now.room.plan file.plan.areas) && free) ≡ b
    → P (cond b (contents_planned file now) now)) [
      | true ↦ λ both.
          let parts = and_parts _ _ both in
          new (none_of _ parts.0)
          (they_are_free file.plan.areas now.config.terminals file.terminals.items (length file.terminals.items)
          parts.1)
      | false ↦ λ refused. old
    ]) refl

-- ---- the agreements
sound_by : (deed : Deed) (now : Contents) → AreSound now → IsHeard deed now
    → AreSound (contents_by deed now)
sound_by (Sent e) now sound heard = record {
  formed = event_kept e now.room sound.formed heard.0 heard.1;
  fits = terminals_run (e ∷ []) now.room now.config.terminals sound.fits;
}
sound_by (Enrolled row) now sound heard = record {
  formed = enrolled_kept now.room now.config.terminals row sound.formed;
  fits = terminals_kept now.room now.config.terminals row sound.fits;
}
sound_by (Given who token) now sound heard =
    by_given AreSound who token now sound (λ nothing. record {
      formed = sound.formed;
      fits = fit now.room now.config.terminals sound.fits who token nothing;
    })
sound_by (Listed listed) now sound heard = by_listed AreSound listed now sound (λ free. record {
  formed = sound.formed;
  fits = replaced_fit now.room now.config.terminals listed sound.fits free;
})
sound_by (Planned file) now sound heard = by_planned AreSound file now sound (λ agrees free. record {
  formed = still_formed file.plan now.room agrees sound.formed;
  fits =
      replaced_fit (replanned file.plan.areas now.room) now.config.terminals file.terminals.items
      (still_fit file.plan now.room agrees now.config.terminals sound.fits) free;
})

pub sound_after : (deeds : List Deed) (now : Contents) → AreSound now → AreHeard deeds now
    → AreSound (contents_after deeds now)
sound_after [] now sound heard = sound
sound_after (deed ∷ deeds) now sound heard =
    sound_after deeds (contents_by deed now) (sound_by deed now sound heard.0) heard.1

-- ---- some deeds and then others
pub after_join : (xs ys : List Deed) (now : Contents)
    → contents_after (xs ++ ys) now ≡ contents_after ys (contents_after xs now)
after_join [] ys now = refl
after_join (x ∷ xs) ys now = after_join xs ys (contents_by x now)

pub heard_join : (xs ys : List Deed) (now : Contents) → AreHeard xs now
    → AreHeard ys (contents_after xs now) → AreHeard (xs ++ ys) now
heard_join [] ys now first then = then
heard_join (x ∷ xs) ys now first then = (first.0, heard_join xs ys (contents_by x now) first.1 then)

pub heard_early : (before rest : List Deed) (now : Contents) → AreHeard (before ++ rest) now
    → AreHeard before now
heard_early [] rest now heard = tt
heard_early (x ∷ before) rest now heard = (heard.0, heard_early before rest (contents_by x now) heard.1)

-- rows one after another
pub rows_after : (rows : List FleetRow) (now : Contents) → contents_after (map Enrolled rows) now
    ≡ record {
      config = record now.config { terminals = (enrolled rows now.room now.config.terminals).1 };
      room = (enrolled rows now.room now.config.terminals).0;
    }
rows_after [] now = refl
rows_after (row ∷ rows) now = rows_after rows (contents_by (Enrolled row) now)

pub rows_heard : (rows : List FleetRow) (now : Contents) → AreHeard (map Enrolled rows) now
rows_heard [] now = tt
rows_heard (row ∷ rows) now = (tt, rows_heard rows (contents_by (Enrolled row) now))

-- ---- messages
pub run_of_messages : (es : List Event) (now : Contents)
    → contents_after (map Sent es) now ≡ record now { room = room_run es now.room }
run_of_messages [] now = refl
run_of_messages (e ∷ es) now = run_of_messages es (record now { room = room_after e now.room })

pub messages_heard : (es : List Event) (now : Contents) → AreAddressed es now.room
    → AreHeard (map Sent es) now
messages_heard [] now addressed = tt
messages_heard (e ∷ es) now (here, numbered, rest) = (
  (here, numbered),
  messages_heard es (record now { room = room_after e now.room })
      (addressed_still es now.room (changes_of (decided e now.room)) rest),
)

-- ---- what each deed keeps of a room
-- where a message keeps it, a vehicle that is new, other terminals, and another plan with the rows
-- of new divisions
pub record Lasts (P : Room → Type 0) : Type 0 where
  pub sent : (e : Event) (r : Room) → P r → P (room_after e r)
  pub added : (r : Room) (ts : List Terminal) (row : FleetRow) → fate_of r ts row ≡ Added → P r
      → P (room_by Added row r)
  pub planned : (file : PlanFile) (r : Room) → first_lacking r.plan file.plan.areas ≡ None → P r
      → P (replanned file.plan.areas r)

module _ (P : Room → Type 0) (lasts : Lasts P) where
  enrolled_lasts : (r : Room) (ts : List Terminal) (row : FleetRow) (fate : RowFate)
      → fate_of r ts row ≡ fate → P r → P (room_by fate row r)
  enrolled_lasts r ts row Added is p = lasts.added r ts row is p
  enrolled_lasts r ts row Same is p = p
  enrolled_lasts r ts row (Refused why) is p = p

  lasts_by : (deed : Deed) (now : Contents) → P now.room → P (contents_by deed now).room
  lasts_by (Sent e) now p = lasts.sent e now.room p
  lasts_by (Enrolled row) now p = enrolled_lasts now.room now.config.terminals row _ refl p
  lasts_by (Given who token) now p = by_given (λ (c : Contents). P c.room) who token now p (λ nothing. p)
  lasts_by (Listed listed) now p = by_listed (λ (c : Contents). P c.room) listed now p (λ free. p)
  lasts_by (Planned file) now p =
      by_planned (λ (c : Contents). P c.room) file now p (λ agrees free. lasts.planned file now.room agrees p)

  pub lasts_after : (deeds : List Deed) (now : Contents) → P now.room → P (contents_after deeds now).room
  lasts_after [] now p = p
  lasts_after (deed ∷ deeds) now p = lasts_after deeds (contents_by deed now) (lasts_by deed now p)

-- the order of the rows
pub order_lasts : Lasts IsInOrder
order_lasts = record {
  sent = λ e r order. in_order_apply r (changes_of (decided e r)) order;
  added = λ r ts row is order. in_order_one r (PutVehicle (new_vehicle row)) order;
  planned = λ file r agrees order.
      let o = in_order_apply r (additions r.plan file.plan.areas) order in record {
        divisions = o.divisions;
        incidents = o.incidents;
        calls = o.calls;
        vehicles = o.vehicles;
        turns = o.turns;
        assignments = o.assignments;
        points = o.points;
        loans = o.loans;
        offers = o.offers;
        reports = o.reports;
      };
}

-- what messages keep in an ordered room, and what only those rows show that no other deed changes
pub rows_last : {X : Type 0} (rows : Room → X) (P : Room → Type 0)
    → ((e : Event) (r : Room) → IsInOrder r → P r → P (room_after e r))
    → ((r s : Room) → rows s ≡ rows r → P r → P s)
    → ((r : Room) (row : FleetRow) → rows (room_by Added row r) ≡ rows r)
    → ((file : PlanFile) (r : Room) → rows (replanned file.plan.areas r) ≡ rows r)
    → Lasts (λ r. IsInOrder r × P r)
rows_last rows P sent by added planned = record {
  sent = λ e r p. (order_lasts.sent e r p.0, sent e r p.0 p.1);
  added = λ r ts row is p. (order_lasts.added r ts row is p.0, by r (room_by Added row r) (added r row) p.1);
  planned = λ file r agrees p.
      (order_lasts.planned file r agrees p.0, by r (replanned file.plan.areas r) (planned file r) p.1);
}

-- ---- who is known
module _ (c : Callsign) (of : ℕ × Kind) where
  added_fleet : (r : Room) (ts : List Terminal) (row : FleetRow) → fate_of r ts row ≡ Added
      → fleet_at c r ≡ Some of → fleet_at c (room_by Added row r) ≡ Some of
  added_fleet r ts row is =
      let none : fleet_at row.callsign r ≡ None = ap (option_map home_and_kind) (is_added r ts row is).new_callsign in
      vehicles_put (λ j o. fleet_at j r ≡ Some of → option_map home_and_kind o ≡ Some of) r.vehicles
      (new_vehicle row) (λ h. let g = none in cc) (λ j apart h. h) c

  pub fleet_lasts : Lasts (λ r. fleet_at c r ≡ Some of)
  fleet_lasts = record {
    sent = λ e r h. fleet_stays c e r ∙ h;
    added = added_fleet;
    planned = λ file r agrees h. ap (fleet_at c) (is_beside file.plan r) ∙ h;
  }

abbrev IsThere : Callsign → Room → Type 0
IsThere c r = is_some (row_at callsign_cmp vehicle_key r.vehicles c) ≡ true

still_for : (who : Who) (a : Ask) (r s : Room)
    → ((d : ℕ) → has_division r.plan d ≡ true → has_division s.plan d ≡ true)
    → ((c : Callsign) → IsThere c r → IsThere c s) → is_for who a r ≡ true → is_for who a s ≡ true
unfolding vehicle_at
still_for (Desk d) a r s divisions vehicles h =
    both_true (is_desks a) _ (left_true (is_desks a) _ h) (divisions d (right_true (is_desks a) _ h))
still_for (Position p) a r s divisions vehicles h = h
still_for (Crew c) a r s divisions vehicles h =
    both_true (is_crews a) _ (left_true (is_crews a) _ h) (vehicles c (right_true (is_crews a) _ h))

pub asker_lasts : (e : Event) → Lasts (IsAddressed e)
asker_lasts e = record {
  sent = λ other r h. addressed_run (other ∷ []) r e h;
  added = λ r ts row is h.
      still_for e.who e.ask r (room_by Added row r) (λ d has. has)
      (λ c there. put_there c r.vehicles (new_vehicle row) there) h;
  planned = λ file r agrees h.
      still_for e.who e.ask r (replanned file.plan.areas r) (nothing_lacking file.plan.areas r.plan agrees)
      (λ c there.
      ap (λ (s : Room). is_some (row_at callsign_cmp vehicle_key s.vehicles c)) (is_beside file.plan r) ∙ there)
      h;
}

-- ---- a report and a call that were answered
pub report_lasts_on : (c : Callsign) (p : Press) (a : Result Answer Refusal)
    → Lasts (λ r. IsInOrder r × KeepsReport c p a r)
report_lasts_on c p a =
    rows_last (λ r. r.reports) (KeepsReport c p a) (report_kept_on c p a) (report_kept_by c p a) (λ r row. refl)
    (λ file r. ap (λ (s : Room). s.reports) (is_beside file.plan r))

pub call_lasts_on : (p : ℕ) (f : CallForm) (a : Result Answer Refusal)
    → Lasts (λ r. IsInOrder r × KeepsCall p f a r)
call_lasts_on p f a =
    rows_last (λ r. r.calls) (KeepsCall p f a) (call_kept_on p f a) (call_kept_by p f a) (λ r row. refl)
    (λ file r. ap (λ (s : Room). s.calls) (is_beside file.plan r))

pub report_once_over : (c : Callsign) (p : Press) (at later : ℕ) (deeds : List Deed) (now : Contents)
    → AreSound now → IsAddressed (by_crew c (ask.Report p) at) now.room
    → OnlyAnswers (by_crew c (ask.Report p) later)
    (contents_after deeds (contents_by (Sent (by_crew c (ask.Report p) at)) now)).room
    (answer_to (by_crew c (ask.Report p) at) now.room)
report_once_over c p at later deeds now sound there =
    let sent = by_crew c (ask.Report p) at in
    let order = sound.formed.order in
    let a = answer_to sent now.room in
    report_again c p a _ (lasts_after _ (report_lasts_on c p a) deeds (contents_by (Sent sent) now)
    (order_lasts.sent sent now.room order, report_first c p at now.room order there)).1 later

pub call_once_over : (p : ℕ) (f : CallForm) (at later : ℕ) (deeds : List Deed) (now : Contents)
    → AreSound now → IsKept (answer_to (by_position p (ask.Call f) at) now.room)
    → OnlyAnswers (by_position p (ask.Call f) later)
    (contents_after deeds (contents_by (Sent (by_position p (ask.Call f) at)) now)).room
    (answer_to (by_position p (ask.Call f) at) now.room)
call_once_over p f at later deeds now sound kept =
    let sent = by_position p (ask.Call f) at in
    let order = sound.formed.order in
    let a = answer_to sent now.room in
    call_again p f a _ (lasts_after _ (call_lasts_on p f a) deeds (contents_by (Sent sent) now)
    (order_lasts.sent sent now.room order, call_first p f at now.room order kept)).1 later
