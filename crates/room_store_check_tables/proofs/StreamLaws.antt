-- Rows of a file that are read and judged one at a time, outside a transaction.
use Rattle.std.proofs.Common.{Bool, Err, IsTrue, List, Ok, Result, [], ap, arith, false, inl, inr}
use Rattle.std.proofs.Common.{refl, subst, sym, true, ◌∙◌, ◌≡◌, ◌⊎◌}
use Rattle.std.proofs.lemmas.Bool.{and_parts}
use Rattle.std.specs.Prelude.{◌&&◌, ◌↔◌, ◌≢◌, ◌≤◌}
use Rattle.std.specs.declared.cmp.Ordering.{Ordering}
use Rattle.sqlite.specs.Effect.{Database}
use Rattle.sqlite.specs.Held.{Held, state}
use Rattle.sqlite.specs.State.{HasCleanDisk, State}
use Rattle.sqlite.proofs.StateLemmas.{survives_then}
use Rattle.sqlite_schema.specs.declared.schema.Table.{Table}
use Rattle.sqlite_trees.specs.Tree.{Trees}
use Rattle.sqlite_trees.specs.declared.store.Store.{Ghosts}
use Rattle.sqlite_value.specs.Order.{Row}
use Rattle.room_place.specs.Plans.{Layout}
use Rattle.room_place.specs.declared.plans.Area.{Area}
use Rattle.room_types.specs.declared.fleet.Terminal.{Terminal}
use Rattle.room_types.specs.declared.slices.DivisionRows.{DivisionRows}
use Rattle.room_model.specs.FleetRows.{AreTerminals}
use Rattle.room_model.specs.Room.{IsInOrder, Room}
use Rattle.room_model.specs.RoomSlices.{room_of}
use Rattle.room_model.specs.RoomAgreements.{IsWellFormed}
use Rattle.room_model.proofs.Tests.{both_true}
use Rattle.room_tables_schema.proofs.Refusals.{keeps_commit}
use Rattle.room_tables_schema.specs.Outcomes.{CommitsNothing, Keeps, ReadsInside, ReadsOnly}
use Rattle.room_tables_schema.specs.Schema.{room_schema}
use Rattle.room_tables.specs.Rowids.{AreAllNumbered}
use Rattle.room_tables.specs.RoomsInTables.{Stands}
use Rattle.room_tables.specs.RowStreams.{AreAll}
use Rattle.room_store_check_rows.specs.HistoryChecks.{AreOpenings, histories_fit, kept}
use Rattle.room_store_writes.proofs.CommitLaws.{unchanged_survives}
use Rattle.room_store_writes.specs.Configurations.{config_of}
use Rattle.room_store_writes.specs.Transactions.{Leaves, IsCommitted}
use Rattle.room_store_check_tables.proofs.Findings.{held_is, stands_with}
use Rattle.room_store_check_tables.specs.HeldRooms.{HasConfiguration, HasRows, HoldsRoom, IsPlanOf}
use Rattle.room_store_check_tables.specs.HeldRooms.{WritesNothing}
use Rattle.room_store_check_tables.specs.StreamedPlan.{AreAssignments, AreBeside, AreDivisions}
use Rattle.room_store_check_tables.specs.StreamedPlan.{AreIncidents, AreLoans, AreOffers, ArePoints}
use Rattle.room_store_check_tables.specs.StreamedPlan.{AreRows, AreVehicles, HasJudged, IsFound}
use Rattle.room_store_check_tables.specs.StreamedPlan.{IsHistory, ShowsSound}
use Rattle.room_store_check_tables.specs.ReadCauses.{FailsInTables, FailsToTake}
use Rattle.room_store_check_tables.specs.declared.streamed_plan.JudgedRows.{JudgedRows}
use Rattle.room_store_check_tables.specs.declared.streamed_plan.KeptHistory.{KeptHistory}
use Rattle.room_tables_schema.specs.FileConnections.{IsClean}

-- ---- reads outside a transaction
module _ {S T E : Type 0} {g : Ghosts S} {a b : Held S} {r : Result T E} where
  -- such a read leaves what one inside leaves
  pub inside_of : ReadsOnly g a b r → ReadsInside g a b r
  inside_of h = record { ok = h.ok; err = h.err; survives = h.survives }

  pub outside_of : (a.in_transaction ≡ false → b.in_transaction ≡ false) → ReadsInside g a b r
      → ReadsOnly g a b r
  outside_of mode h = record { ok = h.ok; err = h.err; mode = mode; survives = h.survives }

-- it writes nothing
pub reads_nothing : {S T E : Type 0} (g : Ghosts S) (a b : Held S) (r : Result T E)
    → IsCommitted g a → ReadsOnly g a b r
    → WritesNothing (state g a) (state g b)
reads_nothing g a b r settled h = record { left = λ clean. left (kept_by r h clean); survives = h.survives }
  where
    kept_by : {T E : Type 0} (r : Result T E) → ReadsOnly g a b r → IsClean g b
        → Keeps (state g a) (state g b)
    kept_by (Ok x) h clean = inl (h.ok clean)
    kept_by (Err e) h clean = h.err clean

    left : Keeps (state g a) (state g b) → Leaves (state g a) (state g b)
    left (inl same) =
        record { was_open = λ _. same.0.was_open; now_is = λ _. same.0.now_is; committed_is = λ _. same.0.committed_is }
    left (inr back) = record {
      was_open = back.was_open;
      now_is = λ is_open. (back.undone is_open).0 ∙ sym (settled (back.was_open is_open));
      committed_is = λ is_open. (back.undone is_open).1;
    }

-- a read in a transaction commits nothing
pub reads_commit : {S T E : Type 0} {g : Ghosts S} {a b : Held S} (r : Result T E)
    → ReadsInside g a b r → CommitsNothing g a b
reads_commit (Ok x) h = record { kept = λ clean. keeps_commit _ _ (inl (h.ok clean)); survives = h.survives }
reads_commit (Err e) h = record { kept = λ clean. keeps_commit _ _ (h.err clean); survives = h.survives }

-- nothing is written by what is not done
pub none_done : {S : Type 0} (g : Ghosts S) (a : Held S) → WritesNothing (state g a) (state g a)
none_done g a = record {
  left = λ clean. record { was_open = λ is_open. is_open; now_is = λ is_open. refl; committed_is = λ is_open. refl };
  survives = unchanged_survives g a (λ _. ⊥);
}

-- nor by two calls that write nothing
pub nothing_then : (old mid new : State) → WritesNothing old mid → WritesNothing mid new
    → WritesNothing old new
nothing_then old mid new one two = record {
  left = λ clean.
      let early : HasCleanDisk mid = omega (arith, two.survives.clean) in
      let first = one.left early in
      let second = two.left clean in
      record {
        was_open = λ is_open. first.was_open (second.was_open is_open);
        now_is = λ is_open. second.now_is is_open ∙ first.now_is (second.was_open is_open);
        committed_is = λ is_open. second.committed_is is_open ∙ first.committed_is (second.was_open is_open);
      };
  survives = survives_then old mid new _ _ (λ _. ⊥) (λ _ db none. none) (λ _ db none. none) one.survives two.survives;
}

-- the file was judged after such a call, and this failed; or the call left it shut
pub file_fails : {S : Type 0} (g : Ghosts S) (old mid new : Held S)
    → WritesNothing (state g old) (state g mid) → IsClean g mid
    → (state g mid).faults ≤ (state g new).faults → (state g old).now.schema ≡ room_schema
    → (state g mid).now.schema ≢ room_schema ⊎ FailsInTables g mid new → FailsToTake g old new
file_fails g old mid new nothing clean counts has (inl other) =
    inl (λ is_open. elim (nothing.survives.closes clean is_open) [
      | inl still ↦ absurd (other (ap (λ (db : Database). db.schema) ((nothing.left clean).now_is still) ∙ has))
      | inr more ↦ omega (arith, more, counts)
    ])
file_fails g old mid new nothing clean counts has (inr f) =
    inr (record {
      first = mid;
      last = new;
      same = (nothing.left clean).now_is;
      is_open = nothing.survives.closes clean;
      since = nothing.survives.counts;
      fails = f;
      until = omega arith;
    })

-- ---- rows
-- rows that took all rows of a table are these
pub all_taken : {X K : Type 0} {order : K → K → Ordering} {key : X → K} {row : X → Row}
    {of_room : Room → List X} {table : Table} {trees : Trees} {first taken : List X} → first ≡ []
    → ((rows : List X) × AreAll order key row of_room table trees rows
    × (first ≡ [] → taken ≡ rows)) → AreAll order key row of_room table trees taken
all_taken {order = order} {key = key} {row = row} {of_room = of_room} {table = table} {trees = trees} none h =
    subst (AreAll order key row of_room table trees) (sym (h.2 none)) h.1

module _ (trees : Trees) (x : DivisionRows) where
  -- what was found in the tables, one after another, are the rows beside the history
  pub found_beside : x.calls ≡ [] → (((((AreDivisions trees x.divisions
      × AreIncidents trees x.incidents) × AreVehicles trees x.vehicles)
      × AreAssignments trees x.assignments) × ArePoints trees x.points)
      × AreLoans trees x.loans) × AreOffers trees x.offers → AreBeside trees x
  found_beside none found = record {
    divisions = found.0.0.0.0.0.0;
    incidents = found.0.0.0.0.0.1;
    vehicles = found.0.0.0.0.1;
    assignments = found.0.0.0.1;
    points = found.0.0.1;
    loans = found.0.1;
    offers = found.1;
    no_calls = none;
  }

  -- the rows of all tables are in order
  pub rows_in_order : (plan : List Area) → AreRows trees x → IsInOrder (room_of plan x)
  rows_in_order plan are = record {
    divisions = are.divisions.keyed;
    incidents = are.incidents.keyed;
    calls = are.calls.keyed;
    vehicles = are.vehicles.keyed;
    turns = are.turns.keyed;
    assignments = are.assignments.keyed;
    points = are.points.keyed;
    loans = are.loans.keyed;
    offers = are.offers.keyed;
    reports = are.reports.keyed;
  }

  -- and the tables hold them, where each numbers its rows
  pub rows_held : AreAllNumbered trees → AreRows trees x → HasRows trees x
  rows_held all are = record {
    divisions = are.divisions.stands all.1.1.1.0;
    incidents = are.incidents.stands all.1.1.1.1.0;
    calls = are.calls.stands all.1.1.1.1.1.0;
    vehicles = are.vehicles.stands all.1.1.1.1.1.1.0;
    turns = are.turns.stands all.1.1.1.1.1.1.1.0;
    assignments = are.assignments.stands all.1.1.1.1.1.1.1.1.0;
    points = are.points.stands all.1.1.1.1.1.1.1.1.1.0;
    loans = are.loans.stands all.1.1.1.1.1.1.1.1.1.1.0;
    offers = are.offers.stands all.1.1.1.1.1.1.1.1.1.1.1.1.0;
    reports = are.reports.stands all.1.1.1.1.1.1.1.1.1.1.1.0;
  }

  -- with the history they are the rows of all tables
  pub rows_with : (plan : List Area) (history : KeptHistory) → AreBeside trees x
      → (h : IsHistory trees plan x history)
      → AreRows trees (record x { turns = h.turns; reports = h.reports; calls = h.calls })
  rows_with plan history beside h = record {
    divisions = beside.divisions;
    incidents = beside.incidents;
    calls = h.calls_are;
    vehicles = beside.vehicles;
    turns = h.turns_are;
    assignments = beside.assignments;
    points = beside.points;
    loans = beside.loans;
    offers = beside.offers;
    reports = h.reports_are;
  }

-- all agree where those of each table do
both_first : (a b c : Bool) → (a && b) && c ≡ a && (b && c)
both_first true b c = refl
both_first false b c = refl

pub all_agree : (a b c x y z : Bool) → a ≡ x → b ≡ y → c ≡ z → (a && b) && c ≡ x && (y && z)
all_agree a b c x y z p q r = both_first a b c ∙ (λ i. p i && (q i && r i))

-- what is kept of the history, put beside the other rows, is what is kept of them all
pub kept_with : (plan : List Area) (x : DivisionRows) (history : KeptHistory) (trees : Trees)
    → x.calls ≡ [] → (h : IsHistory trees plan x history)
    → record x { turns = history.turns; reports = history.reports }
    ≡ kept (record x { turns = h.turns; reports = h.reports; calls = h.calls })
kept_with plan x history trees none h i = record {
  divisions = x.divisions;
  incidents = x.incidents;
  calls = none i;
  vehicles = x.vehicles;
  turns = h.open_turns i;
  assignments = x.assignments;
  points = x.points;
  loans = x.loans;
  offers = x.offers;
  reports = h.last_reports i;
}

-- and it is reported of them
pub judged_with : (plan : List Area) (x : DivisionRows) (history : KeptHistory) (trees : Trees)
    → AreBeside trees x → IsHistory trees plan x history
    → HasJudged trees plan (record {
      rows = record x
          { turns = history.turns; reports = history.reports };
      openings =
          history.openings;
      do_agree = history.do_agree;
    })
judged_with plan x history trees beside h =
    let all = record x { turns = h.turns; reports = h.reports; calls = h.calls } in
    let are = rows_with trees x plan history beside h in
    record {
      rows = all;
      are = are;
      is_judged =
          record {
            in_order = rows_in_order trees all plan are;
            kept_are =
                kept_with plan x history trees beside.no_calls h;
            called = h.called;
            agree = h.agree;
          };
    }

-- ---- rooms
-- terminals ask only for vehicles
module _ (plan : List Area) (x : DivisionRows) (terminals : List Terminal) where
  fit_all : AreTerminals (room_of plan (kept x)) terminals → AreTerminals (room_of plan x) terminals
  fit_all h = record { keyed = h.keyed; has_crew = h.has_crew; one_crew = h.one_crew; crews = h.crews; desks = h.desks }

  fit_kept : AreTerminals (room_of plan x) terminals
      → AreTerminals (room_of plan (kept x)) terminals
  fit_kept h =
      record { keyed = h.keyed; has_crew = h.has_crew; one_crew = h.one_crew; crews = h.crews; desks = h.desks }

-- both tests say whether the room is well-formed and the terminals fit it
pub sound_shown : (plan : List Area) (terminals : List Terminal) (judged : JudgedRows)
    (formed fit : Bool)
    → ((x : DivisionRows) → IsInOrder (room_of plan x) → judged.rows ≡ kept x
    → AreOpenings x.calls judged.openings → judged.do_agree ≡ histories_fit plan x
    → (IsTrue formed ↔ IsWellFormed (room_of plan x)))
    → (IsTrue fit ↔ AreTerminals (room_of plan judged.rows) terminals)
    → ShowsSound plan terminals judged (formed && fit)
sound_shown plan terminals judged formed fit well fits x h =
    let one = well x h.in_order h.kept_are h.called h.agree in
    let two = subst (λ rows. IsTrue fit ↔ AreTerminals (room_of plan rows) terminals) h.kept_are fits in (
      λ yes. let parts = and_parts formed fit yes in (one.0 parts.0, fit_all plan x terminals (two.0 parts.1)),
      λ sound. both_true formed fit (one.1 sound.0) (two.1 (fit_kept plan x terminals sound.1)),
    )

-- What was judged after the configuration was read. The tables are as they were, since the connection is
-- open still.
module _ (old mid : State) (same : IsTrue mid.is_open → mid.now ≡ old.now) (layout : Layout)
    (terminals : List Terminal) (config : AreAllNumbered old.now.trees
    → HasConfiguration old.now.trees layout.areas layout.zone terminals) (judged : JudgedRows)
    (found : IsFound mid layout.areas judged) where
  abbrev rows : DivisionRows
  rows = found.judged_are.rows

  stood_for : Stands old.now.trees (config_of layout terminals) (room_of layout.areas rows)
  stood_for =
      let is = same found.is_open in
      let all = subst (λ (db : Database). AreAllNumbered db.trees) is found.numbered in
      let are = subst (λ (db : Database). AreRows db.trees rows) is found.judged_are.are in
      stands_with old.now.trees layout terminals rows (config all) (rows_held old.now.trees rows all are)

  pub is_plan : ShowsSound layout.areas terminals judged true → IsPlanOf old.now.trees layout
  is_plan shows =
      let sound = (shows rows found.judged_are.is_judged).0 refl in
      (terminals, room_of layout.areas rows, sound.0, sound.1, refl, stood_for)

  pub is_no_room : ShowsSound layout.areas terminals judged false → ¬ HoldsRoom old.now.trees
  is_no_room shows holds =
      let sound = held_is old.now.trees layout terminals (room_of layout.areas rows) stood_for holds in
      let yes = (shows rows found.judged_are.is_judged).1 sound in
      cc
