-- Rows of one table after another, read in a transaction: each is read where those before went
-- well.
use Rattle.std.proofs.Common.{Err, List, Ok, Result, ap, arith, inl, inr, refl, subst, sym, ◌∙◌}
use Rattle.std.proofs.Common.{◌≡◌}
use Rattle.std.proofs.lemmas.Result.{IfErr-weaker}
use Rattle.std.specs.Prelude.{OnOk}
use Rattle.sqlite.specs.Effect.{Database}
use Rattle.sqlite.specs.Held.{Held, state}
use Rattle.sqlite.specs.State.{State}
use Rattle.sqlite_schema.specs.declared.schema.Table.{Table}
use Rattle.sqlite_trees.specs.Tree.{Trees}
use Rattle.sqlite_trees.specs.declared.store.Store.{Ghosts}
use Rattle.sqlite_value.specs.Order.{Row}
use Rattle.room_types.specs.declared.slices.DivisionRows.{DivisionRows}
use Rattle.room_tables_schema.proofs.ReadLaws.{ends_inside, fails_inside}
use Rattle.room_tables_schema.specs.Outcomes.{ReadsInside}
use Rattle.room_tables_schema.specs.TableTrees.{AreNumbered}
use Rattle.room_tables_schema.specs.FileConnections.{HasRoomSchema, IsClean}
use Rattle.room_tables_schema.specs.Schema.{assignments_table, calls_table, divisions_table}
use Rattle.room_tables_schema.specs.Schema.{incidents_table, loans_table, offers_table}
use Rattle.room_tables_schema.specs.Schema.{points_table, reports_table, turns_table}
use Rattle.room_tables_schema.specs.Schema.{vehicles_table}
use Rattle.room_tables_schema.specs.declared.database_faults.Fault.{Fault}
use Rattle.room_tables_rows.specs.AssignmentSql.{assignment_row}
use Rattle.room_tables_rows.specs.CallSql.{call_row}
use Rattle.room_tables_rows.specs.DivisionSql.{division_row}
use Rattle.room_tables_rows.specs.IncidentSql.{incident_row}
use Rattle.room_tables_rows.specs.LoanSql.{loan_row}
use Rattle.room_tables_rows.specs.OfferSql.{offer_row}
use Rattle.room_tables_rows.specs.PointSql.{point_row}
use Rattle.room_tables_rows.specs.ReportSql.{report_row}
use Rattle.room_tables_rows.specs.TurnSql.{turn_row}
use Rattle.room_tables_rows.specs.VehicleSql.{vehicle_row}
use Rattle.room_tables.proofs.Inside.{inside_then}
use Rattle.room_tables.proofs.ReadFailures.{if_storage}
use Rattle.room_tables.specs.Failures.{FailsAtLast, IfStorage, WentWell}
use Rattle.room_tables.specs.Rowids.{AreAllNumbered, FailsAtRowids}
use Rattle.room_tables.specs.RoomsInTables.{StandsFor}
use Rattle.room_store_writes.proofs.CommitLaws.{ok_then}
use Rattle.room_store_check_tables.specs.HeldRooms.{HasRows, ReadsNext}
use Rattle.room_store_check_tables.specs.ReadCauses.{ExplainsTable, FailsAtTable, FailsInTables}
use Rattle.room_store_check_tables.specs.ReadCauses.{rowids_fail}

-- ---- one read: it found rows, it failed, or one before it had failed

module _ {S T : Type 0} {g : Ghosts S} {a b : Held S} {before : Result (Unit {0}) Fault}
    {Is : Trees → Type 0} {Fails : State → State → Type 0} where
  pub next_found : {x : Unit {0}} {rows : T} → before ≡ Ok x
      → ReadsInside {T = T} {E = Fault} g a b (Ok rows)
      → (IsClean g b → Is (state g a).now.trees) → ReadsNext g a b before before Is Fails
  next_found is reads found =
      subst (λ r. ReadsNext g a b r r Is Fails) (sym is)
      (record { found = found; reads = ends_inside _ reads; why = λ clean. tt; stays = tt })

  pub next_failed : {x : Unit {0}} {e : Fault} → before ≡ Ok x
      → ReadsInside {T = T} {E = Fault} g a b (Err e)
      → (IsClean g b → IfStorage (Fails (state g a) (state g b)) e)
      → ReadsNext g a b before (Err e) Is Fails
  next_failed {e = e} is reads why =
      subst (λ r. ReadsNext g a b r (Err e) Is Fails) (sym is)
      (record { found = λ clean. tt; reads = fails_inside refl reads; why = why; stays = tt })

module _ {S T : Type 0} {g : Ghosts S} {a b : Held S} {before : Result (Unit {0}) Fault} where
  pub room_after : {x : Unit {0}} {rows : T} → before ≡ Ok x
      → ReadsInside {T = T} {E = Fault} g a b (Ok rows) → OnOk before (HasRoomSchema g a)
      → OnOk before (HasRoomSchema g b)
  room_after is reads room = subst (λ r. OnOk r (HasRoomSchema g b)) (sym is) (λ clean.
      let early : IsClean g a = omega (arith, reads.survives.clean) in
      ap (λ (db : Database). db.schema) (reads.ok clean).0.now_is
      ∙ subst (λ r. OnOk r (HasRoomSchema g a)) is room early)

pub next_none : {S : Type 0} {g : Ghosts S} {a : Held S} {before : Result (Unit {0}) Fault}
    {Is : Trees → Type 0} {Fails : State → State → Type 0} {e : Fault} → before ≡ Err e
    → ReadsNext g a a before before Is Fails
next_none {g = g} {a = a} {Is = Is} {Fails = Fails} is =
    subst (λ r. ReadsNext g a a r r Is Fails) (sym is)
    (record { found = λ clean. tt; reads = tt; why = tt; stays = (refl, refl) })

-- ---- reads, one after another

-- the first of them failed
pub fails_first : {S : Type 0} {g : Ghosts S} {a b : Held S}
    → FailsAtTable (state g a) (state g b) → FailsInTables g a b
fails_first {a = a} fails = record { before = a; well = inl refl; fails = fails }

-- one failed after reads that went well
module _ {S T E : Type 0} {g : Ghosts S} {a b : Held S} {x : T}
    (reads : ReadsInside {T = T} {E = E} g a b (Ok x)) where
  well_then : (d : Held S) → WentWell g b d → WentWell g a d
  well_then d (inl none) =
      inr (subst (λ h. ReadsInside {T = Unit {0}} {E = Fault} g a h (Ok tt)) (sym none) (ends_inside (Ok tt) reads))
  well_then d (inr more) = inr (inside_then reads (Ok tt) more)

  pub fails_then : {c : Held S} → FailsInTables g b c → FailsInTables g a c
  fails_then h = record { before = h.before; well = well_then h.before h.well; fails = h.fails }

-- the last query for rowids failed
pub fails_at_rowids : {S : Type 0} {g : Ghosts S} {a b : Held S} → FailsAtLast g FailsAtRowids a b
    → FailsInTables g a b
fails_at_rowids h = record { before = h.before; well = h.well; fails = rowids_fail h.fails }

-- the reads so far, and what they found, or why there is nothing
pub record ReadSoFar {S : Type 0} (g : Ghosts S) (first last : Held S)
    (done : Result (Unit {0}) Fault) (P : Type 0) : Type 0 where
  pub reads : ReadsInside g first last done
  pub found : IsClean g last → OnOk done P
  pub why : ExplainsTable g first last done

module _ {S : Type 0} {g : Ghosts S} {Is : Trees → Type 0} {Fails : State → State → Type 0} where
  pub first_read : {a b : Held S} {after : Result (Unit {0}) Fault}
      → ReadsNext g a b (Ok tt) after Is Fails
      → (Fails (state g a) (state g b) → FailsAtTable (state g a) (state g b))
      → ReadSoFar g a b after (Is (state g a).now.trees)
  first_read {after = after} next at = record {
    reads = next.reads;
    found = next.found;
    why = λ clean. IfErr-weaker after _ _ (λ e why. if_storage e why (λ f. fails_first (at f))) (next.why clean);
  }

  module _ {a b c : Held S} {P : Type 0} where
    -- by what became of those before
    one_more : (before after : Result (Unit {0}) Fault) → ReadSoFar g a b before P
        → ReadsNext g b c before after Is Fails
        → (Fails (state g b) (state g c) → FailsAtTable (state g b) (state g c))
        → ReadSoFar g a c after (P × Is (state g a).now.trees)
    one_more (Ok x) after so_far next at = record {
      reads = inside_then so_far.reads after next.reads;
      found = λ clean.
          let early : IsClean g b = omega (arith, next.reads.survives.clean) in
          ok_then after _ _
          (λ is. (so_far.found early, subst (λ (db : Database). Is db.trees) (so_far.reads.ok early).0.now_is is))
          (next.found clean);
      why =
          λ clean.
          IfErr-weaker after _ _ (λ e why. if_storage e why (λ f. fails_then so_far.reads (fails_first (at f))))
          (next.why clean);
    }
    one_more (Err e) after so_far next at = record {
      reads =
          subst (λ h. ReadsInside g a h after) (sym next.stays.0)
          (subst (ReadsInside g a b) (sym next.stays.1) so_far.reads);
      found = λ clean. subst (λ r. OnOk r (P × Is (state g a).now.trees)) (sym next.stays.1) tt;
      why =
          subst (λ h. ExplainsTable g a h after) (sym next.stays.0)
          (subst (ExplainsTable g a b) (sym next.stays.1) so_far.why);
    }

    pub and_read : {before after : Result (Unit {0}) Fault} → ReadSoFar g a b before P
        → ReadsNext g b c before after Is Fails
        → (Fails (state g b) (state g c) → FailsAtTable (state g b) (state g c))
        → ReadSoFar g a c after (P × Is (state g a).now.trees)
    and_read so_far next at = one_more _ _ so_far next at

-- what became of them
pub became : {S : Type 0} {g : Ghosts S} {a b : Held S} {P : Type 0}
    {done known : Result (Unit {0}) Fault} → done ≡ known → ReadSoFar g a b done P
    → ReadSoFar g a b known P
became {g = g} {a = a} {b = b} {P = P} is so_far = subst (λ r. ReadSoFar g a b r P) is so_far

module _ (trees : Trees) (x : DivisionRows) (all : AreAllNumbered trees) where
  abbrev Holds : {X : Type 0} → Table → (X → Row) → List X → Type 0
  Holds table cells rows = AreNumbered (trees table.tree) → StandsFor trees table cells rows

  -- what was found in the tables, one after another, are the rows
  pub found_rows : ((((((((Holds reports_table report_row x.reports
      × Holds divisions_table division_row x.divisions)
      × Holds incidents_table incident_row x.incidents) × Holds calls_table call_row x.calls)
      × Holds vehicles_table vehicle_row x.vehicles) × Holds turns_table turn_row x.turns)
      × Holds assignments_table assignment_row x.assignments)
      × Holds points_table point_row x.points)
      × Holds loans_table loan_row x.loans)
      × Holds offers_table offer_row x.offers → HasRows trees x
  found_rows held = record {
    divisions = held.0.0.0.0.0.0.0.0.1 all.1.1.1.0;
    incidents = held.0.0.0.0.0.0.0.1 all.1.1.1.1.0;
    calls = held.0.0.0.0.0.0.1 all.1.1.1.1.1.0;
    vehicles = held.0.0.0.0.0.1 all.1.1.1.1.1.1.0;
    turns = held.0.0.0.0.1 all.1.1.1.1.1.1.1.0;
    assignments = held.0.0.0.1 all.1.1.1.1.1.1.1.1.0;
    points = held.0.0.1 all.1.1.1.1.1.1.1.1.1.0;
    loans = held.0.1 all.1.1.1.1.1.1.1.1.1.1.0;
    offers = held.1 all.1.1.1.1.1.1.1.1.1.1.1.1.0;
    reports = held.0.0.0.0.0.0.0.0.0 all.1.1.1.1.1.1.1.1.1.1.1.0;
  }
