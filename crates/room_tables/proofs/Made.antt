-- The statement of a change makes it, or the two that do.
use Rattle.std.proofs.Common.{◌≡◌, ◌≢◌, ◌==◌, arith, false, if◌then◌else◌, List, Ok, Ordering, ap}
use Rattle.std.proofs.Common.{ℕ, ◌∙◌}
use Rattle.std.proofs.lemmas.Bool.Decides.{nat_tests}
use Rattle.sqlite_value.specs.Order.{Row}
use Rattle.sqlite_schema.specs.declared.schema.Table.{Table}
use Rattle.sqlite.specs.Effect.{Database}
use Rattle.sqlite.specs.State.{Executes, IsUnchanged, State}
use Rattle.room_model.specs.Room.{Room, apply_one}
use Rattle.room_types.specs.declared.changes.Change.{Change}
use Rattle.room_types.specs.declared.changes.Change.TheVariants as change
use Rattle.room_tables_schema.specs.Outcomes.{Inside}
use Rattle.room_tables_schema.specs.Schema.{room_schema}
use Rattle.room_tables_rows.specs.Tables.{InsertsRow, IsDropped, IsOverwritten, IsTable, Texts}
use Rattle.room_tables_rows.specs.Writes.{Changes, Makes}
use Rattle.room_tables_rows.proofs.Puts.{drop_makes, insert_makes, overwrite_makes, put_makes}
use Rattle.room_tables_rows.proofs.DivisionsTable.{divisions_are}
use Rattle.room_tables_rows.proofs.IncidentsTable.{incident_inserts, incidents_are}
use Rattle.room_tables_rows.proofs.IncidentsTable.{incidents_overwritten}
use Rattle.room_tables_rows.proofs.CallsTable.{call_inserts, calls_are}
use Rattle.room_tables_rows.proofs.VehiclesTable.{vehicles_are, vehicles_overwritten}
use Rattle.room_tables_rows.proofs.TurnsTable.{turn_inserts, turns_are, turns_overwritten}
use Rattle.room_tables_rows.proofs.AssignmentsTable.{assignment_inserts, assignments_are}
use Rattle.room_tables_rows.proofs.AssignmentsTable.{assignments_dropped}
use Rattle.room_tables_rows.proofs.PointsTable.{points_are}
use Rattle.room_tables_rows.proofs.LoansTable.{loans_are, loans_dropped}
use Rattle.room_tables_rows.proofs.OffersTable.{offers_are, offers_dropped}
use Rattle.room_tables_rows.proofs.ReportsTable.{report_inserts, reports_are}
use Rattle.room_tables.proofs.RoomReads.{kept}
use Rattle.room_tables.specs.ChangeStatements.{AreInsertions, AreStatements, IsStatement, Ran}

module _ {old new : State} {text : List ℕ} {params : Row} (it : Ran text params old new) where
  module _ {X K : Type 0} {order : K → K → Ordering} {key : X → K} {row : X → Row}
      {key_row : K → Row} {table : Table} {rows : Room → List X} {put : X → Change} {texts : Texts}
      (is : IsTable order key row key_row table rows put texts) where
    pub puts : (x : X) → (text ≡ texts.put) × (params ≡ row x) → Makes old new (put x)
    puts x same = put_makes is x old new it.count it.room it.inside (rw (same.0, same.1) at it.ran)

    pub drops : {drop : K → Change} {drop_text : List ℕ}
        → IsDropped order key row key_row table rows drop drop_text → (k : K)
        → (text ≡ drop_text) × (params ≡ key_row k) → Makes old new (drop k)
    drops dropped k same =
        drop_makes is _ _ dropped k old new it.count it.room it.inside (rw (same.0, same.1) at it.ran)

  pub makes : (made : Change) → IsStatement text params made → Makes old new made
  makes (change.PutDivision row) same = puts divisions_are row same
  makes (change.PutIncident row) same = puts incidents_are row same
  makes (change.PutCall row) same = puts calls_are row same
  makes (change.PutVehicle row) same = puts vehicles_are row same
  makes (change.PutTurn row) same = puts turns_are row same
  makes (change.PutAssignment row) same = puts assignments_are row same
  makes (change.PutPoint row) same = puts points_are row same
  makes (change.PutLoan row) same = puts loans_are row same
  makes (change.PutOffer row) same = puts offers_are row same
  makes (change.PutReport row) same = puts reports_are row same
  makes (change.DropAssignment key) same = drops assignments_are assignments_dropped key same
  makes (change.DropLoan key) same = drops loans_are loans_dropped key same
  makes (change.DropOffer key) same = drops offers_are offers_dropped key same
  makes (change.Settle callsign division) same = absurd same

-- a row was written over, or none was
abbrev pub Overwrites : State → State → ℕ → Change → Type 0
Overwrites old new count made = Changes old new (λ config. config)
    (λ room. if count == 0 then room else apply_one room made)

module _ (old new : State) (text : List ℕ) (params : Row) (count : ℕ)
    (has : old.now.schema ≡ room_schema) (inside : Inside old new)
    (ran : Executes text params old new (Ok count)) where
  overwrites_in : {X K : Type 0} {order : K → K → Ordering} {key : X → K} {row : X → Row}
      {key_row : K → Row} {table : Table} {rows : Room → List X} {put : X → Change} {texts : Texts}
      (is : IsTable order key row key_row table rows put texts) (over : List ℕ)
      → IsOverwritten table row rows over → (x : X) → text ≡ over → params ≡ row x
      → Overwrites old new count (put x)
  overwrites_in is over written x same values =
      overwrite_makes is over written x old new count has inside (rw (same, values) at ran)

  inserts_in : {X K : Type 0} {order : K → K → Ordering} {key : X → K} {row : X → Row}
      {key_row : K → Row} {table : Table} {rows : Room → List X} {put : X → Change} {texts : Texts}
      (is : IsTable order key row key_row table rows put texts) (insertion : List ℕ)
      → InsertsRow table row is.is_held.at insertion → (x : X) → text ≡ insertion → params ≡ row x
      → Makes old new (put x)
  inserts_in is insertion inserts x same values =
      insert_makes is insertion inserts x old new count has inside (rw (same, values) at ran)

  -- a row was inserted
  pub inserted : (put : List ℕ) (made : Change) → AreInsertions text put params made
      → Makes old new made
  inserted put (change.PutIncident row) is = inserts_in incidents_are _ incident_inserts row is.0 is.1.1
  inserted put (change.PutCall row) is = inserts_in calls_are _ call_inserts row is.0 is.1.1
  inserted put (change.PutTurn row) is = inserts_in turns_are _ turn_inserts row is.0 is.1.1
  inserted put (change.PutAssignment row) is = inserts_in assignments_are _ assignment_inserts row is.0 is.1.1
  inserted put (change.PutReport row) is = inserts_in reports_are _ report_inserts row is.0 is.1.1
  inserted put _ is = absurd is.0

  pub overwrites : (put : List ℕ) (made : Change) → AreStatements text put params made
      → Overwrites old new count made
  overwrites put (change.PutIncident row) is = overwrites_in incidents_are _ incidents_overwritten row is.0 is.1.1
  overwrites put (change.PutVehicle row) is = overwrites_in vehicles_are _ vehicles_overwritten row is.0 is.1.1
  overwrites put (change.PutTurn row) is = overwrites_in turns_are _ turns_overwritten row is.0 is.1.1
  overwrites put _ is = absurd is.0

-- where one was, that is the change
pub overwritten : (old new : State) (count : ℕ) (made : Change) → count ≢ 0
    → Overwrites old new count made → Makes old new made
overwritten old new count made some over = let is : (count == 0) ≡ false = grind (arith, nat_tests) in rw is at over

-- the room is as before
abbrev pub Stays : State → State → Type 0
Stays old new = Changes old new (λ config. config) (λ room. room)

-- then the change is that of the put after it
put_after : (old mid new : State) (made : Change) → Stays old mid → Makes mid new made
    → Makes old new made
put_after old mid new made before put = record {
  inside = record {
    was_open = before.inside.was_open;
    is_open = put.inside.is_open;
    now_is = put.inside.now_is;
    committed_is = put.inside.committed_is ∙ before.inside.committed_is;
    mode = put.inside.mode;
  };
  schema = put.schema;
  stands = λ config room h. put.stands config room (before.stands config room h);
}

-- so it is where none was written over ..
pub put_then : (old mid new : State) (count : ℕ) (made : Change) → count ≡ 0
    → Overwrites old mid count made → Makes mid new made → Makes old new made
put_then old mid new count made none over = put_after old mid new made (rw none at over)

-- .. and where an insertion was refused
pub put_unless : (old mid new : State) (made : Change) → old.now.schema ≡ room_schema
    → Inside old mid → IsUnchanged old mid → Makes mid new made → Makes old new made
put_unless old mid new made has inside same = put_after old mid new made (record {
  inside = inside;
  schema = ap (λ (d : Database). d.schema) same.0.now_is ∙ has;
  stands = kept old mid same;
})
