-- Tables that are taken: what they become holds the room that they held, and what an end of the
-- transaction leaves.
use Rattle.std.proofs.Common.{Err, IsTrue, List, Ok, Result, [], ap, arith, inl, inr, refl, subst}
use Rattle.std.proofs.Common.{sym, ◌∙◌, ◌∷◌, ◌≡◌, ◌⊎◌}
use Rattle.std.proofs.lemmas.Bool.{eqb-false}
use Rattle.std.specs.Prelude.{IfErr, IfOk, IsOk, OnErr, OnOk, ◌≢◌}
use Rattle.std.specs.Result.{IsErrAnd}
use Rattle.sqlite.specs.Effect.{Database}
use Rattle.sqlite.specs.Held.{Held, state}
use Rattle.sqlite.specs.State.{State, Survives}
use Rattle.sqlite_catalog.specs.Change.{KeepsRows}
use Rattle.sqlite_schema.specs.declared.schema.Schema.{Schema}
use Rattle.sqlite_schema.specs.declared.schema.Table.{Table}
use Rattle.sqlite_trees.specs.Tree.{Trees}
use Rattle.sqlite_trees.specs.declared.store.Store.{Ghosts}
use Rattle.room_model.specs.Room.{Room}
use Rattle.room_tables_schema.specs.Outcomes.{ReadsInside}
use Rattle.room_tables_schema.specs.FileConnections.{MayWrite, IsClean}
use Rattle.room_tables_schema.specs.Definitions.{AddsLast}
use Rattle.room_tables_schema.specs.Schema.{room_tables}
use Rattle.room_tables_schema.specs.Versions.{BeginsAsRoom, HasFirstTables, HasTables}
use Rattle.room_tables_schema.specs.declared.database_faults.Fault.{Fault}
use Rattle.room_tables_schema.specs.declared.database_faults.Fault.TheVariants as faults
use Rattle.room_tables_rows.proofs.Moves.{moved_from, moves}
use Rattle.room_tables_rows.proofs.Version.{held_shown}
use Rattle.room_tables.specs.Failures.{IfStorage}
use Rattle.room_tables.specs.RoomsInTables.{Configuration, Stands}
use Rattle.room_tables.specs.Writes.{RaisesVersion}
use Rattle.room_store_writes.specs.Transactions.{Leaves}
use Rattle.room_store_file.proofs.FileLaws.{rows_kept}
use Rattle.room_store_file.specs.OpeningCauses.{FailsAtEnd, FailsBy, FailsInside}
use Rattle.room_store_file.specs.OpenedFile.{Becomes, HasNoPlanBy, HoldsBy, HoldsFirstRoom, IsMoved}
use Rattle.room_store_file.specs.OpenedFile.{IsRoomOf, MayBecome, StandsBy, Takes, open_fault}
use Rattle.room_store_file.specs.OpenedFile.{schema_of}
use Rattle.room_store_check_tables.proofs.Findings.{planless}
use Rattle.room_store_check_tables.specs.HeldRooms.{Holds, HoldsRoom, take_fault}
use Rattle.room_store_file.specs.declared.opened_file.OpenFault.{OpenFault}
use Rattle.room_store_file.specs.declared.opened_file.OpenFault.TheVariants as opened
use Rattle.room_store_check_tables.specs.declared.file_faults.FileFault.{FileFault}
use Rattle.room_store_check_tables.specs.declared.file_faults.FileFault.TheVariants.{Memory}
use Rattle.room_store_check_tables.specs.declared.file_faults.FileFault.TheVariants.{NotARoom}
use Rattle.room_store_check_tables.specs.declared.file_faults.FileFault.TheVariants.{Storage}
use Rattle.room_store_file.specs.declared.room_in_tables.Tables.{Tables}
use Rattle.room_store_file.specs.declared.room_in_tables.Tables.TheVariants.{First, FirstUnindexed}
use Rattle.room_store_file.specs.declared.room_in_tables.Tables.TheVariants.{Unindexed, Whole}

-- the last table was made, and then the version recorded: a room of the first version is moved
pub is_moved : (old : Trees) (mid new : State) → AddsLast old mid.now.trees → RaisesVersion mid new
    → IsMoved old new.now.trees
is_moved old mid new adds renews =
    let only = renews.only.tables in
    let rows = adds.rows in
    record {
      rows = (
        only.1.0 (eqb-false _ _ refl) ∙ rows.1.0,
        (
          only.1.1.0 (eqb-false _ _ refl) ∙ rows.1.1.0,
          (
            only.1.1.1.0 (eqb-false _ _ refl) ∙ rows.1.1.1.0,
            (
              only.1.1.1.1.0 (eqb-false _ _ refl) ∙ rows.1.1.1.1.0,
              (
                only.1.1.1.1.1.0 (eqb-false _ _ refl) ∙ rows.1.1.1.1.1.0,
                (
                  only.1.1.1.1.1.1.0 (eqb-false _ _ refl) ∙ rows.1.1.1.1.1.1.0,
                  (
                    only.1.1.1.1.1.1.1.0 (eqb-false _ _ refl) ∙ rows.1.1.1.1.1.1.1.0,
                    (
                      only.1.1.1.1.1.1.1.1.0 (eqb-false _ _ refl) ∙ rows.1.1.1.1.1.1.1.1.0,
                      (
                        only.1.1.1.1.1.1.1.1.1.0 (eqb-false _ _ refl) ∙ rows.1.1.1.1.1.1.1.1.1.0,
                        (
                          only.1.1.1.1.1.1.1.1.1.1.0 (eqb-false _ _ refl) ∙ rows.1.1.1.1.1.1.1.1.1.1.0,
                          (only.1.1.1.1.1.1.1.1.1.1.1.0 (eqb-false _ _ refl) ∙ rows.1.1.1.1.1.1.1.1.1.1.1.0, tt),
                        ),
                      ),
                    ),
                  ),
                ),
              ),
            ),
          ),
        ),
      );
      stands =
          λ config room. (moves old mid new adds renews config room, moved_from old mid new adds renews config room);
    }

-- what is held by some is held by others that stand for the same
holds_more : {P Q : Configuration → Room → Type 0}
    → ((config : Configuration) (room : Room) → P config room → Q config room) → Holds P → Holds Q
holds_more more h = record {
  layout = h.layout;
  terminals = h.terminals;
  room = h.room;
  planned = h.planned;
  stands = more _ _ h.stands;
  formed = h.formed;
  fits = h.fits;
}

pub becomes_holds : (tables : Tables) (old new : Trees) → Becomes tables old new
    → HoldsBy tables old → HoldsRoom new
becomes_holds Whole old new same h = subst HoldsRoom (sym same) h
becomes_holds Unindexed old new rows h = holds_more (rows_kept old new rows) h
becomes_holds First old new moved h = holds_more (λ config room. (moved.stands config room).0) h
becomes_holds FirstUnindexed old new moved h = holds_more (λ config room. (moved.stands config room).0) h

-- so they hold no room where what they become makes no plan
pub planless_by : (tables : Tables) (trees : Trees) → HasNoPlanBy tables trees
    → ¬ HoldsBy tables trees
planless_by tables trees (new, becomes, none) holds =
    planless new (λ all. elim none [ inl other ↦ absurd (other all) | inr no_plan ↦ no_plan ])
    (becomes_holds tables trees new becomes holds)

-- and what the others stand for, the first ones did
keeps_back : (tables : List Table) (old new : Trees) → KeepsRows tables old new
    → KeepsRows tables new old
keeps_back [] old new rows = tt
keeps_back (t ∷ ts) old new rows = (sym rows.0, keeps_back ts old new rows.1)

pub becomes_back : (tables : Tables) (old new : Trees) → Becomes tables old new
    → (config : Configuration) (room : Room) → Stands new config room → StandsBy tables old config room
becomes_back Whole old new same config room h = subst (λ trees. Stands trees config room) same h
becomes_back Unindexed old new rows config room h =
    rows_kept new old (keeps_back room_tables old new rows) config room h
becomes_back First old new moved config room h = (moved.stands config room).1 h
becomes_back FirstUnindexed old new moved config room h = (moved.stands config room).1 h

-- What a commit may leave, a stop could leave before, where nothing lacked.
pub may_become : (tables : Tables) (old : State) (db : Trees)
    → (IsTrue old.is_open → old.may_leave old.committed.trees)
    → (IsTrue old.is_open → old.now ≡ old.committed)
    → IsTrue old.is_open → Becomes tables old.now.trees db
    → old.may_leave db ⊎ MayBecome tables old.now.trees db
may_become Whole old db stays settled is_open same =
    inl (subst old.may_leave (sym (same ∙ (λ i. (settled is_open i).trees))) (stays is_open))
may_become Unindexed old db stays settled is_open b = inr b
may_become First old db stays settled is_open b = inr b
may_become FirstUnindexed old db stays settled is_open b = inr b

-- what a stop leaves is less than was said
pub survives_less : (old new : State) (P Q : Trees → Type 0)
    → ((db : Trees) → P db → old.may_leave db ⊎ Q db) → Survives old new P → Survives old new Q
survives_less old new P Q less s = record {
  clean = s.clean;
  shield = s.shield;
  counts = s.counts;
  limit = s.limit;
  closes = s.closes;
  crash = λ clean db left. elim (s.crash clean db left) [ inl before ↦ inl before | inr p ↦ less db p ];
}

-- ---- what was found, and how it ended

-- what holds of what was found, by what became of the file
pub ok_holds : {T E : Type 0} (r : Result T E) (P Q : T → Type 0) (R : Type 0) → OnOk r R
    → IfOk r P → ((x : T) → R → P x → Q x) → IfOk r Q
ok_holds (Ok x) P Q R became holds by = by x became holds
ok_holds (Err e) P Q R became holds by = tt

pub found_ok : {T E : Type 0} (r found : Result T E) → IfOk r (λ x. found ≡ Ok x)
    → OnOk r (IsOk found)
found_ok (Ok x) found is = subst IsOk (sym is) refl
found_ok (Err e) found is = tt

-- what holds of what was found holds of what is reported, after an end that went well
pub found_holds : {T E : Type 0} (r found : Result T E) (P Q : T → Type 0) (R : Type 0)
    → IfOk r (λ x. found ≡ Ok x) → OnOk r R → IfOk found P → ((x : T) → R → P x → Q x) → IfOk r Q
found_holds (Ok x) found P Q R is ended holds by = by x ended (subst (λ f. IfOk f P) is holds)
found_holds (Err e) found P Q R is ended holds by = tt

-- what holds of the fault that was found
pub refused : {T E : Type 0} (found : Result T E) (e : E) (P : E → Type 0) → found ≡ Err e
    → IfErr found P → P e
refused found e P is h = subst (λ f. IfErr f P) is h

-- what holds of each fault
pub both_errs : {T E : Type 0} (r : Result T E) (P Q R : E → Type 0) → IfErr r P → IfErr r Q
    → ((e : E) → P e → Q e → R e) → IfErr r R
both_errs (Ok x) P Q R p q f = tt
both_errs (Err e) P Q R p q f = f e p q

-- and after it
pub under : {T E : Type 0} (r : Result T E) (A P : Type 0) → (A → OnErr r P) → IfErr r (λ _. A → P)
under (Ok x) A P h = tt
under (Err e) A P h = h

-- whatever the fault is
pub any_fault : {T E : Type 0} (r : Result T E) (P : E → Type 0) → ((e : E) → P e) → IfErr r P
any_fault (Ok x) P p = tt
any_fault (Err e) P p = p e

pub none_opened : {T : Type 0} (r : Result T OpenFault) (fault : Fault)
    → IsErrAnd r (λ why. why ≡ open_fault (take_fault fault))
    → IfErr r (λ e. (e ≢ opened.OtherVersion) × (e ≢ opened.NotARoom))
none_opened (Ok x) fault is = tt
none_opened (Err e) faults.Memory is = (λ old. cc, λ none. cc)
none_opened (Err e) faults.Storage is = (λ old. cc, λ none. cc)

-- a look at the version that failed is reported for its cause
pub hidden : {T : Type 0} (r : Result T OpenFault) (fault : Fault) (P : Type 0)
    → IsErrAnd r (λ why. why ≡ open_fault (take_fault fault)) → IfStorage P fault
    → IfErr r (λ e. e ≡ opened.Storage → P)
hidden (Ok x) fault P is why = tt
hidden (Err e) faults.Memory P is why = λ storage. cc
hidden (Err e) faults.Storage P is why = λ storage. why

-- what the tables lack was not made for the cause that is reported
pub not_made : {T : Type 0} (r : Result T FileFault) (fault : Fault) (P : Fault → Type 0)
    {Q : Type 0} → IsErrAnd r (λ why. why ≡ take_fault fault) → (P faults.Storage → Q) → P fault
    → IfErr r (λ e. e ≡ Storage → Q)
not_made (Ok x) fault P is follows why = tt
not_made (Err e) faults.Memory P is follows why = λ storage. cc
not_made (Err e) faults.Storage P is follows why = λ storage. follows why

-- ---- whole tables, which are looked at

pub looked_takes : (tables : Tables) → tables ≡ Whole → (old new : State)
    → old.now.schema ≡ schema_of tables → (IsTrue old.is_open → old.now ≡ old.committed)
    → Leaves old new → IsTrue new.is_open → Takes tables old new
looked_takes tables is old new has settled left is_open = record {
  was_open = left.was_open is_open;
  settled = record {
    is_open = is_open;
    committed = left.committed_is is_open ∙ sym (settled (left.was_open is_open)) ∙ sym (left.now_is is_open);
  };
  schema = ap (λ (db : Database). db.schema) (left.now_is is_open) ∙ subst (λ t. old.now.schema ≡ schema_of t) is has;
  becomes =
      subst (λ t. Becomes t old.now.trees new.now.trees) (sym is)
      (ap (λ (db : Database). db.trees) (left.now_is is_open));
}

-- tables that lack something are taken in a transaction
pub lacking : {S T : Type 0} (g : Ghosts S) (tables : Tables) → (tables ≢ Whole)
    → (old new : Held S) (r : Result T FileFault)
    → IfErr r (λ e. e ≡ Storage → FailsInside g tables old new ⊎ FailsAtEnd g tables old new)
    → IfErr r (λ e. e ≡ Storage → FailsBy g tables old new)
lacking g Whole not old new r why = absurd (not refl)
lacking g Unindexed not old new r why = why
lacking g First not old new r why = why
lacking g FirstUnindexed not old new r why = why

-- ---- in which versions, and how a fault is reported

-- tables of the first version that hold a room give their version
pub first_is_old : (now : Database) → HasFirstTables now.schema → HoldsFirstRoom now.trees
    → IsRoomOf 1 now
first_is_old now has h =
    let begins : BeginsAsRoom now.schema = elim has
    [ inl is ↦ subst BeginsAsRoom (sym is) (refl, refl) | inr is ↦ subst BeginsAsRoom (sym is) (refl, refl) ] in
    (begins, held_shown 1 h.layout.zone now.trees h.stands.meta)

pub holds_new : (tables : Tables) (trees : Trees) → (tables ≡ Whole) ⊎ (tables ≡ Unindexed)
    → HoldsRoom trees → HoldsBy tables trees
holds_new tables trees (inl is) h = rw is h
holds_new tables trees (inr is) h = rw is h

pub has_tables : (tables : Tables) (schema : Schema) → schema ≡ schema_of tables
    → (tables ≡ Whole) ⊎ (tables ≡ Unindexed) → HasTables schema
has_tables tables schema has (inl is) = inl (has ∙ ap schema_of is)
has_tables tables schema has (inr is) = inr (has ∙ ap schema_of is)

pub holds_first : (tables : Tables) (trees : Trees) → (tables ≡ First) ⊎ (tables ≡ FirstUnindexed)
    → HoldsFirstRoom trees → HoldsBy tables trees
holds_first tables trees (inl is) h = rw is h
holds_first tables trees (inr is) h = rw is h

pub open_reported : (fault : FileFault) → open_fault fault ≡ opened.NotARoom → fault ≡ NotARoom
open_reported NotARoom is = refl
open_reported Memory is = cc
open_reported Storage is = cc

pub storage_reported : (fault : FileFault) → open_fault fault ≡ opened.Storage → fault ≡ Storage
storage_reported NotARoom is = cc
storage_reported Memory is = cc
storage_reported Storage is = refl

-- what recorded the version may be followed by more
pub renewed_on : {S T E : Type 0} (g : Ghosts S) (a b : Held S) (r : Result T E)
    → (IsClean g b → OnOk r (RaisesVersion (state g a) (state g b))) → OnOk r (MayWrite g b)
renewed_on g a b (Ok x) made =
    record { room = λ clean. (made clean).schema; inside = λ clean. (made clean).inside.mode }
renewed_on g a b (Err e) made = tt

-- what may be followed by writes may be after a read
pub may_write_on : {S T E : Type 0} (g : Ghosts S) (a b : Held S) (r : Result T E) → MayWrite g a
    → ReadsInside g a b r → OnOk r (MayWrite g b)
may_write_on g a b (Ok x) may reads = record {
  room =
      λ clean.
      let early : IsClean g a = omega (arith, reads.survives.clean) in
      ap (λ (db : Database). db.schema) (reads.ok clean).0.now_is ∙ may.room early;
  inside =
      λ clean.
      let early : IsClean g a = omega (arith, reads.survives.clean) in
      (reads.ok clean).0.mode ∙ may.inside early;
}
may_write_on g a b (Err e) may reads = tt
