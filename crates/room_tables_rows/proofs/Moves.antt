-- A room of the first version that becomes one of this: what the tables stood for, they stand for.
use Rattle.std.proofs.Common.{List, [], refl, subst, sym, ℕ, ◌∙◌, ◌∷◌, ◌≡◌}
use Rattle.std.proofs.lemmas.Bool.{eqb-false}
use Rattle.sqlite.specs.Effect.{Database}
use Rattle.sqlite.specs.State.{State}
use Rattle.sqlite_trees.specs.Tree.{Trees}
use Rattle.room_model.specs.Room.{Room}
use Rattle.room_tables_schema.proofs.Standing.{holds_none, holds_still}
use Rattle.room_tables_schema.proofs.TypedTables.{stands_for_one}
use Rattle.room_tables_schema.specs.Outcomes.{Only}
use Rattle.room_tables_schema.specs.Definitions.{AddsLast}
use Rattle.room_tables_schema.specs.Schema.{meta_table, room_schema}
use Rattle.room_tables_rows.proofs.RowLaws.{offer_faithful, version_faithful}
use Rattle.room_tables_rows.specs.MetaSql.{meta_row, version_row}
use Rattle.room_tables_rows.specs.RoomsInTables.{Configuration, Stands, StandsFor, StandsInFirst}
use Rattle.room_tables_rows.specs.Writes.{RaisesVersion}

-- a version's row gives one zone
pub one_zone : (version : ℕ) (trees : Trees) (zone other : List ℕ)
    → StandsFor trees meta_table (version_row version) (zone ∷ [])
    → StandsFor trees meta_table (version_row version) (other ∷ []) → zone ≡ other
one_zone version trees zone other h k =
    let listed : zone ∷ [] ≡ other ∷ [] = (stands_for_one _ _ _ _ _ _ _ _ (version_faithful version) h k).0 in cc

-- tables of the first version stand for a room without offers
pub no_offers : (trees : Trees) (config : Configuration) (room : Room) → StandsInFirst trees config room
    → room.offers ≡ []
no_offers trees config room h = (stands_for_one _ _ _ _ _ _ _ [] offer_faithful h.offers (holds_none _ _ [] refl)).0

module _ (old : Trees) (mid new : State) (adds : AddsLast old mid.now.trees)
    (renews : RaisesVersion mid new) (config : Configuration) (room : Room) where
  pub moves : StandsInFirst old config room → Stands new.now.trees config room
  moves h =
      let only = renews.only.tables in
      let rows = adds.rows in
      let was = holds_still _ _ _ _ _ rows.0 h.meta in
      let stood = subst (λ zone. StandsFor new.now.trees meta_table meta_row (zone ∷ []))
      (one_zone 1 mid.now.trees renews.zone config.zone renews.was was) renews.is in
      record {
        meta = stood;
        areas = holds_still _ _ _ _ _ (only.1.0 (eqb-false _ _ refl) ∙ rows.1.0) h.areas;
        terminals = holds_still _ _ _ _ _ (only.1.1.0 (eqb-false _ _ refl) ∙ rows.1.1.0) h.terminals;
        divisions = holds_still _ _ _ _ _ (only.1.1.1.0 (eqb-false _ _ refl) ∙ rows.1.1.1.0) h.divisions;
        incidents = holds_still _ _ _ _ _ (only.1.1.1.1.0 (eqb-false _ _ refl) ∙ rows.1.1.1.1.0) h.incidents;
        calls = holds_still _ _ _ _ _ (only.1.1.1.1.1.0 (eqb-false _ _ refl) ∙ rows.1.1.1.1.1.0) h.calls;
        vehicles = holds_still _ _ _ _ _ (only.1.1.1.1.1.1.0 (eqb-false _ _ refl) ∙ rows.1.1.1.1.1.1.0) h.vehicles;
        turns = holds_still _ _ _ _ _ (only.1.1.1.1.1.1.1.0 (eqb-false _ _ refl) ∙ rows.1.1.1.1.1.1.1.0) h.turns;
        assignments =
            holds_still _ _ _ _ _ (only.1.1.1.1.1.1.1.1.0 (eqb-false _ _ refl) ∙ rows.1.1.1.1.1.1.1.1.0) h.assignments;
        points =
            holds_still _ _ _ _ _ (only.1.1.1.1.1.1.1.1.1.0 (eqb-false _ _ refl) ∙ rows.1.1.1.1.1.1.1.1.1.0) h.points;
        loans =
            holds_still _ _ _ _ _ (only.1.1.1.1.1.1.1.1.1.1.0 (eqb-false _ _ refl) ∙ rows.1.1.1.1.1.1.1.1.1.1.0)
            h.loans;
        reports =
            holds_still _ _ _ _ _ (only.1.1.1.1.1.1.1.1.1.1.1.0 (eqb-false _ _ refl) ∙ rows.1.1.1.1.1.1.1.1.1.1.1.0)
            h.reports;
        offers = holds_still _ _ [] _ _ (only.1.1.1.1.1.1.1.1.1.1.1.1.0 (eqb-false _ _ refl) ∙ adds.blank) h.offers;
      }

  pub moved_from : Stands new.now.trees config room → StandsInFirst old config room
  moved_from h =
      let only = renews.only.tables in
      let rows = adds.rows in
      let was = holds_still _ _ _ _ _ (sym rows.0) renews.was in
      let stood = subst (λ zone. StandsFor old meta_table (version_row 1) (zone ∷ []))
      (one_zone 2 new.now.trees renews.zone config.zone renews.is h.meta) was in
      record {
        meta = stood;
        areas = holds_still _ _ _ _ _ (sym (only.1.0 (eqb-false _ _ refl) ∙ rows.1.0)) h.areas;
        terminals = holds_still _ _ _ _ _ (sym (only.1.1.0 (eqb-false _ _ refl) ∙ rows.1.1.0)) h.terminals;
        divisions = holds_still _ _ _ _ _ (sym (only.1.1.1.0 (eqb-false _ _ refl) ∙ rows.1.1.1.0)) h.divisions;
        incidents = holds_still _ _ _ _ _ (sym (only.1.1.1.1.0 (eqb-false _ _ refl) ∙ rows.1.1.1.1.0)) h.incidents;
        calls = holds_still _ _ _ _ _ (sym (only.1.1.1.1.1.0 (eqb-false _ _ refl) ∙ rows.1.1.1.1.1.0)) h.calls;
        vehicles =
            holds_still _ _ _ _ _ (sym (only.1.1.1.1.1.1.0 (eqb-false _ _ refl) ∙ rows.1.1.1.1.1.1.0)) h.vehicles;
        turns = holds_still _ _ _ _ _ (sym (only.1.1.1.1.1.1.1.0 (eqb-false _ _ refl) ∙ rows.1.1.1.1.1.1.1.0)) h.turns;
        assignments =
            holds_still _ _ _ _ _ (sym (only.1.1.1.1.1.1.1.1.0 (eqb-false _ _ refl) ∙ rows.1.1.1.1.1.1.1.1.0))
            h.assignments;
        points =
            holds_still _ _ _ _ _ (sym (only.1.1.1.1.1.1.1.1.1.0 (eqb-false _ _ refl) ∙ rows.1.1.1.1.1.1.1.1.1.0))
            h.points;
        loans =
            holds_still _ _ _ _ _ (sym (only.1.1.1.1.1.1.1.1.1.1.0 (eqb-false _ _ refl) ∙ rows.1.1.1.1.1.1.1.1.1.1.0))
            h.loans;
        reports =
            holds_still _ _ _ _ _
            (sym (only.1.1.1.1.1.1.1.1.1.1.1.0 (eqb-false _ _ refl) ∙ rows.1.1.1.1.1.1.1.1.1.1.1.0)) h.reports;
        offers =
            holds_still _ _ _ [] _ (sym (only.1.1.1.1.1.1.1.1.1.1.1.1.0 (eqb-false _ _ refl) ∙ adds.blank)) h.offers;
      }
