-- Rooms whose texts are the same are the same.
use Rattle.std.proofs.Common.{◌≡◌, ◌++◌, ℕ, List, [], ◌∷◌, drop, length, map, Option, Some, None}
use Rattle.std.proofs.Common.{refl, sym, ap, ◌∙◌}
use Rattle.std.specs.List.{AllByRecursion}
use Rattle.std.specs.Prelude.{slice_index_or}
use Rattle.std.specs.declared.cmp.Ordering.{Ordering}
use Rattle.sqlite.specs.Values.{or_null}
use Rattle.sqlite_value.specs.declared.value.Value.TheVariants.{Text}
use Rattle.sqlite_value.specs.Order.{Row}
use Rattle.room_model.specs.Room.{Room}
use Rattle.room_model.specs.declared.digests.Version.{Version}
use Rattle.room_model.specs.declared.digests.Version.TheVariants.{First, Second}
use Rattle.room_types.specs.declared.fleet.Terminal.{Terminal}
use Rattle.room_types.specs.Codes.{merged_into}
use Rattle.room_tables_schema.specs.TypedRows.{IsFaithful, number_or_null}
use Rattle.room_tables_rows.proofs.PlanLaws.{numbered-injective}
use Rattle.room_tables_rows.proofs.RowLaws.{area_faithful, assignment_faithful, call_faithful}
use Rattle.room_tables_rows.proofs.RowLaws.{division_faithful, incident_faithful, loan_faithful}
use Rattle.room_tables_rows.proofs.RowLaws.{meta_faithful, offer_faithful, point_faithful}
use Rattle.room_tables_rows.proofs.RowLaws.{report_faithful, terminal_faithful, turn_faithful}
use Rattle.room_tables_rows.proofs.RowLaws.{vehicle_faithful}
use Rattle.room_tables_rows.specs.AreaSql.{area_row}
use Rattle.room_tables_rows.specs.AssignmentSql.{assignment_row}
use Rattle.room_tables_rows.specs.CallSql.{call_row}
use Rattle.room_tables_rows.specs.DivisionSql.{division_row}
use Rattle.room_tables_rows.specs.IncidentSql.{incident_row}
use Rattle.room_tables_rows.specs.LoanSql.{loan_row}
use Rattle.room_tables_rows.specs.MetaSql.{meta_row}
use Rattle.room_tables_rows.specs.OfferSql.{offer_row}
use Rattle.room_tables_rows.specs.PointSql.{point_row}
use Rattle.room_tables_rows.specs.ReportSql.{report_row}
use Rattle.room_tables_rows.specs.TerminalSql.{crew_of, terminal_row}
use Rattle.room_tables_rows.specs.TurnSql.{turn_row}
use Rattle.room_tables_rows.specs.VehicleSql.{vehicle_row}
use Rattle.room_tables_rows.specs.RoomsInTables.{numbered}
use Rattle.room_store_file.specs.DigestTexts.{digest_text, table_text, tables_in, tables_of}
use Rattle.room_store_file.proofs.DecodableTexts.{IsStored, each_decodable, table_decodable}

-- ---- no row of a room holds a real number

number_or_none : (o : Option ℕ) → IsStored (number_or_null o)
number_or_none None = tt
number_or_none (Some n) = tt

text_or_none : (o : Option (List ℕ)) → IsStored (or_null Text o)
text_or_none None = tt
text_or_none (Some t) = tt

all_stored : {X : Type 0} (row : X → Row) → ((x : X) → AllByRecursion IsStored (row x))
    → (xs : List X) → AllByRecursion (AllByRecursion IsStored) (map row xs)
all_stored row each [] = tt
all_stored row each (x ∷ xs) = (each x, all_stored row each xs)

rest_stored : (terminals : List Terminal) (room : Room)
    → AllByRecursion (AllByRecursion (AllByRecursion IsStored)) (tables_of terminals room)
rest_stored terminals room = (
  all_stored area_row (λ x. (tt, (tt, (tt, (tt, (tt, (tt, tt))))))) (numbered 1 room.plan),
  (
    all_stored terminal_row (λ t. (tt, (tt, (tt, (text_or_none (crew_of t.who), tt))))) terminals,
    (
      all_stored division_row (λ x. (tt, (tt, tt))) room.divisions,
      (
        all_stored incident_row
            (λ x. (
              tt,
              (
                tt,
                (
                  tt,
                  (
                    tt,
                    (
                      tt,
                      (
                        tt,
                        (
                          tt,
                          (tt, (tt, (number_or_none x.first_order, (tt, (number_or_none (merged_into x.state), tt))))),
                        ),
                      ),
                    ),
                  ),
                ),
              ),
            )) room.incidents,
        (
          all_stored call_row
              (λ x. (tt, (tt, (tt, (tt, (tt, (tt, (tt, (tt, (tt, (tt, (tt, (tt, (tt, (tt, tt))))))))))))))) room.calls,
          (
            all_stored vehicle_row
                (λ x. (tt, (tt, (tt, (tt, (tt, (tt, (tt, (tt, (number_or_none x.post, (tt, (tt, tt))))))))))))
                room.vehicles,
            (
              all_stored turn_row
                  (λ x. (
                    tt,
                    (
                      tt,
                      (
                        tt,
                        (
                          tt,
                          (
                            tt,
                            (
                              tt,
                              (
                                number_or_none x.acknowledged,
                                (
                                  number_or_none x.scene,
                                  (
                                    number_or_none x.left,
                                    (number_or_none x.hospital, (number_or_none x.ended, (tt, tt))),
                                  ),
                                ),
                              ),
                            ),
                          ),
                        ),
                      ),
                    ),
                  )) room.turns,
              (
                all_stored assignment_row (λ x. (tt, (tt, (tt, (tt, (tt, (tt, (tt, tt)))))))) room.assignments,
                (
                  all_stored point_row (λ x. (tt, (tt, (tt, (tt, (tt, tt)))))) room.points,
                  (
                    all_stored loan_row (λ x. (tt, (tt, (tt, (tt, (tt, (tt, tt))))))) room.loans,
                    (
                      all_stored report_row (λ x. (tt, (tt, (tt, (tt, (tt, (tt, (tt, (tt, (tt, (tt, (tt, tt))))))))))))
                          room.reports,
                      (
                        all_stored offer_row (λ x. (tt, (tt, (tt, (tt, (tt, tt)))))) room.offers,
                        tt,
                      ),
                    ),
                  ),
                ),
              ),
            ),
          ),
        ),
      ),
    ),
  ),
)

tables_stored : (version : Version) (zone : List ℕ) (terminals : List Terminal) (room : Room)
    → AllByRecursion (AllByRecursion (AllByRecursion IsStored))
    (tables_in version zone terminals room)
tables_stored First zone terminals room = rest_stored terminals room
tables_stored Second zone terminals room =
    (all_stored meta_row (λ z. (tt, (tt, (tt, tt)))) (zone ∷ []), rest_stored terminals room)

same_number : (version : Version) (zone elsewhere : List ℕ) (terminals others : List Terminal)
    (room another : Room)
    → length (tables_in version zone terminals room)
    ≡ length (tables_in version elsewhere others another)
same_number First zone elsewhere terminals others room another = refl
same_number Second zone elsewhere terminals others room another = refl

-- ---- rows that are the same

-- lists of rows are the same where they are written the same
written : {X K : Type 0} {order : K → K → Ordering} {key : X → K} {row : X → Row} {places : List ℕ}
    → IsFaithful order key row places → (xs ys : List X) → map row xs ≡ map row ys → xs ≡ ys
written is [] [] e = refl
written is [] (y ∷ ys) e = absurd (cc)
written is (x ∷ xs) [] e = absurd (cc)
written {row = row} is (x ∷ xs) (y ∷ ys) e =
    let head : row x ≡ row y = cc in
    let tail : map row xs ≡ map row ys = cc in
    let first = sym (is.read_back x) ∙ ap is.read head ∙ is.read_back y in
    λ i. first i ∷ written is xs ys tail i

module _ (zone elsewhere : List ℕ) (terminals others : List Terminal) (room another : Room) where
  -- tables of which the digest of a version is
  same_rest : (version : Version)
      → tables_in version zone terminals room ≡ tables_in version elsewhere others another
      → tables_of terminals room ≡ tables_of others another
  same_rest First e = e
  same_rest Second e = ap (drop 1) e

  same_zone : (version : Version)
      → tables_in version zone terminals room ≡ tables_in version elsewhere others another
      → version ≡ Second → zone ≡ elsewhere
  same_zone First e is = absurd (cc is)
  same_zone Second e is =
      let rows : map meta_row (zone ∷ [])
      ≡ map meta_row (elsewhere ∷ []) = ap (λ tables. slice_index_or tables 0 []) e in
      let all : zone ∷ [] ≡ elsewhere ∷ [] = written meta_faithful (zone ∷ []) (elsewhere ∷ []) rows in
      cc

  -- and the rows in them
  module _ (e : tables_of terminals room ≡ tables_of others another) where
    at : (k : ℕ) → slice_index_or (tables_of terminals room) k []
        ≡ slice_index_or (tables_of others another) k []
    at k = ap (λ tables. slice_index_or tables k []) e

    same_terminals : terminals ≡ others
    same_terminals = written terminal_faithful terminals others (at 1)

    same_room : room ≡ another
    same_room i = record {
      plan =
          numbered-injective 1 room.plan another.plan
          (written area_faithful (numbered 1 room.plan) (numbered 1 another.plan) (at 0)) i;
      divisions = written division_faithful room.divisions another.divisions (at 2) i;
      incidents = written incident_faithful room.incidents another.incidents (at 3) i;
      calls = written call_faithful room.calls another.calls (at 4) i;
      vehicles = written vehicle_faithful room.vehicles another.vehicles (at 5) i;
      turns = written turn_faithful room.turns another.turns (at 6) i;
      assignments = written assignment_faithful room.assignments another.assignments (at 7) i;
      points = written point_faithful room.points another.points (at 8) i;
      loans = written loan_faithful room.loans another.loans (at 9) i;
      offers = written offer_faithful room.offers another.offers (at 11) i;
      reports = written report_faithful room.reports another.reports (at 10) i;
    }

-- ---- the texts of two rooms

module _ (version : Version) (zone elsewhere : List ℕ) (terminals others : List Terminal)
    (room another : Room)
    (e : digest_text version zone terminals room ≡ digest_text version elsewhere others another) where
  same_tables : tables_in version zone terminals room ≡ tables_in version elsewhere others another
  unfolding digest_text
  same_tables = (each_decodable (AllByRecursion (AllByRecursion IsStored)) table_text table_decodable
      (tables_in version zone terminals room) (tables_in version elsewhere others another) [] []
      (tables_stored version zone terminals room) (tables_stored version elsewhere others another)
      (same_number version zone elsewhere terminals others room another) (ap (λ l. l ++ []) e)).0

  pub text_shows : (terminals ≡ others) × (room ≡ another) × (version ≡ Second → zone ≡ elsewhere)
  text_shows =
      let rest = same_rest zone elsewhere terminals others room another version same_tables in (
        same_terminals zone elsewhere terminals others room another rest,
        same_room zone elsewhere terminals others room another rest,
        same_zone zone elsewhere terminals others room another version same_tables,
      )
