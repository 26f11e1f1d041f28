-- The rowids of all tables, and whether they rise from row to row.
use Rattle.std.proofs.Common.{◌≡◌, ◌++◌, ℕ, ℤ, List, [], ◌∷◌, map, Option, Some, None, Less, Bool}
use Rattle.std.proofs.Common.{true, false, IsTrue, refl, sym, subst, ◌∙◌, true≢false, arith}
use Rattle.std.proofs.lemmas.Int.{ints}
use Rattle.std.specs.Option.{option_partial_cmp}
use Rattle.std.specs.Ordering.{int_cmp, partial_le}
use Rattle.std.specs.Prelude.{◌↔◌, ⊤}
use Rattle.std.specs.List.{AllByRecursion}
use Rattle.sqlite_value.specs.declared.value.Value.{Value}
use Rattle.sqlite_value.specs.declared.value.Value.TheVariants.{Null, Int, Real, Text, Blob}
use Rattle.sqlite_value.specs.Order.{Row, value_cmp}
use Rattle.sqlite_value.proofs.OrderLemmas.{value_cmp-Int, value_cmp-Null, value_cmp_total}
use Rattle.sqlite_schema.specs.declared.schema.Table.{Table}
use Rattle.sqlite_trees.specs.Tree.{Trees, rowid}
use Rattle.sqlite_trees.specs.View.{is_int}
use Rattle.sqlite_trees.proofs.ListLemmas.{all_weaker}
use Rattle.sqlite_tied.specs.Compute.{everything}
use Rattle.sqlite_schema.specs.declared.command.Command.TheVariants.{Select}
use Rattle.sqlite.specs.Given.{IsPlain}
use Rattle.sqlite.specs.Listing.{understood, reads_listing}
use Rattle.sqlite.proofs.Callers.{command_of}
use Rattle.room_tables_schema.specs.Statements.{table_query}
use Rattle.sqlite.specs.Values.{or_null}
use Rattle.room_tables_schema.specs.TableTrees.{AreNumbered, RowidsRise}
use Rattle.room_tables_schema.specs.Schema.{room_schema, room_tables}
use Rattle.room_tables.specs.Rowids.{SelectsRowids, SelectEach, AreAllNumbered, ShowsRise}
use Rattle.room_tables.specs.Rowids.{integer_in, last_rowid}
use Rattle.room_tables.specs.declared.rowids.TheConstants.{ROWIDS}

-- ---- from row to row

-- each rowid is an integer above the one before it, and the first is above this value
abbrev pub RiseFrom : Value → List Row → Type 0
RiseFrom last [] = ⊤
RiseFrom last (r ∷ rows) = (is_int (rowid r) ≡ true) × (value_cmp last (rowid r) ≡ Less) × RiseFrom (rowid r) rows

above_all : (last : Value) (rows : List Row) → RiseFrom last rows
    → AllByRecursion (λ r. value_cmp last (rowid r) ≡ Less) rows
above_all last [] h = tt
above_all last (r ∷ rows) h = (
  h.1,
  all_weaker _ (λ s. value_cmp last (rowid s) ≡ Less) (λ s. value_cmp_total.trans last (rowid r) (rowid s) h.1) rows
      (above_all (rowid r) rows h.2),
)

rises : (last : Value) (rows : List Row) → RiseFrom last rows → RowidsRise rows
rises last [] h = (tt, tt)
rises last (r ∷ rows) h = let rest = rises (rowid r) rows h.2 in ((above_all (rowid r) rows h.2, rest.0), (h.0, rest.1))

rise_on : (last : Value) (rows : List Row)
    → AllByRecursion (λ r. value_cmp last (rowid r) ≡ Less) rows → RowidsRise rows
    → RiseFrom last rows
rise_on last [] above h = tt
rise_on last (r ∷ rows) above h = (h.1.0, above.0, rise_on (rowid r) rows h.0.0 (h.0.1, h.1.1))

above_Null : (v : Value) → is_int v ≡ true → value_cmp Null v ≡ Less
above_Null Null h = absurd (true≢false (sym h))
above_Null (Int n) h = value_cmp-Null (Int n)
above_Null (Real x) h = absurd (true≢false (sym h))
above_Null (Text t) h = absurd (true≢false (sym h))
above_Null (Blob b) h = absurd (true≢false (sym h))

-- NULL is below all integers
pub rise_from_Null : (rows : List Row) → RiseFrom Null rows ↔ RowidsRise rows
rise_from_Null rows = (
  rises Null rows,
  λ h. rise_on Null rows (all_weaker _ (λ r. value_cmp Null (rowid r) ≡ Less) (λ r. above_Null (rowid r)) rows h.1) h,
)

-- the comparison of what two values are as integers, where none is below all
abbrev pub is_at_most : Option ℤ → Option ℤ → Bool
is_at_most = partial_le (option_partial_cmp (λ m n. Some (int_cmp m n)))

-- a rowid that is not at most the last is an integer above it
above : (last : Option ℤ) (v : Value) → is_at_most (integer_in v) last ≡ false
    → (is_int v ≡ true) × (value_cmp (or_null Int last) v ≡ Less) × (or_null Int (integer_in v) ≡ v)
above None (Int n) h = (refl, value_cmp-Null (Int n), refl)
above (Some m) (Int n) h =
    (refl, (let below : int_cmp m n ≡ Less = grind (arith, ints) in value_cmp-Int m n ∙ below), refl)
above None v h = absurd (true≢false h)
above (Some m) v h = absurd (true≢false h)

not_above : (last : Option ℤ) (v : Value) → is_at_most (integer_in v) last ≡ true → is_int v ≡ true
    → value_cmp (or_null Int last) v ≡ Less → ⊥
not_above None (Int n) h int up = absurd (true≢false (sym h))
not_above (Some m) (Int n) h int up =
    let below : int_cmp m n ≡ Less = sym (value_cmp-Int m n) ∙ up in grind (arith, ints)
not_above last v h int up = absurd (true≢false (sym int))

-- ---- one rowid more

end_more : (v : Value) (rows : List Row) (r : Row) → last_rowid v (rows ++ r ∷ []) ≡ rowid r
end_more v [] r = refl
end_more v (x ∷ rows) r = end_more (rowid x) rows r

rise_more : (v : Value) (rows : List Row) (r : Row) → RiseFrom v rows → is_int (rowid r) ≡ true
    → value_cmp (last_rowid v rows) (rowid r) ≡ Less → RiseFrom v (rows ++ r ∷ [])
rise_more v [] r h int up = (int, up, tt)
rise_more v (x ∷ rows) r h int up = (h.0, h.1, rise_more (rowid x) rows r h.2 int up)

rise_less : (v : Value) (rows : List Row) (r : Row) → RiseFrom v (rows ++ r ∷ [])
    → RiseFrom v rows × (is_int (rowid r) ≡ true) × (value_cmp (last_rowid v rows) (rowid r) ≡ Less)
rise_less v [] r h = (tt, h.0, h.1)
rise_less v (x ∷ rows) r h = let rest = rise_less (rowid x) rows r h.2 in ((h.0, h.1, rest.0), rest.1, rest.2)

module _ (shown : List Row) (r : Row) where
  -- a rowid that is not at most the last goes on rising
  pub goes_on : (rise : Bool) (last : Option ℤ) → ShowsRise shown rise last
      → is_at_most (integer_in (rowid r)) last ≡ false
      → ShowsRise (shown ++ r ∷ []) rise (integer_in (rowid r))
  goes_on true last h up =
      let is = above last (rowid r) up in
      let before = (rise_from_Null shown).1 h.0 in
      let rest = rise_more Null shown r before is.0 (subst (λ v. value_cmp v (rowid r) ≡ Less) h.1 is.1) in
      ((rise_from_Null (shown ++ r ∷ [])).0 rest, is.2 ∙ sym (end_more Null shown r))
  goes_on false last h up =
      λ all. h ((rise_from_Null shown).0 (rise_less Null shown r ((rise_from_Null (shown ++ r ∷ [])).1 all)).0)

  -- and one that is ends it
  pub ends : (rise : Bool) (last : Option ℤ) → ShowsRise shown rise last
      → is_at_most (integer_in (rowid r)) last ≡ true → RowidsRise (shown ++ r ∷ []) → ⊥
  ends true last h down all =
      let rest = rise_less Null shown r ((rise_from_Null (shown ++ r ∷ [])).1 all) in
      not_above last (rowid r) down rest.1 (subst (λ v. value_cmp v (rowid r) ≡ Less) (sym h.1) rest.2)
  ends false last h down all =
      h ((rise_from_Null shown).0 (rise_less Null shown r ((rise_from_Null (shown ++ r ∷ [])).1 all)).0)

-- whether all rise
pub rise_is : (shown : List Row) (rise : Bool) (last : Option ℤ) → ShowsRise shown rise last
    → IsTrue rise ↔ RowidsRise shown
rise_is shown true last h = (λ yes. h.0, λ all. refl)
rise_is shown false last h = (λ yes. absurd (true≢false (sym yes)), λ all. absurd (h all))

-- ---- from table to table

-- a text that is understood as a selection of rowids, all of which computes
computed : {text : List ℕ} {tree : ℕ} {names : List (List ℕ)}
    → command_of (understood room_schema text)
    ≡ Select (record { lets = []; body = table_query tree (0 ∷ []) (0 ∷ []) [] }) names
    → IsPlain (understood room_schema text) → reads_listing room_schema text ≡ false
    → SelectsRowids text tree
computed {names = names} command plain unlisted =
    record { names = names; command = command; plain = plain; unlisted = unlisted }

pub select_each : SelectEach (map (λ text. text.now) ROWIDS) room_tables
unfolding understood everything
select_each = (
  computed refl (refl, refl) refl,
  (
    computed refl (refl, refl) refl,
    (
      computed refl (refl, refl) refl,
      (
        computed refl (refl, refl) refl,
        (
          computed refl (refl, refl) refl,
          (
            computed refl (refl, refl) refl,
            (
              computed refl (refl, refl) refl,
              (
                computed refl (refl, refl) refl,
                (
                  computed refl (refl, refl) refl,
                  (
                    computed refl (refl, refl) refl,
                    (
                      computed refl (refl, refl) refl,
                      (computed refl (refl, refl) refl, (computed refl (refl, refl) refl, tt)),
                    ),
                  ),
                ),
              ),
            ),
          ),
        ),
      ),
    ),
  ),
)

-- After some tables that are numbered: the texts that are left select the rowids of the tables that
-- are left, on which the answer hangs.
abbrev pub Left : Trees → List (List ℕ) → Type 0
Left trees texts =
    (tables : List Table) × SelectEach texts tables
    × (AllByRecursion (λ table. AreNumbered (trees table.tree)) tables ↔ AreAllNumbered trees)

pub none_left : (trees : Trees) → Left trees [] → AreAllNumbered trees
none_left trees ([], selects, answer) = answer.0 tt
none_left trees (table ∷ tables, selects, answer) = absurd selects

pub next_selects : (trees : Trees) (text : List ℕ) (texts : List (List ℕ))
    → Left trees (text ∷ texts) → (tree : ℕ) × SelectsRowids text tree
next_selects trees text texts ([], selects, answer) = absurd selects
next_selects trees text texts (table ∷ tables, selects, answer) = (table.tree, selects.0)

module _ (trees : Trees) (text : List ℕ) (texts : List (List ℕ)) (is_so : Bool)
    (rise_is : (tree : ℕ) → SelectsRowids text tree → IsTrue is_so ↔ AreNumbered (trees tree)) where
  -- a table that is numbered leaves the answer to the tables after it
  pub less_left : Left trees (text ∷ texts) → IsTrue is_so → Left trees texts
  less_left ([], selects, answer) numbered = absurd selects
  less_left (table ∷ tables, selects, answer) numbered =
      (tables, selects.1, (λ h. answer.0 ((rise_is table.tree selects.0).0 numbered, h), λ h. (answer.1 h).1))

  -- and any other table answers it
  pub one_numbered : Left trees (text ∷ texts) → AreAllNumbered trees → IsTrue is_so
  one_numbered ([], selects, answer) h = absurd selects
  one_numbered (table ∷ tables, selects, answer) h = (rise_is table.tree selects.0).1 (answer.1 h).0
