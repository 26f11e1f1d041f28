-- The incidents of two rooms, in the order of their numbers.
use Rattle.std.proofs.Common.{add-one, ap, drop, drop-cons, get_or, length, map, refl, subst, suc}
use Rattle.std.proofs.Common.{sym, ℕ, ℤ, ◌+◌, ◌<◌, ◌≤◌, ◌∙◌}
use Rattle.std.proofs.lemmas.List.{drop_all}
use Rattle.std.proofs.lemmas.Map.Lookups.{CmpEqualImpliesEq}
use Rattle.std.specs.Cmp.{IsTotalOrder}
use Rattle.std.specs.List.{list_all}
use Rattle.std.specs.Option.{option_or}
use Rattle.std.specs.Ordering.{is_eq, match_ordering}
use Rattle.std.specs.Prelude.{Bool, List, Some, [], cond, false, filter, true, ◌&&◌, ◌∷◌, ◌≡◌}
use Rattle.std.specs.declared.cmp.Ordering.{Ordering}
use Rattle.std.specs.declared.cmp.Ordering.TheVariants.{Equal, Greater, Less}
use Rattle.room_types.proofs.KeyedLaws.{keyed_put, row_below, row_put}
use Rattle.room_types.specs.KeyedRows.{IsBelowAll, IsKeyed, put_row, row_at}
use Rattle.room_types.specs.Keys.{incident_key, pair_cmp}
use Rattle.room_types.specs.KeyLemmas.{exact_pair, pairs_total}
use Rattle.room_types.specs.declared.tables.Incident.{Incident}
use Rattle.room_model.proofs.Tests.{is_equal}
use Rattle.dispatch_room_tasks.proofs.PutRows.{put_each}
use Rattle.room_model.specs.RoomSlices.{room_of}
use Rattle.room_store_check_rows.specs.declared.summaries.Summary.{Summary}
use Rattle.room_store_check_tables.specs.HeldRooms.{HoldsRoom}
use Rattle.room_store_check_tables.specs.declared.whole_file.ReadFile.{ReadFile}
use Rattle.room_store_file.specs.ExaminedFile.{HoldsAll}
use Rattle.sqlite_trees.specs.Tree.{Trees}
use Rattle.room_types.specs.declared.answers.Answer.TheVariants as answer
use Rattle.room_types.specs.declared.answers.Times.{Times}
use Rattle.room_model.specs.DayTimes.{show_times, times_line}
use Rattle.room_model.specs.Decisions.{Verdict, answer_of, show}
use Rattle.room_model.specs.Queries.{incidents_opened}
use Rattle.room_model.specs.Room.{Room}
use Rattle.dispatch_room_csv.specs.DayReport.{report_of}
use Rattle.dispatch_room_archive.specs.TimesReport.{report_in}
use Rattle.dispatch_room_archive.proofs.DayReportLemmas.{times_shown}
use Rattle.dispatch_room_archive.specs.JoinedReports.{AreOfBoth}

module _ {R K : Type 0} (cmp : K → K → Ordering) (key : R → K) where
  -- ---- all pass
  both_true : (a b : Bool) → a ≡ true → b ≡ true → a && b ≡ true
  both_true a b e f = rw e f

  first_true : (a b : Bool) → a && b ≡ true → a ≡ true
  first_true true b e = refl
  first_true false b e = e

  second_true : (a b : Bool) → a && b ≡ true → b ≡ true
  second_true true b e = e
  second_true false b e = cc

  all_put : (p : R → Bool) (xs : List R) (r : R) → p r ≡ true → list_all p xs ≡ true
      → list_all p (put_row cmp key xs r) ≡ true
  all_put p [] r e h = both_true (p r) true e refl
  all_put p (x ∷ xs) r e h =
      (elim (cmp (key r) (key
      x)) as (λ (o : Ordering). list_all p (match_ordering o (r ∷ x ∷ xs) (r ∷ xs) (x ∷ put_row cmp key xs r)) ≡ true) [
        | Less ↦ both_true (p r) _ e h
        | Equal ↦ both_true (p r) _ e (second_true (p x) _ h)
        | Greater ↦ both_true (p x) _ (first_true (p x) _ h) (all_put p xs r e (second_true (p x) _ h))
      ])

  pub all_each : (p : R → Bool) (ys xs : List R) → list_all p ys ≡ true → list_all p xs ≡ true
      → list_all p (put_each cmp key ys xs) ≡ true
  all_each p ys [] h g = h
  all_each p ys (x ∷ xs) h g =
      all_each p (put_row cmp key ys x) xs (all_put p ys x (first_true (p x) _ g) h) (second_true (p x) _ g)

  pub all_passing : (p : R → Bool) (xs : List R) → list_all p (filter p xs) ≡ true
  all_passing p [] = refl
  all_passing p (x ∷ xs) =
      (elim (p x) as (λ (b : Bool). p x ≡ b → list_all p (cond b (x ∷ filter p xs) (filter p xs)) ≡ true) [
        | true ↦ λ e. both_true (p x) _ e (all_passing p xs)
        | false ↦ λ e. all_passing p xs
      ]) refl

  module _ (total : IsTotalOrder cmp) (exact : CmpEqualImpliesEq cmp) where
    -- ---- the rows then
    keyed_each : (ys xs : List R) → IsKeyed cmp key ys → IsKeyed cmp key (put_each cmp key ys xs)
    keyed_each ys [] h = h
    keyed_each ys (x ∷ xs) h = keyed_each (put_row cmp key ys x) xs (keyed_put cmp key total ys x h)

    each_at : (ys xs : List R) (k : K) → IsKeyed cmp key xs
        → row_at cmp key (put_each cmp key ys xs) k ≡ option_or (row_at cmp key xs k) (row_at cmp key ys k)
    each_at ys [] k h = refl
    each_at ys (x ∷ xs) k h =
        each_at (put_row cmp key ys x) xs k h.1
        ∙ ap (option_or (row_at cmp key xs k)) (row_put cmp key total ys x k)
        ∙ (elim (is_eq (cmp k (key x))) as (λ (b : Bool).
        is_eq (cmp k (key x)) ≡ b
        → option_or (row_at cmp key xs k) (cond b (Some x) (row_at cmp key ys k))
        ≡ option_or (cond b (Some x) (row_at cmp key xs k)) (row_at cmp key ys k)) [
          | true ↦
              λ e.
              ap (λ o. option_or o (Some x)) (row_below cmp key total xs k
              (subst (λ j. IsBelowAll cmp key j xs) (sym (exact k (key x) (is_equal _ e))) h.0))
          | false ↦ λ e. refl
        ]) refl

-- the row at a place, and what is left after it
pub next_row : {R : Type 0} (xs items : List R) (i : ℕ) (x : R) → items ≡ xs → i < length items
    → x ≡ get_or items i x → drop i xs ≡ x ∷ drop (i + 1) xs
next_row xs items i x same inside item =
    let here : x ≡ get_or xs i x = item ∙ ap (λ ys. get_or ys i x) same in
    let within : i < length xs = subst (λ ys. i < length ys) same inside in
    drop-cons xs i x within ∙ (ap (λ y. y ∷ drop (suc i) xs) (sym here) ∙ ap (λ n. x ∷ drop n xs) (sym (add-one i)))

pub none_left : {R : Type 0} (xs items : List R) (i : ℕ) → items ≡ xs → length items ≤ i → drop i xs ≡ []
none_left xs items i same past = subst (λ ys. drop i ys ≡ []) same (drop_all i items past)

pub of_both : (newer older both : List Incident) → IsKeyed pair_cmp incident_key newer
    → IsKeyed pair_cmp incident_key older
    → both ≡ put_each pair_cmp incident_key older newer → AreOfBoth newer older both
of_both newer older both h g same = subst (AreOfBoth newer older) (sym same) (record {
  keyed = keyed_each pair_cmp incident_key pairs_total exact_pair older newer g;
  rows = λ k. each_at pair_cmp incident_key pairs_total exact_pair older newer k h;
})

-- the room for which the tables stand that were read
abbrev pub held_room : (trees : Trees) (whole : ReadFile) (summary : Summary) → HoldsAll trees whole summary
    → HoldsRoom trees
held_room trees whole summary holds = record {
  layout = whole.config.plan;
  terminals = whole.config.terminals.items;
  room = room_of whole.config.plan.areas whole.rows;
  planned = refl;
  stands = holds.stands;
  formed = holds.amount.0;
  fits = holds.amount.1;
}

-- the report of what is shown of a day
pub report_shown : (division : ℕ) (from to : ℤ) (room : Room) (times : Times)
    → show (answer.Times times) ≡ show_times division from to room
    → report_of times.lines ≡ report_of (map times_line (incidents_opened division from to room))
report_shown division from to room times same =
    ap (λ (v : Verdict). report_in (answer_of v)) same ∙ times_shown division from to room
