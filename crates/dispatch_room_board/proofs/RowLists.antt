-- Lemmas on lists of rows.
use Rattle.std.proofs.Common.{◌≡◌, ◌∙◌, arith, sym, ℕ, zero, suc, Option, None, Some, ◌+◌, ◌<◌}
use Rattle.std.proofs.Common.{List, [], ◌∷◌, ◌++◌, length, take, get_or}
use Rattle.std.proofs.lemmas.List.{take_more}
use Rattle.std.proofs.lemmas.Option.{same_Some}
use Rattle.serde_json.specs.Data.{Data}
use Rattle.serde_json.specs.Find.{as_array, get}
use Rattle.serde_json.specs.declared.value.Value.{Value}
use Rattle.serde_json.specs.View.{view, items_view}
use Rattle.dispatch_room_board.specs.AnswerRows.{AreRows, IsList}
use Rattle.dispatch_room_board.specs.Members.{HasMember, IsRead}

more_at_end : {T : Type 0} (says : Data → T → Type 0) (vs : List Value) (rows : List T) (v : Value)
    (row : T)
    → AreRows says (items_view vs) rows → says (view v) row
    → AreRows says (items_view (vs ++ v ∷ [])) (rows ++ row ∷ [])
more_at_end says [] [] v row are is = (is, tt)
more_at_end says [] (r ∷ rows) v row are is = absurd are
more_at_end says (w ∷ vs) [] v row are is = absurd are
more_at_end says (w ∷ vs) (r ∷ rows) v row are is = (are.0, more_at_end says vs rows v row are.1 is)

pub rows_more : {T : Type 0} (says : Data → T → Type 0) (vs : List Value) (rows : List T)
    (v : Value) (row : T) (i : ℕ) → i < length vs → v ≡ get_or vs i v
    → AreRows says (items_view (take i vs)) rows → says (view v) row
    → AreRows says (items_view (take (i + 1) vs)) (rows ++ row ∷ [])
rows_more says vs rows v row i below here are is =
    rw (take_more vs i v below, ← here) (more_at_end says (take i vs) rows v row are is)

-- a value that says no row is in no list of rows
pub not_rows : {T : Type 0} (says : Data → T → Type 0) (vs : List Value) (v : Value) (i : ℕ)
    → i < length vs → v ≡ get_or vs i v → IsRead (says (view v)) None
    → (rows : List T) → ¬ AreRows says (items_view vs) rows
not_rows says [] v i below here none rows are = absurd (omega arith)
not_rows says (w ∷ vs) v i below here none [] are = are
not_rows says (w ∷ vs) v zero below here none (row ∷ rows) are = none.is row (rw here are.0)
not_rows says (w ∷ vs) v (suc i) below here none (row ∷ rows) are =
    not_rows says vs v i (omega arith) here none rows are.1

-- the rows of its items are read of the list
pub list_read : {T : Type 0} (says : Data → T → Type 0) (name : List ℕ) (d m : Data)
    (vs : List Value) (o : Option (List T)) → Some m ≡ get name d
    → Some (items_view vs) ≡ as_array m → IsRead (AreRows says (items_view vs)) o
    → IsRead (HasMember (IsList says) name d) o
list_read says name d m vs None found list read = record {
  is = λ rows h.
      let e = same_Some m h.0 (found ∙ h.1) in
      let l = same_Some (items_view vs) h.2.0 (list ∙ (rw e h.2.1)) in
      read.is rows (rw l h.2.2);
}
list_read says name d m vs (Some rows) found list read =
    record { is = (m, sym found, (items_view vs, sym list, read.is)) }
