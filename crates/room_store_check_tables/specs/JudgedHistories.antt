-- Turns, reports and calls that are judged one at a time.
use Rattle.std.specs.List.{list_all}
use Rattle.std.specs.Prelude.{◌≡◌, Bool, true, List, [], Option, is_none}
use Rattle.room_store_check_rows.specs.declared.disagreements.Disagreement.{Disagreement}

-- What came of rows that were judged one after another: whether they all agree, if all was well at
-- first; and what is kept of them, if nothing was kept at first.
pub record AreJudged {X Kept : Type 0} (disagreement : X → Option Disagreement)
    (keeps : List X → Kept → Type 0) (well : Bool) (first : Kept) (rows : List X) (fit : Bool)
    (kept : Kept) : Type 0 where
  pub agree : well ≡ true → fit ≡ list_all (λ x. is_none (disagreement x)) rows
  pub keep : keeps [] first → keeps rows kept
