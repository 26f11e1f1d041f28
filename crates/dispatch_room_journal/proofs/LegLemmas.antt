-- Lemmas on the segments of a list.
use Rattle.std.proofs.Common.{◌≡◌, ◌∙◌, refl, sym, ap, ℕ, List, [], ◌∷◌, ◌++◌, length, append_assoc}
use Rattle.std.proofs.Common.{All, Bool, true, false, ◌||◌}
use Rattle.std.proofs.lemmas.List.Elements.{All-head, All-tail}
use Rattle.std.specs.List.{flat_map}
use Rattle.dispatch_room_journal.specs.declared.read_progress.Reach.{Reach}
use Rattle.dispatch_room_journal.specs.declared.read_progress.Reach.TheVariants.{Full, Segment}
use Rattle.dispatch_room_journal.specs.Chains.{IsBody, chain_text, is_end, is_no_entry, is_row}
use Rattle.dispatch_room_journal.specs.Chains.{last_check, next_check, record_text, said_by}
use Rattle.dispatch_room_journal.specs.RecordFronts.{comes_next, says, stops_at}
use Rattle.dispatch_room_journal.specs.ChainLaws.{AreBodies}
use Rattle.dispatch_room_journal.specs.PlainTexts.{last_ended}
use Rattle.dispatch_room_journal.specs.RowRuns.{IsRow}
use Rattle.dispatch_room_journal.specs.LegLaws.{IsLegByLeg, IsNoRow}
use Rattle.dispatch_room_journal.proofs.AgainLemmas.{read_after, read_body, read_front}
use Rattle.dispatch_room_journal.proofs.SaysLemmas.{says_stop, says_whole}

-- a row says nothing
or_true : (ends row : Bool) → row ≡ true → (ends || row) ≡ true
or_true true row is = refl
or_true false row is = is

row_silent : (row : List ℕ) → IsRow row → said_by row ≡ []
row_silent row is = let silent : is_no_entry row ≡ true = or_true (is_end row) (is_row row) is in rw silent refl

module _ (hash : List ℕ → List ℕ) (long : (text : List ℕ) → length (hash text) ≡ 64) where
  module _ (reach : Reach) (check : List ℕ) (has_ended : Bool) (body back : List ℕ) (is_one : IsBody body)
      (comes : comes_next has_ended body ≡ true) where
    -- a record says what it does, and then what follows it
    record_says : stops_at reach body ≡ false
        → says hash reach check has_ended (record_text hash check body ++ back)
        ≡ said_by body ++ says hash reach (next_check hash check body) (is_end body) back
    record_says goes =
        let text = record_text hash check body ++ back in
        let same = read_body hash long check has_ended body back is_one comes in
        says_whole hash reach check has_ended text (length body) (next_check hash check body)
        (read_front hash long check has_ended body back is_one comes) (ap (stops_at reach) same ∙ goes)
        ∙ rw (same, read_after hash long check has_ended body back is_one comes) refl

    record_stops : stops_at reach body ≡ true
        → says hash reach check has_ended (record_text hash check body ++ back) ≡ []
    record_stops stops =
        says_stop hash reach check has_ended (record_text hash check body ++ back) (length body)
        (next_check hash check body) (read_front hash long check has_ended body back is_one comes)
        (ap (stops_at reach) (read_body hash long check has_ended body back is_one comes) ∙ stops)

  -- all that is said passes over rows
  rows_pass : (rows : List (List ℕ)) (check : List ℕ) (has_ended : Bool) (rest : List ℕ)
      → AreBodies has_ended rows → All IsRow rows
      → says hash Full check has_ended (chain_text hash check rows ++ rest)
      ≡ says hash Full (last_check hash check rows) (last_ended has_ended rows) rest
  rows_pass [] check has_ended rest are rows_are = refl
  rows_pass (row ∷ rows) check has_ended rest are rows_are =
      let next = next_check hash check row in
      let back = chain_text hash next rows ++ rest in
      ap (says hash Full check has_ended) (append_assoc (record_text hash check row) (chain_text hash next rows) rest)
      ∙ record_says Full check has_ended row back are.0 are.1 refl
      ∙ ap (λ t. t ++ says hash Full next (is_end row) back) (row_silent row (All-head IsRow row rows rows_are))
      ∙ rows_pass rows next (is_end row) rest are.2 (All-tail IsRow row rows rows_are)

  leg_by_leg : (front rows : List (List ℕ)) (row rest : List ℕ) (check : List ℕ) (has_ended : Bool)
      → AreBodies has_ended (front ++ row ∷ rows) → All IsNoRow front → All IsRow (row ∷ rows)
      → let bodies = front ++ row ∷ rows in
      let text = chain_text hash check bodies ++ rest in
      (says hash Segment check has_ended text ≡ flat_map said_by front)
      × (says hash Full check has_ended text ≡ says hash Segment check has_ended text
      ++ says hash Full (last_check hash check bodies) (last_ended has_ended bodies) rest)
  leg_by_leg [] rows row rest check has_ended are none rows_are =
      let next = next_check hash check row in
      let back = chain_text hash next rows ++ rest in
      let segment = ap (says hash Segment check has_ended)
      (append_assoc (record_text hash check row) (chain_text hash next rows) rest)
      ∙ record_stops Segment check has_ended row back are.0 are.1 (All-head IsRow row rows rows_are) in (
        segment,
        rows_pass (row ∷ rows) check has_ended rest are rows_are
            ∙ ap (λ t. t ++ says hash Full (last_check hash next rows) (last_ended (is_end row) rows) rest) (sym segment),
      )
  leg_by_leg (body ∷ front) rows row rest check has_ended are none rows_are =
      let next = next_check hash check body in
      let bodies = front ++ row ∷ rows in
      let back = chain_text hash next bodies ++ rest in
      let split = append_assoc (record_text hash check body) (chain_text hash next bodies) rest in
      let goes = All-head IsNoRow body front none in
      let more = leg_by_leg front rows row rest next (is_end body) are.2 (All-tail IsNoRow body front none) rows_are in
      let segment = ap (says hash Segment check has_ended) split
      ∙ record_says Segment check has_ended body back are.0 are.1 goes in
      let behind = says hash Full (last_check hash next bodies) (last_ended (is_end body) bodies) rest in (
        segment ∙ ap (λ t. said_by body ++ t) more.0,
        ap (says hash Full check has_ended) split
            ∙ record_says Full check has_ended body back are.0 are.1 refl
            ∙ ap (λ t. said_by body ++ t) more.1
            ∙ sym (append_assoc (said_by body) (says hash Segment next (is_end body) back) behind)
            ∙ ap (λ t. t ++ behind) (sym segment),
      )

pub leg_by_leg_law : IsLegByLeg
leg_by_leg_law hash long check has_ended front rows row rest are none rows_are =
    leg_by_leg hash long front rows row rest check has_ended are none rows_are
