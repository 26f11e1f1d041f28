-- What is kept, and why it is not.
use Rattle.std.proofs.Common.{Err, Ok, Result, ap, arith, false, inl, inr, length, sym, true, ◌<◌}
use Rattle.std.proofs.Common.{◌≤◌, List, [], ℕ, ◌++◌, ◌∙◌, ◌∷◌, ◌≡◌, ◌⊎◌}
use Rattle.std.proofs.lemmas.List.{append-nil, length-append}
use Rattle.std.specs.List.{flat_map}
use Rattle.std.specs.Prelude.{OnErr, is_err}
use Rattle.dispatch_room_changes.proofs.LineLemmas.{AreTaken}
use Rattle.dispatch_room_changes.specs.ChangeTasks.{IsOpenedAs}
use Rattle.dispatch_room_changes.specs.KeptImports.{HasLongLine, LacksRow, LacksRows}
use Rattle.dispatch_room_journal.specs.TextParts.{Lacks}
use Rattle.dispatch_room_journal.specs.declared.row_runs.TheConstants.{ROW_ROOM}
use Rattle.dispatch_room_journal.specs.declared.list_ends.ListEnd.{ListEnd}
use Rattle.dispatch_room_serving.specs.declared.journal_files.SystemFile.{SystemFile}
use Rattle.dispatch_room_changes.specs.declared.change_lists.ChangeList.{ChangeList}

-- a list that is made of what was opened is opened as that
pub opened_as : {F : Type 0} (opened : F × ListEnd) (file : SystemFile F) (end : ListEnd)
    (list : ChangeList (SystemFile F)) → file.file ≡ opened.0 → end ≡ opened.1
    → list ≡ record { out = record { file = file; failed = false }; end = end } → IsOpenedAs opened list
opened_as opened file end list of at is =
    (ap (λ it. it.out.file.file) is ∙ of, ap (λ it. it.end) is ∙ at, ap (λ it. it.out.failed) is)

-- what holds where a call failed, once it is known that it did
pub where_failed : {T E : Type 0} (r : Result T E) (P : Type 0) → is_err r ≡ true → OnErr r P → P
where_failed (Ok x) P failed holds = absurd (cc)
where_failed (Err e) P failed holds = holds

-- what holds holds where a call fails
pub where_fails : {T E : Type 0} (r : Result T E) (P : Type 0) → P → OnErr r P
where_fails (Ok x) P holds = tt
where_fails (Err e) P holds = holds

line_short : (left line rest : List ℕ) → (left ≡ line ++ 10 ∷ rest) ⊎ ((left ≡ line) × (rest ≡ []))
    → length line ≤ length left
line_short left line rest (inl cut) = rw cut (omega (arith, length-append line (10 ∷ rest)))
line_short left line rest (inr last) = rw last.0 (omega arith)

-- a line that is taken next, and is too long, is one of the text
long_line : (text left line rest : List ℕ) (lines : List (List ℕ)) → AreTaken text left lines
    → (left ≡ line ++ 10 ∷ rest) ⊎ ((left ≡ line) × (rest ≡ [])) → Lacks 10 line
    → ROW_ROOM < length line → HasLongLine text
long_line text left line rest lines taken next one long =
    let taken_lines = flat_map (λ line. line ++ 10 ∷ []) lines in
    elim taken.is [
      | inl is ↦ elim next [
        | inl cut ↦ record {
          front = taken_lines;
          line = line;
          rest = 10 ∷ rest;
          is = sym is ∙ ap (λ l. taken_lines ++ l) cut;
          one = one;
          long = long;
        }
        | inr last ↦ record {
          front = taken_lines;
          line = line;
          rest = [];
          is = sym is ∙ ap (λ l. taken_lines ++ l) (last.0 ∙ sym (append-nil line));
          one = one;
          long = long;
        }
      ]
      | inr none ↦ absurd (omega (arith, long, line_short left line rest next, ap length none.0))
    ]

-- where a line could not be kept, the lines of its text were not all kept
pub lacks_more : {F : Type 0} (list : ChangeList F) (text left line rest : List ℕ)
    (lines : List (List ℕ)) → AreTaken text left lines
    → (left ≡ line ++ 10 ∷ rest) ⊎ ((left ≡ line) × (rest ≡ [])) → Lacks 10 line
    → LacksRow list line → LacksRows list text
lacks_more list text left line rest lines taken next one lacks = elim lacks [
  | inl failed ↦ inl failed
  | inr other ↦ elim other [
    | inl plain ↦ inr (inl plain)
    | inr long ↦ inr (inr (long_line text left line rest lines taken next one long))
  ]
]
