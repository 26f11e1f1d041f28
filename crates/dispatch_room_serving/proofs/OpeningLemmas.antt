-- Lemmas on lists that are opened.
use Rattle.std.proofs.Common.{ap, arith, false, inl, inr, length, length-append, refl, subst, sym}
use Rattle.std.proofs.Common.{true, ℕ, Bool, List, [], ◌∷◌, ◌++◌, ◌≡◌, ◌⊎◌, Option, Some, Result}
use Rattle.std.proofs.Common.{◌∙◌, None, Ok, Err}
use Rattle.std.specs.Prelude.{IfErr, is_some, if◌then◌else◌, option_map, take, unwrap_or}
use Rattle.std.specs.Result.{IsErrAnd}
use Rattle.dispatch_room_exit.specs.declared.exit_status.Failure.{Failure}
use Rattle.dispatch_room_exit.specs.declared.exit_status.Failure.TheVariants.{Journal, Memory}
use Rattle.room_http_messages.specs.Streams.{Grows}
use Rattle.dispatch_room_journal.specs.Chains.{opening as first_line}
use Rattle.dispatch_room_journal.specs.RecordRuns.{first_link}
use Rattle.dispatch_room_journal.specs.WholeRecords.{FailsForm}
use Rattle.dispatch_room_journal.specs.declared.entry_reader.EntryFault.{EntryFault}
use Rattle.dispatch_room_journal.specs.declared.entry_reader.EntryFault.TheVariants.{Cut, Foreign}
use Rattle.dispatch_room_journal.specs.declared.entry_reader.EntryFault.TheVariants.{Read}
use Rattle.dispatch_room_journal.specs.declared.list_ends.ListEnd.{ListEnd}
use Rattle.dispatch_room_journal.specs.declared.list_ends.ListEnd.TheVariants.{Chain}
use Rattle.dispatch_room_serving.specs.OpenedLists.{BreaksClearing, BreaksOff, Clears, FindsBefore}
use Rattle.dispatch_room_serving.specs.OpenedLists.{FindsMarked, IsForeign, IsFound, IsListFault}
use Rattle.dispatch_room_serving.specs.OpenedLists.{IsLost, IsUnfound, Opens, Step, begun, clearing}
use Rattle.dispatch_room_serving.specs.OpenedLists.{goes_on_at, settled}
use Rattle.dispatch_room_serving.specs.declared.opened_lists.WholeList.{WholeList}

-- what follows the whole records of a list is not the beginning of one
pub foreign : (failed : Bool) (known now : Option (List ℕ)) (fault : EntryFault) → now ≡ known
    → fault ≡ Foreign → ((text : List ℕ) → now ≡ Some text → FailsForm failed text fault)
    → IsForeign known
foreign failed known now Foreign left is fails = λ text at. elim (fails text (left ∙ at)) [
  | inl read ↦ absurd (cc)
  | inr chain ↦ chain
]
foreign failed known now Cut left is fails = absurd (cc)
foreign failed known now Read left is fails = absurd (cc)

-- a list was not read
pub lost : (failed : Bool) (known now : Option (List ℕ)) (fault : EntryFault) → now ≡ known
    → (fault ≡ Read) ⊎ (fault ≡ Cut)
    → ((text : List ℕ) → now ≡ Some text → FailsForm failed text fault) → IsLost known failed
lost true known now fault left is fails = inl refl
lost false known now Foreign left (inl is) fails = absurd (cc)
lost false known now Foreign left (inr is) fails = absurd (cc)
lost false known now Cut left is fails = inr (λ text at. elim (fails text (left ∙ at)) [
  | inl read ↦ absurd (cc)
  | inr chain ↦ absurd chain.2
])
lost false known now Read left is fails = inr (λ text at. elim (fails text (left ∙ at)) [
  | inl read ↦ absurd (cc)
  | inr chain ↦ elim chain.2 [
    | inl read ↦ absurd (cc)
    | inr long ↦ omega (arith, long, ap length chain.1, length-append first_line chain.0)
  ]
])

-- what is found by a mark is so much of a list
pub found_marked : {P : Type 0} (part_failed : P → Bool) (known : Option (List ℕ))
    (mark : Option ℕ) (found : Option WholeList) (list : WholeList) → IsForeign known
    → found ≡ Some list → FindsMarked part_failed known mark found
    → IsFound part_failed known mark list
found_marked pf known mark found list none is finds =
    inr (none, subst (λ it. FindsMarked pf known mark it) is finds)

-- or nothing is
pub unfound_marked : {R P : Type 0} (read_failed : R → Bool) (part_failed : P → Bool)
    (known : Option (List ℕ)) (mark : Option ℕ) (found : Option WholeList) → IsForeign known
    → found ≡ None → FindsMarked part_failed known mark found
    → IsUnfound part_failed known read_failed mark
unfound_marked rf pf known mark found none is finds =
    inr (inr (none, subst (λ it. FindsMarked pf known mark it) is finds))

-- nothing is found before a mark, where none is known of what stands there
pub none_before : {P : Type 0} (part_failed : P → Bool) (known now : Option (List ℕ)) (bytes : ℕ)
    (part : P) (fault : EntryFault) → now ≡ option_map (take bytes) known
    → ((text : List ℕ) → now ≡ Some text → FailsForm (part_failed part) text fault)
    → FindsBefore part_failed known bytes None
none_before pf known now bytes part fault left fails = inr (
  part,
  fault,
  (λ text at. fails (take bytes text) (left ∙ ap (λ it. option_map (take bytes) it) at)),
  refl,
)

-- where a file can't be read, or it isn't known what of its list is whole, that is a list's fault
pub list_fault : (why : Type 0) (fault : Failure)
    → (fault ≡ Memory) ⊎ ((fault ≡ Journal) × why) → IsListFault fault
list_fault why fault is = elim is [ inl memory ↦ inl memory | inr other ↦ inr other.0 ]

pub handed_on : {T E : Type 0} {P : E → Type 0} (r : Result T E) (Q : E → Type 0) → IsErrAnd r P
    → ((e : E) → P e → Q e) → IfErr r Q
handed_on (Ok x) Q is by = tt
handed_on (Err e) Q is by = by e is

-- nothing was done but that what stood in the file was made to last
pub left_as_it_was : {F R P : Type 0} (tried : F → Option (List Step)) (text : F → Option (List ℕ))
    (marks : F → Option ℕ → Type 0) (unread : F → Type 0) (read_failed : R → Bool)
    (part_failed : P → Bool) (old new : F) → Grows (tried old) (tried new) (settled true ∷ [])
    → (r : Result ListEnd Failure) (Q : Failure → Type 0) → IsErrAnd r Q
    → ((fault : Failure) → Q fault → (fault ≡ Memory) ⊎ ((fault ≡ Journal) × (unread new
    ⊎ ((mark : Option ℕ) × marks new mark × IsUnfound part_failed (text new) read_failed mark))))
    → Opens tried text marks unread read_failed part_failed old new r
left_as_it_was tried text marks unread rf pf old new settles (Ok end) Q fails why = absurd fails
left_as_it_was tried text marks unread rf pf old new settles (Err fault) Q fails why =
    inr (inl (record { settles = settles; why = why fault fails }))

-- one of the first steps could not be done
pub unclear : {F : Type 0} (tried : F → Option (List Step)) (old new : F) (list : WholeList)
    (r : Result (Unit {0}) Failure) (P : Failure → Type 0) → IsErrAnd r P → (steps : List Step)
    → BreaksClearing list steps → Grows (tried old) (tried new) steps
    → Clears tried old new list r
unclear tried old new list (Ok _) P fails steps breaks tries = absurd fails
unclear tried old new list (Err fault) P fails steps breaks tries = (steps, breaks, tries)

-- what stood in the file was made to last, and this of it was found to be whole
module _ {F R P : Type 0} (tried : F → Option (List Step)) (text : F → Option (List ℕ))
    (marks : F → Option ℕ → Type 0) (unread : F → Type 0) (read_failed : R → Bool)
    (part_failed : P → Bool) (old lasting new : F) (mark : Option ℕ) (list : WholeList)
    (settles : Grows (tried old) (tried lasting) (settled true ∷ [])) (marked : marks lasting mark)
    (found : IsFound part_failed (text lasting) mark list) where
  -- it was opened by these steps
  pub opened : (goes : Option ListEnd) → goes_on_at list ≡ goes
      → Grows (tried lasting) (tried new)
      (clearing list ++ (if is_some goes then [] else begun true ∷ []))
      → Opens tried text marks unread read_failed part_failed old new
      (Ok (unwrap_or goes (Chain first_link)))
  opened goes is tries = (
    list,
    record {
      lasting = lasting;
      settles = settles;
      mark = mark;
      marked = marked;
      found = found;
      tries =
          subst (λ o. Grows (tried lasting) (tried new)
          (clearing list ++ (if is_some o then [] else begun true ∷ []))) (sym is) tries;
    },
    sym (ap (λ o. unwrap_or o (Chain first_link)) is),
  )

  -- one of the steps could not be done
  pub broken_off : (r : Result ListEnd Failure) (Q : Failure → Type 0) → IsErrAnd r Q
      → (steps : List Step) → BreaksOff list steps → Grows (tried lasting) (tried new) steps
      → Opens tried text marks unread read_failed part_failed old new r
  broken_off (Ok end) Q fails steps breaks tries = absurd fails
  broken_off (Err fault) Q fails steps breaks tries =
      inr (inr (
        list,
        steps,
        breaks,
        record {
          lasting = lasting;
          settles = settles;
          mark = mark;
          marked = marked;
          found = found;
          tries = tries;
        },
      ))
