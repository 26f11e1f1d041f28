-- Lemmas on what a chain says: what its records do.
use Rattle.std.proofs.Common.{◌≡◌, ◌≢◌, ◌∙◌, refl, sym, ap, subst, arith, ℕ, zero, suc, ◌+◌, ◌-◌}
use Rattle.std.proofs.Common.{◌≤◌, List, [], ◌∷◌, ◌++◌, length, length-drop, length-take-le, take}
use Rattle.std.proofs.Common.{drop, append_assoc, take-append-drop, Bool, true, false}
use Rattle.std.proofs.Common.{if◌then◌else◌, nat_lt}
use Rattle.std.proofs.lemmas.Bool.{le-ltb, ltb-false}
use Rattle.std.proofs.lemmas.List.{drop-drop}
use Rattle.std.proofs.lemmas.Slice.Eq.{bytes_eq-Decides}
use Rattle.std.specs.List.{flat_map}
use Rattle.std.specs.Str.{bytes_eq}
use Rattle.dispatch_room_journal.specs.declared.journal_inbox.TheConstants.{ENTRY_ROOM}
use Rattle.dispatch_room_journal.specs.declared.record_headers.TheConstants.{HEADER}
use Rattle.dispatch_room_journal.specs.declared.record_fronts.Front.{Front}
use Rattle.dispatch_room_journal.specs.declared.record_fronts.Front.TheVariants.{Empty, Short}
use Rattle.dispatch_room_journal.specs.declared.record_fronts.Front.TheVariants.{Wrong, Whole}
use Rattle.dispatch_room_journal.specs.declared.read_progress.Reach.TheVariants.{Full}
use Rattle.dispatch_room_journal.specs.Chains.{IsBody, chain_text, first_check, header, is_end}
use Rattle.dispatch_room_journal.specs.Chains.{next_check, opening, record_text, said_by}
use Rattle.dispatch_room_journal.specs.RecordFronts.{after, body_in, comes_next, front_of}
use Rattle.dispatch_room_journal.specs.RecordFronts.{list_says, number_in, said_in, said_with, says}
use Rattle.dispatch_room_journal.specs.RecordFronts.{sized_front}
use Rattle.dispatch_room_journal.specs.ChainLaws.{AreBodies, IsWritten, says_rest}
use Rattle.dispatch_room_journal.proofs.SaysLemmas.{list_chain}

-- what a choice came to shows how it was made
chose_first : {A : Type 0} (test : Bool) (x y z : A) → (if test then x else y) ≡ z → y ≢ z
    → (test ≡ true) × (x ≡ z)
chose_first true x y z is other = (refl, is)
chose_first false x y z is other = absurd (other is)

chose_second : {A : Type 0} (test : Bool) (x y z : A) → (if test then x else y) ≡ z → x ≢ z
    → (test ≡ false) × (y ≡ z)
chose_second true x y z is other = absurd (other is)
chose_second false x y z is other = (refl, is)

empty_other : (size : ℕ) (check : List ℕ) → Empty ≢ Whole size check
empty_other size check same = cc

short_other : (size : ℕ) (check : List ℕ) → Short ≢ Whole size check
short_other size check same = cc

wrong_other : (size : ℕ) (check : List ℕ) → Wrong ≢ Whole size check
wrong_other size check same = cc

whole_size : (n m : ℕ) (one other : List ℕ) → Whole n one ≡ Whole m other → n ≡ m
whole_size n m one other same = cc

whole_check : (n m : ℕ) (one other : List ℕ) → Whole n one ≡ Whole m other → one ≡ other
whole_check n m one other same = cc

module _ (hash : List ℕ → List ℕ) where
  -- the record that comes next stands there
  pub record IsNext (check : List ℕ) (has_ended : Bool) (text : List ℕ) (size : ℕ) (next : List ℕ) : Type 0 where
    pub is_one : IsBody (body_in size text)
    pub comes : comes_next has_ended (body_in size text) ≡ true
    pub text_is : text ≡ record_text hash check (body_in size text) ++ after size text
    pub next_is : next ≡ next_check hash check (body_in size text)

  next_by : (check : List ℕ) (has_ended : Bool) (text : List ℕ) (size : ℕ) → 1 ≤ size → size ≤ ENTRY_ROOM
      → HEADER + size ≤ length text → comes_next has_ended (body_in size text) ≡ true
      → take HEADER text ≡ header size (next_check hash check (body_in size text))
      → IsNext check has_ended text size (next_check hash check (body_in size text))
  next_by check has_ended text size some fits long comes line =
      let body = body_in size text in
      let len : length body
      ≡ size = length-take-le size (drop HEADER text) (omega (arith, long, length-drop HEADER text)) in
      record {
        is_one = (omega (arith, some, len), omega (arith, fits, len));
        comes = comes;
        text_is =
            sym (take-append-drop HEADER text)
            ∙ ap (λ front. front ++ drop HEADER text) (line ∙ ap (λ n. header n (next_check hash check body)) (sym len))
            ∙ ap (λ back. header (length body) (next_check hash check body) ++ back)
            (sym (take-append-drop size (drop HEADER text)) ∙ ap (λ t. body ++ t) (drop-drop size HEADER text))
            ∙ sym (append_assoc (header (length body) (next_check hash check body)) body (after size text));
        next_is = refl;
      }

  pub next_whole : (check : List ℕ) (has_ended : Bool) (text : List ℕ) (size : ℕ) (next : List ℕ)
      → front_of hash check has_ended text ≡ Whole size next → IsNext check has_ended text size next
  next_whole check has_ended text size next is =
      let some = chose_second (nat_lt (length text) 1) Empty _ (Whole size next) is (empty_other size next) in
      let long = chose_second (nat_lt (length text) HEADER) Short _ (Whole size next) some.1 (short_other size next) in
      sized (number_in text) long.1
    where
      sized : (n : ℕ) → sized_front hash check has_ended text n ≡ Whole size next
          → IsNext check has_ended text size next
      sized n is =
          let one = chose_second (nat_lt n 1) Wrong _ (Whole size next) is (wrong_other size next) in
          let fits = chose_second (nat_lt ENTRY_ROOM n) Wrong _ (Whole size next) one.1 (wrong_other size next) in
          let whole = chose_second (nat_lt (length text) (HEADER + n)) Short _ (Whole size next) fits.1
          (short_other size next) in
          let comes = chose_first (comes_next has_ended (body_in n text)) _ Wrong (Whole size next) whole.1
          (wrong_other size next) in
          let check_n = next_check hash check (body_in n text) in
          let line = chose_first (bytes_eq (take HEADER text) (header n check_n)) (Whole n check_n) Wrong
          (Whole size next) comes.1 (wrong_other size next) in
          let found = next_by check has_ended text n (ltb-false n 1 one.0) (ltb-false ENTRY_ROOM n fits.0)
          (ltb-false (length text) (HEADER + n) whole.0) comes.0
          ((bytes_eq-Decides (take HEADER text) (header n check_n)).0 line.0) in
          subst (λ (s : ℕ). IsNext check has_ended text s next) (whole_size n size check_n next line.1)
          (subst (λ (k : List ℕ). IsNext check has_ended text n k) (whole_check n size check_n next line.1) found)

  -- a chain says what follows its first line
  pub opened : (text : List ℕ)
      → list_says hash Full (opening ++ text) ≡ said_in hash Full (length text) first_check false text
  unfolding says
  opened text = list_chain hash Full opening text (omega arith) refl

  -- the same, as it is said
  pub chain_opened : (text : List ℕ) → list_says hash Full (opening ++ text) ≡ says hash Full first_check false text
  chain_opened text = list_chain hash Full opening text (omega arith) refl

  -- what a text goes on with, and what it says
  abbrev pub GoesOn : ℕ → List ℕ → Bool → List ℕ → Type 0
  GoesOn n check has_ended text =
      (bodies : List (List ℕ)) × (rest : List ℕ) × AreBodies has_ended bodies
      × (text ≡ chain_text hash check bodies ++ rest)
      × (said_in hash Full n check has_ended text ≡ flat_map said_by bodies ++ says_rest rest)

  rest_only : (n : ℕ) (check : List ℕ) (has_ended : Bool) (text : List ℕ)
      → said_in hash Full n check has_ended text ≡ says_rest text → GoesOn n check has_ended text
  rest_only n check has_ended text says = ([], text, tt, refl, says)

  neither : (test : Bool) (x y : Front) → x ≢ Empty → y ≢ Empty → (if test then x else y) ≢ Empty
  neither true x y first second = first
  neither false x y first second = second

  never_empty : (check : List ℕ) (has_ended : Bool) (text : List ℕ) → 1 ≤ length text
      → front_of hash check has_ended text ≢ Empty
  never_empty check has_ended text some is =
      let short : Short ≢ Empty = λ same. cc in
      let wrong : Wrong ≢ Empty = λ same. cc in
      let n = number_in text in
      let next = next_check hash check (body_in n text) in
      let whole : Whole n next ≢ Empty = λ same. cc in
      let size = neither (nat_lt n 1) Wrong _ wrong
      (neither (nat_lt ENTRY_ROOM n) Wrong _ wrong
      (neither (nat_lt (length text) (HEADER + n)) Short _ short
      (neither (comes_next has_ended (body_in n text)) _ Wrong
      (neither (bytes_eq (take HEADER text) (header n next)) (Whole n next) Wrong whole wrong) wrong))) in
      neither (nat_lt (length text) HEADER) Short (sized_front hash check has_ended text n) short size
      (rw (le-ltb (length text) 1 some) at is)

  -- a text that is not empty goes on by what is at its front
  goes_on_by : (n : ℕ) (check : List ℕ) (has_ended : Bool) (text : List ℕ) → 1 ≤ length text
      → ((size : ℕ) (next : List ℕ) → GoesOn n next (is_end (body_in size text)) (after size text))
      → (front : Front) → front_of hash check has_ended text ≡ front
      → said_in hash Full (suc n) check has_ended text ≡ said_with Full (λ c e t. said_in hash Full n c e t) text front
      → GoesOn (suc n) check has_ended text
  goes_on_by n check has_ended text some later Empty is says = absurd (never_empty check has_ended text some is)
  goes_on_by n check has_ended [] some later Short is says = absurd (omega (arith, some))
  goes_on_by n check has_ended (byte ∷ text) some later Short is says =
      rest_only (suc n) check has_ended (byte ∷ text) says
  goes_on_by n check has_ended [] some later Wrong is says = absurd (omega (arith, some))
  goes_on_by n check has_ended (byte ∷ text) some later Wrong is says =
      rest_only (suc n) check has_ended (byte ∷ text) says
  goes_on_by n check has_ended text some later (Whole size next) is says =
      let found = next_whole check has_ended text size next is in
      let body = body_in size text in
      let more = later size next in
      let check_n = next_check hash check body in (
        body ∷ more.0,
        more.1,
        (found.is_one, found.comes, more.2),
        found.text_is
            ∙ ap (λ t. record_text hash check body ++ t)
            (more.3 ∙ ap (λ k. chain_text hash k more.0 ++ more.1) found.next_is)
            ∙ sym (append_assoc (record_text hash check body) (chain_text hash check_n more.0) more.1),
        says ∙ ap (λ t. said_by body ++ t) more.4
            ∙ sym (append_assoc (said_by body) (flat_map said_by more.0) (says_rest more.1)),
      )

  pub goes_on : (n : ℕ) (check : List ℕ) (has_ended : Bool) (text : List ℕ) → length text ≤ n
      → GoesOn n check has_ended text
  goes_on zero check has_ended [] fits = rest_only zero check has_ended [] refl
  goes_on zero check has_ended (byte ∷ text) fits = absurd (omega (arith, fits))
  goes_on (suc n) check has_ended [] fits = rest_only (suc n) check has_ended [] refl
  goes_on (suc n) check has_ended (byte ∷ text) fits =
      goes_on_by n check has_ended (byte ∷ text) (omega arith)
      (λ size next. goes_on n next (is_end (body_in size (byte ∷ text))) (after size (byte ∷ text))
      (omega (arith, fits, length-drop (HEADER + size) (byte ∷ text))))
      (front_of hash check has_ended (byte ∷ text)) refl refl

pub written_law : IsWritten
written_law hash text =
    let found = goes_on hash (length text) first_check false text (omega arith) in (
      found.0,
      found.1,
      found.2,
      found.3,
      opened hash text ∙ found.4,
    )
