-- Lemmas on the beginnings of records: no record is the beginning of another.
use Rattle.std.proofs.Common.{◌≡◌, ◌≢◌, ◌∙◌, refl, sym, ap, subst, arith, ℕ, ◌+◌, ◌<◌, ◌≤◌, List}
use Rattle.std.proofs.Common.{[], ◌∷◌, ◌++◌, length, length-append, take, drop, take-append-drop}
use Rattle.std.proofs.Common.{append_assoc, append-nil, Bool, true, false, ◌⊎◌, inl, inr, codes}
use Rattle.std.proofs.Common.{IsTrue, ◌↔◌, take_all}
use Rattle.std.proofs.lemmas.Bool.{false≢true}
use Rattle.std.proofs.lemmas.List.{drop_at}
use Rattle.std.proofs.lemmas.List.Elements.{All-cons, All-drop, All-from_recursion, All-nil}
use Rattle.std.proofs.lemmas.Slice.Eq.{bytes_eq-Decides}
use Rattle.std.specs.Prelude.{◌==◌, ◌&&◌, ◌||◌}
use Rattle.std.specs.Str.{bytes_eq}
use Rattle.room_model.specs.declared.digests.Version.{Version}
use Rattle.room_model.specs.declared.digests.Version.TheVariants.{First, Second}
use Rattle.dispatch_room_journal.specs.declared.entry_lines.EntryLine.{EntryLine}
use Rattle.dispatch_room_journal.specs.declared.entry_lines.EntryLine.TheVariants.{Room, Message}
use Rattle.dispatch_room_journal.specs.declared.entry_lines.EntryLine.TheVariants.{Answer}
use Rattle.dispatch_room_journal.specs.declared.record_headers.TheConstants.{HEADER}
use Rattle.dispatch_room_journal.specs.Chains.{end_body, is_end, is_no_entry, is_row, is_whole_line}
use Rattle.dispatch_room_journal.specs.Chains.{row_body, row_word}
use Rattle.dispatch_room_journal.specs.CutRecords.{BeginsLine, IsCutBody, IsCutRecord, IsNeverCut}
use Rattle.dispatch_room_journal.specs.CutRecords.{SaysEntry}
use Rattle.dispatch_room_journal.specs.Entries.{Entry, room, message, answer, IsEntry, IsLine}
use Rattle.dispatch_room_journal.specs.Entries.{head_words, line_of, line_text, rest_of, text_of}
use Rattle.dispatch_room_journal.specs.RecordFronts.{number_in}
use Rattle.dispatch_room_journal.specs.TextParts.{BeginsOne, IsLineText, Lacks}
use Rattle.dispatch_room_journal.proofs.EntryLemmas.{foreign_part, line_is, one_entry_law}
use Rattle.dispatch_room_journal.proofs.EntryLemmas.{part_of_line, part_of_message}
use Rattle.dispatch_room_journal.proofs.EntryRecordLemmas.{nothing_left}
use Rattle.dispatch_room_journal.proofs.LineLemmas.{line_injective, line_lacks}
use Rattle.dispatch_room_journal.proofs.TextLemmas.{cut_line, cut_unique, has_mark, lacks_append}
use Rattle.dispatch_room_journal.proofs.TextLemmas.{split}

-- ---- a record that is no entry is one line
both_true : (a b : Bool) → (a && b) ≡ true → (a ≡ true) × (b ≡ true)
both_true true b is = (refl, is)
both_true false b is = absurd (false≢true is)

either_true : (a b : Bool) → (a || b) ≡ true → (a ≡ true) ⊎ (b ≡ true)
either_true true b is = inl refl
either_true false b is = inr is

-- what a record is that is no entry: the one of a list that ended well, or a row
pub no_entry_is : (body : List ℕ) → is_no_entry body ≡ true
    → (body ≡ end_body) ⊎ ((t : List ℕ) × (body ≡ row_word ++ t) × (is_whole_line t ≡ true))
no_entry_is body is = go (either_true (is_end body) (is_row body) is)
  where
    go : ((is_end body ≡ true) ⊎ (is_row body ≡ true))
        → (body ≡ end_body) ⊎ ((t : List ℕ) × (body ≡ row_word ++ t) × (is_whole_line t ≡ true))
    go (inl ends) = inl ((bytes_eq-Decides body end_body).0 ends)
    go (inr row) =
        let both = both_true (bytes_eq row_word (take 4 body)) (is_whole_line (drop 4 body)) row in
        let word = (bytes_eq-Decides row_word (take 4 body)).0 both.0 in
        let same = sym (take-append-drop 4 body) ∙ ap (λ t. t ++ drop 4 body) (sym word) in
        inr (drop 4 body, same, both.1)

whole_line : (t : List ℕ) → is_whole_line t ≡ true
    → (line : List ℕ) × Lacks 10 line × (t ≡ line ++ 10 ∷ [])
whole_line [] is = absurd (false≢true is)
whole_line (byte ∷ more) is = by_test (byte == 10) refl (λ later. whole_line more later)
  where
    by_test : (test : Bool) → (byte == 10) ≡ test
        → (is_whole_line more ≡ true → (line : List ℕ) × Lacks 10 line × (more ≡ line ++ 10 ∷ []))
        → (line : List ℕ) × Lacks 10 line × (byte ∷ more ≡ line ++ 10 ∷ [])
    by_test true ten later =
        let last : (length more == 0) ≡ true = (rw ten at is) in
        let none : more ≡ [] = nothing_left more (grind (arith, last)) in
        let end : byte ≡ 10 = grind (arith, ten) in
        ([], All-nil (λ b. b ≢ 10), rw (end, none) refl)
    by_test false other later =
        let rest = later (rw other at is) in
        let differs : byte ≢ 10 = λ same. false≢true (sym other ∙ ap (λ b. b == 10) same) in (
          byte ∷ rest.0,
          All-cons (λ b. b ≢ 10) byte rest.0 differs rest.1,
          ap (λ t. byte ∷ t) rest.2,
        )

lacks_end : Lacks 10 (codes "end")
lacks_end = All-from_recursion (λ b. b ≢ 10) (codes "end")
    (omega arith, (omega arith, (omega arith, tt)))

lacks_row : Lacks 10 row_word
lacks_row = All-from_recursion (λ b. b ≢ 10) row_word
    (omega arith, (omega arith, (omega arith, (omega arith, tt))))

one_line : (body : List ℕ) → is_no_entry body ≡ true
    → (line : List ℕ) × Lacks 10 line × (body ≡ line ++ 10 ∷ [])
one_line body is = go (no_entry_is body is)
  where
    go : ((body ≡ end_body) ⊎ ((t : List ℕ) × (body ≡ row_word ++ t) × (is_whole_line t ≡ true)))
        → (line : List ℕ) × Lacks 10 line × (body ≡ line ++ 10 ∷ [])
    go (inl ends) = (codes "end", lacks_end, ends)
    go (inr (t, row, whole)) =
        let line = whole_line t whole in
        let lacks = lacks_append 10 row_word line.0 lacks_row line.1 in
        (row_word ++ line.0, lacks, row ∙ ap (λ l. row_word ++ l) line.2)

-- ---- what begins as an entry is an entry
head_more : (version : Version) (digits more : List ℕ)
    → is_no_entry ((head_words version ++ digits) ++ more) ≡ false
head_more First digits more = refl
head_more Second digits more = refl

line_more : (l : EntryLine) (more : List ℕ) → is_no_entry (line_text l ++ more) ≡ false
line_more (Room h) more = head_more h.version h.digits more
line_more (Message at size) more = refl
line_more (Answer status) more = refl

never_entry : (body more : List ℕ) (e : Entry) → is_no_entry body ≡ true
    → body ≡ text_of e ++ more → ⊥
never_entry body more e is same =
    false≢true (sym (line_more (line_of e) ((10 ∷ rest_of e) ++ more))
    ∙ ap is_no_entry (sym (same ∙ append_assoc (line_text (line_of e)) (10 ∷ rest_of e) more)) ∙ is)

-- of two records, neither is the beginning of the other
pub no_beginning : (one other more : List ℕ) → SaysEntry one → SaysEntry other → other ≡ one ++ more
    → more ≡ []
no_beginning one other more (inl is) (inl also) goes =
    let first = one_line one is in
    let second = one_line other also in
    (cut_unique 10 first.0 more second.0 [] first.1 second.1
    (sym (append_assoc first.0 (10 ∷ []) more) ∙ ap (λ t. t ++ more) (sym first.2) ∙ sym goes
    ∙ second.2)).1
no_beginning one other more (inl is) (inr (e, is_e, text)) goes =
    let first = one_line one is in
    let line = (cut_unique 10 first.0 more (line_text (line_of e)) (rest_of e) first.1
    (line_lacks (line_of e) is_e)
    (sym (append_assoc first.0 (10 ∷ []) more) ∙ ap (λ t. t ++ more) (sym first.2) ∙ sym goes
    ∙ text)).0 in
    absurd (false≢true (sym (line_more (line_of e) (10 ∷ []))
    ∙ ap (λ l. is_no_entry (l ++ 10 ∷ [])) (sym line) ∙ ap is_no_entry (sym first.2) ∙ is))
no_beginning one other more (inr (e, is_e, text)) (inl also) goes =
    absurd (never_entry other more e also (goes ∙ ap (λ t. t ++ more) text))
no_beginning one other more (inr (e, is_e, text)) (inr (f, is_f, also)) goes =
    sym (one_entry_law other f e [] more (is_f, also ∙ sym (append-nil (text_of f)))
    (is_e, goes ∙ ap (λ t. t ++ more) text)).1

none_of_both : (a b : List ℕ) → a ++ b ≡ [] → length b ≡ 0
none_of_both a b none = omega (arith, ap length none, length-append a b)

-- a whole record, and what follows it, are no beginning of one
pub whole_not_cut : (size : ℕ) (body rest : List ℕ) → SaysEntry body
    → ¬ (IsCutBody size (body ++ rest))
whole_not_cut size body rest says x =
    let none = no_beginning body x.body (rest ++ x.more) says x.says
    (x.is ∙ append_assoc body rest x.more) in
    omega (arith, x.some, none_of_both rest x.more none)

pub never_cut_law : IsNeverCut
never_cut_law line body more long says x =
    let text = line ++ (body ++ more) in
    let rest : drop HEADER text ≡ body ++ more = drop_at line (body ++ more) HEADER long in
    whole_not_cut (number_in text) body more says
    (subst (λ (t : List ℕ). IsCutBody (number_in text) t) rest
    (x.1 (omega (arith, long, length-append line (body ++ more)))))

-- ---- what begins a row, or the record of a list that ended well
row_is : (line : List ℕ) → Lacks 10 line → is_no_entry (row_body line) ≡ true
row_is line lacks = cut_line line [] lacks

abbrev pub BeginsNoEntry : List ℕ → Type 0
BeginsNoEntry part = (more : List ℕ) × (0 < length more) × (is_no_entry (part ++ more) ≡ true)

module _ (part : List ℕ) (lacks : Lacks 10 part) where
  pub row_begun : (more : List ℕ) → row_word ≡ part ++ more → BeginsNoEntry part
  row_begun more is = (
    more ++ 10 ∷ [],
    omega (arith, length-append more (10 ∷ [])),
    ap is_no_entry (sym (append_assoc part more (10 ∷ [])) ∙ ap (λ t. t ++ 10 ∷ []) (sym is)),
  )

  pub row_goes : (rest : List ℕ) → part ≡ row_word ++ rest → BeginsNoEntry part
  row_goes rest is =
      let lacks_rest : Lacks 10 rest =
      subst (λ (t : List ℕ). Lacks 10 t) (ap (drop 4) is) (All-drop (λ b. b ≢ 10) 4 part lacks) in
      (10 ∷ [], omega arith, ap (λ t. is_no_entry (t ++ 10 ∷ [])) is ∙ row_is rest lacks_rest)

  pub end_begun : (more : List ℕ) → end_body ≡ part ++ more → BeginsNoEntry part
  end_begun [] is =
      let none = subst (λ (t : List ℕ). Lacks 10 t) (sym (is ∙ append-nil part)) lacks in
      absurd (has_mark 10 (codes "end") [] none)
  end_begun (byte ∷ more) is = (byte ∷ more, omega arith, ap is_no_entry (sym is))

  pub begun_by : BeginsNoEntry part
      → ((c : List ℕ) × (row_word ≡ part ++ c))
      ⊎ (((c : List ℕ) × (part ≡ row_word ++ c)) ⊎ ((c : List ℕ) × (end_body ≡ part ++ c)))
  begun_by (more, some, is) = go (no_entry_is (part ++ more) is)
    where
      go : ((part ++ more ≡ end_body)
          ⊎ ((t : List ℕ) × (part ++ more ≡ row_word ++ t) × (is_whole_line t ≡ true)))
          → ((c : List ℕ) × (row_word ≡ part ++ c))
          ⊎ (((c : List ℕ) × (part ≡ row_word ++ c)) ⊎ ((c : List ℕ) × (end_body ≡ part ++ c)))
      go (inl ends) = inr (inr (more, sym ends))
      go (inr (t, row, whole)) = of_two (split part row_word more t row)
        where
          of_two : ((c : List ℕ) × (row_word ≡ part ++ c) × (more ≡ c ++ t))
              ⊎ ((c : List ℕ) × (part ≡ row_word ++ c) × (t ≡ c ++ more))
              → ((c : List ℕ) × (row_word ≡ part ++ c))
              ⊎ (((c : List ℕ) × (part ≡ row_word ++ c)) ⊎ ((c : List ℕ) × (end_body ≡ part ++ c)))
          of_two (inl (c, same, rest)) = inl (c, same)
          of_two (inr (c, same, rest)) = inr (inl (c, same))

-- ---- a text that is too short for the line of a record
pub short_cut : (text : List ℕ) (test : Bool) → length text < HEADER → IsTrue test ↔ BeginsLine text
    → IsTrue test ↔ IsCutRecord text
short_cut text test short is =
    let all : take HEADER text ≡ text = take_all HEADER text (omega (arith, short)) in (
      λ yes. (
        subst (λ (t : List ℕ). BeginsLine t) (sym all) (is.0 yes),
        λ long. absurd (omega (arith, short, long)),
      ),
      λ cut. is.1 (subst (λ (t : List ℕ). BeginsLine t) all cut.0),
    )

-- ---- a line that is not whole
module _ (size : ℕ) (part : List ℕ) (lacks : Lacks 10 part) where
  pub line_cut : BeginsOne IsLineText part → IsCutBody size part
  line_cut has =
      let x = part_of_line part has in record {
        body = text_of x.0;
        more = x.1;
        says = inr (x.0, x.2, refl);
        is = x.3;
        some = x.4;
        fits = λ ends. absurd (ends lacks);
      }

  pub no_entry_cut : ((more : List ℕ) × (0 < length more) × (is_no_entry (part ++ more) ≡ true))
      → IsCutBody size part
  no_entry_cut (more, some, is) = record {
    body = part ++ more;
    more = more;
    says = inl is;
    is = refl;
    some = some;
    fits = λ ends. absurd (ends lacks);
  }

  pub cut_no_entry : ¬ (BeginsOne IsLineText part) → IsCutBody size part
      → (more : List ℕ) × (0 < length more) × (is_no_entry (part ++ more) ≡ true)
  cut_no_entry none x = go x.says
    where
      go : SaysEntry x.body
          → (more : List ℕ) × (0 < length more) × (is_no_entry (part ++ more) ≡ true)
      go (inl is) = (x.more, x.some, ap is_no_entry (sym x.is) ∙ is)
      go (inr (e, is_e, all)) =
          absurd (foreign_part part lacks none x.more e []
          (is_e, sym x.is ∙ all ∙ sym (append-nil (text_of e))))

-- ---- a message whose line is whole
message_long : (e : Entry) (at size : ℕ) → Message at size ≡ line_of e
    → (length (text_of e) ≡ length (line_text (Message at size)) + size + 2)
    × (length (rest_of e) ≡ size + 1)
message_long (message time bytes) at size same =
    let len : size ≡ length bytes = cc in
    let line : length (line_text (Message at size))
    ≡ length (line_text (Message time (length bytes))) =
    ap (λ l. length (line_text l)) same in (
      omega (
        arith,
        len,
        line,
        length-append (line_text (Message time (length bytes))) (10 ∷ (bytes ++ 10 ∷ [])),
        length-append bytes (10 ∷ []),
      ),
      omega (arith, len, length-append bytes (10 ∷ [])),
    )
message_long (room h) at size same = absurd (cc)
message_long (answer status) at size same = absurd (cc)

no_more : (e : Entry) → ((at size : ℕ) → line_of e ≢ Message at size) → rest_of e ≡ []
no_more (room h) none = refl
no_more (answer status) none = refl
no_more (message at bytes) none = absurd (none at (length bytes) refl)

module _ (size : ℕ) (part line rest : List ℕ) (lacks : Lacks 10 line)
    (is : part ≡ line ++ 10 ∷ rest) where
  -- what goes on behind a whole line is an entry
  cut_entry : (x : IsCutBody size part)
      → (e : Entry) × IsEntry e × (x.body ≡ text_of e) × (line ≡ line_text (line_of e))
      × (rest ++ x.more ≡ rest_of e)
  cut_entry x = go x.says
    where
      body_is : x.body ≡ line ++ 10 ∷ (rest ++ x.more)
      body_is = x.is ∙ ap (λ t. t ++ x.more) is ∙ append_assoc line (10 ∷ rest) x.more

      go : SaysEntry x.body
          → (e : Entry) × IsEntry e × (x.body ≡ text_of e) × (line ≡ line_text (line_of e))
          × (rest ++ x.more ≡ rest_of e)
      go (inl silent) =
          let l = one_line x.body silent in
          let none = (cut_unique 10 line (rest ++ x.more) l.0 [] lacks l.1 (sym body_is ∙ l.2)).1 in
          absurd (omega (arith, x.some, none_of_both rest x.more none))
      go (inr (e, is_e, all)) =
          let parts = cut_unique 10 line (rest ++ x.more) (line_text (line_of e)) (rest_of e) lacks
          (line_lacks (line_of e) is_e) (sym body_is ∙ all) in
          (e, is_e, all, parts.0, parts.1)

  pub no_line_cut : ¬ (IsLineText line) → ¬ (IsCutBody size part)
  no_line_cut none x = let e = cut_entry x in none (line_of e.0, e.1, e.3)

  module _ (l : EntryLine) (is_line : IsLine l) (text : line ≡ line_text l) where
    same_line : (x : IsCutBody size part) → l ≡ line_of (cut_entry x).0
    same_line x =
        let e = cut_entry x in line_injective l (line_of e.0) is_line e.1 (sym text ∙ e.3)

    pub other_cut : ((at bytes : ℕ) → l ≢ Message at bytes) → ¬ (IsCutBody size part)
    other_cut other x =
        let e = cut_entry x in
        let none = no_more e.0 (λ at bytes same. other at bytes (same_line x ∙ same)) in
        omega (arith, x.some, none_of_both rest x.more (e.4 ∙ none))

  module _ (at bytes : ℕ) (is_line : IsLine (Message at bytes))
      (text : line ≡ line_text (Message at bytes)) where
    pub message_cut : length rest ≤ bytes → length line + bytes + 2 ≡ size → IsCutBody size part
    message_cut short fits =
        let x = part_of_message part at bytes rest is_line
        (is ∙ ap (λ t. t ++ 10 ∷ rest) text) short in
        let found = line_is (Message at bytes) (rest ++ x.1) x.0 [] is_line x.2
        (ap (λ t. t ++ 10 ∷ (rest ++ x.1)) (sym text) ∙ sym (append_assoc line (10 ∷ rest) x.1)
        ∙ ap (λ t. t ++ x.1) (sym is) ∙ sym x.3 ∙ sym (append-nil (text_of x.0))) in
        let long = (message_long x.0 at bytes found.0).0 in record {
          body = text_of x.0;
          more = x.1;
          says = inr (x.0, x.2, refl);
          is = x.3;
          some = x.4;
          fits = λ ends. omega (arith, long, fits, ap length text);
        }

    pub cut_message : IsCutBody size part → (length rest ≤ bytes) × (length line + bytes + 2 ≡ size)
    cut_message x =
        let e = cut_entry x in
        let long = message_long e.0 at bytes (same_line (Message at bytes) is_line text x) in
        let marked : ¬ (Lacks 10 part) = λ none.
        has_mark 10 line rest (subst (λ (t : List ℕ). Lacks 10 t) is none) in (
          omega (arith, x.some, long.1, ap length e.4, length-append rest x.more),
          omega (arith, long.0, x.fits marked, ap length e.2, ap length text),
        )
