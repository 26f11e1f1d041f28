-- The text of a list of terminals is cut into its lines, and each line is read as its terminal.
use Rattle.std.proofs.Common.{Bool, Bor, List, None, Some, [], ap, append-nil, append_assoc, arith}
use Rattle.std.proofs.Common.{codes, decimal, eqb, false, flat_map, get_or, inl, inr, length}
use Rattle.std.proofs.Common.{length-append, ltb, refl, sym, true, ℕ, ◌+◌, ◌++◌, ◌<◌, ◌^◌, ◌∙◌, ◌∷◌}
use Rattle.std.proofs.Common.{◌≡◌, ◌≢◌, ◌≤◌}
use Rattle.std.specs.List.{All, list_all, slice_split}
use Rattle.std.specs.Prelude.{nat_le, nat_lt, ◌&&◌}
use Rattle.std.specs.Str.{IsAscii, IsUtf8}
use Rattle.std.proofs.lemmas.Bool.{and_parts, eqb-false, ne_eqb}
use Rattle.std.proofs.lemmas.Bool.Decides.{nat_tests}
use Rattle.std.proofs.lemmas.Fmt.{decimal_is_IsNumeral}
use Rattle.std.proofs.lemmas.List.{append_cancel_left}
use Rattle.std.proofs.lemmas.List.Elements.{All-append, All-cons, All-from_get_or, All-nil}
use Rattle.std.proofs.lemmas.List.Elements.{All-tail}
use Rattle.std.proofs.lemmas.List.Splits.{slice_split_at}
use Rattle.std.proofs.lemmas.List.Sums.{AllPass-from_list_all}
use Rattle.std.proofs.lemmas.Str.{IsAscii-append, IsUtf8-from_ascii}
use Rattle.std.proofs.lemmas.Str.Ascii.{IsAscii-from_all, IsAscii-nil}
use Rattle.std.proofs.lemmas.Str.Parse.{digit_at}
use Rattle.std.proofs.lemmas.Str.Pattern.{IsSplitOnceResult, split_after, split_parts}
use borrow.Author.Tests.{ltb-true}
use Rattle.room_types.specs.Texts.{is_callsign_letter, is_token, is_token_letter}
use Rattle.room_types.specs.declared.asks.Who.{Who}
use Rattle.room_types.specs.declared.asks.Who.TheVariants.{Crew, Desk, Position}
use Rattle.room_types.specs.declared.fleet.Terminal.{Terminal}
use Rattle.dispatch_room_cli.specs.TerminalNames.{IsWho, Names, NamesNobody, who_text}
use Rattle.dispatch_room_cli.proofs.TerminalNameLemmas.{names_one}
use Rattle.dispatch_room_lists.specs.RoomChanges.{AddsLine, AreReadAs, IsEntry, IsNoEntry}
use Rattle.dispatch_room_lists.specs.RoomChanges.{IsNoTerminals, IsTerminal, line_of, terminal_line}
use Rattle.dispatch_room_lists.specs.RoomChanges.{terminals_text}

-- ---- the letters of names and tokens
abbrev IsLetter : ℕ → Type 0
IsLetter byte = (48 ≤ byte) × (byte < 128)

letters : (is_letter : ℕ → Bool) → ((byte : ℕ) → is_letter byte ≡ true → IsLetter byte)
    → (text : List ℕ) → list_all is_letter text ≡ true → All IsLetter text
letters is_letter letter text all =
    λ k d inside. letter _ (AllPass-from_list_all is_letter text all k d inside)

callsign_letter : (byte : ℕ) → is_callsign_letter byte ≡ true → IsLetter byte
callsign_letter byte is = (grind (arith, nat_tests), grind (arith, nat_tests))

token_letter : (byte : ℕ) → is_token_letter byte ≡ true → IsLetter byte
token_letter byte is = (grind (arith, nat_tests), grind (arith, nat_tests))

letters_of_number : (n : ℕ) → n < 2 ^ 64 → All IsLetter (decimal n)
letters_of_number n few = All-from_get_or IsLetter (decimal n) 0 (λ i within.
    let digit = digit_at (decimal n) i (decimal_is_IsNumeral n few).0.1 within in
    (omega (arith, digit), omega (arith, digit)))

-- the letters of a text that is known
known : (text : List ℕ) → list_all (λ byte. nat_le 48 byte && nat_lt byte 128) text ≡ true → All IsLetter text
known text all = letters (λ byte. nat_le 48 byte && nat_lt byte 128)
    (λ byte is. (grind (arith, nat_tests), grind (arith, nat_tests))) text all

name_letters : (who : Who) → IsWho who → All IsLetter (who_text who)
name_letters (Desk division) is =
    All-append IsLetter (codes "desk:") (decimal division) (known (codes "desk:") refl)
    (letters_of_number division (omega (arith, is)))
name_letters (Position number) is =
    All-append IsLetter (codes "position:") (decimal number) (known (codes "position:") refl)
    (letters_of_number number (omega (arith, is)))
name_letters (Crew callsign) is =
    All-append IsLetter (codes "crew:") callsign (known (codes "crew:") refl)
    (letters is_callsign_letter callsign_letter callsign (and_parts _ _ is).1)

token_letters : (token : List ℕ) → is_token token ≡ true → All IsLetter token
token_letters token is = letters is_token_letter token_letter token (and_parts _ _ is).1

-- letters have no mark among them, and are ASCII
lacks : (mark : ℕ) → mark < 48 → (text : List ℕ) → All IsLetter text
    → All (λ byte. eqb byte mark ≡ false) text
lacks mark low text all =
    λ k d inside. ne_eqb _ mark (λ same. let is = all k d inside in absurd (omega (arith, low, same, is)))

lacks_at : (mark : ℕ) → mark < 48 → (text : List ℕ) → All IsLetter text
    → (i : ℕ) → i < length text → get_or text i 0 ≢ mark
lacks_at mark low text all i inside same = let is = all i 0 inside in absurd (omega (arith, low, same, is))

-- ---- a line is that of one terminal
abbrev entry_text : Terminal → List ℕ
entry_text terminal = who_text terminal.who ++ 44 ∷ terminal.token

-- a line without a comma is that of none
pub no_comma : (line : List ℕ) → IsSplitOnceResult 44 line None → IsNoEntry line
no_comma line cut terminal is =
    split_after 44 line (who_text terminal.who) terminal.token None cut (omega arith) is.written
    (lacks_at 44 (omega arith) _ (name_letters terminal.who is.is_terminal.0))

-- the parts of a line that is that of a terminal
cut_parts : (line : List ℕ) (who token : Bor (List ℕ)) → IsSplitOnceResult 44 line (Some (who, token))
    → (terminal : Terminal) → IsEntry line terminal
    → (who.now ≡ who_text terminal.who) × (token.now ≡ terminal.token)
cut_parts line who token cut terminal is =
    split_after 44 line (who_text terminal.who) terminal.token (Some (who, token)) cut (omega arith) is.written
    (lacks_at 44 (omega arith) _ (name_letters terminal.who is.is_terminal.0))

pub no_token : (line : List ℕ) (who token : Bor (List ℕ)) → IsSplitOnceResult 44 line (Some (who, token))
    → ¬ (is_token token.now ≡ true) → IsNoEntry line
no_token line who token cut none terminal is =
    none (ap is_token (cut_parts line who token cut terminal is).1 ∙ is.is_terminal.1)

pub no_name : (line : List ℕ) (who token : Bor (List ℕ)) → IsSplitOnceResult 44 line (Some (who, token))
    → NamesNobody who.now → IsNoEntry line
no_name line who token cut nobody terminal is = nobody terminal.who (record {
  is_who = is.is_terminal.0;
  named = (cut_parts line who token cut terminal is).0;
})

pub entry : (line : List ℕ) (who token : Bor (List ℕ)) → IsSplitOnceResult 44 line (Some (who, token))
    → (terminal : Terminal) → Names who.now terminal.who → is_token token.now ≡ true
    → terminal.token ≡ token.now → IsEntry line terminal
entry line who token cut terminal names valid same = record {
  is_terminal = (names.is_who, ap is_token same ∙ valid);
  written = (split_parts 44 line (Some (who, token)) cut (omega arith)).0
      ∙ ap (λ t. t ++ (44 ∷ token.now)) names.named ∙ ap (λ t. who_text terminal.who ++ (44 ∷ t)) (sym same);
}

-- an entry is that of one terminal only
same_terminal : (one other : Terminal) → one.who ≡ other.who → one.token ≡ other.token → one ≡ other
same_terminal one other who token =
    ap (λ w. record one { who = w }) who ∙ ap (λ t. record other { token = t }) token

first_part : (a b : List ℕ) (s t : List (List ℕ)) → ◌≡◌ {A = List (List ℕ)} (a ∷ s) (b ∷ t) → a ≡ b
first_part a b s t is = cc

rest_same : (byte : ℕ) (s t : List ℕ) → byte ∷ s ≡ byte ∷ t → s ≡ t
rest_same byte s t is = cc

one_entry : (line : List ℕ) (one other : Terminal) → IsEntry line one → IsEntry line other → one ≡ other
one_entry line one other first second =
    let cut = λ (t : Terminal) (is : IsEntry line t).
    slice_split_at (λ byte. eqb byte 44) (who_text t.who) 44 t.token
    (lacks 44 (omega arith) _ (name_letters t.who is.is_terminal.0)) refl in
    let parts : who_text one.who ∷ slice_split (λ byte. eqb byte 44) one.token
    ≡ who_text other.who ∷ slice_split (λ byte. eqb byte 44) other.token =
    sym (cut one first) ∙ ap (slice_split (λ byte. eqb byte 44)) (sym first.written ∙ second.written)
    ∙ cut other second in
    let named : who_text one.who ≡ who_text other.who = first_part _ _ _ _ parts in
    let whole : who_text one.who ++ (44 ∷ one.token) ≡ who_text one.who ++ (44 ∷ other.token) =
    sym first.written ∙ second.written ∙ ap (λ t. t ++ (44 ∷ other.token)) (sym named) in
    same_terminal one other
    (names_one (who_text one.who) one.who other.who
    (record { is_who = first.is_terminal.0; named = refl }) (record { is_who = second.is_terminal.0; named = named }))
    (rest_same 44 _ _ (append_cancel_left (who_text one.who) _ _ whole))

-- ---- the lines of a list
no_newline : (terminal : Terminal) → IsTerminal terminal
    → All (λ byte. eqb byte 10 ≡ false) (entry_text terminal)
no_newline terminal is =
    All-append (λ byte. eqb byte 10 ≡ false) (who_text terminal.who) (44 ∷ terminal.token)
    (lacks 10 (omega arith) _ (name_letters terminal.who is.0))
    (All-cons (λ byte. eqb byte 10 ≡ false) 44 terminal.token refl
    (lacks 10 (omega arith) _ (token_letters terminal.token is.1)))

line_is : (terminal : Terminal) (rest : List ℕ)
    → line_of terminal ++ rest ≡ entry_text terminal ++ (10 ∷ rest)
line_is terminal rest = simp append_assoc

no_newline_at : (terminal : Terminal) → IsTerminal terminal
    → (i : ℕ) → i < length (entry_text terminal) → get_or (entry_text terminal) i 0 ≢ 10
no_newline_at terminal is i inside same = eqb-false _ 10 (no_newline terminal is i 0 inside) same

-- the first line of a list that is not empty is that of its first terminal
record Cut (left : List Terminal) (line below : List ℕ) : Type 0 where
  first : Terminal
  others : List Terminal
  whole : left ≡ first ∷ others
  valid : All IsTerminal others
  is_first : IsEntry line first
  rest : below ≡ flat_map line_of others

cut_line : (rest : List ℕ) (line below : Bor (List ℕ)) → IsSplitOnceResult 10 rest (Some (line, below))
    → (left : List Terminal) → All IsTerminal left → rest ≡ flat_map line_of left
    → Cut left line.now below.now
cut_line rest line below cut [] all same =
    let whole : []
    ≡ line.now ++ 10 ∷ below.now = sym same ∙ (split_parts 10 rest (Some (line, below)) cut (omega arith)).0 in
    let none : 0 ≡ length line.now + length (10 ∷ below.now) =
    ap length whole ∙ length-append line.now (10 ∷ below.now) in
    absurd (omega (arith, none))
cut_line rest line below cut (terminal ∷ others) all same =
    let is = all 0 terminal (omega arith) in
    let parts = split_after 10 rest (entry_text terminal) (flat_map line_of others) (Some (line, below)) cut
    (omega arith) (same ∙ line_is terminal (flat_map line_of others)) (no_newline_at terminal is) in
    record {
      first = terminal;
      others = others;
      whole = refl;
      valid = All-tail IsTerminal terminal others all;
      is_first = record { is_terminal = is; written = parts.0 };
      rest = parts.1;
    }

no_line : (rest : List ℕ) → IsSplitOnceResult 10 rest None → (left : List Terminal) → All IsTerminal left
    → rest ≡ flat_map line_of left → left ≡ []
no_line rest cut [] all same = refl
no_line rest cut (terminal ∷ others) all same =
    absurd (split_after 10 rest (entry_text terminal) (flat_map line_of others) None cut (omega arith)
    (same ∙ line_is terminal (flat_map line_of others)) (no_newline_at terminal (all 0 terminal (omega arith))))

-- What is left of the lines of a list, and what was found before it: together they are the list.
pub record Left (listed found : List Terminal) (rest : List ℕ) : Type 0 where
  pub left : List Terminal
  pub valid : All IsTerminal left
  pub whole : listed ≡ found ++ left
  pub lines : rest ≡ flat_map line_of left

abbrev pub HasRead : List ℕ → List ℕ → List Terminal → Type 0
HasRead lines rest found =
    (listed : List Terminal) → All IsTerminal listed → lines ≡ flat_map line_of listed → Left listed found rest

pub reads_first : (lines : List ℕ) (found : List Terminal) → found ≡ [] → HasRead lines lines found
reads_first lines found none listed all same = record {
  left = listed;
  valid = all;
  whole = ap (λ t. t ++ listed) (sym none);
  lines = same;
}

reads_one : (lines rest : List ℕ) (line below : Bor (List ℕ)) (found after : List Terminal) (terminal : Terminal)
    → IsSplitOnceResult 10 rest (Some (line, below)) → HasRead lines rest found → IsEntry line.now terminal
    → after ≡ found ++ (terminal ∷ []) → HasRead lines below.now after
reads_one lines rest line below found after terminal cut read is pushed listed all same =
    let old = read listed all same in
    let next = cut_line rest line below cut old.left old.valid old.lines in
    record {
      left = next.others;
      valid = next.valid;
      whole = old.whole ∙ ap (λ l. found ++ l)
          (next.whole ∙ ap (λ t. t ∷ next.others) (one_entry line.now next.first terminal next.is_first is))
          ∙ sym (append_assoc found (terminal ∷ []) next.others) ∙ ap (λ l. l ++ next.others) (sym pushed);
      lines = next.rest;
    }

reads_none : (lines rest : List ℕ) (line below : Bor (List ℕ)) (found : List Terminal)
    → IsSplitOnceResult 10 rest (Some (line, below)) → HasRead lines rest found → IsNoEntry line.now
    → HasRead lines below.now found
reads_none lines rest line below found cut read none listed all same =
    let old = read listed all same in
    let next = cut_line rest line below cut old.left old.valid old.lines in
    absurd (none next.first next.is_first)

pub reads_more : (lines rest : List ℕ) (line below : Bor (List ℕ)) (found after : List Terminal)
    → IsSplitOnceResult 10 rest (Some (line, below)) → HasRead lines rest found
    → AddsLine line.now found after → HasRead lines below.now after
reads_more lines rest line below found after cut read (inl none) = λ listed all same.
    let old = reads_none lines rest line below found cut read none.0 listed all same in
    record {
      left = old.left;
      valid = old.valid;
      whole = old.whole ∙ ap (λ f. f ++ old.left) (sym none.1);
      lines = old.lines;
    }
reads_more lines rest line below found after cut read (inr one) =
    reads_one lines rest line below found after one.0 cut read one.1 one.2

pub reads_all : (lines rest : List ℕ) (found : List Terminal) → IsSplitOnceResult 10 rest None
    → HasRead lines rest found → AreReadAs lines found
reads_all lines rest found cut read listed all same =
    let old = read listed all same in
    sym (old.whole ∙ ap (λ l. found ++ l) (no_line rest cut old.left old.valid old.lines) ∙ append-nil found)

-- ---- texts of no change of terminals
pub no_header : (text : List ℕ) → ((lines : List ℕ) → text ≢ terminals_text lines) → IsNoTerminals text
no_header text none = record { no_one = λ who is. none _; no_list = λ listed all. none _ }

-- all these texts are of ASCII
ascii : (text : List ℕ) → All IsLetter text → IsAscii text
ascii text all = IsAscii-from_all text (λ k d inside. (all k d inside).1)

mark : (byte : ℕ) → byte < 128 → IsAscii (byte ∷ [])
mark byte low = IsAscii-from_all (byte ∷ []) (All-cons (λ b. b < 128) byte [] low (All-nil (λ b. b < 128)))

line_ascii : (who : Who) (token : List ℕ) → IsWho who → IsAscii token → IsAscii (terminal_line who token)
line_ascii who token is valid =
    IsAscii-append (who_text who ++ (44 ∷ []) ++ token) (10 ∷ [])
    (IsAscii-append (who_text who ++ (44 ∷ [])) token
    (IsAscii-append (who_text who) (44 ∷ []) (ascii _ (name_letters who is)) (mark 44 (omega arith))) valid)
    (mark 10 (omega arith))

lines_ascii : (listed : List Terminal) → All IsTerminal listed → IsAscii (flat_map line_of listed)
lines_ascii [] all = IsAscii-nil
lines_ascii (terminal ∷ rest) all =
    let is = all 0 terminal (omega arith) in
    IsAscii-append (line_of terminal) _
    (line_ascii terminal.who terminal.token is.0 (ascii _ (token_letters terminal.token is.1)))
    (lines_ascii rest (All-tail IsTerminal terminal rest all))

header_ascii : IsAscii (codes "terminal,token\n")
header_ascii = IsAscii-from_all (codes "terminal,token\n") (λ k d inside.
    ltb-true _ 128 (AllPass-from_list_all (λ byte. ltb byte 128) (codes "terminal,token\n") refl k d inside))

pub no_text : (text : List ℕ) → ¬ IsUtf8 text → IsNoTerminals text
no_text text none = record {
  no_one = λ who is same. none (rw same (IsUtf8-from_ascii _ (IsAscii-append (codes "terminal,token\n") _ header_ascii
      (line_ascii who [] is IsAscii-nil))));
  no_list = λ listed all same. none (rw same (IsUtf8-from_ascii _ (IsAscii-append (codes "terminal,token\n") _
      header_ascii (lines_ascii listed all))));
}
