-- Lemmas on where the whole entries of a journal end.
use Rattle.std.proofs.Common.{◌≡◌, ◌∙◌, ap, sym, refl, arith, ℕ, ◌+◌, List, [], ◌∷◌, ◌++◌, length}
use Rattle.std.proofs.Common.{drop, min, append-nil, append_assoc, length-append, All, Option, Some}
use Rattle.std.proofs.Common.{None}
use Rattle.std.specs.Io.KnownBytes.{prepend_known, Keeps}
use Rattle.std.proofs.lemmas.List.Elements.{All-nil, All-push}
use Rattle.dispatch_room_journal.specs.declared.entry_prefixes.EntryLayout.{EntryLayout}
use Rattle.dispatch_room_journal.specs.Entries.{Entry, IsEntry, text_of, texts_of}
use Rattle.dispatch_room_journal.specs.EntryPrefixes.{IsLayout}
use Rattle.dispatch_room_journal.specs.WholeEntries.{most_bytes}

-- these entries were taken, and what is left of the text follows them
pub record Taken (first left : Option (List ℕ)) (taken : ℕ) (entries : List Entry) : Type 0 where
  pub are_entries : All IsEntry entries
  pub follows : (text : List ℕ) → first ≡ Some text
      → (rest : List ℕ) × (left ≡ Some rest) × (text ≡ texts_of entries ++ rest)
  pub count : taken ≡ min (length (texts_of entries)) most_bytes

texts-append : (xs ys : List Entry) → texts_of (xs ++ ys) ≡ texts_of xs ++ texts_of ys
texts-append [] ys = refl
texts-append (x ∷ xs) ys =
    ap (λ t. text_of x ++ t) (texts-append xs ys) ∙ sym (append_assoc (text_of x) (texts_of xs) (texts_of ys))

texts-push : (entries : List Entry) (e : Entry)
    → texts_of (entries ++ e ∷ []) ≡ texts_of entries ++ text_of e
texts-push entries e = texts-append entries (e ∷ []) ∙ ap (λ t. texts_of entries ++ t) (append-nil (text_of e))

pub none_taken : (first : Option (List ℕ)) → Taken first first 0 []
none_taken first = record {
  are_entries = All-nil IsEntry;
  follows = λ text known. (text, known, refl);
  count = refl;
}

-- what is left goes from the reader to the inbox
pub taken_kept : (first left after : Option (List ℕ)) (taken : ℕ) (entries : List Entry)
    → Taken first left taken entries → Keeps left after → Taken first after taken entries
taken_kept first None after taken entries x keeps = record {
  are_entries = x.are_entries;
  follows = λ text known. absurd (let follows = x.follows text known in cc);
  count = x.count;
}
taken_kept first (Some left) None taken entries x keeps = absurd keeps
taken_kept first (Some left) (Some after) taken entries x keeps = record {
  are_entries = x.are_entries;
  follows = λ text known. let follows = x.follows text known in (follows.0, (cc), follows.2);
  count = x.count;
}

-- one more entry is taken from the front of the inbox
pub taken_more : (first left : Option (List ℕ)) (kept : List ℕ) (taken now : ℕ)
    (entries : List Entry) (layout : EntryLayout) (e : Entry)
    → Taken first (prepend_known kept left) taken entries
    → IsLayout kept layout e → now ≡ min (taken + layout.end) most_bytes
    → Taken first (prepend_known (drop layout.end kept) left) now (entries ++ e ∷ [])
taken_more first left kept taken now entries layout e x is count = record {
  are_entries = All-push IsEntry entries e x.are_entries is.begins.0;
  follows = follows left x.follows;
  count =
      omega
      (arith, count, x.count, is.end, ap length (texts-push entries e), length-append (texts_of entries) (text_of e));
}
  where
    follows : (left : Option (List ℕ))
        → ((text : List ℕ) → first ≡ Some text
        → (rest : List ℕ) × (prepend_known kept left ≡ Some rest)
        × (text ≡ texts_of entries ++ rest))
        → (text : List ℕ) → first ≡ Some text
        → (rest : List ℕ) × (prepend_known (drop layout.end kept) left ≡ Some rest)
        × (text ≡ texts_of (entries ++ e ∷ []) ++ rest)
    follows None before text known = absurd (let b = before text known in cc)
    follows (Some more) before text known =
        let b = before text known in
        let same : kept ++ more ≡ b.0 = cc in (
          drop layout.end kept ++ more,
          refl,
          b.2
              ∙ ap (λ t. texts_of entries ++ t)
              (sym same ∙ ap (λ t. t ++ more) is.begins.1 ∙ append_assoc (text_of e) (drop layout.end kept) more)
              ∙ sym (append_assoc (texts_of entries) (text_of e) (drop layout.end kept ++ more))
              ∙ ap (λ t. t ++ (drop layout.end kept ++ more)) (sym (texts-push entries e)),
        )

-- the reader's bytes are what the empty inbox begins with
pub nothing_taken : (left : Option (List ℕ)) → Taken left (prepend_known [] left) 0 []
nothing_taken None = taken_kept None None (prepend_known [] None) 0 [] (none_taken None) tt
nothing_taken (Some text) =
    taken_kept (Some text) (Some text) (prepend_known [] (Some text)) 0 [] (none_taken (Some text)) refl
