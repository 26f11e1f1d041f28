-- Lemmas on the fields of a name, and on the Connection fields.
use Rattle.std.proofs.Common.{◌≡◌, sym, refl, ℕ, ◌+◌, ◌<◌, List, [], ◌∷◌, ◌++◌, length, map, take}
use Rattle.std.proofs.Common.{get_or, Bool, true, false, arith, length-append, append-nil, IsTrue}
use Rattle.std.proofs.Common.{◌↔◌, codes, ◌&&◌, ◌||◌, ◌==◌}
use Rattle.std.specs.List.{filter, list_any}
use Rattle.std.specs.Bool.{Decides}
use Rattle.std.proofs.lemmas.List.{map-append, take_more, length-map, get_or-map}
use Rattle.std.proofs.lemmas.List.Folds.{list_any_at, list_any-append}
use Rattle.std.proofs.lemmas.List.Elements.{filter-append, All-get_or}
use Rattle.std.proofs.lemmas.Slice.Eq.{bytes_eq-Decides}
use Rattle.httparse.specs.declared.spans.Span.{Span}
use Rattle.httparse.specs.declared.spans.HeaderSpan.{HeaderSpan}
use Rattle.httparse.specs.Spans.{span_bytes, header_bytes, IsWithin, IsHeaderWithin}
use Rattle.room_http_messages.specs.declared.head_fields.Found.{Found}
use Rattle.room_http_messages.specs.declared.head_fields.Found.TheVariants.{Nowhere, Once, Repeated}
use Rattle.room_http_messages.specs.HeadFields.{Fields, is_named, lower, values_of, found_with}
use Rattle.room_http_messages.specs.HeadFields.{AreWithin, FoundIs}
use Rattle.room_http_messages.specs.ConnectionOptions.{asks_for_close, has_option, is_close_field}
use Rattle.room_http_messages.specs.ConnectionOptions.{is_closing}

-- one field more
pub values_of-named : (name : List ℕ) (fields : List (List ℕ × List ℕ)) (field : List ℕ × List ℕ)
    → is_named name field ≡ true → values_of name (fields ++ field ∷ []) ≡ values_of name fields
    ++ field.1 ∷ []
unfolding values_of
values_of-named name fields field found =
    rw (
      filter-append (is_named name) fields (field ∷ []),
      found,
      map-append (λ (f : List ℕ × List ℕ). f.1) (filter (is_named name) fields) (field ∷ []),
    )

pub values_of-other : (name : List ℕ) (fields : List (List ℕ × List ℕ)) (field : List ℕ × List ℕ)
    → is_named name field ≡ false → values_of name (fields ++ field ∷ []) ≡ values_of name fields
unfolding values_of
values_of-other name fields field other =
    rw (filter-append (is_named name) fields (field ∷ []), other, append-nil)

-- one value more
pub FoundIs-found_with : (buf : List ℕ) (values : List (List ℕ)) (found : Found) (value : Span)
    → FoundIs buf values found → IsWithin (length buf) value
    → FoundIs buf (values ++ span_bytes buf value ∷ []) (found_with found value)
FoundIs-found_with buf values Nowhere value none within = (within, rw none)
FoundIs-found_with buf values (Once first) value one within = rw one.1 (omega arith)
FoundIs-found_with buf values Repeated value two within = rw length-append (omega arith)

-- the step of the walk over the fields
pub FoundIs-more : (buf name : List ℕ) (headers : List HeaderSpan) (i : ℕ) (d : HeaderSpan)
    (found : Found)
    → AreWithin buf headers → i < length headers
    → is_named name (header_bytes buf (get_or headers i d)) ≡ true
    → FoundIs buf (values_of name (map (header_bytes buf) (take i headers))) found
    → FoundIs buf (values_of name (map (header_bytes buf) (take (i + 1) headers)))
    (found_with found (get_or headers i d).value)
FoundIs-more buf name headers i d found within below has was =
    rw (
      take_more headers i d below,
      map-append (header_bytes buf) (take i headers) (get_or headers i d ∷ []),
      values_of-named name (map (header_bytes buf) (take i headers)) (header_bytes buf (get_or headers i d)) has,
    )
    (FoundIs-found_with buf _ found (get_or headers i d).value was
    (All-get_or (IsHeaderWithin (length buf)) headers i d below within).1)

pub FoundIs-less : (buf name : List ℕ) (headers : List HeaderSpan) (i : ℕ) (d : HeaderSpan)
    (found : Found)
    → i < length headers → is_named name (header_bytes buf (get_or headers i d)) ≡ false
    → FoundIs buf (values_of name (map (header_bytes buf) (take i headers))) found
    → FoundIs buf (values_of name (map (header_bytes buf) (take (i + 1) headers))) found
FoundIs-less buf name headers i d found below has was =
    rw (
      take_more headers i d below,
      map-append (header_bytes buf) (take i headers) (get_or headers i d ∷ []),
      values_of-other name (map (header_bytes buf) (take i headers)) (header_bytes buf (get_or headers i d)) has,
    ) was

-- two tests of one fact
pub same_test : (r b : Bool) (P : Type 0) → (IsTrue r ↔ P) → Decides b P → r ≡ b
same_test true b P h d = sym (d.1 (h.0 refl))
same_test false true P h d = h.1 (d.0 refl)
same_test false false P h d = refl

-- the test of a name in the code is that of the definition
pub same_name : (buf name text : List ℕ) (header : HeaderSpan) (r : Bool)
    → text ≡ span_bytes buf header.name → (IsTrue r ↔ (lower text ≡ lower name))
    → r ≡ is_named name (header_bytes buf header)
unfolding is_named
same_name buf name text header r is test =
    rw (← is) (same_test r _ _ test (bytes_eq-Decides (lower text) (lower name)))

-- a field that passes a test is among those that do
pub some_field : (test : List ℕ × List ℕ → Bool) (buf : List ℕ) (headers : List HeaderSpan) (i : ℕ)
    (d : HeaderSpan)
    → i < length headers → test (header_bytes buf (get_or headers i d)) ≡ true
    → list_any test (map (header_bytes buf) headers) ≡ true
some_field test buf headers i d below passes =
    list_any_at test (map (header_bytes buf) headers) i (header_bytes buf d) (rw length-map below)
    (rw (get_or-map (header_bytes buf) headers i d) passes)

-- one field more, which fails it
pub no_field_more : (test : List ℕ × List ℕ → Bool) (buf : List ℕ) (headers : List HeaderSpan)
    (i : ℕ) (d : HeaderSpan)
    → i < length headers → test (header_bytes buf (get_or headers i d)) ≡ false
    → list_any test (map (header_bytes buf) (take i headers)) ≡ false
    → list_any test (map (header_bytes buf) (take (i + 1) headers)) ≡ false
no_field_more test buf headers i d below fails none =
    rw (
      take_more headers i d below,
      map-append (header_bytes buf) (take i headers) (get_or headers i d ∷ []),
      list_any-append test (map (header_bytes buf) (take i headers)) (header_bytes buf (get_or headers i d) ∷ []),
      none,
      fails,
    ) refl

-- a Connection field with the option close, by the tests of the code
pub close_field : (buf : List ℕ) (header : HeaderSpan) (named has : Bool)
    → named ≡ is_named (codes "connection") (header_bytes buf header)
    → has ≡ has_option (codes "close") (span_bytes buf header.value)
    → is_close_field (header_bytes buf header) ≡ (named && has)
unfolding is_close_field
close_field buf header named has name_is option_is = rw (name_is, option_is) refl

or_true : (b : Bool) → (b || true) ≡ true
or_true true = refl
or_true false = refl

pub closes_by_field : (minor : ℕ) (fields : Fields) → asks_for_close fields ≡ true
    → is_closing minor fields ≡ true
closes_by_field minor fields asks = rw asks (or_true (minor == 0))
