-- Lemmas on the first bytes of a stream.
use Rattle.std.proofs.Common.{◌≡◌, ◌∙◌, sym, ap, subst, refl, inl, inr, ℕ, ◌+◌, ◌-◌, ◌<◌, ◌≤◌, List}
use Rattle.std.proofs.Common.{[], ◌∷◌, ◌++◌, length, take, drop, map, min, arith, append_assoc}
use Rattle.std.proofs.Common.{append-nil, take_all, length-append, length-drop, length-take}
use Rattle.std.proofs.Common.{length-take-le, Some, None, Bool, false, ◌⊎◌, Option, IfSome, codes}
use Rattle.std.specs.List.{slice_range}
use Rattle.std.specs.Option.{option_map}
use Rattle.std.proofs.lemmas.List.{take-append-drop, take-append-le, length-map, drop-append-le}
use Rattle.std.proofs.lemmas.List.{drop-drop}
use Rattle.std.proofs.lemmas.Bool.{cases_lt}
use Rattle.std.proofs.Math.Seq.{take-length, take-append-add, drop-append_seam}
use Rattle.httparse.specs.Grammar.{RequestHead, print_request, ReadsRequest}
use Rattle.httparse.specs.declared.spans.Span.{Span}
use Rattle.httparse.specs.declared.spans.HeaderSpan.{HeaderSpan}
use Rattle.httparse.specs.declared.spans.RequestSpans.{RequestSpans}
use Rattle.httparse.specs.Spans.{span_bytes, header_bytes, IsWithin, IsRequestAt, IsRequestWithin}
use Rattle.httparse.specs.Spans.{RequestOverflows}
use Rattle.room_types.specs.declared.refusal_statuses.Refusal.{Refusal}
use Rattle.room_types.specs.declared.refusal_statuses.Refusal.TheVariants.{BadMessage, HeadTooLong}
use Rattle.room_http_messages.specs.declared.limits.TheConstants.{HEAD_LIMIT, FIELD_LIMIT}
use Rattle.room_http_messages.specs.declared.messages.Layout.{Layout}
use Rattle.room_http_messages.specs.Messages.{window, HasHead, HasPartHead, IsRefused, no_head}
use Rattle.room_http_messages.specs.Messages.{too_long, by_rule, IsPart, in_head, in_body, is_head}
use Rattle.room_http_messages.specs.HeadFields.{Fields, values_of, only_value}
use Rattle.room_http_messages.specs.ConnectionOptions.{is_closing}
use Rattle.room_http_messages.specs.Layouts.{IsWhole}
use Rattle.room_http_messages.specs.Rules.{head_fields, fault_of, body_length}

-- ---- the bytes in a head's place

take_min : (n : ℕ) (bytes : List ℕ) (m : ℕ) → m ≡ min (length bytes) n → take m bytes ≡ take n bytes
take_min n bytes m is = go (cases_lt (length bytes) n)
  where
    go : (length bytes < n) ⊎ (n ≤ length bytes) → take m bytes ≡ take n bytes
    go (inl below) =
        let e : m ≡ length bytes = omega arith in
        let h : length bytes ≤ n = omega arith in rw (e, take-length bytes) (sym (take_all n bytes h))
    go (inr above) = let e : m ≡ n = omega arith in rw e

take_more_of : (n : ℕ) (bytes more : List ℕ)
    → (rest : List ℕ) × (take n (bytes ++ more) ≡ take n bytes ++ rest)
take_more_of n bytes more = go (cases_lt (length bytes) n)
  where
    go : (length bytes < n) ⊎ (n ≤ length bytes)
        → (rest : List ℕ) × (take n (bytes ++ more) ≡ take n bytes ++ rest)
    go (inl below) =
        let h : length bytes ≤ n = omega arith in
        let e : n ≡ length bytes + (n - length bytes) = omega arith in
        let g = take-append-add bytes more (n - length bytes) in (
          take (n - length bytes) more,
          rw (← e) at g ∙ ap (λ t. t ++ take (n - length bytes) more) (sym (take_all n bytes h)),
        )
    go (inr above) = ([], take-append-le n bytes more above ∙ sym (append-nil (take n bytes)))

-- the code's window
pub window_is : (bytes : List ℕ) (m : ℕ) → m ≡ min (length bytes) HEAD_LIMIT
    → take m bytes ≡ window bytes
unfolding window
window_is bytes m is = take_min HEAD_LIMIT bytes m is

-- more bytes leave what stands in the head's place at its front
pub window-append : (bytes more : List ℕ)
    → (rest : List ℕ) × (window (bytes ++ more) ≡ window bytes ++ rest)
unfolding window
window-append bytes more = take_more_of HEAD_LIMIT bytes more

pub window-full : (bytes more : List ℕ) → HEAD_LIMIT ≤ length bytes
    → window (bytes ++ more) ≡ window bytes
unfolding window
window-full bytes more full = take-append-le HEAD_LIMIT bytes more full

-- ---- no head

-- where no head comes, none comes whatever bytes follow
pub no_head_always : (bytes : List ℕ) → RequestOverflows FIELD_LIMIT (window bytes)
    → (more : List ℕ) → IsRefused (bytes ++ more) BadMessage false
no_head_always bytes none more =
    let next = window-append bytes more in
    no_head (rw next.1 (λ left h rest reads. none (next.0 ++ left) h rest (rw (← append_assoc) reads)))

pub too_long_always : (bytes : List ℕ) → HEAD_LIMIT ≤ length bytes → HasPartHead bytes
    → (more : List ℕ) → IsRefused (bytes ++ more) HeadTooLong false
too_long_always bytes full part more =
    too_long (rw length-append (omega arith))
    (record { none = rw (window-full bytes more full) part.none; may = rw (window-full bytes more full) part.may })

-- one byte more is worth another look
pub part_of_head : (bytes : List ℕ) → length bytes < HEAD_LIMIT → HasPartHead bytes
    → (more : List ℕ)
    → length (bytes ++ more) < length bytes + 1 → IsPart (bytes ++ more)
part_of_head bytes short part [] same = rw append-nil (in_head short part)
part_of_head bytes short part (byte ∷ more) same = absurd (omega (arith, simp length-append at same))

-- ---- the head that the parser found

rest_is : (stream : List ℕ) (h : RequestHead) (rest : List ℕ) (n : ℕ) → ReadsRequest stream h rest
    → n ≡ length (print_request h) → rest ≡ drop n stream
rest_is stream h rest n reads is = sym (rw (is, reads.1) (drop-append_seam (print_request h) rest))

fields_fit : (w : List ℕ) (headers : List HeaderSpan) (count room : ℕ) (h : RequestHead)
    → map (header_bytes w) (take count headers) ≡ head_fields h → length headers ≡ room
    → length h.fields ≤ room
fields_fit w headers count room h same full =
    let e = ap length same in
    let n : length h.fields ≡ length (take count headers) = simp length-map at (sym e) in
    omega (arith, n, length-take count headers)

-- what the parser found in the window the stream has, whatever bytes follow
pub record Found (stream w tail : List ℕ) (headers : List HeaderSpan) (r : RequestSpans)
    (h : RequestHead) : Type 0 where
  pub split : stream ≡ w ++ tail
  pub short : length w ≤ HEAD_LIMIT
  pub room : length headers ≡ FIELD_LIMIT
  pub within : IsRequestWithin w headers r
  pub at : IsRequestAt w headers r h

pub Found-append : (stream w tail more : List ℕ) (headers : List HeaderSpan) (r : RequestSpans)
    (h : RequestHead)
    → Found stream w tail headers r h → Found (stream ++ more) w (tail ++ more) headers r h
Found-append stream w tail more headers r h f =
    record {
      split = ap (λ t. t ++ more) f.split ∙ append_assoc w tail more;
      short = f.short;
      room = f.room;
      within = f.within;
      at = f.at;
    }

pub found_in : (bytes : List ℕ) (m : ℕ) (headers : List HeaderSpan) (r : RequestSpans)
    (h : RequestHead)
    → m ≡ min (length bytes) HEAD_LIMIT → length headers ≡ FIELD_LIMIT
    → IsRequestWithin (take m bytes) headers r → IsRequestAt (take m bytes) headers r h
    → Found bytes (take m bytes) (drop m bytes) headers r h
found_in bytes m headers r h is room within at =
    record {
      split = sym (take-append-drop m bytes);
      short = omega (arith, length-take m bytes);
      room = room;
      within = within;
      at = at;
    }

pub head_of : (stream w tail : List ℕ) (headers : List HeaderSpan) (r : RequestSpans)
    (h : RequestHead)
    → Found stream w tail headers r h → HasHead stream h (drop r.len stream)
head_of stream w tail headers r h f =
    let reads : ReadsRequest stream h (drop r.len w ++ tail) =
    (f.at.reads.0, f.split ∙ ap (λ t. t ++ tail) f.at.reads.1 ∙ append_assoc (print_request h) (drop r.len w) tail) in
    record {
      reads = subst (λ (t : List ℕ). ReadsRequest stream h t) (rest_is stream h _ r.len reads f.at.len) reads;
      few = fields_fit w headers r.headers FIELD_LIMIT h f.at.fields f.room;
      fits = omega (arith, f.within.section.len_fits, f.at.len, f.short);
    }

-- what is known of the fields that the parser found is known of the head
fault_is : (w : List ℕ) (headers : List HeaderSpan) (r : RequestSpans) (h : RequestHead)
    (fault : Option Refusal) → IsRequestAt w headers r h
    → fault_of r.version (map (header_bytes w) (take r.headers headers)) ≡ fault
    → fault_of h.minor (head_fields h) ≡ fault
fault_is w headers r h fault at is = rw (at.version, at.fields) at is

pub by_rule_always : (bytes w tail : List ℕ) (headers : List HeaderSpan) (r : RequestSpans)
    (h : RequestHead) (refusal : Refusal) (only : Bool)
    → Found bytes w tail headers r h → fault_of r.version
    (map (header_bytes w) (take r.headers headers)) ≡ Some refusal
    → only ≡ is_head (span_bytes w r.method) → (more : List ℕ)
    → IsRefused (bytes ++ more) refusal only
by_rule_always bytes w tail headers r h refusal only f fault head_only more =
    let same : is_head h.method ≡ only = sym (rw f.at.method at head_only) in
    let head = head_of (bytes ++ more) w (tail ++ more) headers r h (Found-append bytes w tail more headers r h f) in
    subst (λ (o : Bool). IsRefused (bytes ++ more) refusal o) same
    (by_rule h (drop r.len (bytes ++ more)) refusal head (fault_is w headers r h _ f.at fault))

-- until the body is whole there is a part of a message
pub part_of_body : (bytes w tail : List ℕ) (size : ℕ) (headers : List HeaderSpan)
    (r : RequestSpans) (h : RequestHead)
    → Found bytes w tail headers r h → fault_of r.version
    (map (header_bytes w) (take r.headers headers)) ≡ None
    → size ≡ body_length (map (header_bytes w) (take r.headers headers))
    → (more : List ℕ) → length (bytes ++ more) < r.len + size → IsPart (bytes ++ more)
part_of_body bytes w tail size headers r h f fault size_is more cut =
    let head = head_of (bytes ++ more) w (tail ++ more) headers r h (Found-append bytes w tail more headers r h f) in
    let length_is : size ≡ body_length (head_fields h) = rw f.at.fields at size_is in
    let long : r.len
    ≤ length (bytes ++ more) = rw (f.split, append_assoc, length-append) (omega (arith, f.within.section.len_fits)) in
    in_body h (drop r.len (bytes ++ more)) head (fault_is w headers r h _ f.at fault)
    (rw (length-drop, ← length_is) (omega arith))

-- ---- the whole message

-- the layout of a head that the parser found, and of the size bytes after it
pub record LaysOut (bytes : List ℕ) (head : RequestSpans) (fields : Fields) (size : ℕ)
    (layout : Layout) : Type 0 where
  pub method : layout.method ≡ head.method
  pub target : layout.target ≡ head.path
  pub content : layout.body ≡ record { start = head.len; end = head.len + size }
  pub terminal : option_map (span_bytes bytes) layout.terminal
      ≡ only_value (values_of (codes "x-terminal") fields)
  pub terminal_in : IfSome layout.terminal (IsWithin (length bytes))
  pub head_only : layout.head_only ≡ is_head (span_bytes bytes head.method)
  pub closing : layout.closing ≡ is_closing head.version fields

-- a head has at least the spaces of its first line
pub head_not_empty : (h : RequestHead) → 0 < length (print_request h)
unfolding print_request
head_not_empty h = simp length-append (omega arith)

-- what a span of the window covers it covers in the stream
span_in : (stream w tail : List ℕ) (s : Span) → stream ≡ w ++ tail → IsWithin (length w) s
    → span_bytes stream s ≡ span_bytes w s
span_in stream w tail s split within =
    let low : s.start ≤ length w = omega arith in
    let high : s.end - s.start ≤ length (drop s.start w) = rw length-drop (omega arith) in
    rw (split, drop-append-le s.start w tail low, take-append-le (s.end - s.start) (drop s.start w) tail high)

terminal_in : (stream w tail : List ℕ) (s : Option Span) → stream ≡ w ++ tail
    → IfSome s (IsWithin (length w))
    → option_map (span_bytes stream) s ≡ option_map (span_bytes w) s
terminal_in stream w tail None split within = refl
terminal_in stream w tail (Some s) split within = ap Some (span_in stream w tail s split within)

wider : (n m : ℕ) (s : Option Span) → n ≤ m → IfSome s (IsWithin n) → IfSome s (IsWithin m)
wider n m None below within = within
wider n m (Some s) below within = (within.0, omega (arith, within.1))

-- the rest of a stream in two parts
seam : (s : List ℕ) (a n : ℕ) → slice_range s a (a + n) ++ drop (a + n) s ≡ drop a s
seam s a n =
    let e : (a + n) - a ≡ n = omega arith in
    rw (e, ← drop-drop n a s) (take-append-drop n (drop a s))

length_part : (s : List ℕ) (a n : ℕ) → a + n ≤ length s → length (slice_range s a (a + n)) ≡ n
length_part s a n fits =
    let e : (a + n) - a ≡ n = omega arith in
    let room : n ≤ length (drop a s) = rw length-drop (omega arith) in
    rw (e, length-take-le n (drop a s) room)

pub whole : (bytes w tail : List ℕ) (size : ℕ) (headers : List HeaderSpan) (r : RequestSpans)
    (h : RequestHead) (layout : Layout)
    → Found bytes w tail headers r h → fault_of r.version
    (map (header_bytes w) (take r.headers headers)) ≡ None
    → size ≡ body_length (map (header_bytes w) (take r.headers headers))
    → r.len + size ≤ length bytes → LaysOut w r
    (map (header_bytes w) (take r.headers headers)) size layout
    → IsWhole bytes layout
whole bytes w tail size headers r h layout f fault size_is fits laid =
    let len = length_part bytes r.len size fits in
    let short : length w ≤ length bytes = rw (f.split, length-append) (omega arith) in
    let inside : r.len ≤ length w = f.within.section.len_fits in
    let method : IsWithin (length w) r.method = (f.within.method.0, omega (arith, f.within.method.1)) in
    let target : IsWithin (length w) r.path = (f.within.path.0, omega (arith, f.within.path.1)) in (
      record { head = h; body = slice_range bytes r.len (r.len + size) },
      record {
        begins = rw (laid.content, seam bytes r.len size) (head_of bytes w tail headers r h f);
        sound = fault_is w headers r h _ f.at fault;
        size = len ∙ (rw f.at.fields at size_is);
      },
      record {
        method = rw laid.method (span_in bytes w tail r.method f.split method ∙ f.at.method);
        target = rw laid.target (span_in bytes w tail r.path f.split target ∙ f.at.path);
        content = rw laid.content refl;
        terminal =
            terminal_in bytes w tail layout.terminal f.split laid.terminal_in ∙ (rw f.at.fields at laid.terminal);
        head_only = laid.head_only ∙ ap is_head f.at.method;
        closing = rw (f.at.version, f.at.fields) at laid.closing;
        end = rw laid.content (omega (arith, len, f.at.len));
        some = rw laid.content (omega (arith, f.at.len, head_not_empty h));
      },
      record {
        method = rw laid.method (method.0, omega (arith, method.1, short));
        target = rw laid.target (target.0, omega (arith, target.1, short));
        content = rw laid.content (omega arith, fits);
        terminal = wider (length w) (length bytes) layout.terminal short laid.terminal_in;
      },
    )
