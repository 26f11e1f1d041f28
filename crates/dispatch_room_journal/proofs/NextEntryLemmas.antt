-- Lemmas on the entries that a replay takes from a journal.
use Rattle.std.proofs.Common.{◌≡◌, ◌∙◌, sym, ap, subst, refl, arith, ℕ, List, [], ◌∷◌, ◌++◌, drop}
use Rattle.std.proofs.Common.{append-nil, append_assoc, Option, Some, None, inr}
use Rattle.std.specs.Prelude.{⊤}
use Rattle.std.specs.Io.KnownBytes.{Consumes, Keeps, IsAtEnd, prepend_known}
use Rattle.std.proofs.KnownBytes.{Consumes-trans}
use Rattle.room_model.specs.declared.digests.StartDigest.{StartDigest}
use Rattle.dispatch_room_journal.specs.declared.entry_lines.EntryLine.TheVariants.{Room, Message}
use Rattle.dispatch_room_journal.specs.declared.entry_prefixes.EntryLayout.{EntryLayout}
use Rattle.dispatch_room_journal.specs.Entries.{Entry, room, message, answer, line_of, text_of}
use Rattle.dispatch_room_journal.specs.Entries.{texts_of, Begins}
use Rattle.dispatch_room_journal.specs.EntryPrefixes.{IsLayout}
use Rattle.dispatch_room_journal.proofs.EntryLemmas.{one_entry_law, no_end_law}
use Rattle.dispatch_room_journal.specs.ReplaySteps.{IsMark}
use Rattle.dispatch_room_journal.specs.ReplayedTurns.{HasNoStatus, BeginsWith, EndsAt, IsBy}
use Rattle.dispatch_room_journal.specs.ReplayedTurns.{IsAfter}

-- what a line says of its entry
pub layout_of_room : (kept : List ℕ) (layout : EntryLayout) (e : Entry) (head : StartDigest)
    → IsLayout kept layout e → layout.line ≡ Room head → IsLayout kept layout (room head)
layout_of_room kept layout (room d) head x is =
    let same : d ≡ head = cc (x.line, is) in subst (λ (t : StartDigest). IsLayout kept layout (room t)) same x
layout_of_room kept layout (message at sent) head x is = absurd (cc (x.line, is))
layout_of_room kept layout (answer status) head x is = absurd (cc (x.line, is))

pub layout_of_message : (kept : List ℕ) (layout : EntryLayout) (e : Entry) (at size : ℕ)
    → IsLayout kept layout e → layout.line ≡ Message at size
    → (sent : List ℕ) × IsLayout kept layout (message at sent)
layout_of_message kept layout (room d) at size x is = absurd (cc (x.line, is))
layout_of_message kept layout (message then sent) at size x is =
    let same : then ≡ at = cc (x.line, is) in (sent, subst (λ (t : ℕ). IsLayout kept layout (message t sent)) same x)
layout_of_message kept layout (answer status) at size x is = absurd (cc (x.line, is))

pub layout_of_mark : (kept : List ℕ) (layout : EntryLayout) (e f : Entry) → IsLayout kept layout e
    → IsMark f → layout.line ≡ line_of f → IsLayout kept layout f
layout_of_mark kept layout e (room head) x mark is = layout_of_room kept layout e head x is
layout_of_mark kept layout e (message at sent) x mark is = absurd mark
layout_of_mark kept layout (room head) (answer s) x mark is = absurd (cc (x.line, is))
layout_of_mark kept layout (message at sent) (answer s) x mark is = absurd (cc (x.line, is))
layout_of_mark kept layout (answer status) (answer s) x mark is =
    let same : status ≡ s = cc (x.line, is) in subst (λ (t : ℕ). IsLayout kept layout (answer t)) same x

-- an entry at the front is taken
pub taken : (before left : Option (List ℕ)) (kept after : List ℕ) (layout : EntryLayout) (e : Entry)
    → IsLayout kept layout e → Keeps before (prepend_known kept left)
    → after ≡ drop layout.end kept → Consumes before (prepend_known after left) (texts_of (e ∷ []))
taken None left kept after layout e x same is = tt
taken (Some text) None kept after layout e x same is = absurd same
taken (Some text) (Some more) kept after layout e x same is =
    sym same ∙ ap (λ t. t ++ more) x.begins.1 ∙ append_assoc (text_of e) (drop layout.end kept) more
    ∙ (λ i. sym (append-nil (text_of e)) i ++ (sym is i ++ more))

-- two entries, one after the other
pub texts_two : (e f : Entry) → texts_of (e ∷ []) ++ texts_of (f ∷ []) ≡ texts_of (e ∷ f ∷ [])
texts_two e f = ap (λ t. t ++ texts_of (f ∷ [])) (append-nil (text_of e))

pub taken_two : (a b c : Option (List ℕ)) (e f : Entry) → Consumes a b (texts_of (e ∷ []))
    → Consumes b c (texts_of (f ∷ [])) → Consumes a c (texts_of (e ∷ f ∷ []))
taken_two a b c e f first second =
    subst (λ (t : List ℕ). Consumes a c t) (texts_two e f) (Consumes-trans a b c _ _ first second)

-- the text begins with the entry at the front
pub begins_front : (left : Option (List ℕ)) (kept : List ℕ) (layout : EntryLayout) (e : Entry)
    → IsLayout kept layout e → BeginsWith (prepend_known kept left) (e ∷ []) (λ rest. ⊤)
begins_front None kept layout e x text is = absurd (cc)
begins_front (Some more) kept layout e x text is =
    let same : kept ++ more ≡ text = cc in (
      drop layout.end kept ++ more,
      sym same ∙ ap (λ t. t ++ more) x.begins.1 ∙ append_assoc (text_of e) (drop layout.end kept) more
          ∙ ap (λ t. t ++ (drop layout.end kept ++ more)) (sym (append-nil (text_of e))),
      tt,
    )

-- no status stands next
pub no_status_front : (left : Option (List ℕ)) (kept : List ℕ) (layout : EntryLayout) (e : Entry)
    → IsLayout kept layout e → ((status : ℕ) → ¬ (layout.line ≡ line_of (answer status)))
    → BeginsWith (prepend_known kept left) [] HasNoStatus
no_status_front left kept layout e x other text is =
    let y = begins_front left kept layout e x text is in
    let first : Begins text e y.0 = (x.begins.0, y.1 ∙ ap (λ t. t ++ y.0) (append-nil (text_of e))) in (
      text,
      refl,
      λ status more begins.
          other status (x.line ∙ ap line_of (one_entry_law text e (answer status) y.0 more first begins).0),
    )

pub no_status_end : (left : Option (List ℕ)) → IsAtEnd left → BeginsWith left [] HasNoStatus
no_status_end None end text is = absurd (cc)
no_status_end (Some x) end text is =
    let same : x ≡ text = cc in
    (text, refl, λ status more begins. (no_end_law text (answer status) more begins).0 (sym same ∙ end))

-- a head that stands next is the one at the front
pub head_front : (P : StartDigest → Type 0) (left : Option (List ℕ)) (kept : List ℕ) (layout : EntryLayout)
    (e : Entry) → IsLayout kept layout e
    → ((head : StartDigest) → layout.line ≡ line_of (room head) → P head)
    → BeginsWith (prepend_known kept left) []
    (λ rest. (head : StartDigest) (more : List ℕ) → Begins rest (room head) more → P head)
head_front P left kept layout e x is_head text is =
    let y = begins_front left kept layout e x text is in
    let first : Begins text e y.0 = (x.begins.0, y.1 ∙ ap (λ t. t ++ y.0) (append-nil (text_of e))) in (
      text,
      refl,
      λ head more begins. is_head head (x.line ∙ ap line_of (one_entry_law text e (room head) y.0 more first begins).0),
    )

pub head_end : (P : StartDigest → Type 0) (left : Option (List ℕ)) → IsAtEnd left → BeginsWith left []
    (λ rest. (head : StartDigest) (more : List ℕ) → Begins rest (room head) more → P head)
head_end P None end text is = absurd (cc)
head_end P (Some x) end text is =
    let same : x ≡ text = cc in
    (text, refl, λ head more begins. absurd ((no_end_law text (room head) more begins).0 (sym same ∙ end)))

-- what is said of what follows
pub begins_more : (left : Option (List ℕ)) (entries : List Entry) (F G : List ℕ → Type 0)
    → ((rest : List ℕ) → F rest → G rest) → BeginsWith left entries F → BeginsWith left entries G
begins_more left entries F G more begins text is = let x = begins text is in (x.0, x.1, more x.0 x.2)

-- nothing is left
pub at_end : (left : Option (List ℕ)) (kept : List ℕ) → kept ≡ [] → IsAtEnd left
    → IsAtEnd (prepend_known kept left)
at_end None kept none end = tt
at_end (Some more) kept none end = (λ i. none i ++ end i)

-- a message that is not after a moment is by it
pub by_not_after : (until : Option ℕ) (at : ℕ) (sent : List ℕ) → ¬ (IsAfter until at)
    → IsBy until (message at sent)
by_not_after None at sent not_after = tt
by_not_after (Some until) at sent not_after = omega (arith, not_after)

-- the text goes on with a message that is after a moment
pub ends_before : (until : Option ℕ) (text : List ℕ) (layout : EntryLayout) (e : Entry) (at size : ℕ)
    → IsLayout text layout e → layout.line ≡ Message at size → IsAfter until at
    → EndsAt until text
ends_before until text layout e at size x is late =
    let y = layout_of_message text layout e at size x is in
    inr (at, y.0, drop layout.end text, y.1.begins, late)
