-- Lemmas on what a list holds.
use Rattle.std.proofs.Common.{◌≡◌, ◌∙◌, ap, sym, refl, inl, ℕ, ◌+◌, List, [], ◌∷◌, ◌++◌, append-nil}
use Rattle.std.proofs.Common.{append_assoc, arith, Bool, length, true, Option, Some, Err}
use Rattle.dispatch_room_journal.specs.declared.entry_reader.EntryFault.{EntryFault}
use Rattle.dispatch_room_journal.specs.declared.entry_reader.EntryFault.TheVariants.{Cut, Foreign}
use Rattle.dispatch_room_journal.specs.declared.entry_reader.EntryFault.TheVariants.{Read}
use Rattle.dispatch_room_journal.specs.Entries.{Entry, line_of}
use Rattle.dispatch_room_journal.specs.EntryReadings.{FirstIs, SaysOf}
use Rattle.dispatch_room_journal.specs.declared.list_tallies.Span.{Span}
use Rattle.dispatch_room_journal.specs.ListTallies.{EndsAs, SpanIs, moments_by, moments_of}

pub moments-push : (entries : List Entry) (e : Entry)
    → moments_of (entries ++ e ∷ []) ≡ moments_of entries ++ moments_by (line_of e)
moments-push [] e = append-nil (moments_by (line_of e))
moments-push (x ∷ entries) e =
    ap (λ t. moments_by (line_of x) ++ t) (moments-push entries e)
    ∙ sym (append_assoc (moments_by (line_of x)) (moments_of entries) (moments_by (line_of e)))

-- the first message of a list came
pub span_first : (at : ℕ) (moments : List ℕ) → moments ≡ []
    → SpanIs (Some (record { first = at; last = at })) (moments ++ at ∷ [])
span_first at moments none = rw none (([], refl), ([], refl))

-- and one more
pub span_more : (span : Span) (at : ℕ) (moments : List ℕ) → SpanIs (Some span) moments
    → SpanIs (Some (record { first = span.first; last = at })) (moments ++ at ∷ [])
span_more span at moments is =
    ((is.0.0 ++ at ∷ [], ap (λ t. t ++ at ∷ []) is.0.1), (moments, refl))

-- what was read of what is left is what follows
pub ends_as : (read_failed : Bool) (entries : List Entry) (rest : List ℕ) (fault : EntryFault)
    → (fault ≡ Read → read_failed ≡ true)
    → FirstIs rest (Err fault) → EndsAs read_failed entries rest fault
ends_as read_failed entries rest Cut failed first = first
ends_as read_failed entries rest Foreign failed first = first
ends_as read_failed entries rest Read failed first = inl (failed refl)

-- a read failed, where that is known
pub failed_by : (kept : List ℕ) (failed ended : Bool) (left : Option (List ℕ)) (fault : EntryFault)
    → SaysOf kept failed ended left (Err fault) → fault ≡ Read → failed ≡ true
failed_by kept failed ended left Cut says is = cc
failed_by kept failed ended left Foreign says is = cc
failed_by kept failed ended left Read says is = says

-- no entry came
pub no_entries : (entries : List Entry) (n : ℕ) → length entries ≡ n → n ≡ 0 → entries ≡ []
no_entries [] n long none = refl
no_entries (x ∷ entries) n long none = absurd (omega (arith, long, none))
