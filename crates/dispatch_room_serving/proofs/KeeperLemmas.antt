-- Lemmas on entries that are kept.
use Rattle.std.proofs.Common.{◌≡◌, ◌∙◌, refl, sym, ap, arith, ℕ, List, [], ◌∷◌, ◌++◌, length}
use Rattle.std.proofs.Common.{length-append}
use Rattle.std.specs.Prelude.{OnErr, OnOk, is_err, ◌||◌}
use Rattle.std.proofs.lemmas.Result.{on_err_weaker}
use Rattle.std.proofs.Common.{append-nil, Bool, true, false, if◌then◌else◌, Option, None, Some}
use Rattle.std.proofs.Common.{Result, Ok, Err, inl, inr, subst, ◌⊎◌}
use Rattle.std.specs.Io.KnownBytes.{Appends}
use Rattle.room_http.specs.KeptMessages.{KeepsAll, came_of}
use Rattle.room_http.specs.declared.arrivals.Arrived.{Arrived}
use Rattle.room_http.specs.declared.arrivals.Arrived.TheVariants.{Message, Refused}
use Rattle.room_model.specs.declared.digests.Version.{Version}
use Rattle.room_model.specs.declared.digests.Version.TheVariants.{First, Second}
use Rattle.dispatch_room_journal.specs.Entries.{Entry, IsEntry, answer, head_words, line_of}
use Rattle.dispatch_room_journal.specs.Entries.{line_text, message, rest_of, room, text_of}
use Rattle.dispatch_room_journal.proofs.WritingLemmas.{entry_fits}
use Rattle.dispatch_room_journal.specs.Chains.{IsBody, is_no_entry}
use Rattle.dispatch_room_serving.specs.Journals.{HasCause, PutsKept, known_by, known_where}
use Rattle.dispatch_room_serving.specs.declared.journals.Journal.{Journal}
use Rattle.dispatch_room_serving.specs.KeptChanges.{is_kept, kept_of}

-- what was kept is, whether or not it could be made to last
pub keeps_whole : {E : Type 0} (a b : Option (List ℕ)) (bytes : List ℕ) (result : Result (Unit {0}) E)
    → Appends a b bytes → KeepsAll a b bytes result
keeps_whole a b bytes (Ok done) grows = grows
keeps_whole a b bytes (Err e) grows = (bytes, ([], sym (append-nil bytes)), grows)

-- a flag that notes a failure
pub or_failed : (old new : Bool) → new ≡ (old || true) → new ≡ true
or_failed true new is = is
or_failed false new is = is

pub flag_failed : {T E : Type 0} (old new : Bool) (r : Result T E) → new ≡ (old || is_err r)
    → OnErr r (new ≡ true)
flag_failed old new (Ok x) is = tt
flag_failed old new (Err e) is = or_failed old new is

pub flag_sound : {T E : Type 0} (old new : Bool) (r : Result T E) → new ≡ (old || is_err r)
    → old ≡ false → OnOk r (new ≡ false)
flag_sound old new (Ok x) is sound = rw sound at is
flag_sound old new (Err e) is sound = tt

-- where its keeper is why something was not kept, the journal has that cause
pub of_keeper : {W E : Type 0} (has_failed : W → Bool) (old new : Journal W) (out : W)
    (kept result : Result (Unit {0}) E) → result ≡ kept → new.out ≡ out
    → OnErr kept (has_failed out ≡ true) → OnErr result (HasCause has_failed old new)
of_keeper has_failed old new out kept result same is cause =
    rw (same, is) (on_err_weaker kept (λ failed. inr failed) cause)

pub of_keeper_or : {W E : Type 0} (has_failed : W → Bool) (old new : Journal W) (out : W) (other : Type 0)
    (kept result : Result (Unit {0}) E) → result ≡ kept → new.out ≡ out
    → OnErr kept ((has_failed out ≡ true) ⊎ other) → OnErr result (HasCause has_failed old new ⊎ other)
of_keeper_or has_failed old new out other kept result same is cause =
    rw (same, is)
    (on_err_weaker kept (λ why. elim why [ inl failed ↦ inl (inr failed) | inr it ↦ inr it ]) cause)

-- what has arrived and is kept is kept wholly, and of what is not nothing is
pub keeps_it : {E : Type 0} (keeps : Bool) (arrived : Arrived) (a b : Option (List ℕ))
    (text : List ℕ) (result : Result (Unit {0}) E) → is_kept keeps arrived ≡ true
    → KeepsAll a b text result → KeepsAll a b (kept_of keeps arrived text) result
keeps_it keeps arrived a b text result is grows =
    subst (λ (it : Bool). KeepsAll a b (if it then text else []) result) (sym is) grows

appends_none : (a : Option (List ℕ)) → Appends a a []
appends_none None = tt
appends_none (Some text) = sym (append-nil text)

pub keeps_none : (keeps : Bool) (arrived : Arrived) (a : Option (List ℕ)) (text : List ℕ)
    → is_kept keeps arrived ≡ false → Appends a a (kept_of keeps arrived text)
keeps_none keeps arrived a text is =
    subst (λ (it : Bool). Appends a a (if it then text else [])) (sym is) (appends_none a)

-- what is put of an arrival that is kept, and of one that is not
pub puts_it : {W E : Type 0} (puts : W → W → List ℕ → Type 0) (keeps : Bool) (a b : W)
    (text : List ℕ) (result : Result (Unit {0}) E) → keeps ≡ true → OnOk result (puts a b text)
    → OnOk result (PutsKept puts keeps a b text)
puts_it puts keeps a b text result is put =
    subst (λ it. OnOk result (PutsKept puts it a b text)) (sym is) put

pub puts_none : {W : Type 0} (puts : W → W → List ℕ → Type 0) (keeps : Bool) (a : W)
    (text : List ℕ) → keeps ≡ false → PutsKept puts keeps a a text
puts_none puts keeps a text is = subst (λ it. PutsKept puts it a a text) (sym is) refl

-- all that is to be kept is, where questions are kept too; else it is not known what is
known_kept : {E : Type 0} (keeps : Bool) (arrived : Arrived) (came : ℕ → List ℕ → List ℕ)
    (at : ℕ) (a b : Option (List ℕ)) (result : Result (Unit {0}) E)
    → KeepsAll a b (kept_of keeps arrived (came_of came arrived at)) result
    → KeepsAll (known_where keeps a) (known_where keeps b) (came_of came arrived at) result
known_kept true (Message shown bytes) came at a b result grows = grows
known_kept true (Refused r head_only) came at a b result grows = grows
known_kept false arrived came at a b (Ok done) grows = tt
known_kept false arrived came at a b (Err e) grows =
    (came_of came arrived at, ([], sym (append-nil (came_of came arrived at))), tt)

pub known_of : {W E : Type 0} (held : W → Option (List ℕ)) (old new : Journal W) (arrived : Arrived)
    (came : ℕ → List ℕ → List ℕ) (at : ℕ) (result : Result (Unit {0}) E)
    → new.keeps_questions ≡ old.keeps_questions
    → KeepsAll (held old.out) (held new.out)
    (kept_of old.keeps_questions arrived (came_of came arrived at)) result
    → KeepsAll (known_by held old) (known_by held new) (came_of came arrived at) result
known_of held old new arrived came at result same grows =
    subst
    (λ (keeps : Bool). KeepsAll (known_by held old) (known_where keeps (held new.out)) (came_of came arrived at) result)
    (sym same)
    (known_kept old.keeps_questions arrived came at (held old.out) (held new.out) result grows)

-- an entry is a record
pub entry_body : (entry : List ℕ) → ((e : Entry) × IsEntry e × (entry ≡ text_of e)) → IsBody entry
entry_body entry (e, is, same) = (
  omega (arith, ap length same, length-append (line_text (line_of e)) (10 ∷ rest_of e)),
  omega (arith, ap length same, entry_fits e is),
)

head_says : (version : Version) (digits : List ℕ)
    → is_no_entry ((head_words version ++ digits) ++ 10 ∷ []) ≡ false
head_says First digits = refl
head_says Second digits = refl

-- and none of those that are no entries
pub entry_says : (entry : List ℕ) → ((e : Entry) × IsEntry e × (entry ≡ text_of e))
    → is_no_entry entry ≡ false
entry_says entry (room head, is, same) = ap is_no_entry same ∙ head_says head.version head.digits
entry_says entry (message at bytes, is, same) = ap is_no_entry same
entry_says entry (answer status, is, same) = ap is_no_entry same
