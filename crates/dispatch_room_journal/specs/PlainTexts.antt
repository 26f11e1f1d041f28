-- What a list holds in plain: the entries and rows of its whole records, whatever follows them; and
-- how a list goes on.
use Rattle.std.specs.Prelude.{◌≡◌, ◌≤◌, ⊤, ℕ, zero, suc, List, [], ◌∷◌, ◌++◌, length, take, drop}
use Rattle.std.specs.Prelude.{Bool, false, if◌then◌else◌, Option, None, Some, Result, OnErr, OnOk}
use Rattle.std.specs.Str.{bytes_eq}
use Rattle.dispatch_room_journal.specs.declared.record_fronts.Front.{Front}
use Rattle.dispatch_room_journal.specs.declared.record_fronts.Front.TheVariants.{Empty, Short}
use Rattle.dispatch_room_journal.specs.declared.record_fronts.Front.TheVariants.{Wrong, Whole}
use Rattle.dispatch_room_journal.specs.declared.list_ends.ListEnd.{ListEnd}
use Rattle.dispatch_room_journal.specs.declared.list_ends.ListEnd.TheVariants.{Plain, Chain}
use Rattle.dispatch_room_journal.specs.Chains.{chain_text, first_check, is_end, last_check, opening}
use Rattle.dispatch_room_journal.specs.Chains.{shown_by, sha256_digits}
use Rattle.dispatch_room_journal.specs.RecordFronts.{after, body_in, front_of}
use Rattle.dispatch_room_journal.specs.ChainLaws.{AreBodies}

-- what is at the front of a text holds, where it is a record, and then what the rest does
abbrev pub plain_with : (List ℕ → Bool → List ℕ → List ℕ) → List ℕ → Front → List ℕ
plain_with rest text Empty = []
plain_with rest text Short = []
plain_with rest text Wrong = []
plain_with rest text (Whole size check) =
    shown_by (body_in size text) ++ rest check (is_end (body_in size text)) (after size text)

module _ (hash : List ℕ → List ℕ) where
  -- what so many records at most hold
  abbrev pub plain_in : ℕ → List ℕ → Bool → List ℕ → List ℕ
  plain_in zero check has_ended text = []
  plain_in (suc more) check has_ended text =
      plain_with (λ c e t. plain_in more c e t) text (front_of hash check has_ended text)

  -- what the records hold with which a text begins, each of which comes next after the one before
  unfoldable pub plain_says : List ℕ → Bool → List ℕ → List ℕ
  plain_says check has_ended text = plain_in (length text) check has_ended text

  -- the entries and rows of a list, as they follow one another: of one that is no chain, itself
  unfoldable pub plain_of : List ℕ → List ℕ
  plain_of text =
      if bytes_eq (take 7 text) opening then plain_says first_check false (drop 7 text) else text

-- whether the last of these records says that the list ended well
abbrev pub last_ended : Bool → List (List ℕ) → Bool
last_ended has_ended [] = has_ended
last_ended has_ended (body ∷ more) = last_ended (is_end body) more

-- A list goes on from here: it is no chain, and what follows it can't make it one; or it is whole
-- records, of which the last has this check.
abbrev pub StandsAt : ListEnd → List ℕ → Type 0
StandsAt Plain text = (7 ≤ length text) × (bytes_eq (take 7 text) opening ≡ false)
StandsAt (Chain link) text =
    (bodies : List (List ℕ)) × AreBodies false bodies
    × (text ≡ opening ++ chain_text sha256_digits first_check bodies)
    × (link.check ≡ last_check sha256_digits first_check bodies)
    × (link.has_ended ≡ last_ended false bodies)

-- This was put behind a text, as an entry is or a row: the entries and rows are those of before and
-- this one, and the list goes on from there; or it was not wholly written, and they are those of
-- before and some first bytes of it.
pub record Puts {E : Type 0} (new : ListEnd) (text entry : List ℕ)
    (result : Result (Unit {0}) E) (more : List ℕ) : Type 0 where
  pub all : OnOk result
      ((plain_of sha256_digits more ≡ plain_of sha256_digits text ++ entry) × StandsAt new more)
  pub part : OnErr result ((front : List ℕ) × (rest : List ℕ) × (entry ≡ front ++ rest)
      × (plain_of sha256_digits more ≡ plain_of sha256_digits text ++ front))

-- where it is known what was held, and that a list goes on there, such a text is held now
abbrev pub PutsKnown : {E : Type 0} → ListEnd → ListEnd → Option (List ℕ) → Option (List ℕ) → List ℕ
    → Result (Unit {0}) E → Type 0
PutsKnown old new None held entry result = ⊤
PutsKnown old new (Some text) None entry result = ⊥
PutsKnown old new (Some text) (Some more) entry result =
    StandsAt old text → Puts new text entry result more

-- where it is known what was held, the list goes on there from here
abbrev pub StandsKnown : ListEnd → Option (List ℕ) → Type 0
StandsKnown end None = ⊤
StandsKnown end (Some text) = StandsAt end text
