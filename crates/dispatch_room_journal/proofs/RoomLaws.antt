-- What a journal kept of a room that was served, replayed, is that room.
use Rattle.std.proofs.Common.{◌≡◌, ◌∙◌, sym, ap, subst, refl, ℕ, List, [], ◌∷◌, ◌++◌, append-nil}
use Rattle.std.proofs.Common.{append_assoc, arith, codes}
use Rattle.std.specs.Prelude.{All}
use Rattle.std.proofs.lemmas.List.{append_cancel_left}
use Rattle.std.proofs.lemmas.List.Elements.{All-head, All-tail}
use Rattle.room_types.specs.declared.fleet.Terminal.{Terminal}
use Rattle.room_model.specs.Room.{Room}
use Rattle.room_http.specs.declared.settings.HttpSettings.{HttpSettings}
use Rattle.room_http_messages.specs.Messages.{WholeMessage, HasMessage}
use Rattle.room_model.specs.Rooms.{Step}
use Rattle.room_http.specs.Arrivals.{message as arrived, refused}
use Rattle.room_http.specs.KeptMessages.{AreKept, AreReplies}
use Rattle.room_http.specs.Dialogues.{Timed, replied}
use Rattle.room_model.specs.declared.digests.Version.{Version}
use Rattle.room_model.specs.declared.digests.Version.TheVariants.{First, Second}
use Rattle.room_model.specs.declared.digests.StartDigest.{StartDigest}
use Rattle.dispatch_room_journal.specs.Entries.{Entry, room, message, answer, IsEntry, text_of}
use Rattle.dispatch_room_journal.specs.Entries.{texts_of, head_words}
use Rattle.dispatch_room_journal.specs.JournalRecords.{answer_text, message_text}
use Rattle.dispatch_room_journal.proofs.EntryLemmas.{no_end_law, one_entry_law}
use Rattle.dispatch_room_journal.proofs.TextLemmas.{head as first_byte}
use Rattle.dispatch_room_journal.specs.ReplayedTurns.{Play, Turn, compared, answered, caught_up}
use Rattle.dispatch_room_journal.specs.ReplayedTurns.{tried, left_out, answers_of, entries_of}
use Rattle.dispatch_room_journal.specs.ReplayedTurns.{IsTurn, IsReplayed}
use Rattle.dispatch_room_journal.specs.Replays.{DigitsOf, IsReplay}
use Rattle.dispatch_room_journal.specs.ReplayLaws.{IsTheRoom, answers_to_messages}
use Rattle.dispatch_room_journal.proofs.ReplayLawLemmas.{same_play}

-- an entry's text is not empty, and no other begins a text that it begins
some_text : (e : Entry) (rest : List ℕ) → IsEntry e → ¬ (text_of e ++ rest ≡ [])
some_text e rest is = (no_end_law (text_of e ++ rest) e rest (is, refl)).0

pub same_first : (e f : Entry) (rest left : List ℕ) → IsEntry e → IsEntry f
    → text_of e ++ rest ≡ text_of f ++ left → (e ≡ f) × (rest ≡ left)
same_first e f rest left e_is f_is same = one_entry_law (text_of e ++ rest) e f rest left (e_is, refl) (f_is, same)

-- one message is at one moment, of the same bytes, and is no head
same_message : (at n : ℕ) (sent bytes : List ℕ) → message at sent ≡ message n bytes
    → (at ≡ n) × (sent ≡ bytes)
same_message at n sent bytes same = (cc, cc)

no_head : (at : ℕ) (head : StartDigest) (bytes : List ℕ) → room head ≡ message at bytes → ⊥
no_head at head bytes same = cc

-- a head begins with the same byte, whatever its version is
head_byte : (version : Version) (digits rest : List ℕ)
    → first_byte (((head_words version ++ digits) ++ 10 ∷ []) ++ rest) ≡ 114
head_byte First digits rest = refl
head_byte Second digits rest = refl

-- neither a head nor a message begins as a status does
head_no_status : (head : StartDigest) (rest response more : List ℕ)
    → text_of (room head) ++ rest ≡ answer_text response ++ more → ⊥
head_no_status head rest response more same =
    absurd (omega (arith, head_byte head.version head.digits rest, ap first_byte same))

message_no_status : (at : ℕ) (sent rest response more : List ℕ)
    → text_of (message at sent) ++ rest ≡ answer_text response ++ more → ⊥
message_no_status at sent rest response more same = absurd (omega (arith, ap first_byte same))

nothing_no_status : (response more : List ℕ) → [] ≡ answer_text response ++ more → ⊥
nothing_no_status response more same = absurd (omega (arith, ap first_byte same))

-- no turn's text is empty, and no turn begins with a status
some_turn : (t : Turn) (ts : List Turn) → All IsEntry (entries_of (t ∷ ts))
    → ¬ (texts_of (entries_of (t ∷ ts)) ≡ [])
some_turn (compared head) ts is =
    some_text (room head) (texts_of (entries_of ts)) (All-head IsEntry (room head) (entries_of ts) is)
some_turn (answered p status) ts is =
    some_text (message p.at p.sent) (texts_of (answer status ∷ entries_of ts))
    (All-head IsEntry (message p.at p.sent) (answer status ∷ entries_of ts) is)
some_turn (caught_up p head) ts is =
    some_text (message p.at p.sent) (texts_of (room head ∷ entries_of ts))
    (All-head IsEntry (message p.at p.sent) (room head ∷ entries_of ts) is)
some_turn (tried p) ts is =
    some_text (message p.at p.sent) (texts_of (entries_of ts))
    (All-head IsEntry (message p.at p.sent) (entries_of ts) is)
some_turn (left_out at sent) ts is =
    some_text (message at sent) (texts_of (entries_of ts)) (All-head IsEntry (message at sent) (entries_of ts) is)

no_status_next : (ts : List Turn) (response more : List ℕ)
    → texts_of (entries_of ts) ≡ answer_text response ++ more → ⊥
no_status_next [] response more same = nothing_no_status response more same
no_status_next (compared head ∷ ts) response more same =
    head_no_status head (texts_of (entries_of ts)) response more same
no_status_next (answered p status ∷ ts) response more same =
    message_no_status p.at p.sent (texts_of (answer status ∷ entries_of ts)) response more same
no_status_next (caught_up p head ∷ ts) response more same =
    message_no_status p.at p.sent (texts_of (room head ∷ entries_of ts)) response more same
no_status_next (tried p ∷ ts) response more same =
    message_no_status p.at p.sent (texts_of (entries_of ts)) response more same
no_status_next (left_out at sent ∷ ts) response more same =
    message_no_status at sent (texts_of (entries_of ts)) response more same

module _ (step : Step) (setting : HttpSettings) (digest_of : DigitsOf) (terminals : List Terminal) where
  -- what is shown: the room is the one that was served, and its answers are those that were given
  abbrev Same : List Timed → List (List ℕ) → Room → Room → List Turn → Type 0
  Same outs answers after other ts = (other ≡ after) × (answers_of ts ≡ answers_to_messages outs answers)

  abbrev Replayed : List Timed → List (List ℕ) → Room → List ℕ → List Turn → Room → Type 0
  Replayed outs answers held text ts other =
      All IsTurn ts → All IsReplayed ts → All IsEntry (entries_of ts) → texts_of (entries_of ts) ≡ text
      → IsReplay step setting digest_of terminals held ts other
      → (after : Room) → AreReplies step setting terminals held outs answers after
      → Same outs answers after other ts

  -- the next is a message, of which the record stands first in the text
  module _ (m : WholeMessage) (at : ℕ) (bytes response more : List ℕ) (outs : List Timed)
      (answers : List (List ℕ)) (whole : HasMessage bytes m []) (entry : IsEntry (message at bytes))
      (rest : (held other : Room) (ts : List Turn) → Replayed outs answers held more ts other) where
    abbrev record_text : List ℕ
    record_text = (message_text at bytes ++ answer_text response) ++ more

    -- the same, with the brackets moved
    moved : {text : List ℕ} → text ≡ record_text
        → text ≡ message_text at bytes ++ (answer_text response ++ more)
    moved same = same ∙ append_assoc (message_text at bytes) (answer_text response) more

    -- a turn of another message, or of this one
    first_message : (n : ℕ) (sent : List ℕ) (after : List Entry)
        → All IsEntry (message n sent ∷ after) → texts_of (message n sent ∷ after) ≡ record_text
        → ((n ≡ at) × (sent ≡ bytes)) × (texts_of after ≡ answer_text response ++ more)
    first_message n sent after entries same =
        let first = same_first (message n sent) (message at bytes) (texts_of after) (answer_text response ++ more)
        (All-head IsEntry (message n sent) after entries) entry (moved same) in
        (same_message n at sent bytes first.0, first.1)

    next_message : (held other : Room) (ts : List Turn)
        → Replayed ((arrived m, at) ∷ outs) (response ∷ answers) held record_text ts other
    next_message held other [] turns kinds entries same x after y =
        absurd (some_text (message at bytes) (answer_text response ++ more) entry (sym (moved same)))
    next_message held other (compared head ∷ ts) turns kinds entries same x after y =
        let first = same_first (room head) (message at bytes) (texts_of (entries_of ts)) (answer_text response ++ more)
        (All-head IsEntry (room head) (entries_of ts) entries) entry (moved same) in
        absurd (no_head at head bytes first.0)
    next_message held other (answered p status ∷ ts) turns kinds entries same x after y =
        let first = first_message p.at p.sent (answer status ∷ entries_of ts) entries same in
        let turn = All-head IsTurn (answered p status) ts turns in
        let q : Play = record { at = at; sent = bytes; whole = m; response = response } in
        let played = same_play step setting digest_of terminals held x.0 y.0 p q turn.0 whole first.0.0 first.0.1 x.1
        y.1 in
        let line : text_of (answer status)
        ≡ answer_text response =
        ap (λ (t : List ℕ). (codes "answer " ++ t) ++ 10 ∷ []) (sym turn.1)
        ∙ ap (λ (r : Play). answer_text r.response) played.0 in
        let left : texts_of (entries_of ts)
        ≡ more =
        append_cancel_left (answer_text response) (texts_of (entries_of ts)) more
        (ap (λ (t : List ℕ). t ++ texts_of (entries_of ts)) (sym line) ∙ first.1) in
        let later = All-tail IsEntry (answer status) (entries_of ts)
        (All-tail IsEntry (message p.at p.sent) (answer status ∷ entries_of ts) entries) in
        let replies = subst (λ (r : Room). AreReplies step setting terminals r outs answers after) (sym played.1) y.2 in
        let done = rest x.0 other ts (All-tail IsTurn (answered p status) ts turns)
        (All-tail IsReplayed (answered p status) ts kinds) later left x.2 after replies in
        (done.0, λ i. (played.0 i).response ∷ done.1 i)
    next_message held other (caught_up p head ∷ ts) turns kinds entries same x after y =
        absurd (head_no_status head (texts_of (entries_of ts)) response more
        (first_message p.at p.sent (room head ∷ entries_of ts) entries same).1)
    next_message held other (tried p ∷ ts) turns kinds entries same x after y =
        absurd (All-head IsReplayed (tried p) ts kinds)
    next_message held other (left_out n sent ∷ ts) turns kinds entries same x after y =
        absurd (no_status_next ts response more (first_message n sent (entries_of ts) entries same).1)

  the_room : (outs : List Timed) (answers : List (List ℕ)) (text : List ℕ)
      → AreKept message_text answer_text outs answers text
      → (held other : Room) (ts : List Turn) → Replayed outs answers held text ts other
  the_room [] [] text kept held other [] turns kinds entries same x after y = (x ∙ sym y, refl)
  the_room [] [] text kept held other (t ∷ ts) turns kinds entries same x after y =
      absurd (some_turn t ts entries (same ∙ kept))
  the_room [] (response ∷ answers) text kept held other ts turns kinds entries same x after y = absurd kept
  the_room (z ∷ outs) [] text kept held other ts turns kinds entries same x after y = absurd kept
  the_room ((arrived m, at) ∷ outs) (response ∷ answers) text (first, more, is, joined, kept) held other ts turns kinds
      entries same x after y =
      let came = is.1 in
      let coming : text
      ≡ (message_text at came.0 ++ answer_text response) ++ more =
      joined ∙ ap (λ (t : List ℕ). t ++ more) (is.2 ∙ ap (λ (t : List ℕ). t ++ answer_text response) came.3) in
      next_message m at came.0 response more outs answers came.1.whole (came.2, came.1.some, came.1.fits)
      (the_room outs answers more kept) held other ts turns kinds entries (same ∙ coming) x after y
  the_room ((refused r head_only, at) ∷ outs) (response ∷ answers) text (first, more, is, joined, kept) held other ts
      turns
      kinds entries same x after y =
      let nothing : first ≡ [] = is.2 ∙ append-nil is.0 ∙ is.1 in
      let alike : text ≡ more = joined ∙ ap (λ (t : List ℕ). t ++ more) nothing in
      let still : y.0 ≡ held = y.1.2 ∙ ap (λ found. (replied step found held).0) y.1.1 in
      the_room outs answers more kept held other ts turns kinds entries (same ∙ alike) x after
      (subst (λ (r : Room). AreReplies step setting terminals r outs answers after) still y.2)

pub the_room_law : IsTheRoom
the_room_law step setting digest_of terminals held after other outs answers text ts replies kept turns kinds entries
    same x =
    the_room step setting digest_of terminals outs answers text kept held other ts turns kinds entries same x after
    replies
