-- The turns of what a list kept of a room that was served, and to which rooms a list has come.
use Rattle.std.proofs.Common.{◌≡◌, ◌∙◌, ◌≤◌, ◌⊎◌, inl, inr, sym, ap, subst, refl, arith, ℕ, List}
use Rattle.std.proofs.Common.{[], ◌∷◌, ◌++◌, drop, take, length, length-append, ◌/◌, ◌%◌, ◌+◌}
use Rattle.std.proofs.Common.{append-nil, append_assoc, codes, decimal, Bool, true, Result, Ok, Err}
use Rattle.std.specs.Prelude.{All, map}
use Rattle.std.proofs.lemmas.Bool.{cases_eq}
use Rattle.std.proofs.lemmas.Fmt.{decimal_digit, decimal_step}
use Rattle.std.proofs.lemmas.Grind.{flat_map-append}
use Rattle.std.proofs.lemmas.List.{map-append, take_at}
use Rattle.std.proofs.lemmas.List.Elements.{All-append, All-cons, All-head, All-nil, All-tail}
use Rattle.room_types.specs.declared.answers.Answer.{Answer}
use Rattle.room_types.specs.declared.fleet.Terminal.{Terminal}
use Rattle.room_types.specs.declared.refusal_statuses.Refusal.{Refusal}
use Rattle.room_types.specs.declared.refusal_statuses.Refusal.TheVariants.{NoSuchIncident}
use Rattle.room_model.specs.Room.{Room}
use Rattle.room_http.specs.ReplyMessages.{line, reply_bytes, status_of}
use Rattle.room_http.specs.declared.settings.HttpSettings.{HttpSettings}
use Rattle.room_model.specs.Rooms.{Step}
use Rattle.room_model.specs.declared.digests.StartDigest.{StartDigest}
use Rattle.room_http.specs.Arrivals.{message as arrived, refused, is_closing, is_head_only}
use Rattle.room_http.specs.KeptMessages.{AreKept, AreReplies, IsCutShort, IsRecord, IsUnwritten}
use Rattle.room_http.specs.KeptMessages.{KeepsUnserved}
use Rattle.room_http.specs.Dialogues.{IsFront, IsReplyTo, Timed, replied}
use Rattle.dispatch_room_journal.specs.declared.entry_lines.TheConstants.{LEAST_STATUS}
use Rattle.dispatch_room_journal.specs.declared.entry_lines.TheConstants.{GREATEST_STATUS}
use Rattle.dispatch_room_journal.specs.WholeEntries.{Follows}
use Rattle.dispatch_room_journal.specs.Entries.{Entry, room as head_entry, message, answer, IsEntry}
use Rattle.dispatch_room_journal.specs.Entries.{IsPart, text_of, texts_of}
use Rattle.dispatch_room_journal.specs.JournalRecords.{answer_text, message_text, room_text}
use Rattle.dispatch_room_journal.specs.JournalRecords.{status_in}
use Rattle.dispatch_room_journal.proofs.EntryLemmas.{no_end_law, one_entry_law}
use Rattle.dispatch_room_journal.specs.ReplayLaws.{answers_to_messages}
use Rattle.dispatch_room_journal.specs.Replays.{Answers, Does, DigitsOf, IsHeadOf, IsReplay}
use Rattle.dispatch_room_journal.proofs.TurnLemmas.{begun-append}
use Rattle.dispatch_room_journal.specs.ReplayedTurns.{Play, Turn, compared, answered, caught_up}
use Rattle.dispatch_room_journal.specs.ReplayedTurns.{left_out, answers_of, ends_open, entries_in}
use Rattle.dispatch_room_journal.specs.ReplayedTurns.{entries_of, plays_in, plays_of, IsBegun}
use Rattle.dispatch_room_journal.specs.ReplayedTurns.{IsPlay, IsReplayed, IsTurn}

-- ---- the status of an answer
abbrev IsStatus : ℕ → Type 0
IsStatus n = (LEAST_STATUS ≤ n) × (n ≤ GREATEST_STATUS)

status_fits : (response : Result Answer Refusal) → IsStatus (status_of response)
status_fits (Ok a) = (omega arith, omega arith)
status_fits (Err NoSuchIncident) = (omega arith, omega arith)
status_fits (Err r) = (omega arith, omega arith)

three_digits : (n : ℕ) → IsStatus n → length (decimal n) ≡ 3
three_digits n fits =
    omega (
      arith,
      ap length (decimal_step n (omega (arith, fits)) (omega (arith, fits))),
      length-append (decimal (n / 10)) ((48 + n % 10) ∷ []),
      ap length (decimal_step (n / 10) (omega (arith, fits)) (omega (arith, fits))),
      length-append (decimal (n / 10 / 10)) ((48 + n / 10 % 10) ∷ []),
      ap length (decimal_digit (n / 10 / 10) (omega (arith, fits))),
    )

-- what begins a text begins it still where more follows
front_more : (d x y : List ℕ) → IsFront d x → IsFront d (x ++ y)
front_more d x y front = (front.0 ++ y, ap (λ t. t ++ y) front.1 ∙ append_assoc d front.0 y)

status_front : (response : Result Answer Refusal) (date : List ℕ) (head_only closing : Bool)
    → IsFront (decimal (status_of response)) (drop 9 (reply_bytes response date head_only closing))
unfolding line
status_front response date head_only closing =
    let d = decimal (status_of response) in
    front_more d _ _ (front_more d _ _ (front_more d _ _ (front_more d _ _
    (front_more d _ _ (front_more d _ _ (front_more d _ _ (front_more d _ _ (front_more d _ _ (codes " ", refl)))))))))

status_first : (response : Result Answer Refusal) (date : List ℕ) (head_only closing : Bool)
    → status_in (reply_bytes response date head_only closing) ≡ decimal (status_of response)
status_first response date head_only closing =
    let d = decimal (status_of response) in
    let front = status_front response date head_only closing in
    ap (take 3) front.1 ∙ take_at d front.0 3 (three_digits (status_of response) (status_fits response))

-- an answer's bytes give its status
pub status_shown : (step : Step) (setting : HttpSettings) (terminals : List Terminal) (room : Room) (x : Timed)
    (after : Room) (bytes : List ℕ) → IsReplyTo step setting terminals room x after bytes
    → (status : ℕ) × IsEntry (answer status) × (status_in bytes ≡ decimal status)
status_shown step setting terminals room x after bytes reply =
    let response = (replied step reply.0 room).1 in
    let fits = status_fits response in
    let date = reply.3 in (
      status_of response,
      (fits.0, fits.1),
      ap status_in date.2 ∙ status_first response date.0 (is_head_only x.0) (is_closing x.0),
    )

-- ---- a text that is cut within an entry
abbrev IsTail : List ℕ → Type 0
IsTail tail = (tail ≡ []) ⊎ IsPart tail

no_start : (tail : List ℕ) (e : Entry) (more : List ℕ) → IsEntry e → IsTail tail
    → tail ≡ text_of e ++ more → ⊥
no_start tail e more is (inl none) same = (no_end_law tail e more (is, same)).0 none
no_start tail e more is (inr part) same = (no_end_law tail e more (is, same)).1 part

-- it is of one list of entries
cut_one : (entries others : List Entry) (tail rest : List ℕ) → All IsEntry entries
    → All IsEntry others → IsTail tail → IsTail rest
    → texts_of entries ++ tail ≡ texts_of others ++ rest → entries ≡ others
cut_one [] [] tail rest a b t r same = refl
cut_one [] (f ∷ others) tail rest a b t r same =
    absurd (no_start tail f (texts_of others ++ rest) (All-head IsEntry f others b) t
    (same ∙ append_assoc (text_of f) (texts_of others) rest))
cut_one (e ∷ entries) [] tail rest a b t r same =
    absurd (no_start rest e (texts_of entries ++ tail) (All-head IsEntry e entries a) r
    (sym same ∙ append_assoc (text_of e) (texts_of entries) tail))
cut_one (e ∷ entries) (f ∷ others) tail rest a b t r same =
    let text = text_of e ++ (texts_of entries ++ tail) in
    let first = one_entry_law text e f (texts_of entries ++ tail) (texts_of others ++ rest)
    (All-head IsEntry e entries a, refl) (
      All-head IsEntry f others b,
      sym (append_assoc (text_of e) (texts_of entries) tail) ∙ same ∙ append_assoc (text_of f) (texts_of others) rest,
    ) in
    let more = cut_one entries others tail rest (All-tail IsEntry e entries a) (All-tail IsEntry f others b) t r
    first.1 in
    λ i. first.0 i ∷ more i

-- some first bytes of an entry's text are all of it, or a part
front_tail : (e : Entry) (tail : List ℕ) → IsEntry e → IsFront tail (text_of e)
    → (tail ≡ text_of e) ⊎ IsTail tail
front_tail e tail is ([], same) = inl (sym (same ∙ append-nil tail))
front_tail e tail is (byte ∷ rest, same) = inr (inr (e, byte ∷ rest, is, same, omega arith))

texts_push : (entries : List Entry) (e : Entry) → texts_of (entries ++ e ∷ []) ≡ texts_of entries ++ text_of e
texts_push entries e =
    flat_map-append text_of entries (e ∷ []) ∙ ap (λ t. texts_of entries ++ t) (append-nil (text_of e))

-- what is whole of entries and some first bytes of one more
module _ (entries others : List Entry) (rest : List ℕ) (a : All IsEntry entries) (end : IsTail rest) where
  pub whole_all : Follows (texts_of entries) others rest → texts_of others ≡ texts_of entries
  whole_all follows =
      ap texts_of
      (sym (cut_one entries others [] rest a follows.0 (inl refl) end (append-nil (texts_of entries) ∙ follows.1)))

  pub whole_part : (tail : List ℕ) → IsTail tail → Follows (texts_of entries ++ tail) others rest
      → texts_of others ≡ texts_of entries
  whole_part tail part follows = ap texts_of (sym (cut_one entries others tail rest a follows.0 part end follows.1))

pub whole_front : (entries others : List Entry) (e : Entry) (tail rest : List ℕ) → All IsEntry entries
    → IsEntry e → IsTail rest → IsFront tail (text_of e) → Follows (texts_of entries ++ tail) others rest
    → (texts_of others ≡ texts_of entries) ⊎ (texts_of others ≡ texts_of entries ++ text_of e)
whole_front entries others e tail rest a is end front follows = elim (front_tail e tail is front) [
  | inl whole ↦
      let all = All-append IsEntry entries (e ∷ []) a (All-cons IsEntry e [] is (All-nil IsEntry)) in
      let text : texts_of entries ++ tail
      ≡ texts_of (entries ++ e ∷ []) = ap (λ t. texts_of entries ++ t) whole ∙ sym (texts_push entries e) in
      inr (whole_all (entries ++ e ∷ []) others rest all end (follows.0, sym text ∙ follows.1) ∙ texts_push entries e)
  | inr part ↦ inl (whole_part entries others rest a end tail part follows)
]

-- ---- turns of a text, from a room to another
module _ (step : Step) (setting : HttpSettings) (digits : DigitsOf) (terminals : List Terminal) where
  pub record Recorded (room : Room) (list : List ℕ) (turns : List Turn) (after : Room) : Type 0 where
    pub are_turns : All IsTurn turns
    pub replayed : All IsReplayed turns
    pub entries : All IsEntry (entries_of turns)
    pub text : texts_of (entries_of turns) ≡ list
    pub replay : IsReplay step setting digits terminals room turns after

  replay_join : (held mid after : Room) (us ts : List Turn)
      → IsReplay step setting digits terminals held us mid
      → IsReplay step setting digits terminals mid ts after
      → IsReplay step setting digits terminals held (us ++ ts) after
  replay_join held mid after [] ts first second =
      subst (λ (r : Room). IsReplay step setting digits terminals r ts after) first second
  replay_join held mid after (u ∷ us) ts first second =
      (first.0, first.1, replay_join first.0 mid after us ts first.2 second)

  recorded_join : (held mid after : Room) (list more : List ℕ) (us ts : List Turn)
      → Recorded held list us mid → Recorded mid more ts after → Recorded held (list ++ more) (us ++ ts) after
  recorded_join held mid after list more us ts first second =
      let all = flat_map-append entries_in us ts in
      record {
        are_turns = All-append IsTurn us ts first.are_turns second.are_turns;
        replayed = All-append IsReplayed us ts first.replayed second.replayed;
        entries =
            subst (λ (es : List Entry). All IsEntry es) (sym all)
            (All-append IsEntry (entries_of us) (entries_of ts) first.entries second.entries);
        text =
            ap texts_of all ∙ flat_map-append text_of (entries_of us) (entries_of ts)
            ∙ (λ i. first.text i ++ second.text i);
        replay = replay_join held mid after us ts first.replay second.replay;
      }

  recorded_none : (held : Room) → Recorded held [] [] held
  recorded_none held = record {
    are_turns = All-nil IsTurn;
    replayed = All-nil IsReplayed;
    entries = All-nil IsEntry;
    text = refl;
    replay = refl;
  }

  recorded_one : (held after : Room) (t : Turn) → IsTurn t → IsReplayed t → All IsEntry (entries_in t)
      → Does step setting digits terminals held t after
      → Recorded held (texts_of (entries_in t)) (t ∷ []) after
  recorded_one held after t turn kind entries does = record {
    are_turns = All-cons IsTurn t [] turn (All-nil IsTurn);
    replayed = All-cons IsReplayed t [] kind (All-nil IsReplayed);
    entries = subst (λ (es : List Entry). All IsEntry es) (sym (append-nil (entries_in t))) entries;
    text = ap texts_of (append-nil (entries_in t));
    replay = (after, does, refl);
  }

  -- one turn more
  recorded_push : (held mid after : Room) (list more : List ℕ) (us : List Turn) (t : Turn)
      → Recorded held list us mid → IsTurn t → IsReplayed t → All IsEntry (entries_in t)
      → Does step setting digits terminals mid t after → list ++ texts_of (entries_in t) ≡ more
      → Recorded held more (us ++ t ∷ []) after
  recorded_push held mid after list more us t response turn kind entries does is =
      subst (λ (text : List ℕ). Recorded held text (us ++ t ∷ []) after) is
      (recorded_join held mid after list (texts_of (entries_in t)) us (t ∷ []) response
      (recorded_one mid after t turn kind entries does))

all_one : (e : Entry) → IsEntry e → All IsEntry (e ∷ [])
all_one e is = All-cons IsEntry e [] is (All-nil IsEntry)

all_two : (e f : Entry) → IsEntry e → IsEntry f → All IsEntry (e ∷ f ∷ [])
all_two e f is also = All-cons IsEntry e (f ∷ []) is (all_one f also)

-- the answers of turns, one after another
answers_join : (us ts : List Turn) → answers_of (us ++ ts) ≡ answers_of us ++ answers_of ts
answers_join us ts =
    ap (map (λ (p : Play). p.response)) (flat_map-append plays_in us ts)
    ∙ map-append (λ (p : Play). p.response) (plays_of us) (plays_of ts)

-- the text of a status
status_text_is : (response : List ℕ) (status : ℕ) → status_in response ≡ decimal status
    → text_of (answer status) ≡ answer_text response
status_text_is response status is = ap (λ (t : List ℕ). (codes "answer " ++ t) ++ 10 ∷ []) (sym is)

-- ---- what was kept of arrivals that were answered
module _ (step : Step) (setting : HttpSettings) (digits : DigitsOf) (terminals : List Terminal) where
  abbrev TurnsOf : Room → List ℕ → Room → List (List ℕ) → Type 0
  TurnsOf held text after response = (turns : List Turn)
      × Recorded step setting digits terminals held text turns after × (answers_of turns ≡ response)

  -- a message that was answered
  answered_one : (held after : Room) (p : Play) → IsPlay p → IsEntry (message p.at p.sent)
      → Answers step setting digits terminals held p after
      → TurnsOf held (message_text p.at p.sent ++ answer_text p.response) after (p.response ∷ [])
  answered_one held after p is entry reply =
      let status = status_shown step setting terminals held (arrived p.whole, p.at) after p.response reply in
      let turn = answered p status.0 in
      let text : texts_of (entries_in turn) ≡ message_text p.at p.sent ++ answer_text p.response =
      ap (λ t. message_text p.at p.sent ++ t)
      (append-nil (text_of (answer status.0)) ∙ status_text_is p.response status.0 status.2) in
      let one = recorded_one step setting digits terminals held after turn (is, status.2) tt
      (all_two (message p.at p.sent) (answer status.0) entry status.1) reply in (
        turn ∷ [],
        subst (λ (t : List ℕ). Recorded step setting digits terminals held t (turn ∷ []) after) text one,
        refl,
      )

  pub kept_turns : (outs : List Timed) (answers : List (List ℕ)) (text : List ℕ)
      (held after : Room)
      → AreReplies step setting terminals held outs answers after
      → AreKept message_text answer_text outs answers text
      → TurnsOf held text after (answers_to_messages outs answers)
  kept_turns [] [] text held after replies kept =
      ([], rw (kept, replies) (recorded_none step setting digits terminals held), refl)
  kept_turns [] (response ∷ answers) text held after replies kept = absurd replies
  kept_turns (x ∷ outs) [] text held after replies kept = absurd replies
  kept_turns ((arrived m, at) ∷ outs) (response ∷ answers) text held after replies (first, more, is, joined, kept) =
      let came = is.1 in
      let p : Play = record { at = at; sent = came.0; whole = m; response = response } in
      let one = answered_one held replies.0 p came.1.whole (came.2, came.1.some, came.1.fits) replies.1 in
      let rest = kept_turns outs answers more replies.0 after replies.2 kept in
      let same : (message_text at came.0 ++ answer_text response) ++ more ≡ text =
      sym (joined ∙ ap (λ (t : List ℕ). t ++ more) (is.2 ∙ ap (λ (t : List ℕ). t ++ answer_text response) came.3)) in (
        one.0 ++ rest.0,
        subst (λ (t : List ℕ). Recorded step setting digits terminals held t (one.0 ++ rest.0) after) same
            (recorded_join step setting digits terminals held replies.0 after _ more one.0 rest.0 one.1 rest.1),
        answers_join one.0 rest.0 ∙ (λ i. one.2 i ++ rest.2 i),
      )
  kept_turns ((refused r head_only, at) ∷ outs) (response ∷ answers) text held after replies
      (first, more, is, joined, kept) =
      let nothing : first ≡ [] = is.2 ∙ append-nil is.0 ∙ is.1 in
      let alike : more ≡ text = sym (joined ∙ ap (λ (t : List ℕ). t ++ more) nothing) in
      let still : replies.0 ≡ held = replies.1.2 ∙ ap (λ found. (replied step found held).0) replies.1.1 in
      let rest = kept_turns outs answers more held after
      (subst (λ (r : Room). AreReplies step setting terminals r outs answers after) still replies.2) kept in
      (rest.0, subst (λ (t : List ℕ). Recorded step setting digits terminals held t rest.0 after) alike rest.1, rest.2)

-- ---- the rooms to which a list has come
same_or_not : (xs ys : List ℕ) → (xs ≡ ys) ⊎ (¬ (xs ≡ ys))
same_or_not [] [] = inl refl
same_or_not [] (y ∷ ys) = inr (λ is. cc)
same_or_not (x ∷ xs) [] = inr (λ is. cc)
same_or_not (x ∷ xs) (y ∷ ys) = both (cases_eq x y) (same_or_not xs ys)
  where
    both : (x ≡ y) ⊎ (x ≡ y → ⊥) → (xs ≡ ys) ⊎ (¬ (xs ≡ ys))
        → (x ∷ xs ≡ y ∷ ys) ⊎ (¬ (x ∷ xs ≡ y ∷ ys))
    both (inl same) (inl alike) = inl (λ i. same i ∷ alike i)
    both (inl same) (inr other) = inr (λ is. other (cc))
    both (inr other) more = inr (λ is. other (cc))

-- what begins nothing is nothing
no_front : (front bytes : List ℕ) → bytes ≡ [] → IsFront front bytes → front ≡ []
no_front [] bytes none is = refl
no_front (byte ∷ front) bytes none is = absurd (cc (none, is.1))

pub no_answer : (turns : List Turn) (t : Turn) → answers_of (t ∷ []) ≡ []
    → answers_of (turns ++ t ∷ []) ≡ answers_of turns
no_answer turns t none =
    answers_join turns (t ∷ []) ∙ ap (λ a. answers_of turns ++ a) none ∙ append-nil (answers_of turns)

module _ (step : Step) (setting : HttpSettings) (digits : DigitsOf) (terminals : List Terminal)
    (Given : List (List ℕ) → Type 0) (held : Room) where
  -- nothing came yet
  pub record Fresh (list : List ℕ) (now : Room) : Type 0 where
    pub list_is : list ≡ []
    pub now_is : now ≡ held
    pub given : Given []

  -- the list is of turns that lead to the room
  pub record Settled (list : List ℕ) (now : Room) : Type 0 where
    pub turns : List Turn
    pub recorded : Recorded step setting digits terminals held list turns now
    pub begun : IsBegun turns
    pub given : Given (answers_of turns)

  -- the same, and one more answer may be given
  pub record Ready (list : List ℕ) (now : Room) : Type 0 where
    pub settled : Settled list now
    pub more : (answer : List ℕ) → Given (answers_of settled.turns ++ answer ∷ [])

  -- the list is of turns, and of an open message, which leads to the room
  pub record Waits (list : List ℕ) (now : Room) : Type 0 where
    pub turns : List Turn
    pub text : List ℕ
    pub after : Room
    pub recorded : Recorded step setting digits terminals held text turns after
    pub begun : IsBegun turns
    pub given : Given (answers_of turns)
    pub p : Play
    pub is_play : IsPlay p
    pub entry : IsEntry (message p.at p.sent)
    pub list_is : text ++ message_text p.at p.sent ≡ list
    pub reply : Answers step setting digits terminals after p now
    pub more : Given (answers_of turns ++ p.response ∷ [])

  abbrev pub Come : List ℕ → Room → Type 0
  Come list now = Fresh list now ⊎ Settled list now ⊎ Waits list now

  abbrev IsRecorded : List ℕ → List Turn → Room → Type 0
  IsRecorded = Recorded step setting digits terminals held

  -- the open message is left out
  pub left_open : (list more : List ℕ) (turns : List Turn) (after : Room) (at : ℕ) (sent : List ℕ)
      → IsRecorded list turns after → IsEntry (message at sent) → list ++ message_text at sent ≡ more
      → IsRecorded more (turns ++ left_out at sent ∷ []) after
  left_open list more turns after at sent response entry is =
      recorded_push step setting digits terminals held after after list more turns (left_out at sent) response tt tt
      (all_one (message at sent) entry) refl
      (ap (λ t. list ++ t) (append-nil (text_of (message at sent))) ∙ is)

  settle_open : (list more : List ℕ) (turns : List Turn) (after : Room) (at : ℕ) (sent : List ℕ)
      → IsRecorded list turns after → IsEntry (message at sent) → list ++ message_text at sent ≡ more
      → IsBegun turns → Given (answers_of turns) → Settled more after
  settle_open list more turns after at sent response entry is begun given = record {
    turns = turns ++ left_out at sent ∷ [];
    recorded = left_open list more turns after at sent response entry is;
    begun = begun-append turns (left_out at sent ∷ []) begun;
    given = subst Given (sym (no_answer turns (left_out at sent) refl)) given;
  }

  settled_as : (list more : List ℕ) (now : Room) → list ≡ more → Settled list now → Settled more now
  settled_as list more now is s = subst (λ (t : List ℕ). Settled t now) is s

  -- ---- what is whole of a list
  module _ (others : List Entry) (rest : List ℕ) (end : IsTail rest) where
    whole_is : (list : List ℕ) (now : Room) → Settled list now → Follows list others rest
        → list ≡ texts_of others
    whole_is list now s follows =
        sym (whole_all (entries_of s.turns) others rest s.recorded.entries end (follows.0, s.recorded.text ∙ follows.1)
        ∙ s.recorded.text)

    pub come_settled : (list : List ℕ) (now : Room) → Settled list now → Follows list others rest
        → Come (texts_of others) now
    come_settled list now s follows = inr (inl (settled_as list (texts_of others) now (whole_is list now s follows) s))

  -- a list is of entries
  come_entries : (list : List ℕ) (now : Room) → Come list now
      → (entries : List Entry) × All IsEntry entries × (texts_of entries ≡ list)
  come_entries list now (inl fresh) = ([], All-nil IsEntry, sym fresh.list_is)
  come_entries list now (inr (inl s)) = (entries_of s.turns, s.recorded.entries, s.recorded.text)
  come_entries list now (inr (inr w)) = (
    entries_of w.turns ++ message w.p.at w.p.sent ∷ [],
    All-append IsEntry (entries_of w.turns) (message w.p.at w.p.sent ∷ []) w.recorded.entries
        (all_one (message w.p.at w.p.sent) w.entry),
    texts_push (entries_of w.turns) (message w.p.at w.p.sent)
        ∙ ap (λ t. t ++ message_text w.p.at w.p.sent) w.recorded.text
        ∙ w.list_is,
  )

  -- what a list has come to is whole
  pub come_same : (list : List ℕ) (now : Room) (others : List Entry) (rest : List ℕ) → IsTail rest
      → Follows list others rest → Come list now → Come (texts_of others) now
  come_same list now others rest end follows come =
      let e = come_entries list now come in
      subst (λ (t : List ℕ). Come t now) (sym (whole_all e.0 others rest e.1 end (follows.0, e.2 ∙ follows.1) ∙ e.2))
      come

  -- ---- a head
  module _ (h : StartDigest) (entry : IsEntry (head_entry h)) where
    head_next : (list : List ℕ) (turns : List Turn) (now : Room) → IsRecorded list turns now
        → IsHeadOf digits h terminals now
        → IsRecorded (list ++ room_text h) (turns ++ compared h ∷ []) now
    head_next list turns now response is =
        recorded_push step setting digits terminals held now now list (list ++ room_text h) turns (compared h) response
        tt tt
        (all_one (head_entry h) entry) (refl, is)
        (ap (λ t. list ++ t) (append-nil (room_text h)))

    settle_head : (list : List ℕ) (now : Room) → IsHeadOf digits h terminals now → Settled list now
        → Settled (list ++ room_text h) now
    settle_head list now is s = record {
      turns = s.turns ++ compared h ∷ [];
      recorded = head_next list s.turns now s.recorded is;
      begun = begun-append s.turns (compared h ∷ []) s.begun;
      given = subst Given (sym (no_answer s.turns (compared h) refl)) s.given;
    }

    -- a message, and then the head
    then_head : (text came list : List ℕ) → text ++ came ≡ list
        → text ++ (came ++ (room_text h ++ [])) ≡ list ++ room_text h
    then_head text came list is =
        ap (λ t. text ++ (came ++ t)) (append-nil (room_text h)) ∙ sym (append_assoc text came (room_text h))
        ∙ ap (λ t. t ++ room_text h) is

    -- the head shows whether it is the room before an open message or the one after it
    pub come_head : (list : List ℕ) (now : Room) → IsHeadOf digits h terminals now
        → ((after : Room) (x : Timed) (bytes : List ℕ) → IsReplyTo step setting terminals after x now bytes
        → IsHeadOf digits h terminals after → after ≡ now)
        → Come list now → Settled (list ++ room_text h) now
    come_head list now is twin (inl fresh) = record {
      turns = compared h ∷ [];
      recorded =
          rw (fresh.list_is, fresh.now_is)
          (head_next [] [] held (recorded_none step setting digits terminals held)
          (subst (λ (r : Room). IsHeadOf digits h terminals r) fresh.now_is is));
      begun = (h, [], refl);
      given = fresh.given;
    }
    come_head list now is twin (inr (inl s)) = settle_head list now is s
    come_head list now is twin (inr (inr w)) = elim (same_or_not (digits h.version terminals w.after) h.digits) [
      | inl same ↦
          let one : w.after ≡ now = twin w.after (arrived w.p.whole, w.p.at) w.p.response w.reply same in
          settle_head list now is (subst (λ (r : Room). Settled list r) one
          (settle_open w.text list w.turns w.after w.p.at w.p.sent w.recorded w.entry w.list_is w.begun w.given))
      | inr other ↦ record {
        turns = w.turns ++ caught_up w.p h ∷ [];
        recorded =
            recorded_push step setting digits terminals held w.after now w.text (list ++ room_text h) w.turns
            (caught_up w.p h) w.recorded w.is_play tt
            (all_two (message w.p.at w.p.sent) (head_entry h) w.entry entry) (other, w.reply, is)
            (then_head w.text (message_text w.p.at w.p.sent) list w.list_is);
        begun = begun-append w.turns (caught_up w.p h ∷ []) w.begun;
        given = subst Given (sym (answers_join w.turns (caught_up w.p h ∷ []))) w.more;
      }
    ]

    -- some first bytes of it
    pub come_front : (list front : List ℕ) (now : Room) (others : List Entry) (rest : List ℕ)
        → IsTail rest → IsHeadOf digits h terminals now
        → ((after : Room) (x : Timed) (bytes : List ℕ) → IsReplyTo step setting terminals after x now bytes
        → IsHeadOf digits h terminals after → after ≡ now)
        → IsFront front (room_text h) → Follows (list ++ front) others rest → Come list now
        → Come (texts_of others) now
    come_front list front now others rest end is twin first follows come =
        let e = come_entries list now come in
        elim (whole_front e.0 others (head_entry h) front rest e.1 entry end first
        (follows.0, ap (λ t. t ++ front) e.2 ∙ follows.1)) [
          | inl same ↦ subst (λ (t : List ℕ). Come t now) (sym (same ∙ e.2)) come
          | inr same ↦
              inr (inl (settled_as (list ++ room_text h) (texts_of others) now
              (sym (same ∙ ap (λ t. t ++ room_text h) e.2)) (come_head list now is twin come)))
        ]

  -- ---- one arrival more
  module _ (list : List ℕ) (now : Room) (r : Ready list now) where
    abbrev turns : List Turn
    turns = r.settled.turns

    message_left : (at : ℕ) (sent : List ℕ) → IsEntry (message at sent)
        → Settled (list ++ message_text at sent) now
    message_left at sent entry =
        settle_open list (list ++ message_text at sent) turns now at sent r.settled.recorded entry refl r.settled.begun
        r.settled.given

    module _ (p : Play) (after : Room) (is : IsPlay p) (entry : IsEntry (message p.at p.sent))
        (reply : Answers step setting digits terminals now p after) where
      message_waits : Waits (list ++ message_text p.at p.sent) after
      message_waits = record {
        turns = turns;
        text = list;
        after = now;
        recorded = r.settled.recorded;
        begun = r.settled.begun;
        given = r.settled.given;
        p = p;
        is_play = is;
        entry = entry;
        list_is = refl;
        reply = reply;
        more = r.more p.response;
      }

      message_answered : Settled (list ++ (message_text p.at p.sent ++ answer_text p.response)) after
      message_answered =
          let one = answered_one step setting digits terminals now after p is entry reply in
          record {
            turns = turns ++ one.0;
            recorded =
                recorded_join step setting digits terminals held now after list _ turns one.0 r.settled.recorded one.1;
            begun = begun-append turns one.0 r.settled.begun;
            given =
                subst Given (sym (answers_join turns one.0 ∙ ap (λ a. answers_of turns ++ a) one.2))
                (r.more p.response);
          }

    -- memory or storage was unavailable for it
    pub settle_unavailable : (x : Timed) (tail wrote : List ℕ)
        → KeepsUnserved message_text answer_text x tail wrote → Settled (list ++ tail) now
    settle_unavailable (arrived m, at) tail wrote is =
        let came = is.0 in
        settled_as _ (list ++ tail) now (ap (λ t. list ++ t) (sym came.3))
        (message_left at came.0 (came.2, came.1.some, came.1.fits))
    settle_unavailable (refused why head_only, at) tail wrote is =
        settled_as list (list ++ tail) now (sym (ap (λ t. list ++ t) is.0 ∙ append-nil list)) r.settled

    -- a refusal in the place of a message leaves the room
    still : (why : Refusal) (head_only : Bool) (at : ℕ) (after : Room) (bytes : List ℕ)
        → IsReplyTo step setting terminals now (refused why head_only, at) after bytes → now ≡ after
    still why head_only at after bytes reply = sym (reply.2 ∙ ap (λ found. (replied step found now).0) reply.1)

    -- its record is kept
    pub settle_record : (x : Timed) (response tail : List ℕ) (after : Room)
        → IsRecord message_text answer_text x response tail
        → IsReplyTo step setting terminals now x after response → Settled (list ++ tail) after
    settle_record (arrived m, at) response tail after is reply =
        let came = is.1 in
        let p : Play = record { at = at; sent = came.0; whole = m; response = response } in
        settled_as _ (list ++ tail) after
        (ap (λ t. list ++ t) (sym (is.2 ∙ ap (λ t. t ++ answer_text response) came.3)))
        (message_answered p after came.1.whole (came.2, came.1.some, came.1.fits) reply)
    settle_record (refused why head_only, at) response tail after is reply =
        let none : tail ≡ [] = is.2 ∙ append-nil is.0 ∙ is.1 in
        subst (λ (room : Room). Settled (list ++ tail) room) (still why head_only at after response reply)
        (settled_as list (list ++ tail) now (sym (ap (λ t. list ++ t) none ∙ append-nil list)) r.settled)

    -- ---- what is whole of the list
    module _ (others : List Entry) (rest : List ℕ) (end : IsTail rest) where
      -- the list, or one entry more
      whole_next : (more : List ℕ) (room : Room) (e : Entry) (tail : List ℕ) → Settled more room
          → IsEntry e → IsFront tail (text_of e) → Follows (more ++ tail) others rest
          → (more ≡ texts_of others) ⊎ (more ++ text_of e ≡ texts_of others)
      whole_next more room e tail s is front follows =
          elim (whole_front (entries_of s.turns) others e tail rest s.recorded.entries is end front
          (follows.0, ap (λ t. t ++ tail) s.recorded.text ∙ follows.1)) [
            | inl same ↦ inl (sym (same ∙ s.recorded.text))
            | inr same ↦ inr (sym (same ∙ ap (λ t. t ++ text_of e) s.recorded.text))
          ]

      -- no arrival, or a refusal, of which nothing is kept
      come_nothing : (tail : List ℕ) (room : Room) → tail ≡ [] → now ≡ room
          → Follows (list ++ tail) others rest → Come (texts_of others) room
      come_nothing tail room none same follows =
          come_settled others rest end list room (subst (λ (room : Room). Settled list room) same r.settled)
          (follows.0, sym (ap (λ t. list ++ t) none ∙ append-nil list) ∙ follows.1)

      pub come_short : (x : Timed) (tail wrote : List ℕ)
          → IsCutShort message_text answer_text x tail wrote → Follows (list ++ tail) others rest
          → Come (texts_of others) now
      come_short (arrived m, at) tail wrote is follows =
          let came = is.1 in
          let entry : IsEntry (message at came.0) = (came.2, came.1.some, came.1.fits) in
          elim (whole_next list now (message at came.0) tail r.settled entry (subst (IsFront tail) came.3 is.2) follows) [
            | inl same ↦ inr (inl (settled_as list (texts_of others) now same r.settled))
            | inr same ↦ inr (inl (settled_as _ (texts_of others) now same (message_left at came.0 entry)))
          ]
      come_short (refused why head_only, at) tail wrote is follows =
          come_nothing tail now (no_front tail is.0 is.1 is.2) refl follows

      pub come_still : (x : Timed) (tail wrote : List ℕ)
          → KeepsUnserved message_text answer_text x tail wrote → Follows (list ++ tail) others rest
          → Come (texts_of others) now
      come_still x tail wrote is follows =
          come_settled others rest end (list ++ tail) now (settle_unavailable x tail wrote is) follows

      pub come_moved : (x : Timed) (tail wrote bytes : List ℕ) (after : Room)
          → KeepsUnserved message_text answer_text x tail wrote → Follows (list ++ tail) others rest
          → IsReplyTo step setting terminals now x after bytes → Come (texts_of others) after
      come_moved (arrived m, at) tail wrote bytes after is follows reply =
          let came = is.0 in
          let entry : IsEntry (message at came.0) = (came.2, came.1.some, came.1.fits) in
          let p : Play = record { at = at; sent = came.0; whole = m; response = bytes } in
          let text = ap (λ t. list ++ t) (sym came.3)
          ∙ whole_is others rest end (list ++ tail) now (settle_unavailable (arrived m, at) tail wrote is) follows in
          inr (inr (subst (λ (t : List ℕ). Waits t after) text (message_waits p after came.1.whole entry reply)))
      come_moved (refused why head_only, at) tail wrote bytes after is follows reply =
          come_nothing tail after is.0 (still why head_only at after bytes reply) follows

      pub come_unwritten : (x : Timed) (response tail wrote : List ℕ) (after : Room)
          → IsUnwritten message_text answer_text x response tail wrote → Follows (list ++ tail) others rest
          → IsReplyTo step setting terminals now x after response → Come (texts_of others) after
      come_unwritten (arrived m, at) response tail wrote after (coming, front, came, first, is, none) follows reply =
          let entry : IsEntry (message at came.0) = (came.2, came.1.some, came.1.fits) in
          let p : Play = record { at = at; sent = came.0; whole = m; response = response } in
          let status = status_shown step setting terminals now (arrived m, at) after response reply in
          let line_is = status_text_is response status.0 status.2 in
          let base = list ++ message_text at came.0 in
          let joined : base ++ front
          ≡ list ++ tail =
          append_assoc list (message_text at came.0) front
          ∙ ap (λ t. list ++ t) (ap (λ t. t ++ front) (sym came.3) ∙ sym is) in
          elim (whole_next base now (answer status.0) front (message_left at came.0 entry) status.1
          (subst (IsFront front) (sym line_is) first) (follows.0, joined ∙ follows.1)) [
            | inl same ↦
                inr (inr (subst (λ (t : List ℕ). Waits t after) same (message_waits p after came.1.whole entry reply)))
            | inr same ↦
                let whole : list ++ (message_text at came.0 ++ answer_text response) ≡ texts_of others =
                sym (append_assoc list (message_text at came.0) (answer_text response))
                ∙ ap (λ t. base ++ t) (sym line_is)
                ∙ same in
                inr
                (inl (settled_as _ (texts_of others) after whole (message_answered p after came.1.whole entry reply)))
          ]
      come_unwritten (refused why head_only, at) response tail wrote after (coming, front, came, first, is, none)
          follows
          reply =
          come_nothing tail after (is ∙ ap (λ t. t ++ front) came ∙ no_front front [] refl first)
          (still why head_only at after response reply) follows

      pub come_record : (x : Timed) (response tail : List ℕ) (after : Room)
          → IsRecord message_text answer_text x response tail → Follows (list ++ tail) others rest
          → IsReplyTo step setting terminals now x after response → Come (texts_of others) after
      come_record x response tail after is follows reply =
          come_settled others rest end (list ++ tail) after (settle_record x response tail after is reply) follows

      -- no arrival more
      pub come_none : Follows list others rest → Come (texts_of others) now
      come_none follows = come_settled others rest end list now r.settled follows

-- a message that is left out at the end is open
pub ends_open-push : (turns : List Turn) (at : ℕ) (sent : List ℕ)
    → ends_open (turns ++ left_out at sent ∷ []) ≡ true
ends_open-push [] at sent = refl
ends_open-push (t ∷ []) at sent = refl
ends_open-push (t ∷ u ∷ turns) at sent = ends_open-push (u ∷ turns) at sent

-- ---- a connection
module _ (step : Step) (setting : HttpSettings) (digits : DigitsOf) (terminals : List Terminal)
    (Given Next : List (List ℕ) → Type 0) (held : Room) where
  pub come_course : (list text : List ℕ) (now after : Room) (outs : List Timed)
      (answers : List (List ℕ))
      → ((old more : List (List ℕ)) → Given old → length more ≤ 1
      → Next (old ++ (answers_to_messages outs answers ++ more)))
      → Settled step setting digits terminals Given held list now
      → AreReplies step setting terminals now outs answers after
      → AreKept message_text answer_text outs answers text
      → Ready step setting digits terminals Next held (list ++ text) after
  come_course list text now after outs answers goes s replies kept =
      let k = kept_turns step setting digits terminals outs answers text now after replies kept in
      let response = answers_to_messages outs answers in
      let same : answers_of (s.turns ++ k.0)
      ≡ answers_of s.turns ++ response = answers_join s.turns k.0 ∙ ap (λ a. answers_of s.turns ++ a) k.2 in
      record {
        settled = record {
          turns = s.turns ++ k.0;
          recorded = recorded_join step setting digits terminals held now after list text s.turns k.0 s.recorded k.1;
          begun = begun-append s.turns k.0 s.begun;
          given =
              subst Next (sym (same ∙ ap (λ a. answers_of s.turns ++ a) (sym (append-nil response))))
              (goes (answers_of s.turns) [] s.given (omega arith));
        };
        more =
            λ answer.
            subst Next
            (sym (ap (λ a. a ++ answer ∷ []) same ∙ append_assoc (answers_of s.turns) response (answer ∷ [])))
            (goes (answers_of s.turns) (answer ∷ []) s.given (omega arith));
      }
