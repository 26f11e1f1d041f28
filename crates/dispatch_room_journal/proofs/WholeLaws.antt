-- A list that can be replayed is replayed.
use Rattle.std.proofs.Common.{◌≡◌, ◌∙◌, sym, ap, subst, refl, arith, ℕ, ◌-◌, ◌^◌, List, [], ◌∷◌}
use Rattle.std.proofs.Common.{◌++◌, drop, length, append-nil, append_assoc, length-append, decimal}
use Rattle.std.proofs.Common.{Bool, true, false, Option, Some, None, Result, Ok, Err, ◌⊎◌, inl, inr}
use Rattle.std.specs.Prelude.{All, count_by, min}
use Rattle.std.proofs.lemmas.Grind.{flat_map-append}
use Rattle.std.proofs.lemmas.List.{append_cancel_left}
use Rattle.std.proofs.lemmas.List.Elements.{All-head, All-tail, All-cons, All-nil, All-same}
use Rattle.std.proofs.lemmas.List.Elements.{All-weaker}
use Rattle.room_types.specs.declared.asks.Event.{Event}
use Rattle.room_types.specs.declared.fleet.Terminal.{Terminal}
use Rattle.room_types.specs.declared.refusal_statuses.Refusal.{Refusal}
use Rattle.room_model.specs.Room.{Room}
use Rattle.room_http.specs.declared.settings.HttpSettings.{HttpSettings}
use Rattle.room_http_messages.specs.Messages.{WholeMessage, HasMessage}
use Rattle.room_http.specs.ReplyMessages.{IsDateOf, reply_bytes}
use Rattle.room_model.specs.Rooms.{Step}
use Rattle.room_http.specs.Arrivals.{message as arrived, is_head_only, is_closing}
use Rattle.room_http.specs.Dialogues.{Finds, replied}
use Rattle.room_model.specs.declared.digests.StartDigest.{StartDigest}
use Rattle.dispatch_room_journal.specs.Entries.{Entry, room, message, answer, IsEntry, text_of}
use Rattle.dispatch_room_journal.specs.Entries.{texts_of, Begins}
use Rattle.dispatch_room_journal.specs.JournalRecords.{status_in}
use Rattle.dispatch_room_journal.proofs.EntryLemmas.{no_end_law, one_entry_law}
use Rattle.dispatch_room_journal.specs.declared.replay_faults.ReplayFault.{ReplayFault}
use Rattle.dispatch_room_journal.specs.declared.replay_faults.ReplayFault.TheVariants.{Bad, Differs}
use Rattle.dispatch_room_journal.specs.declared.replay_faults.ReplayFault.TheVariants.{OtherRoom}
use Rattle.dispatch_room_journal.specs.declared.replay_faults.ReplayFault.TheVariants.{ReadFailed}
use Rattle.dispatch_room_journal.specs.declared.replay_faults.ReplayFault.TheVariants.{WriteFailed}
use Rattle.dispatch_room_journal.specs.declared.replay_faults.ReplayFault.TheVariants.{Unavailable}
use Rattle.dispatch_room_journal.specs.declared.replay_faults.Stopped.{Stopped}
use Rattle.dispatch_room_journal.specs.ReplayedTurns.{Open, Play, Turn, compared, answered}
use Rattle.dispatch_room_journal.specs.ReplayedTurns.{caught_up, tried, left_out, entries_in}
use Rattle.dispatch_room_journal.specs.ReplayedTurns.{entries_of, ends_open, ends_unanswered}
use Rattle.dispatch_room_journal.specs.ReplayedTurns.{is_left_out, is_unanswered, has_message}
use Rattle.dispatch_room_journal.specs.ReplayedTurns.{IsPlay, IsTurn, IsReplayed, IsAfter, IsBy}
use Rattle.dispatch_room_journal.specs.ReplayedTurns.{AreBy, IsBegun, HasNoStatus, AreTurns, EndsAt}
use Rattle.dispatch_room_journal.specs.ReplayFaults.{IsBroken, IsNoMessage, IsPlayedFor, IsBad}
use Rattle.dispatch_room_journal.specs.ReplayFaults.{broken, broken_after, unasked, headless}
use Rattle.dispatch_room_journal.specs.ReplayFaults.{no_message, too_many, IsHead, Explains}
use Rattle.dispatch_room_journal.specs.ReplayFaults.{IsDueTo}
use Rattle.dispatch_room_journal.specs.Replays.{DigitsOf, Answers, IsReplay, LeadsElsewhere}
use Rattle.dispatch_room_journal.specs.Replays.{LeadsDialogue, StopsAfter, WouldMiss, IsHeadOf}
use Rattle.dispatch_room_journal.specs.ReplayLaws.{GivesThese, IsExcused, IsWhole, IsWholeUpTo}
use Rattle.dispatch_room_journal.proofs.FaultLemmas.{begins_one}
use Rattle.dispatch_room_journal.proofs.ReplayLawLemmas.{AreMet, AreUnanswered, Follows, first_head}
use Rattle.dispatch_room_journal.proofs.ReplayLawLemmas.{met_turns, no_status_first, one_replay_law}
use Rattle.dispatch_room_journal.proofs.ReplayLawLemmas.{one_turn, replayed_alike, same_play}
use Rattle.dispatch_room_journal.proofs.ReplayLawLemmas.{some_entry, unanswered_turns}
use Rattle.dispatch_room_journal.proofs.RoomLaws.{same_first}
use Rattle.dispatch_room_journal.proofs.TurnLemmas.{IsIn, IsReplay-append}

-- both parts of a list
all_parts : {X : Type 0} (P : X → Type 0) (xs ys : List X) → All P (xs ++ ys)
    → All P xs × All P ys
all_parts P [] ys all = (All-nil P, all)
all_parts P (x ∷ xs) ys all =
    let rest = all_parts P xs ys (All-tail P x (xs ++ ys) all) in
    (All-cons P x xs (All-head P x (xs ++ ys) all) rest.0, rest.1)

-- the first entry of a text of entries
first_of : (es : List Entry) (e : Entry) (more : List ℕ) → All IsEntry es
    → Begins (texts_of es) e more
    → (rest : List Entry) × (es ≡ e ∷ rest) × (texts_of rest ≡ more) × All IsEntry rest
first_of [] e more all begins = absurd ((no_end_law [] e more begins).0 refl)
first_of (f ∷ es) e more all begins =
    let same = same_first f e (texts_of es) more (All-head IsEntry f es all) begins.0 begins.1 in
    (es, ap (λ g. g ∷ es) same.0, same.1, All-tail IsEntry f es all)

begins_of : (es : List Entry) (e : Entry) (rest : List Entry) → All IsEntry es → es ≡ e ∷ rest
    → Begins (texts_of es) e (texts_of rest)
begins_of es e rest all is =
    (All-head IsEntry e rest (All-same IsEntry (e ∷ rest) es (sym is) all), ap texts_of is)

-- a text of entries is not broken
not_broken : (es : List Entry) → All IsEntry es → ¬ (IsBroken (texts_of es))
not_broken [] all (inl cut) = absurd (omega (arith, cut.0))
not_broken [] all (inr foreign) =
    foreign (text_of (answer 200)) (answer 200) [] ((omega arith, omega arith), sym (append-nil (text_of (answer 200))))
not_broken (e ∷ es) all (inl cut) =
    (no_end_law (texts_of (e ∷ es)) e (texts_of es) (All-head IsEntry e es all, refl)).1 cut.1
not_broken (e ∷ es) all (inr foreign) =
    (no_end_law (texts_of (e ∷ es)) e (texts_of es) (All-head IsEntry e es all, refl)).2 foreign

-- what is left of a text of entries after others
rest_of_text : (fs es : List Entry) (rest : List ℕ) → All IsEntry fs → All IsEntry es
    → texts_of es ≡ texts_of fs ++ rest
    → (more : List Entry) × (es ≡ fs ++ more) × (texts_of more ≡ rest) × All IsEntry more
rest_of_text [] es rest a b is = (es, refl, is, b)
rest_of_text (f ∷ fs) es rest a b is =
    let next = first_of es f (texts_of fs ++ rest) b
    (All-head IsEntry f fs a, is ∙ append_assoc (text_of f) (texts_of fs) rest) in
    let left = rest_of_text fs next.0 rest (All-tail IsEntry f fs a) next.3 next.2 in
    (left.0, next.1 ∙ ap (λ (l : List Entry). f ∷ l) left.1, left.2, left.3)

-- an open turn is the last
still_open : (u : Turn) (us : List Turn) → ends_open us ≡ true → ends_open (u ∷ us) ≡ true
still_open u [] is = absurd (cc)
still_open u (v ∷ us) is = is

open_unanswered : (us : List Turn) → ends_open us ≡ true → ends_unanswered us ≡ true
open_unanswered [] is = is
open_unanswered (u ∷ []) is = left u is
  where
    left : (t : Turn) → is_left_out t ≡ true → is_unanswered t ≡ true
    left (compared head) is = is
    left (answered p status) is = is
    left (caught_up p head) is = is
    left (tried p) is = refl
    left (left_out at sent) is = is
open_unanswered (u ∷ v ∷ us) is = open_unanswered (v ∷ us) is

replayed_left : (t : Turn) → IsReplayed t → is_unanswered t ≡ true → is_left_out t ≡ true
replayed_left (compared head) replayed is = is
replayed_left (answered p status) replayed is = is
replayed_left (caught_up p head) replayed is = is
replayed_left (tried p) replayed is = absurd replayed
replayed_left (left_out at sent) replayed is = is

module _ (step : Step) (setting : HttpSettings) (digest_of : DigitsOf) (terminals : List Terminal) where
  -- the rooms after the first turns and after the others
  split_replay : (held end : Room) (us ts : List Turn)
      → IsReplay step setting digest_of terminals held (us ++ ts) end
      → (mid : Room) × IsReplay step setting digest_of terminals held us mid
      × IsReplay step setting digest_of terminals mid ts end
  split_replay held end [] ts x = (held, refl, x)
  split_replay held end (u ∷ us) ts x =
      let rest = split_replay x.0 end us ts x.2 in (rest.0, (x.0, x.1, rest.1), rest.2)

  -- an open turn at the end is one that these entries may follow
  abbrev MayGoOn : List Turn → Room → List Entry → Type 0
  MayGoOn us mid es =
      ends_open us ≡ true
      → AreUnanswered step setting digest_of terminals es × AreMet step setting digest_of terminals mid es

  first_follows : (u : Turn) (us : List Turn) (next mid : Room) (es : List Entry) → IsReplayed u
      → IsReplay step setting digest_of terminals next us mid → MayGoOn (u ∷ us) mid es
      → Follows step setting digest_of terminals u next (entries_of us ++ es)
  first_follows u [] next mid es replayed x may = (
    λ is. (may (replayed_left u replayed is)).0,
    λ is. subst (λ (r : Room). AreMet step setting digest_of terminals r es) x (may is).1,
  )
  first_follows u (v ∷ us) next mid es replayed x may =
      let moved = append_assoc (entries_in v) (entries_of us) es in (
        λ _ status more is.
            no_status_first step setting digest_of terminals v (entries_of us ++ es) status more (sym moved ∙ is),
        λ _ head more is.
            first_head step setting digest_of terminals next x.0 v (entries_of us ++ es) head more (sym moved ∙ is) x.1,
      )

  -- turns of the first entries are the first turns
  abbrev GoesOn : Room → Room → List Turn → List Turn → List Entry → Type 0
  GoesOn mid after us ts es = (vs : List Turn) × (ts ≡ us ++ vs) × (entries_of vs ≡ es)
      × IsReplay step setting digest_of terminals mid vs after

  first_turns : (held mid after : Room) (us ts : List Turn) (es : List Entry) → All IsTurn us
      → All IsTurn ts → All IsReplayed us → All IsReplayed ts
      → entries_of ts ≡ entries_of us ++ es → MayGoOn us mid es
      → IsReplay step setting digest_of terminals held us mid
      → IsReplay step setting digest_of terminals held ts after → GoesOn mid after us ts es
  first_turns held mid after [] ts es a b c d is may x y =
      (ts, refl, is, subst (λ (r : Room). IsReplay step setting digest_of terminals r ts after) (sym x) y)
  first_turns held mid after (u ∷ us) [] es a b c d is may x y =
      absurd (some_entry step setting digest_of terminals u (entries_of us ++ es)
      (is ∙ append_assoc (entries_in u) (entries_of us) es))
  first_turns held mid after (u ∷ us) (t ∷ ts) es a b c d is may x y =
      let one = one_turn step setting digest_of terminals held y.0 x.0 (entries_of ts) (entries_of us ++ es) t u
      (All-head IsTurn t ts b) (All-head IsTurn u us a)
      (replayed_alike t u (All-head IsReplayed t ts d) (All-head IsReplayed u us c))
      (is ∙ append_assoc (entries_in u) (entries_of us) es) (
        λ _. unanswered_turns step setting digest_of terminals ts,
        λ _. met_turns step setting digest_of terminals y.0 after ts y.2,
      )
      (first_follows u us x.0 mid es (All-head IsReplayed u us c) x.2 may) y.1 x.1 in
      let rest = first_turns x.0 mid after us ts es (All-tail IsTurn u us a) (All-tail IsTurn t ts b)
      (All-tail IsReplayed u us c) (All-tail IsReplayed t ts d) one.2
      (λ open_. may (still_open u us open_)) x.2
      (subst (λ (r : Room). IsReplay step setting digest_of terminals r ts after) one.1 y.2) in
      (rest.0, λ i. one.0 i ∷ rest.1 i, rest.2, rest.3)

  -- a room is led to one room by a message, whatever is found of it
  one_led : (held next : Room) (p : Play) (at : ℕ) (sent : List ℕ) (whole : WholeMessage)
      (found : Result Event Refusal) → IsPlay p → HasMessage sent whole [] → p.at ≡ at
      → p.sent ≡ sent → Answers step setting digest_of terminals held p next
      → Finds setting terminals (arrived whole, at) found → next ≡ (replied step found held).0
  one_led held next p at sent whole found is has same_at same_sent x finds =
      let date = x.3.0 in
      let q : Play = record {
        at = at;
        sent = sent;
        whole = whole;
        response =
            reply_bytes (replied step found held).1 date (is_head_only (arrived whole)) (is_closing (arrived whole));
      } in
      (same_play step setting digest_of terminals held next (replied step found held).0 p q is has same_at same_sent x
      (found, finds, refl, (date, subst (λ (n : ℕ). IsDateOf n date) same_at x.3.1, refl))).1

  -- a message that is next was played, for what stands after it; or it was left out, and neither a
  -- status nor a head of another room stands after it
  abbrev IsFor : Room → Room → Play → List ℕ → Type 0
  IsFor held next p more =
      ((status : ℕ) × (rest : List ℕ) × Begins more (answer status) rest × (status_in p.response ≡ decimal status))
      ⊎ ((head : StartDigest) × (rest : List ℕ) × Begins more (room head) rest × (IsHeadOf digest_of head terminals next))

  abbrev IsDone : Room → ℕ → List ℕ → List ℕ → Type 0
  IsDone held at sent more =
      ((p : Play) × (next : Room) × IsPlay p × (p.at ≡ at) × (p.sent ≡ sent)
      × Answers step setting digest_of terminals held p next × IsFor held next p more)
      ⊎ (HasNoStatus more
      × ((head : StartDigest) (rest : List ℕ) → Begins more (room head) rest → IsHeadOf digest_of head terminals held))

  next_message : (held after : Room) (ts : List Turn) → All IsTurn ts → All IsReplayed ts
      → All IsEntry (entries_of ts) → IsReplay step setting digest_of terminals held ts after
      → (at : ℕ) (sent more : List ℕ) → Begins (texts_of (entries_of ts)) (message at sent) more
      → IsDone held at sent more
  next_message held after [] turns kinds entries x at sent more begins =
      absurd ((no_end_law [] (message at sent) more begins).0 refl)
  next_message held after (compared head ∷ ts) turns kinds entries x at sent more begins =
      let first = first_of (entries_of (compared head ∷ ts)) (message at sent) more entries begins in
      absurd (cc (first.1))
  next_message held after (answered p status ∷ ts) turns kinds entries x at sent more begins =
      let first = first_of (entries_of (answered p status ∷ ts)) (message at sent) more entries begins in
      let same_at : p.at ≡ at = cc (first.1) in
      let same_sent : p.sent ≡ sent = cc (first.1) in
      let turn = All-head IsTurn (answered p status) ts turns in
      let mark = begins_of first.0 (answer status) (entries_of ts) first.3 (sym (ap (drop 1) first.1)) in
      inl (
        p,
        x.0,
        turn.0,
        same_at,
        same_sent,
        x.1,
        inl (
          status,
          texts_of (entries_of ts),
          subst (λ (t : List ℕ). Begins t (answer status) (texts_of (entries_of ts))) first.2 mark,
          turn.1,
        ),
      )
  next_message held after (caught_up p head ∷ ts) turns kinds entries x at sent more begins =
      let first = first_of (entries_of (caught_up p head ∷ ts)) (message at sent) more entries begins in
      let same_at : p.at ≡ at = cc (first.1) in
      let same_sent : p.sent ≡ sent = cc (first.1) in
      let mark = begins_of first.0 (room head) (entries_of ts) first.3 (sym (ap (drop 1) first.1)) in
      let turn = All-head IsTurn (caught_up p head) ts turns in
      inl (
        p,
        x.0,
        turn,
        same_at,
        same_sent,
        x.1.1,
        inr (
          head,
          texts_of (entries_of ts),
          subst (λ (t : List ℕ). Begins t (room head) (texts_of (entries_of ts))) first.2 mark,
          x.1.2,
        ),
      )
  next_message held after (tried p ∷ ts) turns kinds entries x at sent more begins =
      absurd (All-head IsReplayed (tried p) ts kinds)
  next_message held after (left_out n bytes ∷ ts) turns kinds entries x at sent more begins =
      let first = first_of (entries_of (left_out n bytes ∷ ts)) (message at sent) more entries begins in
      let left : texts_of (entries_of ts) ≡ more = ap texts_of (ap (drop 1) first.1) ∙ first.2 in
      let later = All-tail IsEntry (message n bytes) (entries_of ts) entries in
      inr (
        λ status rest begun.
            let mark = first_of (entries_of ts) (answer status) rest later
            (subst (λ (t : List ℕ). Begins t (answer status) rest) (sym left) begun) in
            unanswered_turns step setting digest_of terminals ts status mark.0 mark.1,
        λ head rest begun.
            let mark = first_of (entries_of ts) (room head) rest later
            (subst (λ (t : List ℕ). Begins t (room head) rest) (sym left) begun) in
            ap (λ (r : Room). digest_of head.version terminals r) (sym x.1)
            ∙ met_turns step setting digest_of terminals x.0 after ts x.2 head mark.0 mark.1,
      )

  -- a message does not stand first
  headed : (vs : List Turn) (at : ℕ) (sent : List ℕ) (more : List Entry)
      → (vs ≡ []) ⊎ IsBegun vs → entries_of vs ≡ message at sent ∷ more → ⊥
  headed vs at sent more (inl none) is =
      let first : [] ≡ message at sent ∷ more = sym (ap entries_of none) ∙ is in cc
  headed vs at sent more (inr begun) is =
      let first : room begun.0 ∷ entries_of begun.1 ≡ message at sent ∷ more = sym (ap entries_of begun.2) ∙ is in cc

  -- Turns are left of a list that can be replayed, where a replay stopped in a room: nothing
  -- explains why, but that no more turns are taken.
  module _ (mid after end : Room) (vs last : List Turn) (rest : List ℕ) (turns : All IsTurn vs)
      (kinds : All IsReplayed vs) (entries : All IsEntry (entries_of vs))
      (x : IsReplay step setting digest_of terminals mid vs after) (last_turns : All IsTurn last)
      (last_entries : All IsEntry (entries_of last))
      (y : IsReplay step setting digest_of terminals mid last end)
      (is : texts_of (entries_of vs) ≡ texts_of (entries_of last) ++ rest)
      (Elsewhere : Option Open → StartDigest → Type 0)
      (elsewhere : (open_ : Option Open) (head : StartDigest) → last ≡ [] → Elsewhere open_ head
      → (¬ (IsHeadOf digest_of head terminals mid)) × WouldMiss step setting digest_of terminals mid open_ head) where
    same_rest : last ≡ [] → texts_of (entries_of vs) ≡ rest
    same_rest few = is ∙ ap (λ (l : List Turn). texts_of (entries_of l) ++ rest) few

    begins_left : last ≡ [] → (e : Entry) (more : List ℕ) → Begins rest e more
        → Begins (texts_of (entries_of vs)) e more
    begins_left few e more begins = (begins.0, same_rest few ∙ begins.1)

    message_left : last ≡ [] → (at : ℕ) (sent more : List ℕ)
        → Begins rest (message at sent) more → IsDone mid at sent more
    message_left few at sent more begins =
        next_message mid after vs turns kinds entries x at sent more (begins_left few (message at sent) more begins)

    not_played : (at : ℕ) (sent more : List ℕ) → last ≡ [] → IsNoMessage sent
        → IsDone mid at sent more → IsPlayedFor Elsewhere more → ⊥
    not_played at sent more few none (inl p) for_it =
        none p.0.whole (subst (λ (t : List ℕ). HasMessage t p.0.whole []) p.4 p.2)
    not_played at sent more few none (inr left) (inl mark) = left.0 mark.0 mark.1 mark.2
    not_played at sent more few none (inr left) (inr mark) =
        (elsewhere None mark.0 few mark.3).0 (left.1 mark.0 mark.1 mark.2)

    not_bad : (none full : Type 0) → (none → (vs ≡ []) ⊎ IsBegun vs)
        → IsBad true none full Elsewhere last rest → full
    not_bad none full first (broken few b) =
        absurd (not_broken (entries_of vs) entries (subst (λ (t : List ℕ). IsBroken t) (sym (same_rest (few refl))) b))
    not_bad none full first (broken_after at sent more wait few begins b) =
        let e = first_of (entries_of vs) (message at sent) more entries
        (begins_left few (message at sent) more begins) in
        absurd (not_broken e.0 e.3 (subst (λ (t : List ℕ). IsBroken t) (sym e.2) b))
    not_bad none full first (unasked status more few begins) =
        let e = first_of (entries_of vs) (answer status) more entries (begins_left few (answer status) more begins) in
        absurd (unanswered_turns step setting digest_of terminals vs status e.0 e.1)
    not_bad none full first (headless at sent more few begins n) =
        let e = first_of (entries_of vs) (message at sent) more entries
        (begins_left few (message at sent) more begins) in
        absurd (headed vs at sent e.0 (first n) e.1)
    not_bad none full first (no_message at sent more few begins none_sent played) =
        absurd (not_played at sent more few none_sent (message_left few at sent more begins) (played refl))
    not_bad none full first (too_many whole) = whole

    same_status : (p : Play) (next : Room) (status : ℕ) (more : List ℕ) → IsPlay p
        → Answers step setting digest_of terminals mid p next → Begins rest (answer status) more
        → IsDone mid p.at p.sent rest → status_in p.response ≡ decimal status
    same_status p next status more p_is first begins
        (inl (q, then, q_is, at, sent, second, inl (s, left, mark, response))) =
        let same : answer s ≡ answer status = (one_entry_law rest (answer s) (answer status) left more mark begins).0 in
        let statuses : s ≡ status = cc in
        ap (λ (r : Play). status_in r.response)
        (same_play step setting digest_of terminals mid next then p q p_is q_is (sym at) (sym sent) first second).0
        ∙ response ∙ ap decimal statuses
    same_status p next status more p_is first begins
        (inl (q, then, q_is, at, sent, second, inr (head, left, mark, comes))) =
        absurd (cc ((one_entry_law rest (room head) (answer status) left more mark begins).0))
    same_status p next status more p_is first begins (inr left) = absurd (left.0 status more begins)

    not_different : (p : Play) (status : ℕ) (more : List ℕ) → last ≡ tried p ∷ []
        → Begins rest (answer status) more → ¬ (¬ (status_in p.response ≡ decimal status))
    not_different p status more one begins other =
        let turn : IsPlay p = All-head IsTurn (tried p) [] (All-same IsTurn (tried p ∷ []) last (sym one) last_turns) in
        let entry : IsEntry (message p.at p.sent) = All-head IsEntry (message p.at p.sent) []
        (All-same IsEntry (message p.at p.sent ∷ []) (entries_of last) (sym (ap entries_of one)) last_entries) in
        let replay : IsReplay step setting digest_of terminals mid (tried p ∷ []) end = subst
        (λ (l : List Turn). IsReplay step setting digest_of terminals mid l end) one y in
        let text : texts_of (entries_of vs)
        ≡ texts_of (message p.at p.sent ∷ []) ++ rest =
        is ∙ ap (λ (l : List Turn). texts_of (entries_of l) ++ rest) one in
        other (same_status p replay.0 status more turn replay.1 begins
        (next_message mid after vs turns kinds entries x p.at p.sent rest
        (begins_one (message p.at p.sent) (texts_of (entries_of vs)) rest entry text)))

    not_astray : (o : Open) (head : StartDigest) (mid_text more : List ℕ)
        → ¬ (IsHeadOf digest_of head terminals mid)
        → WouldMiss step setting digest_of terminals mid (Some o) head
        → Begins mid_text (room head) more → ¬ (IsDone mid o.0 o.1 mid_text)
    not_astray o head mid_text more other miss begins
        (inl (p, next, p_is, at, sent, ans, inl (s, left, mark, response))) =
        absurd (cc ((one_entry_law mid_text (answer s) (room head) left more mark begins).0))
    not_astray o head mid_text more other miss begins (inl (p, next, p_is, at, sent, ans, inr (d, left, mark, comes))) =
        let same : room d ≡ room head = (one_entry_law mid_text (room d) (room head) left more mark begins).0 in
        let digests : d ≡ head = cc in
        let led = one_led mid next p o.0 o.1 miss.0 miss.2.0 p_is miss.1 at sent ans miss.2.1 in
        miss.2.2 (ap (λ (r : Room). digest_of head.version terminals r) (sym led)
        ∙ subst (λ (h : StartDigest). IsHeadOf digest_of h terminals next) digests comes)
    not_astray o head mid_text more other miss begins (inr left) = other (left.1 head more begins)

    not_another : (open_ : Option Open) (head : StartDigest) → last ≡ []
        → IsHead true rest open_ head → ¬ (Elsewhere open_ head)
    not_another None head few (more, begins) other =
        let e = first_of (entries_of vs) (room head) more entries (begins_left few (room head) more begins) in
        (elsewhere None head few other).0 (met_turns step setting digest_of terminals mid after vs x head e.0 e.1)
    not_another (Some o) head few (wait, mid_text, more, begins, then) other =
        let away = elsewhere (Some o) head few other in
        not_astray o head mid_text more away.0 away.1 then (message_left few o.0 o.1 mid_text begins)

-- an entry that a text ends before is a message after the moment
ended_first : (until : Option ℕ) (es : List Entry) (e : Entry) (more : List Entry) → All IsEntry es
    → es ≡ e ∷ more → EndsAt until (texts_of es)
    → (at : ℕ) × (sent : List ℕ) × (e ≡ message at sent) × IsAfter until at
ended_first until es e more all is (inl none) =
    absurd ((no_end_law (texts_of es) e (texts_of more) (begins_of es e more all is)).0 none)
ended_first until es e more all is (inr (at, sent, after, begins, late)) = (
  at,
  sent,
  (one_entry_law (texts_of es) e (message at sent) (texts_of more) after (begins_of es e more all is) begins).0,
  late,
)

not_late : (until : Option ℕ) (at : ℕ) (sent : List ℕ) → IsBy until (message at sent)
    → ¬ (IsAfter until at)
not_late None at sent by late = late
not_late (Some until) at sent by late = omega (arith, by, late)

first_entry : (t : Turn) → (e : Entry) × (more : List Entry) × (entries_in t ≡ e ∷ more)
first_entry (compared head) = (room head, [], refl)
first_entry (answered p status) = (message p.at p.sent, answer status ∷ [], refl)
first_entry (caught_up p head) = (message p.at p.sent, room head ∷ [], refl)
first_entry (tried p) = (message p.at p.sent, [], refl)
first_entry (left_out at sent) = (message at sent, [], refl)

-- a turn up to a moment is not one that a text ends before
not_ended : (until : Option ℕ) (t : Turn) (ts us : List Turn) → All IsEntry (entries_of (t ∷ ts))
    → AreBy until (entries_of (t ∷ us)) → ¬ (EndsAt until (texts_of (entries_of (t ∷ ts))))
not_ended until t ts us all by ends =
    let first = first_entry t in
    let found = ended_first until (entries_of (t ∷ ts)) first.0 (first.1 ++ entries_of ts) all
    (ap (λ (l : List Entry). l ++ entries_of ts) first.2) ends in
    let same : entries_of (t ∷ us)
    ≡ first.0 ∷ (first.1 ++ entries_of us) = ap (λ (l : List Entry). l ++ entries_of us) first.2 in
    let entry = All-head (IsIn until) first.0 (first.1 ++ entries_of us)
    (All-same (IsIn until) (first.0 ∷ (first.1 ++ entries_of us)) (entries_of (t ∷ us)) (sym same) by) in
    not_late until found.0 found.1 (subst (λ (e : Entry). IsBy until e) found.2 entry.1) found.3

-- the turns up to a moment are one list
one_split : (until : Option ℕ) (ws us zs vs : List Turn) → All IsEntry (entries_of (ws ++ zs))
    → ws ++ zs ≡ us ++ vs → AreBy until (entries_of ws) → AreBy until (entries_of us)
    → EndsAt until (texts_of (entries_of zs)) → EndsAt until (texts_of (entries_of vs)) → ws ≡ us
one_split until [] [] zs vs all is a b c d = refl
one_split until [] (u ∷ us) zs vs all is a b c d =
    absurd (not_ended until u (us ++ vs) us (subst (λ (l : List Turn). All IsEntry (entries_of l)) is all) b
    (subst (λ (l : List Turn). EndsAt until (texts_of (entries_of l))) is c))
one_split until (w ∷ ws) [] zs vs all is a b c d =
    absurd (not_ended until w (ws ++ zs) ws all a
    (subst (λ (l : List Turn). EndsAt until (texts_of (entries_of l))) (sym is) d))
one_split until (w ∷ ws) (u ∷ us) zs vs all is a b c d =
    let first : w ≡ u = cc in
    let rest = one_split until ws us zs vs (all_parts IsEntry (entries_in w) (entries_of (ws ++ zs)) all).1
    (ap (drop 1) is)
    (all_parts (IsIn until) (entries_in w) (entries_of ws) a).1
    (all_parts (IsIn until) (entries_in u) (entries_of us) b).1 c d in
    λ i. first i ∷ rest i

-- a replay of a list that can be replayed
module _ (step : Step) (setting : HttpSettings) (digest_of : DigitsOf) (terminals : List Terminal)
    (held after : Room) (ts : List Turn) (turns : All IsTurn ts) (kinds : All IsReplayed ts)
    (entries : All IsEntry (entries_of ts)) (begun : (ts ≡ []) ⊎ IsBegun ts)
    (x : IsReplay step setting digest_of terminals held ts after) (until : Option ℕ)
    (trusted : Type 0) (stood stands : List Terminal → Room → Type 0) (trust : trusted)
    (stood_for : stood terminals held) where
  of_entries : (us : List Turn) (follows : List ℕ → Type 0)
      → AreTurns (Some (texts_of (entries_of ts))) until us follows → All IsEntry (entries_of us)
  of_entries us follows are = All-weaker (IsIn until) IsEntry (λ e both. both.0) (entries_of us) are.entries

  -- neither a status nor a head is next where a text ends before a message
  ended_goes_on : (mid : Room) (es : List Entry) → All IsEntry es → EndsAt until (texts_of es)
      → AreUnanswered step setting digest_of terminals es × AreMet step setting digest_of terminals mid es
  ended_goes_on mid es all ended = (
    λ status more is. absurd (cc ((ended_first until es (answer status) more all is ended).2)),
    λ head more is. absurd (cc ((ended_first until es (room head) more all is ended).2)),
  )

  -- the turns that were done, where it came to the end
  done_are : (us vs : List Turn) (then : Room) → ts ≡ us ++ vs
      → IsReplay step setting digest_of terminals held us then → AreBy until (entries_of us)
      → EndsAt until (texts_of (entries_of vs)) → (ws : List Turn) → All IsReplayed ws
      → AreTurns (Some (texts_of (entries_of ts))) until ws (EndsAt until)
      → LeadsDialogue step setting digest_of trusted stood stands ws
      → (ws ≡ us) × stands terminals then
  done_are us vs then split first by ends ws replayed are leads =
      let found = are.begins (texts_of (entries_of ts)) refl in
      let cut = rest_of_text (entries_of ws) (entries_of ts) found.0 (of_entries ws (EndsAt until) are) entries
      found.1 in
      let ended : EndsAt until (texts_of cut.0) = subst (λ (t : List ℕ). EndsAt until t) (sym cut.2) found.2 in
      let y = leads trust terminals held stood_for in
      let goes = first_turns step setting digest_of terminals held y.0 after ws ts cut.0 are.turns turns replayed kinds
      cut.1
      (λ _. ended_goes_on y.0 cut.0 cut.3 ended) y.1 x in
      let same = one_split until ws us goes.0 vs (subst (λ (l : List Turn). All IsEntry (entries_of l)) goes.1 entries)
      (sym goes.1 ∙ split) are.entries by
      (subst (λ (l : List Entry). EndsAt until (texts_of l)) (sym goes.2) ended) ends in
      let us_turns = (all_parts IsTurn us vs (All-same IsTurn (us ++ vs) ts (sym split) turns)).0 in
      let us_kinds = (all_parts IsReplayed us vs (All-same IsReplayed (us ++ vs) ts (sym split) kinds)).0 in
      let room_is : y.0
      ≡ then =
      (one_replay_law step setting digest_of terminals held y.0
      then ws us are.turns us_turns replayed us_kinds (ap entries_of same) y.1 first).1 in
      (same, subst (λ (r : Room). stands terminals r) room_is y.3)

  -- where it stopped after turns, and maybe one more message
  module _ (read_failed : Bool) (stopped : Stopped) (us last : List Turn)
      (s : StopsAfter step setting digest_of trusted stood stands (Some (texts_of (entries_of ts))) until true
      IsReplayed read_failed false stopped us last) where
    done_turns : All IsTurn us × All IsTurn last
    done_turns = all_parts IsTurn us last s.turns.turns

    done_entries : All IsEntry (entries_of us) × All IsEntry (entries_of last)
    done_entries = all_parts IsEntry (entries_of us) (entries_of last)
        (All-same IsEntry (entries_of us ++ entries_of last) (entries_of (us ++ last))
        (sym (flat_map-append entries_in us last)) (of_entries (us ++ last) _ s.turns))

    -- the first turns lead to one room
    one_room : (mid other : Room) → IsReplay step setting digest_of terminals held us mid
        → IsReplay step setting digest_of terminals held us other → mid ≡ other
    one_room mid other first second =
        (one_replay_law step setting digest_of terminals held mid other us us done_turns.0 done_turns.0 s.kinds s.kinds
        refl first second).1

    may_go_on : (mid : Room) (es : List Entry)
        → IsReplay step setting digest_of terminals held us mid → All IsEntry es
        → texts_of (entries_of ts) ≡ texts_of (entries_of us) ++ texts_of es
        → MayGoOn step setting digest_of terminals us mid es
    may_go_on mid es first all is open_ =
        let u = s.unanswered (open_unanswered us open_) (texts_of (entries_of ts)) refl in
        let m = s.met open_ (texts_of (entries_of ts)) refl in
        let same : texts_of es ≡ u.0 = append_cancel_left (texts_of (entries_of us)) (texts_of es) u.0 (sym is ∙ u.1) in
        let also : texts_of es ≡ m.0 = append_cancel_left (texts_of (entries_of us)) (texts_of es) m.0 (sym is ∙ m.1) in (
          λ status more begins.
              u.2 status (texts_of more)
              (subst (λ (t : List ℕ). Begins t (answer status) (texts_of more)) same
              (begins_of es (answer status) more all begins)),
          λ head more begins.
              let led = m.2 head (texts_of more)
              (subst (λ (t : List ℕ). Begins t (room head) (texts_of more)) also
              (begins_of es (room head) more all begins)) trust terminals held stood_for in
              ap (λ (r : Room). digest_of head.version terminals r) (one_room mid led.0 first led.1) ∙ led.2,
        )

    abbrev Elsewhere : Option Open → StartDigest → Type 0
    Elsewhere = LeadsElsewhere step setting digest_of trusted stood stands (us ++ last)

    elsewhere : (mid : Room) → IsReplay step setting digest_of terminals held us mid
        → (open_ : Option Open) (head : StartDigest) → last ≡ [] → Elsewhere open_ head
        → (¬ (IsHeadOf digest_of head terminals mid)) × WouldMiss step setting digest_of terminals mid open_ head
    elsewhere mid first open_ head few other =
        let y = other trust terminals held stood_for in
        let replay = subst (λ (l : List Turn). IsReplay step setting digest_of terminals held l y.0)
        (ap (λ (l : List Turn). us ++ l) few ∙ append-nil us) y.1 in
        let same : y.0 ≡ mid = one_room y.0 mid replay first in (
          λ is. y.2 (ap (λ (r : Room). digest_of head.version terminals r) same ∙ is),
          subst (λ (r : Room). WouldMiss step setting digest_of terminals r open_ head) same y.3,
        )

    module _ (mid end : Room) (vs : List Turn) (rest : List ℕ)
        (first : IsReplay step setting digest_of terminals held us mid)
        (more : IsReplay step setting digest_of terminals mid last end)
        (left : IsReplay step setting digest_of terminals mid vs after) (is : ts ≡ us ++ vs)
        (vs_entries : All IsEntry (entries_of vs))
        (text : texts_of (entries_of vs) ≡ texts_of (entries_of last) ++ rest) where
      vs_turns : All IsTurn vs
      vs_turns = (all_parts IsTurn us vs (All-same IsTurn (us ++ vs) ts (sym is) turns)).1

      vs_kinds : All IsReplayed vs
      vs_kinds = (all_parts IsReplayed us vs (All-same IsReplayed (us ++ vs) ts (sym is) kinds)).1

      starts : us ≡ [] → (vs ≡ []) ⊎ IsBegun vs
      starts none = subst (λ (l : List Turn). (l ≡ []) ⊎ IsBegun l) (is ∙ ap (λ (l : List Turn). l ++ vs) none) begun

      excused : (fault : ReplayFault)
          → Explains true (us ≡ []) (length us ≡ 2 ^ 64 - 1) Elsewhere last fault rest
          → IsDueTo read_failed false fault → IsExcused read_failed ts fault
      excused Bad why due =
          let full : length us ≡ 2 ^ 64 - 1 =
          not_bad step setting digest_of terminals mid after end vs last rest vs_turns vs_kinds vs_entries left
          done_turns.1 done_entries.1 more text Elsewhere (elsewhere mid first)
          (us ≡ []) (length us ≡ 2 ^ 64 - 1) starts why in
          omega (arith, full, length-append us vs, ap length is)
      excused Differs why due =
          not_different step setting digest_of terminals mid after end vs last rest vs_turns vs_kinds vs_entries left
          done_turns.1 done_entries.1 more text Elsewhere (elsewhere mid first)
          why.0 why.1 why.2 why.3 why.4 why.5
      excused OtherRoom why due =
          not_another step setting digest_of terminals mid after end vs last rest vs_turns vs_kinds vs_entries left
          done_turns.1 done_entries.1 more text Elsewhere (elsewhere mid first)
          why.1 why.2 why.0 why.3 why.4
      excused ReadFailed why due = due.0
      excused WriteFailed why due = absurd (cc (due.1))
      excused (Unavailable r) why due = due.2

    excused_after : (mid end : Room) (es : List Entry) (rest : List ℕ)
        → IsReplay step setting digest_of terminals held us mid
        → IsReplay step setting digest_of terminals mid last end
        → entries_of ts ≡ entries_of us ++ es
        → texts_of es ≡ texts_of (entries_of last) ++ rest → All IsEntry es
        → Explains true (us ≡ []) (length us ≡ 2 ^ 64 - 1) Elsewhere last stopped.fault rest
        → IsExcused read_failed ts stopped.fault
    excused_after mid end es rest first more same text all why =
        let may = may_go_on mid es first all (ap texts_of same ∙ flat_map-append text_of (entries_of us) es) in
        let goes = first_turns step setting digest_of terminals held mid after us ts es done_turns.0 turns s.kinds kinds
        same may first x in
        excused mid end goes.0 rest first more goes.3 goes.1 (All-same IsEntry (entries_of goes.0) es goes.2 all)
        (ap texts_of goes.2 ∙ text) stopped.fault why s.due

    stops : IsExcused read_failed ts stopped.fault
    stops =
        let y = s.leads trust terminals held stood_for in
        let parts = split_replay step setting digest_of terminals held y.0 us last y.1 in
        let found = s.turns.begins (texts_of (entries_of ts)) refl in
        let joined : texts_of (entries_of (us ++ last)) ≡ texts_of (entries_of us) ++ texts_of (entries_of last) =
        ap texts_of (flat_map-append entries_in us last) ∙ flat_map-append text_of (entries_of us) (entries_of last) in
        let cut = rest_of_text (entries_of us) (entries_of ts) (texts_of (entries_of last) ++ found.0) done_entries.0
        entries
        (found.1 ∙ ap (λ (t : List ℕ). t ++ found.0) joined
        ∙ append_assoc (texts_of (entries_of us)) (texts_of (entries_of last)) found.0) in
        excused_after parts.0 y.0 cut.0 found.0 parts.1 parts.2 cut.1 cut.2 cut.3 found.2

module _ {M : Type 0} (step : Step) (digest_of : DigitsOf) (is_trusted : M → Type 0)
    (stands : M → List Terminal → Room → Type 0) where
  gives : (setting : HttpSettings) (terminals : List Terminal) (held then after : Room)
      (ts us vs : List Turn) → All IsTurn ts → All IsReplayed ts → All IsEntry (entries_of ts)
      → (ts ≡ []) ⊎ IsBegun ts → IsReplay step setting digest_of terminals held ts after
      → ts ≡ us ++ vs → IsReplay step setting digest_of terminals held us then
      → (until : Option ℕ) → AreBy until (entries_of us) → EndsAt until (texts_of (entries_of vs))
      → GivesThese step digest_of is_trusted stands setting terminals held then ts us until
  gives setting terminals held
      then after ts us vs turns kinds entries begun x split first until by ends old new read_failed (Ok done)
      (ws, replayed, are, leads, messages, opens) trust stood_for =
      let these = done_are step setting digest_of terminals held after ts turns kinds entries begun x until
      (is_trusted new) (stands old) (stands new) trust stood_for us vs then split first by ends in
      let mine = these ws replayed are leads in (
        mine.1,
        opens ∙ ap ends_open mine.0,
        messages ∙ ap (λ (l : List Turn). min (count_by has_message l) (2 ^ 64 - 1)) mine.0,
        λ others others_replayed others_are others_lead. (these others others_replayed others_are others_lead).0,
      )
  gives setting terminals held
      then after ts us vs turns kinds entries begun x split first until by ends old new read_failed (Err stopped)
      (ws, last, s) trust stood_for =
      stops step setting digest_of terminals held after ts turns kinds entries begun x until (is_trusted new)
      (stands old) (stands new) trust stood_for read_failed stopped ws last s

  pub whole_law : IsWhole step digest_of is_trusted stands
  whole_law setting terminals held after ts turns kinds entries begun x =
      gives setting terminals held after after ts ts [] turns kinds entries begun x (sym (append-nil ts)) x None
      (All-weaker IsEntry (IsIn None) (λ e is. (is, tt)) (entries_of ts) entries) (inl refl)

  pub whole_up_to_law : IsWholeUpTo step digest_of is_trusted stands
  whole_up_to_law setting terminals held then after us vs turns kinds entries begun first more until by ends =
      gives setting terminals held
      then after (us ++ vs) us vs turns kinds entries begun
      (IsReplay-append step setting digest_of terminals held then after us vs first more) refl first until by ends
