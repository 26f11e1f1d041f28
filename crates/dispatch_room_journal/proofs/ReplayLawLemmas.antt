-- A journal has one replay to each room, which keeps the room's promises.
use Rattle.std.proofs.Common.{◌≡◌, ◌∙◌, sym, ap, subst, refl, ℕ, List, [], ◌∷◌, ◌++◌, drop, Bool}
use Rattle.std.proofs.Common.{true, false}
use Rattle.std.proofs.lemmas.Bool.{false≢true}
use Rattle.std.specs.Prelude.{All}
use Rattle.std.proofs.lemmas.List.Elements.{All-head, All-tail}
use Rattle.room_types.specs.declared.fleet.Terminal.{Terminal}
use Rattle.room_model.specs.Room.{Room}
use Rattle.room_http.specs.declared.settings.HttpSettings.{HttpSettings}
use Rattle.room_model.specs.Rooms.{Step, machine}
use Rattle.room_http_messages.specs.Messages.{HasMessage}
use Rattle.room_http_messages.proofs.LawLemmas.{one_message_law}
use Rattle.room_http.specs.Arrivals.{message as arrived}
use Rattle.room_http.specs.Dialogues.{Timed, IsReplyTo}
use Rattle.room_http.proofs.LawLemmas.{one_dialogue_law}
use Rattle.room_http.proofs.DialogueLemmas.{IsDialogue-one}
use Rattle.room_http.proofs.RunLemmas.{dialogue_run}
use Rattle.room_http.proofs.PromiseLaws.{promises_kept}
use Rattle.room_model.specs.declared.digests.StartDigest.{StartDigest}
use Rattle.dispatch_room_journal.specs.Entries.{Entry, room, answer}
use Rattle.dispatch_room_journal.specs.ReplayedTurns.{Play, Turn, compared, answered, caught_up}
use Rattle.dispatch_room_journal.specs.ReplayedTurns.{tried, left_out, timed, entries_in}
use Rattle.dispatch_room_journal.specs.ReplayedTurns.{entries_of, is_left_out, is_unanswered}
use Rattle.dispatch_room_journal.specs.ReplayedTurns.{arrivals_of, bytes_of, IsPlay, IsTurn}
use Rattle.dispatch_room_journal.specs.ReplayedTurns.{IsReplayed, IsPlayed}
use Rattle.dispatch_room_journal.specs.Replays.{DigitsOf, Answers, Does, IsReplay, IsHeadOf}
use Rattle.dispatch_room_journal.specs.ReplayLaws.{IsOneReplay, IsOneAnswering, IsKept}
use Rattle.dispatch_room_journal.proofs.TurnLemmas.{dialogue_of}

-- its message is played without a look at what follows it
abbrev is_tried : Turn → Bool
is_tried (compared head) = false
is_tried (answered p s) = false
is_tried (caught_up p head) = false
is_tried (tried p) = true
is_tried (left_out at sent) = false

-- what follows its message decides what is done with it, and is no status
abbrev waits : Turn → Bool
waits (compared head) = false
waits (answered p s) = false
waits (caught_up p head) = true
waits (tried p) = false
waits (left_out at sent) = true

-- they are not of two ways to replay
abbrev AreAlike : Turn → Turn → Type 0
AreAlike t u = (¬ ((is_tried t ≡ true) × (waits u ≡ true))) × (¬ ((waits t ≡ true) × (is_tried u ≡ true)))

module _ (step : Step) (setting : HttpSettings) (digest_of : DigitsOf) (terminals : List Terminal) where
  -- equal bytes at equal moments, in equal rooms, are answered equally
  pub same_play : (held after other : Room) (p q : Play) → IsPlay p → IsPlay q → p.at ≡ q.at
      → p.sent ≡ q.sent
      → Answers step setting digest_of terminals held p after
      → Answers step setting digest_of terminals held q other → (p ≡ q) × (after ≡ other)
  same_play held after other p q p_is q_is at sent first second =
      let whole : p.whole
      ≡ q.whole =
      (one_message_law p.sent p.whole q.whole [] [] p_is
      (subst (λ (t : List ℕ). HasMessage t q.whole []) (sym sent) q_is)).0 in
      let arrives : timed p ≡ timed q = λ i. (arrived (whole i), at i) in
      let again : IsReplyTo step setting terminals held (timed p) other q.response = subst
      (λ (x : Timed). IsReplyTo step setting terminals held x other q.response) (sym arrives) second in
      let same = one_dialogue_law step setting terminals held (timed p ∷ []) after other p.response q.response
      (IsDialogue-one step setting terminals held after (timed p) p.response first)
      (IsDialogue-one step setting terminals held other (timed p) q.response again) in
      (λ i. record { at = at i; sent = sent i; whole = whole i; response = same.1 i }, same.0)

  -- no turn begins with a status
  pub no_status_first : (t : Turn) (entries : List Entry) (status : ℕ) (more : List Entry)
      → entries_in t ++ entries ≡ answer status ∷ more → ⊥
  no_status_first (compared head) entries status more is = cc
  no_status_first (answered p s) entries status more is = cc
  no_status_first (caught_up p head) entries status more is = cc
  no_status_first (tried p) entries status more is = cc
  no_status_first (left_out at sent) entries status more is = cc

  -- where a turn begins with a head, the room has its digest
  pub first_head : (held next : Room) (t : Turn) (entries : List Entry) (head : StartDigest)
      (more : List Entry) → entries_in t ++ entries ≡ room head ∷ more
      → Does step setting digest_of terminals held t next → IsHeadOf digest_of head terminals held
  first_head held next (compared d) entries head more is x =
      let same : d ≡ head = cc in subst (λ (h : StartDigest). IsHeadOf digest_of h terminals held) same x.1
  first_head held next (answered p s) entries head more is x = absurd (cc)
  first_head held next (caught_up p d) entries head more is x = absurd (cc)
  first_head held next (tried p) entries head more is x = absurd (cc)
  first_head held next (left_out at sent) entries head more is x = absurd (cc)

  -- no turn is without an entry
  pub some_entry : (t : Turn) (entries : List Entry) → [] ≡ entries_in t ++ entries → ⊥
  some_entry (compared head) entries is = cc
  some_entry (answered p s) entries is = cc
  some_entry (caught_up p head) entries is = cc
  some_entry (tried p) entries is = cc
  some_entry (left_out at sent) entries is = cc

  -- no status is the first of the entries
  abbrev pub AreUnanswered : List Entry → Type 0
  AreUnanswered entries = (status : ℕ) (more : List Entry) → entries ≡ answer status ∷ more → ⊥

  -- where a head is the first of the entries, it is the room's
  abbrev pub AreMet : Room → List Entry → Type 0
  AreMet held entries = (head : StartDigest) (more : List Entry) → entries ≡ room head ∷ more
      → IsHeadOf digest_of head terminals held

  -- what follows a turn, after which the room is this
  abbrev pub Follows : Turn → Room → List Entry → Type 0
  Follows t next entries =
      (is_unanswered t ≡ true → AreUnanswered entries) × (is_left_out t ≡ true → AreMet next entries)

  -- the entries of turns
  pub unanswered_turns : (ts : List Turn) → AreUnanswered (entries_of ts)
  unanswered_turns [] status more is = cc
  unanswered_turns (t ∷ ts) status more is = no_status_first t (entries_of ts) status more is

  pub met_turns : (held after : Room) (ts : List Turn)
      → IsReplay step setting digest_of terminals held ts after → AreMet held (entries_of ts)
  met_turns held after [] x head more is = absurd (cc)
  met_turns held after (t ∷ ts) x head more is = first_head held x.0 t (entries_of ts) head more is x.1

  -- what equal entries decide of turns in equal rooms: the turns, the rooms after them, and the
  -- entries that are left
  abbrev pub Decides : Turn → Turn → List Entry → List Entry → Room → Room → Type 0
  Decides t u es fs next then = (t ≡ u) × (next ≡ then) × (es ≡ fs)

  module _ (held next then : Room) (es fs : List Entry) where
    pub one_turn : (t u : Turn) → IsTurn t → IsTurn u → AreAlike t u
        → entries_in t ++ es ≡ entries_in u ++ fs → Follows t next es → Follows u then fs
        → Does step setting digest_of terminals held t next
        → Does step setting digest_of terminals held u then → Decides t u es fs next then
    one_turn (compared g) (compared h) a b alike is x y d e =
        let same : g ≡ h = cc in (ap compared same, d.0 ∙ sym e.0, ap (drop 1) is)
    one_turn (compared g) (answered q r) a b alike is x y d e = absurd (cc)
    one_turn (compared g) (caught_up q h) a b alike is x y d e = absurd (cc)
    one_turn (compared g) (tried q) a b alike is x y d e = absurd (cc)
    one_turn (compared g) (left_out n k) a b alike is x y d e = absurd (cc)
    one_turn (answered p s) (compared h) a b alike is x y d e = absurd (cc)
    one_turn (answered p s) (answered q r) a b alike is x y d e =
        let status : s ≡ r = cc in
        let played = same_play held next then p q a.0 b.0 (cc) (cc) d e in
        (λ i. answered (played.0 i) (status i), played.1, ap (drop 2) is)
    one_turn (answered p s) (caught_up q h) a b alike is x y d e = absurd (cc)
    one_turn (answered p s) (tried q) a b alike is x y d e = absurd (y.0 refl s es (sym (ap (drop 1) is)))
    one_turn (answered p s) (left_out n k) a b alike is x y d e = absurd (y.0 refl s es (sym (ap (drop 1) is)))
    one_turn (caught_up p g) (compared h) a b alike is x y d e = absurd (cc)
    one_turn (caught_up p g) (answered q r) a b alike is x y d e = absurd (cc)
    one_turn (caught_up p g) (caught_up q h) a b alike is x y d e =
        let same_head : g ≡ h = cc in
        let played = same_play held next then p q a b (cc) (cc) d.1 e.1 in
        (λ i. caught_up (played.0 i) (same_head i), played.1, ap (drop 2) is)
    one_turn (caught_up p g) (tried q) a b alike is x y d e = absurd (alike.1 (refl, refl))
    one_turn (caught_up p g) (left_out n k) a b alike is x y d e =
        absurd (d.0 (ap (λ o. digest_of g.version terminals o) (sym e) ∙ y.1 refl g es (sym (ap (drop 1) is))))
    one_turn (tried p) (compared h) a b alike is x y d e = absurd (cc)
    one_turn (tried p) (answered q r) a b alike is x y d e = absurd (x.0 refl r fs (ap (drop 1) is))
    one_turn (tried p) (caught_up q h) a b alike is x y d e = absurd (alike.0 (refl, refl))
    one_turn (tried p) (tried q) a b alike is x y d e =
        let played = same_play held next then p q a b (cc) (cc) d e in
        (λ i. tried (played.0 i), played.1, ap (drop 1) is)
    one_turn (tried p) (left_out n k) a b alike is x y d e = absurd (alike.0 (refl, refl))
    one_turn (left_out m l) (compared h) a b alike is x y d e = absurd (cc)
    one_turn (left_out m l) (answered q r) a b alike is x y d e = absurd (x.0 refl r fs (ap (drop 1) is))
    one_turn (left_out m l) (caught_up q h) a b alike is x y d e =
        absurd (e.0 (ap (λ o. digest_of h.version terminals o) (sym d) ∙ x.1 refl h fs (ap (drop 1) is)))
    one_turn (left_out m l) (tried q) a b alike is x y d e = absurd (alike.1 (refl, refl))
    one_turn (left_out m l) (left_out n k) a b alike is x y d e =
        let at : m ≡ n = cc in
        let sent : l ≡ k = cc in
        (λ i. left_out (at i) (sent i), d ∙ sym e, ap (drop 1) is)

  -- a list of entries has one replay of a kind
  module _ (Kind : Turn → Type 0) (alike : (t u : Turn) → Kind t → Kind u → AreAlike t u)
      (after other : Room) where
    one_of : (held : Room) (ts us : List Turn) → All IsTurn ts → All IsTurn us → All Kind ts
        → All Kind us → entries_of ts ≡ entries_of us
        → IsReplay step setting digest_of terminals held ts after
        → IsReplay step setting digest_of terminals held us other → (ts ≡ us) × (after ≡ other)
    one_of held [] [] a b c d is x y = (refl, x ∙ sym y)
    one_of held [] (u ∷ us) a b c d is x y = absurd (some_entry u (entries_of us) is)
    one_of held (t ∷ ts) [] a b c d is x y = absurd (some_entry t (entries_of ts) (sym is))
    one_of held (t ∷ ts) (u ∷ us) a b c d is x y =
        let one = one_turn held x.0 y.0 (entries_of ts) (entries_of us) t u (All-head IsTurn t ts a)
        (All-head IsTurn u us b) (alike t u (All-head Kind t ts c) (All-head Kind u us d)) is
        (λ _. unanswered_turns ts, λ _. met_turns x.0 after ts x.2)
        (λ _. unanswered_turns us, λ _. met_turns y.0 other us y.2) x.1 y.1 in
        let rest = one_of x.0 ts us (All-tail IsTurn t ts a) (All-tail IsTurn u us b) (All-tail Kind t ts c)
        (All-tail Kind u us d) one.2 x.2
        (subst (λ (o : Room). IsReplay step setting digest_of terminals o us other) (sym one.1) y.2) in
        (λ i. one.0 i ∷ rest.0 i, rest.1)

-- where messages wait, none is tried, and where they are tried, none waits
pub replayed_alike : (t u : Turn) → IsReplayed t → IsReplayed u → AreAlike t u
replayed_alike t u a b = (λ both. no_tried t a both.0, λ both. no_tried u b both.1)
  where
    no_tried : (t : Turn) → IsReplayed t → ¬ (is_tried t ≡ true)
    no_tried (compared head) is same = false≢true same
    no_tried (answered p s) is same = false≢true same
    no_tried (caught_up p head) is same = false≢true same
    no_tried (tried p) is same = is
    no_tried (left_out at sent) is same = false≢true same

played_alike : (t u : Turn) → IsPlayed t → IsPlayed u → AreAlike t u
played_alike t u a b = (λ both. no_wait u b both.1, λ both. no_wait t a both.0)
  where
    no_wait : (t : Turn) → IsPlayed t → ¬ (waits t ≡ true)
    no_wait (compared head) is same = false≢true same
    no_wait (answered p s) is same = false≢true same
    no_wait (caught_up p head) is same = is
    no_wait (tried p) is same = false≢true same
    no_wait (left_out at sent) is same = is

pub one_replay_law : IsOneReplay
one_replay_law step setting digest_of terminals held after other ts us a b c d is x y =
    one_of step setting digest_of terminals IsReplayed replayed_alike after other held ts us a b c d is x y

pub one_answering_law : IsOneAnswering
one_answering_law step setting digest_of terminals held after other ts us a b c d is x y =
    one_of step setting digest_of terminals IsPlayed played_alike after other held ts us a b c d is x y

pub kept_law : IsKept
kept_law setting digest_of terminals held after ts fit formed x =
    let run = dialogue_run setting terminals held (arrivals_of ts) after (bytes_of ts) fit
    (dialogue_of machine setting digest_of terminals held ts after x) in
    (run.0, run.1, promises_kept setting terminals run.0 held formed run.1.run)
