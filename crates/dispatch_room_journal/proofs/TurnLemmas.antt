-- Lemmas on the turns of a replay, one after another.
use Rattle.std.proofs.Common.{◌≡◌, ◌∙◌, sym, ap, subst, refl, arith, ℕ, ◌+◌, ◌-◌, ◌^◌, ◌≤◌, min}
use Rattle.std.proofs.Common.{List, [], ◌∷◌, ◌++◌, append-nil, append_assoc, length, Bool, true}
use Rattle.std.proofs.Common.{false, cond, Option, Some, None, Ok, ◌⊎◌, inl, inr}
use Rattle.std.specs.Prelude.{All, count_by}
use Rattle.std.specs.Io.KnownBytes.{Consumes, Keeps, IsAtEnd}
use Rattle.std.proofs.KnownBytes.{Consumes-trans}
use Rattle.std.proofs.lemmas.Grind.{flat_map-append}
use Rattle.std.proofs.lemmas.List.Elements.{All-append, All-cons, All-head, All-nil}
use Rattle.std.proofs.lemmas.List.Sums.{sum_by-append}
use Rattle.room_types.specs.declared.fleet.Terminal.{Terminal}
use Rattle.room_types.specs.declared.refusal_statuses.Refusal.TheVariants.{Memory}
use Rattle.room_model.specs.Room.{Room}
use Rattle.room_http.specs.declared.settings.HttpSettings.{HttpSettings}
use Rattle.room_model.specs.Rooms.{Step}
use Rattle.room_http.specs.Dialogues.{IsDialogue}
use Rattle.room_http.specs.KeptMessages.{Unmoved}
use Rattle.room_model.specs.declared.digests.StartDigest.{StartDigest as RoomHead}
use Rattle.dispatch_room_journal.specs.declared.entry_prefixes.EntryLayout.{EntryLayout}
use Rattle.dispatch_room_journal.specs.Entries.{Entry, room, message, answer, IsEntry, text_of}
use Rattle.dispatch_room_journal.specs.Entries.{texts_of}
use Rattle.dispatch_room_journal.specs.declared.next_entry.Next.{Next}
use Rattle.dispatch_room_journal.specs.declared.next_entry.Next.TheVariants.{StartDigest, Message}
use Rattle.dispatch_room_journal.specs.declared.replay_faults.ReplayFault.{ReplayFault}
use Rattle.dispatch_room_journal.specs.declared.replay_faults.ReplayFault.TheVariants.{Bad}
use Rattle.dispatch_room_journal.specs.declared.replay_faults.ReplayFault.TheVariants.{Unavailable}
use Rattle.dispatch_room_journal.specs.declared.replay_faults.Stopped.{Stopped}
use Rattle.dispatch_room_journal.specs.declared.journal_messages.MessageOutcome.{MessageOutcome}
use Rattle.dispatch_room_journal.specs.declared.journal_messages.MessageOutcome.TheVariants.{Played}
use Rattle.dispatch_room_journal.specs.declared.journal_messages.MessageOutcome.TheVariants.{LeftOut}
use Rattle.dispatch_room_journal.specs.declared.journal_messages.MessageOutcome.TheVariants.{Last}
use Rattle.dispatch_room_journal.specs.declared.replay_progress.Progress.{Progress}
use Rattle.dispatch_room_journal.specs.ReplayedTurns.{Open, Play, Turn, compared, answered}
use Rattle.dispatch_room_journal.specs.ReplayedTurns.{caught_up, tried, left_out, entries_in}
use Rattle.dispatch_room_journal.specs.ReplayedTurns.{entries_of, arrivals_of, bytes_of}
use Rattle.dispatch_room_journal.specs.ReplayedTurns.{has_message, is_left_out, is_unanswered}
use Rattle.dispatch_room_journal.specs.ReplayedTurns.{ends_open, ends_unanswered, IsPlay, IsTurn}
use Rattle.dispatch_room_journal.specs.ReplayedTurns.{IsReplayed, IsBy, AreBy, IsBegun, StartsBy}
use Rattle.dispatch_room_journal.specs.ReplayedTurns.{HasNoStatus, BeginsWith, EndsAt, AreTurns}
use Rattle.dispatch_room_journal.specs.ReplayFaults.{too_many, Explains, IsDueTo}
use Rattle.dispatch_room_journal.specs.Replays.{DigitsOf, IsReplay, Leads, LeadsDialogue}
use Rattle.dispatch_room_journal.specs.Replays.{LeadsElsewhere, MeetsHead, StopsAfter, WouldMiss}
use Rattle.dispatch_room_journal.specs.ReplaySteps.{HasItsHead, IsMark, TurnOf, MessageIs}
use Rattle.dispatch_room_journal.specs.ReplaySteps.{IsElsewhere, NextIs, IsProgress, Progresses}
use Rattle.dispatch_room_journal.specs.ReplaySteps.{Passes, StopsIn, TakesTurn}
use Rattle.dispatch_room_journal.proofs.FaultLemmas.{not_both, begins_explain}
use Rattle.dispatch_room_journal.proofs.NextEntryLemmas.{begins_more}

-- the last turn
ends_open-snoc : (us : List Turn) (t : Turn) → ends_open (us ++ t ∷ []) ≡ is_left_out t
ends_open-snoc [] t = refl
ends_open-snoc (u ∷ []) t = refl
ends_open-snoc (u ∷ v ∷ us) t = ends_open-snoc (v ∷ us) t

ends_unanswered-append : (us ts : List Turn) → length ts ≡ 1
    → ends_unanswered (us ++ ts) ≡ ends_unanswered ts
ends_unanswered-append [] ts one = refl
ends_unanswered-append (u ∷ []) [] one = absurd (omega arith)
ends_unanswered-append (u ∷ []) (t ∷ ts) one = refl
ends_unanswered-append (u ∷ v ∷ us) ts one = ends_unanswered-append (v ∷ us) ts one

ends_open-append : (us ts : List Turn) → length ts ≡ 1 → ends_open (us ++ ts) ≡ ends_open ts
ends_open-append [] ts one = refl
ends_open-append (u ∷ []) [] one = absurd (omega arith)
ends_open-append (u ∷ []) (t ∷ ts) one = refl
ends_open-append (u ∷ v ∷ us) ts one = ends_open-append (v ∷ us) ts one

-- a turn of a replay that has a message, and no entry after it, leaves it out
replayed_answered : (t : Turn) → IsReplayed t → is_left_out t ≡ false → is_unanswered t ≡ true → ⊥
replayed_answered (compared head) replayed left is = cc
replayed_answered (answered p status) replayed left is = cc
replayed_answered (caught_up p head) replayed left is = cc
replayed_answered (tried p) replayed left is = replayed
replayed_answered (left_out at sent) replayed left is = cc

pub begun-append : (us ts : List Turn) → IsBegun us → IsBegun (us ++ ts)
begun-append us ts x = (x.0, x.1 ++ ts, ap (λ l. l ++ ts) x.2)

pub begun_by : (b : Bool) (us : List Turn) → b ≡ true → StartsBy b us → IsBegun us
begun_by true us is x = x
begun_by false us is x = absurd (cc)

unbegun : (b : Bool) (us : List Turn) → b ≡ false → StartsBy b us → us ≡ []
unbegun true us is x = absurd (cc)
unbegun false us is x = x

none_begun : (b : Bool) (us : List Turn) → StartsBy b us → (us ++ [] ≡ []) ⊎ IsBegun (us ++ [])
none_begun true us x = inr (begun-append us [] x)
none_begun false us x = inl (append-nil us ∙ x)

head_begins : (b : Bool) (us : List Turn) (head : RoomHead) → StartsBy b us
    → IsBegun (us ++ compared head ∷ [])
head_begins true us head x = begun-append us (compared head ∷ []) x
head_begins false us head x = (head, [], ap (λ l. l ++ compared head ∷ []) x)

-- how far a replay has come
pub no_progress : (p : Progress) → Progresses p p []
no_progress p us x = subst (λ l. IsProgress p l) (sym (append-nil us)) x

pub new_progress : (p : Progress) → p ≡ record { messages = 0; is_open = false; is_begun = false }
    → IsProgress p []
new_progress p is = record {
  messages = ap (λ q. q.messages) is;
  opens = ap (λ q. q.is_open) is;
  begun = subst (λ b. StartsBy b []) (sym (ap (λ q. q.is_begun) is)) refl;
}

head_progress : (head : RoomHead) (old new : Progress)
    → new ≡ record old { is_open = false; is_begun = true } → Progresses old new (compared head ∷ [])
head_progress head old new is us x = record {
  messages = ap (λ p. p.messages) is ∙ x.messages ∙ ap (λ n. min n (2 ^ 64 - 1)) (sym (counted us));
  opens = ap (λ p. p.is_open) is ∙ sym (ends_open-snoc us (compared head));
  begun =
      subst (λ b. StartsBy b (us ++ compared head ∷ [])) (sym (ap (λ p. p.is_begun) is))
      (head_begins old.is_begun us head x.begun);
}
  where
    counted : (us : List Turn) → count_by has_message (us ++ compared head ∷ [])
        ≡ count_by has_message us
    counted us = omega (arith, sum_by-append (λ t. cond (has_message t) 1 0) us (compared head ∷ []))

pub message_progress : (t : Turn) (left : Bool) (old new : Progress) → has_message t ≡ true
    → is_left_out t ≡ left → old.is_begun ≡ true
    → new ≡ record old { messages = min (old.messages + 1) (2 ^ 64 - 1); is_open = left }
    → Progresses old new (t ∷ [])
message_progress t left old new has is begun new_is us x = record {
  messages =
      ap (λ p. p.messages) new_is ∙ ap (λ n. min (n + 1) (2 ^ 64 - 1)) x.messages ∙ stops (count_by has_message us)
      ∙ ap (λ n. min n (2 ^ 64 - 1)) (sym counted);
  opens = ap (λ p. p.is_open) new_is ∙ sym is ∙ sym (ends_open-snoc us t);
  begun =
      subst (λ b. StartsBy b (us ++ t ∷ [])) (sym (ap (λ p. p.is_begun) new_is ∙ begun))
      (begun-append us (t ∷ []) (begun_by old.is_begun us begun x.begun));
}
  where
    stops : (n : ℕ) → min (min n (2 ^ 64 - 1) + 1) (2 ^ 64 - 1) ≡ min (n + 1) (2 ^ 64 - 1)
    stops n = omega arith

    counts : count_by has_message (t ∷ []) ≡ 1
    counts = rw has refl

    counted : count_by has_message (us ++ t ∷ []) ≡ count_by has_message us + 1
    counted = omega (arith, sum_by-append (λ t. cond (has_message t) 1 0) us (t ∷ []), counts)

-- what is known of the text
pub keeps_consumes : (a b c : Option (List ℕ)) (bs : List ℕ) → Keeps a b → Consumes b c bs
    → Consumes a c bs
keeps_consumes None b c bs same first = tt
keeps_consumes (Some x) None c bs same first = absurd same
keeps_consumes (Some x) (Some y) None bs same first = absurd first
keeps_consumes (Some x) (Some y) (Some z) bs same first = sym same ∙ first

pub keeps_nothing : (a b : Option (List ℕ)) → Keeps a b → Consumes a b []
keeps_nothing None b same = tt
keeps_nothing (Some x) None same = absurd same
keeps_nothing (Some x) (Some y) same = sym same

pub keeps_begins : (a b : Option (List ℕ)) (entries : List Entry) (follows : List ℕ → Type 0)
    → Keeps a b → BeginsWith b entries follows → BeginsWith a entries follows
keeps_begins None b entries follows same begins text is = absurd (cc)
keeps_begins (Some x) None entries follows same begins text is = absurd same
keeps_begins (Some x) (Some y) entries follows same begins text is = begins text (ap (λ t. Some t) same ∙ is)

-- what was taken, and then what the text goes on with
pub consumes_begins : (a b : Option (List ℕ)) (entries more : List Entry)
    (follows : List ℕ → Type 0) → Consumes a b (texts_of entries) → BeginsWith b more follows
    → BeginsWith a (entries ++ more) follows
consumes_begins None b entries more follows took begins text is = absurd (cc)
consumes_begins (Some x) None entries more follows took begins text is = absurd took
consumes_begins (Some x) (Some y) entries more follows took begins text is =
    let next = begins y refl in
    let same : x ≡ text = cc in
    let joined = sym (append_assoc (texts_of entries) (texts_of more) next.0)
    ∙ ap (λ t. t ++ next.0) (sym (flat_map-append text_of entries more)) in
    (next.0, sym same ∙ took ∙ ap (λ t. texts_of entries ++ t) next.1 ∙ joined, next.2)

-- what was taken was the rest
consumes_all : (a b : Option (List ℕ)) (entries : List Entry) (until : Option ℕ)
    → Consumes a b (texts_of entries) → IsAtEnd b → BeginsWith a entries (EndsAt until)
consumes_all None b entries until took end text is = absurd (cc)
consumes_all (Some x) None entries until took end text is = absurd took
consumes_all (Some x) (Some y) entries until took end text is =
    let same : x ≡ text = cc in ([], sym same ∙ took ∙ ap (λ t. texts_of entries ++ t) end, inl refl)

-- a head or a status is by any moment, and a message by its own
mark_by : (until : Option ℕ) (e : Entry) → IsMark e → IsBy until e
mark_by None e mark = tt
mark_by (Some until) (room head) mark = tt
mark_by (Some until) (message at sent) mark = absurd mark
mark_by (Some until) (answer status) mark = tt

message_by : (until : Option ℕ) (at : ℕ) (sent other : List ℕ) → IsBy until (message at sent)
    → IsBy until (message at other)
message_by None at sent other x = tt
message_by (Some until) at sent other x = x

earlier_by : (until : Option ℕ) (at then : ℕ) (sent other : List ℕ) → IsBy until (message at sent)
    → then ≤ at → IsBy until (message then other)
earlier_by None at then sent other x early = tt
earlier_by (Some until) at then sent other x early = omega (arith, x, early)

pub all_one : {X : Type 0} (P : X → Type 0) (x : X) → P x → All P (x ∷ [])
all_one P x is = All-cons P x [] is (All-nil P)

abbrev pub IsIn : Option ℕ → Entry → Type 0
IsIn until e = IsEntry e × IsBy until e

pub one_by : (until : Option ℕ) (at : ℕ) (sent other : List ℕ) → IsBy until (message at sent)
    → IsEntry (message at other) → AreBy until (message at other ∷ [])
one_by until at sent other by is = all_one (IsIn until) (message at other) (is, message_by until at sent other by)

pub two_by : (until : Option ℕ) (at : ℕ) (sent other : List ℕ) (e : Entry)
    → IsBy until (message at sent) → IsEntry (message at other) → IsMark e → IsEntry e
    → AreBy until (message at other ∷ e ∷ [])
two_by until at sent other e by is mark e_is =
    All-cons (IsIn until) (message at other) (e ∷ []) (is, message_by until at sent other by)
    (all_one (IsIn until) e (e_is, mark_by until e mark))

head_by : (until : Option ℕ) (head : RoomHead) → IsEntry (room head)
    → AreBy until (room head ∷ [])
head_by until head is = all_one (IsIn until) (room head) (is, mark_by until (room head) tt)

module _ (step : Step) (setting : HttpSettings) (digest_of : DigitsOf) where
  -- what holds before a look at the room
  pub Leads-after : (early late : Type 0) (stood mid stands : List Terminal → Room → Type 0)
      (ts : List Turn) → (late → early) → Unmoved early stood mid
      → Leads step setting digest_of late mid stands ts
      → Leads step setting digest_of late stood stands ts
  Leads-after early late stood mid stands ts earlier stays leads trust terminals held stood_for =
      leads trust terminals held (stays (earlier trust) terminals held stood_for)

  module _ (trusted : Type 0) (stood stands : List Terminal → Room → Type 0)
      (before after : Option (List ℕ)) (until : Option ℕ) where
    pub passes_none : (Kind : Turn → Type 0) → Keeps before after → Unmoved trusted stood stands
        → Passes step setting digest_of trusted stood stands before after until Kind []
    passes_none Kind same stays = record {
      turns = All-nil IsTurn;
      kinds = All-nil Kind;
      entries = All-nil (IsIn until);
      read = keeps_nothing before after same;
      unanswered = λ never. absurd (cc);
      met = λ never. absurd (cc);
      leads = λ trust terminals held stood_for. (held, refl, stays trust terminals held stood_for);
    }

    pub passes_one : (Kind : Turn → Type 0) (t : Turn) (entries : List Entry) → IsTurn t → Kind t
        → entries_in t ≡ entries → AreBy until entries → Consumes before after (texts_of entries)
        → Leads step setting digest_of trusted stood stands (t ∷ [])
        → (is_unanswered t ≡ true → BeginsWith after [] HasNoStatus)
        → (is_left_out t ≡ true
        → BeginsWith after [] (MeetsHead step setting digest_of trusted stood (t ∷ [])))
        → Passes step setting digest_of trusted stood stands before after until Kind (t ∷ [])
    passes_one Kind t entries is kind same by read leads unanswered met =
        let all : entries ≡ entries_of (t ∷ []) = sym same ∙ sym (append-nil (entries_in t)) in record {
          turns = all_one IsTurn t is;
          kinds = all_one Kind t kind;
          entries = subst (λ (l : List Entry). AreBy until l) all by;
          read = subst (λ (l : List Entry). Consumes before after (texts_of l)) all read;
          unanswered = unanswered;
          met = met;
          leads = leads;
        }

-- a head is next
module _ (step : Step) (setting : HttpSettings) (digest_of : DigitsOf) (trusted : Type 0)
    (stood stands : List Terminal → Room → Type 0) (before after : Option (List ℕ))
    (until : Option ℕ) (Kind : Turn → Type 0)
    (kind : (head : RoomHead) → Kind (compared head)) (failed : Bool) (kept : List ℕ) (old new : Progress)
    (noted : new ≡ record old { is_open = false; is_begun = true }) (next : Next)
    (is : next ≡ StartDigest) where
  pub head_turn : NextIs digest_of trusted stood stands before after failed until old.is_begun kept
      (Ok next)
      → (head : RoomHead) × Passes step setting digest_of trusted stood stands before after until Kind
      (compared head ∷ []) × Progresses old new (compared head ∷ []) × (failed ≡ false)
  head_turn found =
      go (subst (λ (n : Next). NextIs digest_of trusted stood stands before after failed until old.is_begun kept (Ok n))
      is found)
    where
      go : NextIs digest_of trusted stood stands before after failed until old.is_begun kept
          (Ok StartDigest)
          → (head : RoomHead) × Passes step setting digest_of trusted stood stands before after until
          Kind (compared head ∷ []) × Progresses old new (compared head ∷ []) × (failed ≡ false)
      go x = (
        x.0,
        passes_one step setting digest_of trusted stood stands before after until Kind (compared x.0) (room x.0 ∷ []) tt
            (kind x.0) refl (head_by until x.0 x.1) x.2
            (λ trust terminals held stood_for.
            let y = x.4 trust terminals held stood_for in (held, (held, (refl, y.0), refl), y.1)) (λ never. absurd (cc))
            (λ never. absurd (cc)),
        head_progress x.0 old new noted,
        x.3,
      )

-- what stood next stopped it
module _ (waits : Bool) (step : Step) (setting : HttpSettings) (digest_of : DigitsOf) (trusted : Type 0)
    (stood stands : List Terminal → Room → Type 0) (before : Option (List ℕ))
    (until : Option ℕ) where
  pub next_stops : (is_begun : Bool) (fault : ReplayFault) (read_failed write_failed : Bool)
      → Unmoved trusted stood stands
      → BeginsWith before [] (Explains waits (is_begun ≡ false) ⊥
      (IsElsewhere digest_of trusted stood stands) [] fault)
      → IsDueTo read_failed write_failed fault
      → StopsIn step setting digest_of trusted stood stands waits before until is_begun fault
      read_failed write_failed []
  next_stops is_begun fault read_failed write_failed stays begins due = record {
    few = inl refl;
    begins =
        begins_explain before [] waits (is_begun ≡ false) ⊥ (is_begun ≡ false) ⊥
        (IsElsewhere digest_of trusted stood stands) (LeadsElsewhere step setting digest_of trusted stood stands []) []
        fault
        (λ none. none) (λ never. never)
        (λ open_ head x trust terminals held stood_for. let y = x.1 trust terminals held stood_for in (
          held,
          refl,
          y.0,
          subst (λ (o : Option Open). WouldMiss step setting digest_of terminals held o head) (sym x.0) tt,
          y.1,
        )) begins;
    leads = λ trust terminals held stood_for. (held, refl, stays trust terminals held stood_for);
    due = due;
  }

-- a message that is next stopped it
module _ (waits : Bool) (step : Step) (setting : HttpSettings) (digest_of : DigitsOf) (early late : Type 0)
    (earlier : late → early) (stood mid stands : List Terminal → Room → Type 0)
    (a b : Option (List ℕ)) (until : Option ℕ) (at : ℕ) (sent : List ℕ) (stays : Unmoved early stood mid)
    (same : Keeps a b) (by : IsBy until (message at sent)) where
  few_turn : (is_begun : Bool) (last : List Turn) → is_begun ≡ true
      → (last ≡ []) ⊎ ((p : Play) × IsPlay p × AreBy (Some at) (message p.at p.sent ∷ [])
      × (true ≡ true) × (last ≡ tried p ∷ []))
      → (last ≡ []) ⊎ ((p : Play) × IsPlay p × AreBy until (message p.at p.sent ∷ [])
      × (is_begun ≡ true) × (last ≡ tried p ∷ []))
  few_turn is_begun last begun (inl x) = inl x
  few_turn is_begun last begun (inr x) =
      let is = All-head (IsIn (Some at)) (message x.0.at x.0.sent) [] x.2 in
      inr (
        x.0,
        x.1,
        all_one (IsIn until) (message x.0.at x.0.sent) (is.0, earlier_by until at x.0.at sent x.0.sent by is.1),
        begun,
        x.4,
      )

  turn_stops : (is_begun : Bool) (fault : ReplayFault) (read_failed write_failed : Bool)
      (last : List Turn) → is_begun ≡ true
      → StopsIn step setting digest_of late mid stands waits b
      (Some at) true fault read_failed write_failed last
      → StopsIn step setting digest_of late stood stands waits a until is_begun fault read_failed
      write_failed last
  turn_stops is_begun fault read_failed write_failed last begun x = record {
    few = few_turn is_begun last begun x.few;
    begins =
        keeps_begins a b (entries_of last)
        (Explains waits (is_begun ≡ false) ⊥ (LeadsElsewhere step setting digest_of late stood stands last) last fault)
        same
        (begins_explain b (entries_of last) waits (true ≡ false) ⊥ (is_begun ≡ false) ⊥
        (LeadsElsewhere step setting digest_of late mid stands last)
        (LeadsElsewhere step setting digest_of late stood stands last) last fault
        (λ never. absurd (cc)) (λ never. never)
        (λ open_ head y trust terminals held stood_for.
        y trust terminals held (stays (earlier trust) terminals held stood_for)) x.begins);
    leads = Leads-after step setting digest_of early late stood mid stands last earlier stays x.leads;
    due = x.due;
  }

-- what became of a message that is next: whether it is left out, and whether the replay goes on
abbrev leaves : MessageOutcome → Bool
leaves Played = false
leaves LeftOut = true
leaves Last = true

abbrev goes_on : MessageOutcome → Bool
goes_on Played = true
goes_on LeftOut = true
goes_on Last = false

-- where a message is left out, the room stays
left_replay : (step : Step) (setting : HttpSettings) (digest_of : DigitsOf) (terminals : List Terminal)
    (held : Room) (t : Turn) → is_left_out t ≡ true
    → IsReplay step setting digest_of terminals held (t ∷ []) held
left_replay step setting digest_of terminals held (compared head) left = absurd (cc)
left_replay step setting digest_of terminals held (answered p status) left = absurd (cc)
left_replay step setting digest_of terminals held (caught_up p head) left = absurd (cc)
left_replay step setting digest_of terminals held (tried p) left = absurd (cc)
left_replay step setting digest_of terminals held (left_out at sent) left = (held, refl, refl)

-- a message is next, and it stopped the replay, or this became of it
module _ (step : Step) (setting : HttpSettings) (digest_of : DigitsOf) (early late : Type 0)
    (earlier : late → early) (stood mid stands : List Terminal → Room → Type 0)
    (a b : Option (List ℕ)) (until : Option ℕ) (kept : List ℕ) (looked : Bool) (at : ℕ) (layout : EntryLayout)
    (next : Next) (is : next ≡ Message (record { at = at; layout = layout })) (old : Progress)
    (x : NextIs digest_of early stood mid a b looked until old.is_begun kept (Ok next)) where
  front : NextIs digest_of early stood mid a b looked until old.is_begun kept
      (Ok (Message (record { at = at; layout = layout })))
  front = subst (λ (n : Next). NextIs digest_of early stood mid a b looked until old.is_begun kept (Ok n)) is x

  pub stops_message : (waits : Bool) (fault : ReplayFault) (read_failed write_failed : Bool)
      (last : List Turn)
      → StopsIn step setting digest_of late mid stands waits b
      (Some at) true fault read_failed write_failed last
      → StopsIn step setting digest_of late stood stands waits a until old.is_begun fault read_failed
      write_failed last
  stops_message waits fault read_failed write_failed last y =
      turn_stops waits step setting digest_of early late earlier stood mid stands a b until at front.0 front.6 front.3
      front.2 old.is_begun fault read_failed write_failed last front.4 y

  module _ (c : Option (List ℕ)) (failed : Bool) (new : Progress) where
    left_meets : (t : Turn) → is_left_out t ≡ true → (rest : List ℕ)
        → HasItsHead digest_of late mid rest
        → MeetsHead step setting digest_of late stood (t ∷ []) rest
    left_meets t left rest met head more begins trust terminals held stood_for = (
      held,
      left_replay step setting digest_of terminals held t left,
      met head more begins trust terminals held (front.6 (earlier trust) terminals held stood_for),
    )

    one_passes : (sent : List ℕ) (taken : List Entry) (left : Bool)
        (t : TurnOf step setting digest_of late mid stands at sent taken left)
        → AreBy until (message at sent ∷ taken)
        → Consumes b c (texts_of (message at sent ∷ taken))
        → (is_unanswered t.turn ≡ true → BeginsWith c [] HasNoStatus)
        → (is_left_out t.turn ≡ true → BeginsWith c [] (HasItsHead digest_of late mid))
        → Passes step setting digest_of late stood stands a c until IsReplayed (t.turn ∷ [])
    one_passes sent taken left t by took unanswered met =
        passes_one step setting digest_of late stood stands a c until IsReplayed t.turn (message at sent ∷ taken) t.is
        t.replayed t.entries by
        (keeps_consumes a b c (texts_of (message at sent ∷ taken)) front.3 took)
        (Leads-after step setting digest_of early late stood mid stands (t.turn ∷ []) earlier front.6 t.leads)
        unanswered
        (λ left.
        begins_more c [] (HasItsHead digest_of late mid) (MeetsHead step setting digest_of late stood (t.turn ∷ []))
        (left_meets t.turn left) (met left))

    left_passes : (sent : List ℕ) (t : TurnOf step setting digest_of late mid stands at sent [] true)
        → IsEntry (message at sent) → Consumes b c (texts_of (message at sent ∷ []))
        → BeginsWith c [] HasNoStatus
        → BeginsWith c [] (HasItsHead digest_of late mid)
        → Passes step setting digest_of late stood stands a c until IsReplayed (t.turn ∷ [])
    left_passes sent t entry took none met =
        one_passes sent [] true t (one_by until at front.0 sent front.2 entry) took (λ _. none) (λ _. met)

    pub takes_message : (turned : MessageOutcome) (r : MessageOutcome) → r ≡ turned
        → MessageIs step setting digest_of late mid stands b c failed at (Ok r)
        → new ≡ record old { messages = min (old.messages + 1) (2 ^ 64 - 1); is_open = leaves turned }
        → TakesTurn step setting digest_of late stood stands a c until IsReplayed old new failed
        (Ok (goes_on turned))
    takes_message turned r same y noted =
        go turned
        (subst (λ (t : MessageOutcome). MessageIs step setting digest_of late mid stands b c failed at (Ok t)) same y)
        noted
      where
        go : (turned : MessageOutcome) → MessageIs step setting digest_of late mid stands b c failed at
            (Ok turned)
            → new ≡ record old {
              messages = min (old.messages + 1)
                  (2 ^ 64 - 1);
              is_open = leaves turned;
            }
            → TakesTurn step setting digest_of late stood stands a c until IsReplayed old new failed
            (Ok (goes_on turned))
        go Played y noted = (
          y.3.turn ∷ [],
          one_passes y.0 (y.1 ∷ []) false y.3 (two_by until at front.0 y.0 y.1 front.2 y.4 y.2 y.5) y.6
              (λ ends. absurd (replayed_answered y.3.turn y.3.replayed y.3.leaves ends))
              (λ left. absurd (not_both (is_left_out y.3.turn) y.3.leaves left)),
          message_progress y.3.turn false old new y.3.counts y.3.leaves front.4 noted,
          λ _. (y.7, refl),
          λ never. absurd (cc),
        )
        go LeftOut y noted = (
          y.1.turn ∷ [],
          left_passes y.0 y.1 y.2 y.3 y.5 y.6,
          message_progress y.1.turn true old new y.1.counts y.1.leaves front.4 noted,
          λ _. (y.4, refl),
          λ never. absurd (cc),
        )
        go Last (y, end) noted =
            let passes = left_passes y.0 y.1 y.2 y.3 y.5 y.6 in (
              y.1.turn ∷ [],
              passes,
              message_progress y.1.turn true old new y.1.counts y.1.leaves front.4 noted,
              λ never. absurd (cc),
              λ _. consumes_all a c (entries_of (y.1.turn ∷ [])) until passes.read end,
            )

module _ (step : Step) (setting : HttpSettings) (digest_of : DigitsOf) (terminals : List Terminal) where
  pub IsReplay-append : (held mid after : Room) (us ts : List Turn)
      → IsReplay step setting digest_of terminals held us mid
      → IsReplay step setting digest_of terminals mid ts after
      → IsReplay step setting digest_of terminals held (us ++ ts) after
  IsReplay-append held mid after [] ts first second =
      subst (λ (r : Room). IsReplay step setting digest_of terminals r ts after) first second
  IsReplay-append held mid after (u ∷ us) ts first second =
      (first.0, first.1, IsReplay-append first.0 mid after us ts first.2 second)

  -- what is played is a dialogue
  pub dialogue_of : (held : Room) (ts : List Turn) (after : Room)
      → IsReplay step setting digest_of terminals held ts after
      → IsDialogue step setting terminals held (arrivals_of ts) after (bytes_of ts)
  dialogue_of held [] after x = (x, refl)
  dialogue_of held (compared head ∷ ts) after x =
      subst (λ (r : Room). IsDialogue step setting terminals r (arrivals_of ts) after (bytes_of ts)) x.1.0
      (dialogue_of x.0 ts after x.2)
  dialogue_of held (answered p status ∷ ts) after x =
      (x.0, p.response, bytes_of ts, refl, x.1, dialogue_of x.0 ts after x.2)
  dialogue_of held (caught_up p head ∷ ts) after x =
      (x.0, p.response, bytes_of ts, refl, x.1.1, dialogue_of x.0 ts after x.2)
  dialogue_of held (tried p ∷ ts) after x = (x.0, p.response, bytes_of ts, refl, x.1, dialogue_of x.0 ts after x.2)
  dialogue_of held (left_out at sent ∷ ts) after x =
      subst (λ (r : Room). IsDialogue step setting terminals r (arrivals_of ts) after (bytes_of ts)) x.1
      (dialogue_of x.0 ts after x.2)

module _ (step : Step) (setting : HttpSettings) (digest_of : DigitsOf) (early late : Type 0)
    (earlier : late → early) (stood mid stands : List Terminal → Room → Type 0)
    (us ts : List Turn) where
  pub Leads-append : Leads step setting digest_of early stood mid us
      → Leads step setting digest_of late mid stands ts
      → Leads step setting digest_of late stood stands (us ++ ts)
  Leads-append first second trust terminals held stood_for =
      let x = first (earlier trust) terminals held stood_for in
      let y = second trust terminals x.0 x.2 in
      (y.0, IsReplay-append step setting digest_of terminals held x.0 y.0 us ts x.1 y.1, y.2)

  Elsewhere-append : (open_ : Option Open) (head : RoomHead)
      → Leads step setting digest_of early stood mid us
      → LeadsElsewhere step setting digest_of late mid stands ts open_ head
      → LeadsElsewhere step setting digest_of late stood stands (us ++ ts) open_ head
  Elsewhere-append open_ head first second trust terminals held stood_for =
      let x = first (earlier trust) terminals held stood_for in
      let y = second trust terminals x.0 x.2 in
      (y.0, IsReplay-append step setting digest_of terminals held x.0 y.0 us ts x.1 y.1, y.2, y.3, y.4)

  meets_append : (rest : List ℕ) → Leads step setting digest_of early stood mid us
      → MeetsHead step setting digest_of late mid ts rest
      → MeetsHead step setting digest_of late stood (us ++ ts) rest
  meets_append rest first met head more begins trust terminals held stood_for =
      let x = first (earlier trust) terminals held stood_for in
      let y = met head more begins trust terminals x.0 x.2 in
      (y.0, IsReplay-append step setting digest_of terminals held x.0 y.0 us ts x.1 y.1, y.2)

  pub WritesDialogue-append : Leads step setting digest_of early stood mid us
      → Leads step setting digest_of late mid stands ts
      → LeadsDialogue step setting digest_of late stood stands (us ++ ts)
  WritesDialogue-append first second trust terminals held stood_for =
      let x = Leads-append first second trust terminals held stood_for in
      (x.0, x.1, dialogue_of step setting digest_of terminals held (us ++ ts) x.0 x.1, x.2)

  module _ (a b : Option (List ℕ)) (until : Option ℕ) (Kind : Turn → Type 0)
      (first : Passes step setting digest_of early stood mid a b until Kind us) where
    entries_append : entries_of us ++ entries_of ts ≡ entries_of (us ++ ts)
    entries_append = sym (flat_map-append entries_in us ts)

    pub passes_more : (c : Option (List ℕ)) → length ts ≡ 1
        → Passes step setting digest_of late mid stands b c until Kind ts
        → Passes step setting digest_of late stood stands a c until Kind (us ++ ts)
    passes_more c one second = record {
      turns = All-append IsTurn us ts first.turns second.turns;
      kinds = All-append Kind us ts first.kinds second.kinds;
      entries =
          subst (λ (l : List Entry). AreBy until l) entries_append
          (All-append (IsIn until) (entries_of us) (entries_of ts) first.entries second.entries);
      read = subst (λ (l : List Entry). Consumes a c (texts_of l)) entries_append
          (subst (λ (t : List ℕ). Consumes a c t) (sym (flat_map-append text_of (entries_of us) (entries_of ts)))
          (Consumes-trans a b c _ _ first.read second.read));
      unanswered = λ ends. second.unanswered (sym (ends_unanswered-append us ts one) ∙ ends);
      met =
          λ ends.
          begins_more c [] (MeetsHead step setting digest_of late mid ts)
          (MeetsHead step setting digest_of late stood (us ++ ts)) (λ rest. meets_append rest first.leads)
          (second.met (sym (ends_open-append us ts one) ∙ ends));
      leads = Leads-append first.leads second.leads;
    }

    starts_begun : (flag : Bool) (l : List Turn) → StartsBy flag l → (l ≡ []) ⊎ IsBegun l
    starts_begun true l x = inr x
    starts_begun false l x = inl x

    pub are_turns : (follows : List ℕ → Type 0) → All IsTurn ts → AreBy until (entries_of ts)
        → BeginsWith b (entries_of ts) follows → (us ++ ts ≡ []) ⊎ IsBegun (us ++ ts)
        → AreTurns a until (us ++ ts) follows
    are_turns follows turns entries begins begun = record {
      turns = All-append IsTurn us ts first.turns turns;
      entries =
          subst (λ (l : List Entry). AreBy until l) entries_append
          (All-append (IsIn until) (entries_of us) (entries_of ts) first.entries entries);
      begins =
          subst (λ (l : List Entry). BeginsWith a l follows) entries_append
          (consumes_begins a b (entries_of us) (entries_of ts) follows first.read begins);
      begun = begun;
    }

    -- the turns of a replay that has ended
    pub ended : (c : Option (List ℕ)) (new : Progress)
        → Passes step setting digest_of late mid stands b c until Kind ts
        → BeginsWith b (entries_of ts) (EndsAt until) → IsProgress new (us ++ ts)
        → All Kind (us ++ ts) × AreTurns a until (us ++ ts) (EndsAt until)
        × LeadsDialogue step setting digest_of late stood stands (us ++ ts)
    ended c new second begins progress = (
      All-append Kind us ts first.kinds second.kinds,
      are_turns (EndsAt until) second.turns second.entries begins (starts_begun new.is_begun (us ++ ts) progress.begun),
      WritesDialogue-append first.leads second.leads,
    )

    -- the turns of a replay that has stopped
    module _ (waits : Bool) (old : Progress) (progress : IsProgress old us) (fault : ReplayFault)
        (read_failed write_failed : Bool) (s : Stopped)
        (is : s ≡ record { fault = fault; number = min (old.messages + 1) (2 ^ 64 - 1) }) where
      number : min (old.messages + 1) (2 ^ 64 - 1) ≡ min (count_by has_message us + 1) (2 ^ 64 - 1)
      number = omega (arith, progress.messages)

      stops_after : (ts ≡ []) ⊎ ((p : Play) × (ts ≡ tried p ∷ [])) → All IsTurn ts
          → AreBy until (entries_of ts)
          → BeginsWith b (entries_of ts) (Explains waits (us ≡ []) (length us ≡ 2 ^ 64 - 1)
          (LeadsElsewhere step setting digest_of late stood stands (us ++ ts)) ts fault)
          → (us ++ ts ≡ []) ⊎ IsBegun (us ++ ts) → Leads step setting digest_of late mid stands ts
          → IsDueTo read_failed write_failed fault
          → StopsAfter step setting digest_of late stood stands a until waits Kind read_failed
          write_failed s us ts
      stops_after few turns entries begins begun leads due =
          subst (λ (t : Stopped).
          StopsAfter step setting digest_of late stood stands a until waits Kind read_failed write_failed t us ts)
          (sym is) (record {
            kinds = first.kinds;
            few = few;
            turns = are_turns _ turns entries begins begun;
            unanswered = λ ends. subst (λ (l : List Entry). BeginsWith a l HasNoStatus) (append-nil (entries_of us))
                (consumes_begins a b (entries_of us) [] HasNoStatus first.read (first.unanswered ends));
            met =
                λ ends.
                subst (λ (l : List Entry). BeginsWith a l (MeetsHead step setting digest_of late stood us))
                (append-nil (entries_of us))
                (consumes_begins a b (entries_of us) [] (MeetsHead step setting digest_of late stood us) first.read
                (begins_more b [] (MeetsHead step setting digest_of early stood us)
                (MeetsHead step setting digest_of late stood us)
                (λ rest met head more begins trust. met head more begins (earlier trust)) (first.met ends)));
            leads = WritesDialogue-append first.leads leads;
            due = due;
            number = number;
          })

      pub stopped : StopsIn step setting digest_of late mid stands waits b until old.is_begun fault
          read_failed write_failed ts
          → StopsAfter step setting digest_of late stood stands a until waits Kind read_failed
          write_failed s us ts
      stopped x = go x.few
        where
          begins : BeginsWith b (entries_of ts)
              (Explains waits (us ≡ []) (length us ≡ 2 ^ 64 - 1)
              (LeadsElsewhere step setting digest_of late stood stands (us ++ ts)) ts fault)
          begins =
              begins_explain b (entries_of ts) waits (old.is_begun ≡ false) ⊥ (us ≡ []) (length us ≡ 2 ^ 64 - 1)
              (LeadsElsewhere step setting digest_of late mid stands ts)
              (LeadsElsewhere step setting digest_of late stood stands (us ++ ts)) ts fault
              (λ none. unbegun old.is_begun us none progress.begun) (λ never. absurd never)
              (λ open_ head y. Elsewhere-append open_ head first.leads y) x.begins

          go : (ts ≡ []) ⊎ ((p : Play) × IsPlay p × AreBy until (message p.at p.sent ∷ [])
              × (old.is_begun ≡ true) × (ts ≡ tried p ∷ []))
              → StopsAfter step setting digest_of late stood stands a until waits Kind read_failed
              write_failed s us ts
          go (inl none) =
              stops_after (inl none) (subst (λ (l : List Turn). All IsTurn l) (sym none) (All-nil IsTurn))
              (subst (λ (l : List Turn). AreBy until (entries_of l)) (sym none) (All-nil (IsIn until)))
              begins (subst (λ (l : List Turn). (us ++ l ≡ []) ⊎ IsBegun (us ++ l)) (sym none)
              (none_begun old.is_begun us progress.begun)) x.leads x.due
          go (inr y) =
              stops_after (inr (y.0, y.4))
              (subst (λ (l : List Turn). All IsTurn l) (sym y.4) (all_one IsTurn (tried y.0) y.1))
              (subst (λ (l : List Turn). AreBy until (entries_of l)) (sym y.4) y.2)
              begins (inr (begun-append us ts (begun_by old.is_begun us y.3 progress.begun))) x.leads x.due

-- no more turns are taken
module _ (step : Step) (setting : HttpSettings) (digest_of : DigitsOf) (trusted : Type 0)
    (stood stands : List Terminal → Room → Type 0) (a b : Option (List ℕ)) (until : Option ℕ)
    (Kind : Turn → Type 0) (us : List Turn) where
  pub exhausted : (waits : Bool) (old : Progress) (read_failed write_failed : Bool) (s : Stopped)
      → Passes step setting digest_of trusted stood stands a b until Kind us → IsProgress old us
      → s ≡ record { fault = Bad; number = min (old.messages + 1) (2 ^ 64 - 1) }
      → length us ≡ 2 ^ 64 - 1 → read_failed ≡ false → write_failed ≡ false
      → StopsAfter step setting digest_of trusted stood stands a until waits Kind read_failed
      write_failed s us []
  exhausted waits old read_failed write_failed s first progress is full read write =
      stops_after step setting digest_of trusted trusted (λ trust. trust) stood stands stands us [] a b until Kind first
      waits old progress Bad read_failed write_failed s is
      (inl refl) (All-nil IsTurn) (All-nil (IsIn until)) (λ text known. (text, refl, too_many full))
      (none_begun old.is_begun us progress.begun)
      (λ trust terminals held stood_for. (held, refl, stood_for)) (read, write)

-- nothing was done
pub nothing_done : (waits : Bool) (step : Step) (setting : HttpSettings) (digest_of : DigitsOf)
    (trusted : Type 0) (stands : List Terminal → Room → Type 0) (left : Option (List ℕ))
    (until : Option ℕ)
    (Kind : Turn → Type 0) (read_failed write_failed : Bool) (s : Stopped)
    → s ≡ record { fault = Unavailable Memory; number = 1 } → read_failed ≡ false → write_failed ≡ false
    → StopsAfter step setting digest_of trusted stands stands left until waits Kind read_failed
    write_failed s [] []
nothing_done waits step setting digest_of trusted stands left until Kind read_failed write_failed s is read write =
    subst (λ (t : Stopped).
    StopsAfter step setting digest_of trusted stands stands left until waits Kind read_failed write_failed t [] [])
    (sym is) (record {
      kinds = All-nil Kind;
      few = inl refl;
      turns = record {
        turns = All-nil IsTurn;
        entries = All-nil (IsIn until);
        begins = λ text is. (text, refl, tt);
        begun = inl refl;
      };
      unanswered = λ never. absurd (cc);
      met = λ never. absurd (cc);
      leads = λ trust terminals held stood_for. (held, refl, (refl, refl), stood_for);
      due = (read, write, inl refl);
      number = refl;
    })
