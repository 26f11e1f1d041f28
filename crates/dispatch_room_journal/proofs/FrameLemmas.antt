-- Lemmas on answers that are written as their messages are played.
use Rattle.std.proofs.Common.{◌≡◌, ◌∙◌, sym, ap, subst, refl, ℕ, ◌+◌, ◌-◌, ◌^◌, min, List, [], ◌∷◌}
use Rattle.std.proofs.Common.{◌++◌, append-nil, Bool, true, false, Option, Some, None, Ok}
use Rattle.std.specs.List.{flat_map}
use Rattle.std.specs.Io.KnownBytes.{Appends, Consumes}
use Rattle.std.proofs.KnownBytes.{Consumes-kept}
use Rattle.std.proofs.lemmas.Grind.{flat_map-append}
use Rattle.room_types.specs.declared.fleet.Terminal.{Terminal}
use Rattle.room_model.specs.Room.{Room}
use Rattle.room_http_messages.proofs.StreamLemmas.{Appends-more}
use Rattle.room_http.specs.declared.settings.HttpSettings.{HttpSettings}
use Rattle.room_http.specs.Dialogues.{IsFront}
use Rattle.room_model.specs.Rooms.{Step}
use Rattle.dispatch_room_journal.specs.declared.entry_prefixes.EntryLayout.{EntryLayout}
use Rattle.dispatch_room_journal.specs.Entries.{message, answer, IsEntry, texts_of}
use Rattle.dispatch_room_journal.specs.declared.next_entry.Next.{Next}
use Rattle.dispatch_room_journal.specs.declared.next_entry.Next.TheVariants.{Message}
use Rattle.dispatch_room_journal.specs.declared.replay_faults.ReplayFault.{ReplayFault}
use Rattle.dispatch_room_journal.specs.declared.replay_progress.Progress.{Progress}
use Rattle.dispatch_room_journal.specs.JournalRecords.{status_in}
use Rattle.dispatch_room_journal.specs.ReplayedTurns.{Play, Turn, answered, tried, plays_in}
use Rattle.dispatch_room_journal.specs.ReplayedTurns.{plays_of, has_message, is_left_out, IsPlayed}
use Rattle.dispatch_room_journal.specs.ReplayedTurns.{BeginsWith}
use Rattle.dispatch_room_journal.specs.ReplayFaults.{Explains, IsDueTo}
use Rattle.dispatch_room_journal.specs.Replays.{DigitsOf, Leads, LeadsElsewhere}
use Rattle.dispatch_room_journal.specs.ReplaySteps.{NextIs, Passes, StopsIn}
use Rattle.dispatch_room_journal.specs.AnswerFrames.{frame_of, frames_of, FollowIs, EachIs}
use Rattle.dispatch_room_journal.specs.AnswerFrames.{AnswersTurn}
use Rattle.dispatch_room_journal.proofs.FaultLemmas.{not_both, begins_explain}
use Rattle.dispatch_room_journal.proofs.StepLemmas.{WasPlayed, Shows, played_stops}
use Rattle.dispatch_room_journal.proofs.NextEntryLemmas.{taken_two}
use Rattle.dispatch_room_journal.proofs.TurnLemmas.{one_by, two_by, consumes_begins, keeps_consumes}
use Rattle.dispatch_room_journal.proofs.TurnLemmas.{message_progress, Leads-after, passes_one}

-- frames, one after another
pub frames_append : (us ts : List Turn) → frames_of us ++ frames_of ts ≡ frames_of (us ++ ts)
frames_append us ts =
    sym (ap (λ (ps : List Play). flat_map (λ p. frame_of p.response) ps) (flat_map-append plays_in us ts)
    ∙ flat_map-append (λ p. frame_of p.response) (plays_of us) (plays_of ts))

pub frames_more : (a b c : Option (List ℕ)) (us ts : List Turn) → Appends a b (frames_of us)
    → Appends b c (frames_of ts) → Appends a c (frames_of (us ++ ts))
frames_more a b c us ts first second =
    subst (λ (t : List ℕ). Appends a c t) (frames_append us ts)
    (Appends-more a b c (frames_of us) (frames_of ts) first second)

module _ (step : Step) (setting : HttpSettings) (digest_of : DigitsOf) (trusted : Type 0)
    (stood stands : List Terminal → Room → Type 0) (before : Option (List ℕ))
    (held holds : Option (List ℕ)) (at : ℕ) (sent response slice : List ℕ)
    (x : WasPlayed step setting trusted stood stands at sent response) (same : slice ≡ response)
    (is : IsEntry (message at sent)) where
  leads_tried : Leads step setting digest_of trusted stood stands (tried x.0 ∷ [])
  leads_tried trust terminals room stood_for =
      let y = x.5 trust terminals room stood_for in (y.0, (y.0, y.1, refl), y.2)

  leads_answered : (status : ℕ) → Leads step setting digest_of trusted stood stands
      (answered x.0 status ∷ [])
  leads_answered status trust terminals room stood_for =
      let y = x.5 trust terminals room stood_for in (y.0, (y.0, y.1, refl), y.2)

  response_same : x.0.response ≡ slice
  response_same = x.3 ∙ sym same

  -- the answer was not written wholly, or what follows it was no entry, or another status
  pub each_stops : (fault : ReplayFault) (read_failed write_failed : Bool)
      → BeginsWith before (message at sent ∷ [])
      (Shows false step setting digest_of trusted stood stands fault (tried x.0 ∷ []))
      → IsDueTo read_failed write_failed fault
      → (front rest : List ℕ) → frame_of slice ≡ front ++ rest → Appends held holds front
      → (last : List Turn) × StopsIn step setting digest_of trusted stood stands false before
      (Some at) true fault read_failed write_failed last
      × (front : List ℕ) × IsFront front (frames_of last) × Appends held holds front
  each_stops fault read_failed write_failed begins due front rest split wrote = (
    tried x.0 ∷ [],
    played_stops false step setting digest_of trusted stood stands before at sent is read_failed write_failed x.0 fault
        x.1 x.2 x.4 leads_tried begins due,
    front,
    (rest, append-nil (frame_of x.0.response) ∙ ap frame_of response_same ∙ split),
    wrote,
  )

  module _ (mid after : Option (List ℕ)) (failed : Bool)
      (took_message : Consumes before mid (texts_of (message at sent ∷ [])))
      (wrote : Appends held holds (frame_of slice)) where
    wrote_one : Appends held holds (frame_of x.0.response ++ [])
    wrote_one =
        subst (λ (t : List ℕ). Appends held holds t)
        (sym (append-nil (frame_of x.0.response) ∙ ap frame_of response_same))
        wrote

    -- the answer was written, and a status that follows it is the answer's
    pub each_done : (took : Bool) → FollowIs mid after failed slice (Ok took)
        → (t : Turn) × Passes step setting digest_of trusted stood stands before after None IsPlayed
        (t ∷ []) × (has_message t ≡ true) × (is_left_out t ≡ false) × (failed ≡ false)
        × Appends held holds (frames_of (t ∷ []))
    each_done true f = (
      answered x.0 f.0,
      passes_one step setting digest_of trusted stood stands before after None IsPlayed (answered x.0 f.0)
          (message at sent ∷ answer f.0 ∷ []) (x.4, ap status_in response_same ∙ f.1) tt
          (λ i. message (x.1 i) (x.2 i) ∷ answer f.0 ∷ []) (two_by None at sent sent (answer f.0) tt is tt f.2)
          (taken_two before mid after (message at sent) (answer f.0) took_message f.3)
          (leads_answered f.0) (λ never. absurd (cc)) (λ never. absurd (cc)),
      refl,
      refl,
      f.4,
      wrote_one,
    )
    each_done false f = (
      tried x.0,
      passes_one step setting digest_of trusted stood stands before after None IsPlayed (tried x.0)
          (message at sent ∷ []) x.4 tt
          (λ i. message (x.1 i) (x.2 i) ∷ []) (one_by None at sent sent tt is)
          (Consumes-kept before mid after (texts_of (message at sent ∷ [])) took_message f.0)
          leads_tried (λ _. f.2) (λ never. absurd (cc)),
      refl,
      refl,
      f.1,
      wrote_one,
    )

-- what followed the answer is no entry, or another status
pub each_follows : (step : Step) (setting : HttpSettings) (digest_of : DigitsOf) (trusted : Type 0)
    (stood stands : List Terminal → Room → Type 0) (before mid : Option (List ℕ)) (at : ℕ)
    (sent slice : List ℕ)
    (p : Play) (fault : ReplayFault) → p.response ≡ slice → Consumes before mid (texts_of (message at sent ∷ []))
    → ((p : Play) → p.response ≡ slice → BeginsWith mid []
    (Explains false ⊥ ⊥ (λ open_ head. ⊥) (tried p ∷ []) fault))
    → BeginsWith before (message at sent ∷ [])
    (Shows false step setting digest_of trusted stood stands fault (tried p ∷ []))
each_follows step setting digest_of trusted stood stands before mid at sent slice p fault same took follows =
    consumes_begins before mid (message at sent ∷ []) []
    (Shows false step setting digest_of trusted stood stands fault (tried p ∷ [])) took
    (begins_explain mid [] false ⊥ ⊥ (true ≡ false) ⊥ (λ open_ head. ⊥)
    (LeadsElsewhere step setting digest_of trusted stood stands (tried p ∷ [])) (tried p ∷ []) fault
    (λ never. absurd never) (λ never. never) (λ open_ head never. absurd never) (follows p same))

-- a message is next: it was played, and its answer was written
module _ (step : Step) (setting : HttpSettings) (digest_of : DigitsOf) (early late : Type 0)
    (earlier : late → early) (stood middle stands : List Terminal → Room → Type 0)
    (before mid after held holds : Option (List ℕ)) (kept : List ℕ) (looked read_failed write_failed : Bool) (at : ℕ)
    (layout : EntryLayout) (next : Next) (is : next ≡ Message (record { at = at; layout = layout }))
    (old new : Progress)
    (noted : new ≡ record old { messages = min (old.messages + 1) (2 ^ 64 - 1); is_open = false }) where
  pub each_turn : NextIs digest_of early stood middle before mid looked None old.is_begun kept
      (Ok next)
      → EachIs step setting digest_of late middle stands mid after held holds at read_failed
      write_failed (Ok tt)
      → AnswersTurn step setting digest_of late stood stands before after held holds old new
      read_failed write_failed (Ok true)
  each_turn found x =
      go (subst (λ (n : Next). NextIs digest_of early stood middle before mid looked None old.is_begun kept (Ok n)) is
      found)
    where
      go : NextIs digest_of early stood middle before mid looked None old.is_begun kept
          (Ok (Message (record { at = at; layout = layout })))
          → AnswersTurn step setting digest_of late stood stands before after held holds old new
          read_failed write_failed (Ok true)
      go y = (
        x.0 ∷ [],
        record {
          turns = x.1.turns;
          kinds = x.1.kinds;
          entries = x.1.entries;
          read = keeps_consumes before mid after _ y.3 x.1.read;
          unanswered = x.1.unanswered;
          met = λ left. absurd (not_both (is_left_out x.0) x.3 left);
          leads = Leads-after step setting digest_of early late stood middle stands (x.0 ∷ []) earlier y.6 x.1.leads;
        },
        message_progress x.0 false old new x.2 x.3 y.4 noted,
        λ _. (x.4, x.5, refl),
        λ never. absurd (cc),
        x.6,
      )
