-- Lemmas on the steps of a replay.
use Rattle.std.proofs.Common.{◌≡◌, ◌∙◌, sym, ap, subst, refl, arith, ℕ, List, [], ◌∷◌, drop}
use Rattle.std.proofs.Common.{decimal, Bool, true, false, ◌↔◌, IsTrue, Option, Some, Result, Ok}
use Rattle.std.proofs.Common.{Err, inl, inr}
use Rattle.std.specs.Io.KnownBytes.{Consumes, prepend_known}
use Rattle.std.proofs.KnownBytes.{Consumes-kept, Keeps-refl}
use Rattle.room_types.specs.declared.fleet.Terminal.{Terminal}
use Rattle.room_model.specs.Room.{Room}
use Rattle.room_http.specs.declared.settings.HttpSettings.{HttpSettings}
use Rattle.room_model.specs.Digests.{IsMiss}
use Rattle.room_model.specs.Rooms.{Step}
use Rattle.room_model.specs.declared.digests.DigestMismatch.{DigestMismatch}
use Rattle.room_model.specs.declared.digests.DigestMismatch.TheVariants as miss
use Rattle.room_http.specs.Dialogues.{IsReplyTo}
use Rattle.room_http.specs.KeptMessages.{Unmoved}
use Rattle.room_model.specs.declared.digests.StartDigest.{StartDigest}
use Rattle.dispatch_room_journal.specs.declared.entry_lines.EntryLine.{EntryLine}
use Rattle.dispatch_room_journal.specs.declared.entry_prefixes.EntryLayout.{EntryLayout}
use Rattle.dispatch_room_journal.specs.declared.entry_reader.EntryFault.{EntryFault}
use Rattle.dispatch_room_journal.specs.Entries.{Entry, room, message, answer, IsEntry, line_of}
use Rattle.dispatch_room_journal.specs.Entries.{texts_of}
use Rattle.dispatch_room_journal.specs.EntryPrefixes.{IsLayout}
use Rattle.dispatch_room_journal.specs.EntryReadings.{FirstIs, ReadsEntry}
use Rattle.dispatch_room_journal.specs.declared.replay_faults.ReplayFault.{ReplayFault}
use Rattle.dispatch_room_journal.specs.declared.replay_faults.ReplayFault.TheVariants.{Bad, Differs}
use Rattle.dispatch_room_journal.specs.declared.replay_faults.ReplayFault.TheVariants.{Unavailable}
use Rattle.dispatch_room_journal.specs.declared.journal_messages.MessageOutcome.TheVariants.{Played}
use Rattle.dispatch_room_journal.specs.declared.journal_messages.MessageOutcome.TheVariants.{LeftOut}
use Rattle.dispatch_room_journal.specs.JournalRecords.{status_in}
use Rattle.dispatch_room_journal.specs.ReplayedTurns.{Play, Turn, answered, caught_up, tried}
use Rattle.dispatch_room_journal.specs.ReplayedTurns.{left_out, timed, IsPlay, AreBy, BeginsWith}
use Rattle.dispatch_room_journal.specs.ReplayFaults.{read_fault, miss_fault, IsPlayedFor}
use Rattle.dispatch_room_journal.specs.ReplayFaults.{broken_after, Explains, IsDueTo, Refuses}
use Rattle.dispatch_room_journal.specs.Replays.{DigitsOf, Leads, LeadsElsewhere, IsHeadOf}
use Rattle.dispatch_room_journal.specs.ReplaySteps.{IsAt, TurnOf, Deviates, IsAstray}
use Rattle.dispatch_room_journal.specs.ReplaySteps.{IsPlayedForLine, RefusesAt, StopsAt, StopsIn}
use Rattle.dispatch_room_journal.specs.ReplaySteps.{ComesTo, Misses, PlaysTowards, Settles}
use Rattle.dispatch_room_journal.specs.ReplaySteps.{MessageIs}
use Rattle.dispatch_room_journal.proofs.FaultLemmas.{not_both, known_after, begins_one}
use Rattle.dispatch_room_journal.proofs.FaultLemmas.{read_explains, refuses_explains, refuses_due}
use Rattle.dispatch_room_journal.proofs.NextEntryLemmas.{layout_of_mark, taken, taken_two}
use Rattle.dispatch_room_journal.proofs.NextEntryLemmas.{no_status_front, head_front}
use Rattle.dispatch_room_journal.proofs.TurnLemmas.{one_by}

-- the message was played, with this answer
abbrev pub WasPlayed : Step → HttpSettings → Type 0 → (List Terminal → Room → Type 0)
    → (List Terminal → Room → Type 0) → ℕ → List ℕ → List ℕ → Type 0
WasPlayed step setting trusted stood stands at sent response =
    (p : Play) × (p.at ≡ at) × (p.sent ≡ sent) × (p.response ≡ response) × IsPlay p
    × (trusted → (terminals : List Terminal) (room : Room) → stood terminals room
    → (after : Room) × IsReplyTo step setting terminals room (timed p) after p.response
    × stands terminals after)

-- the digest of the room is that of this head, or it is not
abbrev pub ShowsDigest : DigitsOf → Type 0 → (List Terminal → Room → Type 0) → StartDigest → Bool → Type 0
ShowsDigest digest_of trusted stood head is =
    trusted → (terminals : List Terminal) (room : Room) → stood terminals room
    → (IsTrue is ↔ (IsHeadOf digest_of head terminals room))

module _ (step : Step) (setting : HttpSettings) (digest_of : DigitsOf) (trusted : Type 0)
    (stood stands : List Terminal → Room → Type 0) (at : ℕ) (sent : List ℕ) where
  pub answered_turn : (response : List ℕ) (status : ℕ)
      → WasPlayed step setting trusted stood stands at sent response → status_in response ≡ decimal status
      → TurnOf step setting digest_of trusted stood stands at sent (answer status ∷ []) false
  answered_turn response status x same = record {
    turn = answered x.0 status;
    is = (x.4, ap status_in x.3 ∙ same);
    replayed = tt;
    entries = λ i. message (x.1 i) (x.2 i) ∷ answer status ∷ [];
    counts = refl;
    leaves = refl;
    leads =
        λ trust terminals room stood_for. let y = x.5 trust terminals room stood_for in (y.0, (y.0, y.1, refl), y.2);
  }

  leads_tried : (response : List ℕ) (x : WasPlayed step setting trusted stood stands at sent response)
      → Leads step setting digest_of trusted stood stands (tried x.0 ∷ [])
  leads_tried response x trust terminals held stood_for =
      let y = x.5 trust terminals held stood_for in (y.0, (y.0, y.1, refl), y.2)

  -- the status is another
  pub differs_stops : (response : List ℕ) (status : ℕ)
      → WasPlayed step setting trusted stood stands at sent response → ¬ (status_in response ≡ decimal status)
      → StopsAt step setting digest_of trusted stood stands at sent (line_of (answer status)) Differs
  differs_stops response status x other =
      inr
      (x.0, x.1, x.2, x.4, leads_tried response x, (refl, status, refl, λ same. other (ap status_in (sym x.3) ∙ same)))

  -- the room did not come to the digest of a head
  pub missed : (head : StartDigest) (m : DigestMismatch) (fault : ReplayFault)
      → fault ≡ miss_fault m → IsMiss m → Unmoved trusted stood stands
      → (m ≡ miss.OtherDigest → Misses step setting digest_of trusted stood stands at sent head)
      → PlaysTowards step setting digest_of trusted stood stands {A = Unit {0}} at sent head (Err fault)
  missed head miss.OtherDigest fault is why stays misses = (stays, inr (is, misses refl))
  missed head (miss.Unavailable r) fault is (inl never) stays misses = absurd (cc)
  missed head (miss.Unavailable r) fault is (inr cause) stays misses =
      let same : r ≡ cause.0 = cc in (stays, inl (inr (cause.0, is ∙ ap Unavailable same, cause.2)))

  -- a message is not played that is to be played for a line
  pub refuses_at : (line : EntryLine) (fault : ReplayFault)
      → IsPlayedForLine step setting digest_of trusted stood stands line → Refuses sent fault
      → RefusesAt step setting digest_of trusted stood stands sent line fault
  refuses_at line fault played (inl bad) = inr (bad.0, bad.1, played)
  refuses_at line fault played (inr cause) = inl cause

  -- a line is that of its entry
  pub settles_line : (line other : EntryLine) (result : Result Bool ReplayFault) → line ≡ other
      → Settles step setting digest_of trusted stood stands at sent other result
      → Settles step setting digest_of trusted stood stands at sent line result
  settles_line line other result is x =
      subst (λ (l : EntryLine). Settles step setting digest_of trusted stood stands at sent l result) (sym is) x

  pub left_turn : Unmoved trusted stood stands
      → TurnOf step setting digest_of trusted stood stands at sent [] true
  left_turn stays = record {
    turn = left_out at sent;
    is = tt;
    replayed = tt;
    entries = refl;
    counts = refl;
    leaves = refl;
    leads = λ trust terminals room stood_for. (room, (room, refl, refl), stays trust terminals room stood_for);
  }

-- what holds at a time, and after a look at the digest
module _ (step : Step) (setting : HttpSettings) (digest_of : DigitsOf) (early late : Type 0)
    (earlier : late → early) (stood mid stands : List Terminal → Room → Type 0) (at : ℕ)
    (sent : List ℕ) where
  pub caught_turn : (head : StartDigest) (is : Bool) → Unmoved early stood mid
      → ShowsDigest digest_of early stood head is → is ≡ false
      → ComesTo step setting digest_of late mid stands at sent head
      → TurnOf step setting digest_of late stood stands at sent (room head ∷ []) false
  caught_turn head is stays states said x = record {
    turn = caught_up (x.0) head;
    is = x.3;
    replayed = tt;
    entries = λ i. message (x.1 i) (x.2 i) ∷ room head ∷ [];
    counts = refl;
    leaves = refl;
    leads = λ trust terminals held stood_for.
        let y = x.4 trust terminals held (stays (earlier trust) terminals held stood_for) in
        let differs : ¬ (IsHeadOf digest_of head terminals held) = λ same.
        not_both is said ((states (earlier trust) terminals held stood_for).1 same) in
        (y.0, (y.0, (differs, y.1, y.2), refl), y.3);
  }

  -- the message was not done, and what the room has then is as it was
  pub stops_open : (head : StartDigest) (is : Bool) (fault : ReplayFault)
      → Unmoved early stood mid → ShowsDigest digest_of early stood head is → is ≡ false
      → PlaysTowards step setting digest_of late mid stands {A = Unit {0}} at sent head (Err fault)
      → StopsAt step setting digest_of late stood stands at sent (line_of (room head)) fault
  stops_open head is fault stays states said (still, inl refuses) =
      inl (
        λ trust terminals held stood_for. still trust terminals held (stays (earlier trust) terminals held stood_for),
        inl (refuses_at step setting digest_of late stood stands at sent (line_of (room head)) fault (inr (
          head,
          refl,
          λ trust terminals held stood_for.
              let now = stays (earlier trust) terminals held stood_for in
              let differs : ¬ (IsHeadOf digest_of head terminals held) = λ same.
              not_both is said ((states (earlier trust) terminals held stood_for).1 same) in
              (held, refl, differs, tt, still trust terminals held now),
        )) refuses),
      )
  stops_open head is fault stays states said (still, inr astray) =
      inl (
        λ trust terminals held stood_for. still trust terminals held (stays (earlier trust) terminals held stood_for),
        inr (
          astray.0,
          head,
          refl,
          λ trust terminals held stood_for.
              let now = stays (earlier trust) terminals held stood_for in
              let differs : ¬ (IsHeadOf digest_of head terminals held) = λ same.
              not_both is said ((states (earlier trust) terminals held stood_for).1 same) in
              (held, refl, differs, astray.1 trust terminals held now differs, still trust terminals held now),
        ),
      )

-- what follows a message explains why it stopped the replay
abbrev pub Shows : Bool → Step → HttpSettings → DigitsOf → Type 0 → (List Terminal → Room → Type 0)
    → (List Terminal → Room → Type 0) → ReplayFault → List Turn → List ℕ → Type 0
Shows waits step setting digest_of trusted stood stands fault last =
    Explains waits (true ≡ false) ⊥ (LeadsElsewhere step setting digest_of trusted stood stands last) last fault

-- why a message stopped the replay
module _ (waits : Bool) (step : Step) (setting : HttpSettings) (digest_of : DigitsOf) (trusted : Type 0)
    (stood stands : List Terminal → Room → Type 0) (before : Option (List ℕ)) (at : ℕ)
    (sent : List ℕ)
    (is : IsEntry (message at sent)) (read_failed write_failed : Bool) where
  abbrev Stops : ReplayFault → List Turn → Type 0
  Stops fault last =
      StopsIn step setting digest_of trusted stood stands waits before (Some at) true fault read_failed write_failed
      last

  unplayed_stops : (fault : ReplayFault) → Unmoved trusted stood stands
      → BeginsWith before [] (Shows waits step setting digest_of trusted stood stands fault [])
      → IsDueTo read_failed write_failed fault → Stops fault []
  unplayed_stops fault stays begins due = record {
    few = inl refl;
    begins = begins;
    leads = λ trust terminals held stood_for. (held, refl, stays trust terminals held stood_for);
    due = due;
  }

  pub played_stops : (p : Play) (fault : ReplayFault) → p.at ≡ at → p.sent ≡ sent → IsPlay p
      → Leads step setting digest_of trusted stood stands (tried p ∷ [])
      → BeginsWith before (message at sent ∷ [])
      (Shows waits step setting digest_of trusted stood stands fault (tried p ∷ []))
      → IsDueTo read_failed write_failed fault → Stops fault (tried p ∷ [])
  played_stops p fault same_at same_sent played leads begins due =
      let all : message at sent ∷ [] ≡ message p.at p.sent ∷ [] = λ i. message (sym same_at i) (sym same_sent i) ∷ [] in
      record {
        few =
            inr (
              p,
              played,
              subst (λ (l : List Entry). AreBy (Some at) l) all (one_by (Some at) at sent sent (omega arith) is),
              refl,
              refl,
            );
        begins =
            subst (λ (l : List Entry).
            BeginsWith before l (Shows waits step setting digest_of trusted stood stands fault (tried p ∷ []))) all
            begins;
        leads = leads;
        due = due;
      }

  module _ (mid : Option (List ℕ)) (took : Consumes before mid
      (texts_of (message at sent ∷ []))) where
    -- it was not played, since its bytes are no message, or memory or storage is unavailable
    pub refused_stops : (fault : ReplayFault) → read_failed ≡ false → write_failed ≡ false
        → Unmoved trusted stood stands → Refuses sent fault
        → ((rest : List ℕ) → mid ≡ Some rest → waits ≡ true → fault ≡ Bad
        → IsPlayedFor (LeadsElsewhere step setting digest_of trusted stood stands []) rest)
        → Stops fault []
    refused_stops fault read write stays refuses played =
        unplayed_stops fault stays
        (λ text known.
        let x = known_after before mid (texts_of (message at sent ∷ [])) text took known in
        let begins = begins_one (message at sent) text x.0 is x.2 in (
          text,
          refl,
          refuses_explains waits (true ≡ false) ⊥ (LeadsElsewhere step setting digest_of trusted stood stands []) at
              sent fault text x.0 begins refuses (played x.0 x.1),
        ))
        (refuses_due read_failed write_failed sent fault read write refuses)

    -- it was not played, since what follows it was not read
    pub unread_stops : (fault : EntryFault) → waits ≡ true → Unmoved trusted stood stands
        → ((text : List ℕ) → mid ≡ Some text → FirstIs text (Err fault))
        → IsDueTo read_failed write_failed (read_fault fault) → Stops (read_fault fault) []
    unread_stops fault wait stays first due =
        unplayed_stops (read_fault fault) stays
        (λ text known.
        let x = known_after before mid (texts_of (message at sent ∷ [])) text took known in (
          text,
          refl,
          read_explains waits (true ≡ false) ⊥ (LeadsElsewhere step setting digest_of trusted stood stands []) [] fault
              text x.0 (first x.0 x.1)
              (λ b. broken_after at sent x.0 wait refl (begins_one (message at sent) text x.0 is x.2) b),
        ))
        due

    -- it was not done, since the head that follows it is of another room than it would lead to
    astray_stops : (layout : EntryLayout) (fault : ReplayFault) → waits ≡ true
        → ((text : List ℕ) → mid ≡ Some text → FirstIs text (Ok (Some layout)))
        → read_failed ≡ false → write_failed ≡ false → Unmoved trusted stood stands
        → IsAstray step setting digest_of trusted stood stands at sent layout.line fault
        → Stops fault []
    astray_stops layout fault wait first read write stays x =
        unplayed_stops fault stays
        (λ text known.
        let y = known_after before mid (texts_of (message at sent ∷ [])) text took known in
        let found = first y.0 y.1 in (
          text,
          refl,
          subst (λ (f : ReplayFault). Shows waits step setting digest_of trusted stood stands f [] text) (sym x.0) (
            refl,
            Some (at, sent),
            x.1,
            (
              wait,
              y.0,
              drop layout.end y.0,
              begins_one (message at sent) text y.0 is y.2,
              (layout_of_mark y.0 layout found.0 (room x.1) found.1 tt x.2).begins,
            ),
            x.3,
          ),
        ))
        (subst (λ (f : ReplayFault). IsDueTo read_failed write_failed f) (sym x.0) (read, write))

    -- it was played, and is not as the line after it says
    deviates_explains : (p : Play) (layout : EntryLayout) (e : Entry) (fault : ReplayFault)
        (text : List ℕ) → IsLayout text layout e
        → Deviates step setting digest_of trusted stood stands p layout.line fault
        → Shows waits step setting digest_of trusted stood stands fault (tried p ∷ []) text
    deviates_explains p layout e fault text l x =
        subst (λ (f : ReplayFault). Shows waits step setting digest_of trusted stood stands f (tried p ∷ []) text)
        (sym x.0)
        (p, x.1, drop layout.end text, refl, (layout_of_mark text layout e (answer x.1) l tt x.2).begins, x.3)

    -- what stands after it is what it is played for
    played_for : (layout : EntryLayout)
        → ((text : List ℕ) → mid ≡ Some text → FirstIs text (Ok (Some layout)))
        → IsPlayedForLine step setting digest_of trusted stood stands layout.line
        → (rest : List ℕ) → mid ≡ Some rest
        → IsPlayedFor (LeadsElsewhere step setting digest_of trusted stood stands []) rest
    played_for layout first (inl status) rest known =
        let found = first rest known in
        inl (
          status.0,
          drop layout.end rest,
          (layout_of_mark rest layout found.0 (answer status.0) found.1 tt status.1).begins,
        )
    played_for layout first (inr head) rest known =
        let found = first rest known in
        inr (
          head.0,
          drop layout.end rest,
          (layout_of_mark rest layout found.0 (room head.0) found.1 tt head.1).begins,
          head.2,
        )

    refused_at : (layout : EntryLayout) (fault : ReplayFault)
        → ((text : List ℕ) → mid ≡ Some text → FirstIs text (Ok (Some layout)))
        → read_failed ≡ false → write_failed ≡ false → Unmoved trusted stood stands
        → RefusesAt step setting digest_of trusted stood stands sent layout.line fault
        → Stops fault []
    refused_at layout fault first read write stays (inl cause) =
        refused_stops fault read write stays (inr cause) (λ rest known wait bad. absurd (cc (cause.1, bad)))
    refused_at layout fault first read write stays (inr x) =
        refused_stops fault read write stays (inl (x.0, x.1))
        (λ rest known wait bad. played_for layout first x.2 rest known)

    settled_stops : (layout : EntryLayout) (fault : ReplayFault) → waits ≡ true
        → ((text : List ℕ) → mid ≡ Some text → FirstIs text (Ok (Some layout)))
        → read_failed ≡ false → write_failed ≡ false
        → StopsAt step setting digest_of trusted stood stands at sent layout.line fault
        → (last : List Turn) × Stops fault last
    settled_stops layout fault wait first read write (inl (stays, inl x)) =
        ([], refused_at layout fault first read write stays x)
    settled_stops layout fault wait first read write (inl (stays, inr x)) =
        ([], astray_stops layout fault wait first read write stays x)
    settled_stops layout fault wait first read write (inr x) = (
      tried x.0 ∷ [],
      played_stops x.0 fault x.1 x.2 x.3 x.4
          (λ text known.
          let y = known_after before mid (texts_of (message at sent ∷ [])) text took known in
          let found = first y.0 y.1 in
          (y.0, y.2, deviates_explains x.0 layout found.0 fault y.0 found.1 x.5))
          (subst (λ (f : ReplayFault). IsDueTo read_failed write_failed f) (sym x.5.0) (read, write)),
    )

-- a message was copied
pub copied : (kept : List ℕ) (layout : EntryLayout) (at : ℕ) (sent copy : List ℕ)
    → IsLayout kept layout (message at sent) → copy ≡ sent → IsLayout kept layout (message at copy)
copied kept layout at sent copy x same = subst (λ (t : List ℕ). IsLayout kept layout (message at t)) (sym same) x

-- a message was copied and taken, and then the next entry was read
module _ {R : Type 0} (left : R → Option (List ℕ)) (has_failed has_ended : R → Bool) (old new : R)
    (step : Step) (setting : HttpSettings) (digest_of : DigitsOf) (trusted : Type 0)
    (stood stands : List Terminal → Room → Type 0) (kept mid ahead : List ℕ) (at : ℕ) (layout next : EntryLayout)
    (sent copy : List ℕ) (is : IsLayout kept layout (message at sent)) (same : copy ≡ sent)
    (gone : mid ≡ drop layout.end kept) (found : Option EntryLayout) (some : found ≡ Some next)
    (came : ReadsEntry left has_failed has_ended old new mid ahead (Ok found)) where
  front : IsLayout kept layout (message at copy)
  front = copied kept layout at sent copy is same

  took : Consumes (prepend_known kept (left old)) (prepend_known mid (left old))
      (texts_of (message at copy ∷ []))
  took =
      taken (prepend_known kept (left old)) (left old) kept mid layout (message at copy) front
      (Keeps-refl (prepend_known kept (left old))) gone

  read : ReadsEntry left has_failed has_ended old new mid ahead (Ok (Some next))
  read = subst (λ (o : Option EntryLayout). ReadsEntry left has_failed has_ended old new mid ahead (Ok o)) some came

  took_one : Consumes (prepend_known kept (left old)) (prepend_known ahead (left new))
      (texts_of (message at copy ∷ []))
  took_one =
      Consumes-kept (prepend_known kept (left old)) (prepend_known mid (left old)) (prepend_known ahead (left new))
      (texts_of (message at copy ∷ [])) took read.same

  abbrev Settled : Bool → Type 0
  Settled takes = Settles step setting digest_of trusted stood stands at copy next.line (Ok takes)

  pub settled_played : (rest : List ℕ) (takes : Bool) → takes ≡ true → Settled takes
      → rest ≡ drop next.end ahead
      → MessageIs step setting digest_of trusted stood stands (prepend_known kept (left old))
      (prepend_known rest (left new)) (has_failed new) at (Ok Played)
  settled_played rest takes true_is x out =
      let y = subst Settled true_is x in
      let mark = layout_of_mark ahead next read.says.0.0 y.0 read.says.0.1 y.1 y.2 in
      let second = taken (prepend_known ahead (left new)) (left new) ahead rest next y.0 mark
      (Keeps-refl (prepend_known ahead (left new))) out in (
        copy,
        y.0,
        y.1,
        y.3,
        front.begins.0,
        mark.begins.0,
        taken_two _ _ _ (message at copy) y.0 took_one second,
        read.says.1,
      )

  pub settled_left : (takes : Bool) → takes ≡ false → Settled takes
      → MessageIs step setting digest_of trusted stood stands (prepend_known kept (left old))
      (prepend_known ahead (left new)) (has_failed new) at (Ok LeftOut)
  settled_left takes false_is x =
      let y = subst Settled false_is x in (
        copy,
        y.0,
        front.begins.0,
        took_one,
        read.says.1,
        no_status_front (left new) ahead next read.says.0.0 read.says.0.1 y.1,
        head_front (IsAt digest_of trusted stood) (left new) ahead next read.says.0.0 read.says.0.1 y.2,
      )

  pub settled_fault : (fault : ReplayFault)
      → StopsAt step setting digest_of trusted stood stands at copy next.line fault
      → MessageIs step setting digest_of trusted stood stands (prepend_known kept (left old))
      (prepend_known ahead (left new)) (has_failed new) at (Err fault)
  settled_fault fault x =
      settled_stops true step setting digest_of trusted stood stands (prepend_known kept (left old)) at copy
      front.begins.0 (has_failed new) false (prepend_known mid (left old)) took next
      fault refl read.first
      read.says.1 refl x
