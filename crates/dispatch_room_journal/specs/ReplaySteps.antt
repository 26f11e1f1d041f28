-- What each step of a replay does.
use Rattle.std.specs.Prelude.{◌≡◌, ◌⊎◌, ℕ, ◌-◌, ◌^◌, ⊤, min, count_by, List, [], ◌∷◌, ◌++◌, length}
use Rattle.std.specs.Prelude.{decimal, All, Bool, true, false, Vec, Option, Some, None, Result, Ok}
use Rattle.std.specs.Prelude.{Err}
use Rattle.std.specs.Io.KnownBytes.{Consumes, Keeps, IsAtEnd}
use Rattle.room_types.specs.declared.fleet.Terminal.{Terminal}
use Rattle.room_model.specs.Room.{Room}
use Rattle.room_http.specs.declared.settings.HttpSettings.{HttpSettings}
use Rattle.room_model.specs.Rooms.{Step}
use Rattle.room_http.specs.Dialogues.{IsReplyTo}
use Rattle.room_http.specs.KeptMessages.{Unmoved}
use Rattle.room_model.specs.declared.digests.StartDigest.{StartDigest}
use Rattle.dispatch_room_journal.specs.declared.entry_lines.EntryLine.{EntryLine}
use Rattle.dispatch_room_journal.specs.Entries.{Entry, room, message, answer, IsEntry, line_of}
use Rattle.dispatch_room_journal.specs.Entries.{texts_of, Begins}
use Rattle.dispatch_room_journal.specs.EntryPrefixes.{IsLayout}
use Rattle.dispatch_room_journal.specs.declared.replay_faults.ReplayFault.{ReplayFault}
use Rattle.dispatch_room_journal.specs.declared.replay_faults.ReplayFault.TheVariants.{Bad, Differs}
use Rattle.dispatch_room_journal.specs.declared.replay_faults.ReplayFault.TheVariants.{OtherRoom}
use Rattle.dispatch_room_journal.specs.declared.next_entry.Next.{Next}
use Rattle.dispatch_room_journal.specs.declared.next_entry.Next.TheVariants as next
use Rattle.dispatch_room_journal.specs.declared.journal_messages.MessageOutcome.{MessageOutcome}
use Rattle.dispatch_room_journal.specs.declared.journal_messages.MessageOutcome.TheVariants.{Played}
use Rattle.dispatch_room_journal.specs.declared.journal_messages.MessageOutcome.TheVariants.{LeftOut}
use Rattle.dispatch_room_journal.specs.declared.journal_messages.MessageOutcome.TheVariants.{Last}
use Rattle.dispatch_room_journal.specs.JournalRecords.{status_in}
use Rattle.dispatch_room_journal.specs.ReplayedTurns.{Open, Play, Turn, tried, timed, entries_in}
use Rattle.dispatch_room_journal.specs.ReplayedTurns.{entries_of, has_message, is_left_out}
use Rattle.dispatch_room_journal.specs.ReplayedTurns.{ends_open, ends_unanswered, IsPlay, IsTurn}
use Rattle.dispatch_room_journal.specs.ReplayedTurns.{IsReplayed, IsBy, AreBy, StartsBy}
use Rattle.dispatch_room_journal.specs.ReplayedTurns.{HasNoStatus, BeginsWith, EndsAt}
use Rattle.dispatch_room_journal.specs.declared.replay_progress.Progress.{Progress}
use Rattle.dispatch_room_journal.specs.ReplayFaults.{IsNoMessage, IsUnavailableFault, Refuses}
use Rattle.dispatch_room_journal.specs.ReplayFaults.{Explains, IsDueTo}
use Rattle.dispatch_room_journal.specs.Replays.{DigitsOf, Leads, LeadsElsewhere, MeetsHead}
use Rattle.dispatch_room_journal.specs.Replays.{WouldMiss, IsHeadOf}

-- the room has the digest of this head
abbrev pub IsAt : DigitsOf → Type 0 → (List Terminal → Room → Type 0) → StartDigest → Type 0
IsAt digest_of trusted stood head = trusted → (terminals : List Terminal) (held : Room)
    → stood terminals held → IsHeadOf digest_of head terminals held

-- a head that stands next is the room's
abbrev pub HasItsHead : DigitsOf → Type 0 → (List Terminal → Room → Type 0) → List ℕ → Type 0
HasItsHead digest_of trusted stood rest =
    (head : StartDigest) (more : List ℕ) → Begins rest (room head) more
    → IsAt digest_of trusted stood head

-- The bytes are one message, and the room answered it; or nothing was done, and why.
abbrev pub Plays : {A : Type 0} → Step → HttpSettings → Type 0 → (List Terminal → Room → Type 0)
    → (List Terminal → Room → Type 0) → ℕ → List ℕ → Result (Vec ℕ A) ReplayFault → Type 0
Plays step setting trusted stood stands at sent (Ok response) =
    (p : Play) × (p.at ≡ at) × (p.sent ≡ sent) × (p.response ≡ response.items) × IsPlay p
    × (trusted → (terminals : List Terminal) (room : Room) → stood terminals room
    → (after : Room) × IsReplyTo step setting terminals room (timed p) after p.response
    × stands terminals after)
Plays step setting trusted stood stands at sent (Err fault) =
    Unmoved trusted stood stands × Refuses sent fault

-- the entry is a head or a status
abbrev pub IsMark : Entry → Type 0
IsMark (room head) = ⊤
IsMark (message at sent) = ⊥
IsMark (answer status) = ⊤

module _ (step : Step) (setting : HttpSettings) (digest_of : DigitsOf) (trusted : Type 0)
    (stood stands : List Terminal → Room → Type 0) where
  -- a turn of the message and of the entries that it takes with it
  pub record TurnOf (at : ℕ) (sent : List ℕ) (taken : List Entry) (left_out : Bool) : Type 0 where
    pub turn : Turn
    pub is : IsTurn turn
    pub replayed : IsReplayed turn
    pub entries : entries_in turn ≡ message at sent ∷ taken
    pub counts : has_message turn ≡ true
    pub leaves : is_left_out turn ≡ left_out
    pub leads : Leads step setting digest_of trusted stood stands (turn ∷ [])

  -- a message that was played has another status than this line says
  abbrev pub Deviates : Play → EntryLine → ReplayFault → Type 0
  Deviates p line fault =
      (fault ≡ Differs) × (status : ℕ) × (line ≡ line_of (answer status))
      × (¬ (status_in p.response ≡ decimal status))

  -- this line is a head of another room than the message would lead to
  abbrev pub IsAstray : ℕ → List ℕ → EntryLine → ReplayFault → Type 0
  IsAstray at sent line fault =
      (fault ≡ OtherRoom) × (head : StartDigest) × (line ≡ line_of (room head))
      × LeadsElsewhere step setting digest_of trusted stood stands [] (Some (at, sent)) head

  -- a message is played for this line: it is a status, or a head to which the room has not come
  abbrev pub IsPlayedForLine : EntryLine → Type 0
  IsPlayedForLine line =
      ((status : ℕ) × (line ≡ line_of (answer status)))
      ⊎ ((head : StartDigest) × (line ≡ line_of (room head))
      × LeadsElsewhere step setting digest_of trusted stood stands [] None head)

  -- why a message before this line is not played: memory or storage fails, or its bytes are no
  -- message, and it was to be played
  abbrev pub RefusesAt : List ℕ → EntryLine → ReplayFault → Type 0
  RefusesAt sent line fault =
      IsUnavailableFault fault ⊎ ((fault ≡ Bad) × IsNoMessage sent × IsPlayedForLine line)

  -- a message before this line was not done, or it was and is not as the line says
  abbrev pub StopsAt : ℕ → List ℕ → EntryLine → ReplayFault → Type 0
  StopsAt at sent line fault =
      (Unmoved trusted stood stands × (RefusesAt sent line fault ⊎ IsAstray at sent line fault))
      ⊎ ((p : Play) × (p.at ≡ at) × (p.sent ≡ sent) × IsPlay p
      × Leads step setting digest_of trusted stood stands (tried p ∷ []) × Deviates p line fault)

  -- the message was played, and the room has come to the digest of this head
  abbrev pub ComesTo : ℕ → List ℕ → StartDigest → Type 0
  ComesTo at sent head =
      (p : Play) × (p.at ≡ at) × (p.sent ≡ sent) × IsPlay p
      × (trusted → (terminals : List Terminal) (room : Room) → stood terminals room
      → (after : Room) × IsReplyTo step setting terminals room (timed p) after p.response
      × (IsHeadOf digest_of head terminals after) × stands terminals after)

  -- where the room has another digest than this head gives, so it would have after the message
  abbrev pub Misses : ℕ → List ℕ → StartDigest → Type 0
  Misses at sent head =
      trusted → (terminals : List Terminal) (held : Room) → stood terminals held
      → (¬ (IsHeadOf digest_of head terminals held))
      → WouldMiss step setting digest_of terminals held (Some (at, sent)) head

  -- the room has come to the digest of this head by the message; or nothing was done, and why
  abbrev pub PlaysTowards : {A : Type 0} → ℕ → List ℕ → StartDigest → Result A ReplayFault → Type 0
  PlaysTowards at sent head (Ok done) = ComesTo at sent head
  PlaysTowards at sent head (Err fault) = Unmoved trusted stood stands
      × (Refuses sent fault ⊎ ((fault ≡ OtherRoom) × Misses at sent head))

  -- What becomes of a message before this line: it takes the line's entry with it, or is left out.
  -- It is left out before no status, and before a head only where the room has the head's digest.
  abbrev pub Settles : ℕ → List ℕ → EntryLine → Result Bool ReplayFault → Type 0
  Settles at sent line (Ok true) =
      (e : Entry) × IsMark e × (line ≡ line_of e) × TurnOf at sent (e ∷ []) false
  Settles at sent line (Ok false) =
      TurnOf at sent [] true × ((status : ℕ) → ¬ (line ≡ line_of (answer status)))
      × ((head : StartDigest) → line ≡ line_of (room head) → IsAt digest_of trusted stood head)
  Settles at sent line (Err fault) = StopsAt at sent line fault

  -- Why it stopped, after a head or not, with the text before: nothing more was done, or one
  -- message up to this moment was played.
  pub record StopsIn (waits : Bool) (before : Option (List ℕ)) (until : Option ℕ) (is_begun : Bool)
      (fault : ReplayFault) (read_failed write_failed : Bool) (last : List Turn) : Type 0 where
    pub few : (last ≡ []) ⊎ ((p : Play) × IsPlay p × AreBy until (message p.at p.sent ∷ [])
        × (is_begun ≡ true) × (last ≡ tried p ∷ []))
    pub begins : BeginsWith before (entries_of last)
        (Explains waits (is_begun ≡ false) ⊥
        (LeadsElsewhere step setting digest_of trusted stood stands last) last fault)
    pub leads : Leads step setting digest_of trusted stood stands last
    pub due : IsDueTo read_failed write_failed fault

  -- what is known of the text before, and after, and whether a read failed
  module _ (before after : Option (List ℕ)) (failed : Bool) where
    -- the message was left out, and no status follows it, nor a head that is not the room's
    abbrev pub LeavesOut : ℕ → Type 0
    LeavesOut at =
        (sent : List ℕ) × TurnOf at sent [] true × IsEntry (message at sent)
        × Consumes before after (texts_of (message at sent ∷ [])) × (failed ≡ false)
        × BeginsWith after [] HasNoStatus
        × BeginsWith after [] (HasItsHead digest_of trusted stood)

    -- What became of a message at this moment. Where it was the last one, nothing is left.
    abbrev pub MessageIs : ℕ → Result MessageOutcome ReplayFault → Type 0
    MessageIs at (Ok Played) =
        (sent : List ℕ) × (e : Entry) × IsMark e × TurnOf at sent (e ∷ []) false
        × IsEntry (message at sent) × IsEntry e
        × Consumes before after (texts_of (message at sent ∷ e ∷ [])) × (failed ≡ false)
    MessageIs at (Ok LeftOut) = LeavesOut at
    MessageIs at (Ok Last) = LeavesOut at × IsAtEnd after
    MessageIs at (Err fault) =
        (last : List Turn) × StopsIn true before (Some at) true fault failed false last

-- the room has another digest than this head gives, and no message is open
abbrev pub IsElsewhere : DigitsOf → Type 0 → (List Terminal → Room → Type 0)
    → (List Terminal → Room → Type 0) → Option Open → StartDigest → Type 0
IsElsewhere digest_of trusted stood stands open_ head =
    (open_ ≡ None) × (trusted → (terminals : List Terminal) (held : Room) → stood terminals held
    → (¬ (IsHeadOf digest_of head terminals held)) × stands terminals held)

module _ (digest_of : DigitsOf) (trusted : Type 0) (stood stands : List Terminal → Room → Type 0)
    (before after : Option (List ℕ)) (failed : Bool) where
  -- What stands next, up to this moment: a head, which was taken and is that of the room; a
  -- message, which is at the front; or the end. A head came before a message.
  abbrev pub NextIs : Option ℕ → Bool → List ℕ → Result Next ReplayFault → Type 0
  NextIs until begun kept (Ok next.StartDigest) =
      (head : StartDigest) × IsEntry (room head)
      × Consumes before after (texts_of (room head ∷ [])) × (failed ≡ false)
      × (trusted → (terminals : List Terminal) (held : Room) → stood terminals held
      → (IsHeadOf digest_of head terminals held) × stands terminals held)
  NextIs until begun kept (Ok (next.Message entry)) =
      (sent : List ℕ) × IsLayout kept entry.layout (message entry.at sent)
      × IsBy until (message entry.at sent)
      × Keeps before after
      × (begun ≡ true) × (failed ≡ false) × Unmoved trusted stood stands
  NextIs until begun kept (Ok next.End) =
      Keeps before after × BeginsWith before [] (EndsAt until) × Unmoved trusted stood stands
  NextIs until begun kept (Err fault) =
      Unmoved trusted stood stands × ((waits : Bool)
      → BeginsWith before [] (Explains waits (begun ≡ false) ⊥
      (IsElsewhere digest_of trusted stood stands) [] fault)) × IsDueTo failed false fault

-- the progress is that of these turns
pub record IsProgress (progress : Progress) (ts : List Turn) : Type 0 where
  pub messages : progress.messages ≡ min (count_by has_message ts) (2 ^ 64 - 1)
  pub opens : progress.is_open ≡ ends_open ts
  pub begun : StartsBy progress.is_begun ts

-- the turns go on where others ended
abbrev pub Progresses : Progress → Progress → List Turn → Type 0
Progresses old new ts = (us : List Turn) → IsProgress old us → IsProgress new (us ++ ts)

module _ (step : Step) (setting : HttpSettings) (digest_of : DigitsOf) (trusted : Type 0)
    (stood stands : List Terminal → Room → Type 0) (before after : Option (List ℕ))
    (until : Option ℕ) where
  -- turns of this kind, from the text before to the text after
  pub record Passes (Kind : Turn → Type 0) (ts : List Turn) : Type 0 where
    pub turns : All IsTurn ts
    pub kinds : All Kind ts
    pub entries : AreBy until (entries_of ts)
    pub read : Consumes before after (texts_of (entries_of ts))
    pub unanswered : ends_unanswered ts ≡ true → BeginsWith after [] HasNoStatus
    pub met : ends_open ts ≡ true → BeginsWith after []
        (MeetsHead step setting digest_of trusted stood ts)
    pub leads : Leads step setting digest_of trusted stood stands ts

  -- What one call does that takes a turn: whether it goes on, or the end was found; or why it
  -- stopped.
  abbrev pub TakesTurn : (Turn → Type 0) → Progress → Progress → Bool → Result Bool ReplayFault
      → Type 0
  TakesTurn Kind old new failed (Ok goes_on) =
      (ts : List Turn) × Passes Kind ts × Progresses old new ts
      × (goes_on ≡ true → (failed ≡ false) × (length ts ≡ 1))
      × (goes_on ≡ false → BeginsWith before (entries_of ts) (EndsAt until))
  TakesTurn Kind old new failed (Err fault) =
      (last : List Turn) × StopsIn step setting digest_of trusted stood stands true before until
      old.is_begun fault failed false last × (new ≡ old)
