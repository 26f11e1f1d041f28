-- How a connection is served, and how that ends.
use Rattle.std.specs.Prelude.{◌≡◌, ◌⊎◌, ◌≤◌, ℕ, List, [], ◌∷◌, ◌++◌, length, map, All, Bool, true}
use Rattle.std.specs.Prelude.{⊤, Option, Some, None}
use Rattle.std.specs.Io.KnownBytes.{Appends}
use Rattle.room_types.specs.declared.fleet.Terminal.{Terminal}
use Rattle.room_types.specs.declared.refusal_statuses.Refusal.{Refusal}
use Rattle.room_model.specs.Room.{Room}
use Rattle.room_http.specs.ReplyMessages.{fixed_bytes}
use Rattle.room_http_messages.specs.Messages.{IsCut, IsPart}
use Rattle.room_http_messages.specs.Streams.{CountsBy}
use Rattle.room_http.specs.declared.session.ServeEnd.{ServeEnd}
use Rattle.room_http.specs.declared.session.ServeEnd.TheVariants.{Closed, Cut, ReadFault}
use Rattle.room_http.specs.declared.session.ServeEnd.TheVariants.{WriteFault, ClockFault}
use Rattle.room_http.specs.declared.session.ServeEnd.TheVariants.{JournalFailed, ReadsSpent, Memory}
use Rattle.room_types.specs.declared.numbers.TheConstants.{LAST_MOMENT}
use Rattle.room_model.specs.Rooms.{Step}
use Rattle.room_http.specs.Arrivals.{Arrival, is_head_only, is_closing, Begins, HasNext}
use Rattle.room_http.specs.declared.settings.HttpSettings.{HttpSettings}
use Rattle.room_http.specs.ClockMoments.{HasNoMoment}
use Rattle.room_http.specs.ServedTrace.{ServedTrace}
use Rattle.room_http.specs.Dialogues.{Timed, IsCaused, IsFront, BreaksOff, WritesDialogue}

-- what is known of a connection: the bytes to come, the reads made, the bytes written, and the
-- moments given
pub record Sides : Type 0 where
  pub left : Option (List ℕ)
  pub reads : Option ℕ
  pub held : Option (List ℕ)
  pub given : Option (List ℕ)

-- the same at its end, but for the bytes to come, and how the reader, the writer, the clock and the
-- observer were left
pub record Finish : Type 0 where
  pub reads : Option ℕ
  pub held : Option (List ℕ)
  pub given : Option (List ℕ)
  pub read_failed : Bool
  pub read_ended : Bool
  pub write_failed : Bool
  pub was_none : Bool
  pub observer_failed : Bool

-- so many reads were made, or fewer
abbrev pub ReadsAtMost : ℕ → Option ℕ → Option ℕ → Type 0
ReadsAtMost budget old new = (n : ℕ) × (n ≤ budget) × CountsBy n old new

-- the last arrival closes
abbrev pub EndsClosing : List Timed → Type 0
EndsClosing outs =
    (before : List Timed) × (x : Timed) × (outs ≡ before ++ x ∷ []) × (is_closing x.0 ≡ true)

module _ (step : Step) (setting : HttpSettings) (old : Sides) (new : Finish) (trusted : Type 0)
    (stood stands : List Terminal → Room → Type 0) where
  -- the stream begins with the arrivals, and something is said of what follows them
  abbrev pub Reaches : List Timed → (List ℕ → Type 0) → Type 0
  Reaches outs follows = (stream : List ℕ) → old.left ≡ Some stream
      → (rest : List ℕ) × Begins stream (map (λ x. x.0) outs) rest × follows rest

  -- each arrival had a moment, which the clock gave only for it
  abbrev pub AreTimed : List Timed → Type 0
  AreTimed outs =
      All (λ x. x.1 ≤ LAST_MOMENT) outs × Appends old.given new.given (map (λ x. x.1) outs)

  -- what was written, and the room after it
  abbrev pub Spoke : List Timed → (List Terminal → Room → List ℕ → Type 0) → Type 0
  Spoke = WritesDialogue step setting trusted stood old.held new.held

  -- the first arrivals of the stream were answered, and no more was done
  pub record Answered (outs : List Timed) (follows : List ℕ → Type 0) : Type 0 where
    pub begins : Reaches outs follows
    pub timed : AreTimed outs
    pub dialogue : Spoke outs (λ terminals after tail. stands terminals after × (tail ≡ []))

  -- The arrivals were answered. The next one was acted on, and its answer was not written, or not
  -- wholly.
  pub record Broken (outs : List Timed) (x : Timed) : Type 0 where
    pub begins : Reaches (outs ++ x ∷ []) (λ rest. ⊤)
    pub timed : AreTimed (outs ++ x ∷ [])
    pub dialogue : Spoke outs (λ terminals after tail.
        BreaksOff step setting terminals stands after x tail)

  -- The arrivals were answered. The next one had no moment, and nothing was done.
  pub record Untimed (outs : List Timed) (o : Arrival) : Type 0 where
    pub begins : Reaches outs (HasNext o)
    pub timed : All (λ x. x.1 ≤ LAST_MOMENT) outs
    pub clock : HasNoMoment old.given new.given new.was_none (map (λ x. x.1) outs)
    pub dialogue : Spoke outs (λ terminals after tail. stands terminals after × (tail ≡ []))

  -- The arrivals were answered. The next one had a moment, and of it this holds: no byte of an
  -- answer was written.
  pub record Unwritten (outs : List Timed) (x : Timed)
      (holds : List Terminal → Room → Type 0) : Type 0 where
    pub begins : Reaches outs (HasNext x.0)
    pub next : Reaches (outs ++ x ∷ []) (λ rest. ⊤)
    pub timed : AreTimed (outs ++ x ∷ [])
    pub dialogue : Spoke outs (λ terminals after tail. holds terminals after × (tail ≡ []))

  -- the room has acted on the arrival
  abbrev pub HasActed : Timed → List Terminal → Room → Type 0
  HasActed x terminals room = BreaksOff step setting terminals stands room x []

  -- what holds of the room where memory or storage failed for an arrival, and where its last
  -- call was refused
  module _ (unserved : Timed → List Terminal → Room → Type 0) (failed : Type 0) where
    -- The arrivals were answered. For the next one memory or storage failed: the room stayed
    -- as it was, and of the fixed answer so much was written.
    pub record Unserved (outs : List Timed) (x : Timed)
        (so_much : List ℕ → List ℕ → Type 0) : Type 0 where
      pub begins : Reaches outs (HasNext x.0)
      pub next : Reaches (outs ++ x ∷ []) (λ rest. ⊤)
      pub timed : AreTimed (outs ++ x ∷ [])
      pub refusal : Refusal
      pub caused : IsCaused failed refusal
      pub dialogue : Spoke outs (λ terminals after tail. unserved x terminals after
          × so_much tail (fixed_bytes refusal (is_head_only x.0)))

    -- of this course
    module _ (course : ServedTrace) where
      -- all that had a moment was answered wholly
      abbrev pub IsWhole : (List ℕ → Type 0) → Type 0
      IsWhole follows = (course.last ≡ None) × Answered course.outs follows

      -- serving ended with an arrival that had a moment, and of it so much holds
      abbrev pub EndsWith : (Timed → Type 0) → Type 0
      EndsWith holds = (x : Timed) × (course.last ≡ Some x) × holds x

      -- How serving ended, which was granted so many reads. Closed: the stream ended between
      -- messages, an answer closed, or memory or storage failed and its fixed answer closed.
      abbrev pub ServeIs : ℕ → ServeEnd → Type 0
      ServeIs budget Closed = (IsWhole (λ rest. rest ≡ []) × (new.read_ended ≡ true))
          ⊎ (IsWhole (λ rest. ⊤) × EndsClosing course.outs)
          ⊎ EndsWith (λ x. Unserved course.outs x (λ tail fixed. tail ≡ fixed))
      ServeIs budget Cut = IsWhole IsCut × (new.read_ended ≡ true)
      ServeIs budget ReadFault = IsWhole (λ rest. ⊤) × (new.read_failed ≡ true)
      ServeIs budget WriteFault =
          EndsWith (λ x. Broken course.outs x ⊎ Unserved course.outs x IsFront)
          × (new.write_failed ≡ true)
      ServeIs budget JournalFailed = EndsWith (λ x. Unwritten course.outs x stands
          ⊎ Unwritten course.outs x (HasActed x)) × (new.observer_failed ≡ true)
      ServeIs budget ClockFault =
          (course.last ≡ None) × ((o : Arrival) × Untimed course.outs o)
      ServeIs budget ReadsSpent = IsWhole (λ rest. ⊤) × CountsBy budget old.reads new.reads
      ServeIs budget Memory =
          (course.outs ≡ []) × IsWhole (λ rest. ⊤) × CountsBy 0 old.reads new.reads

-- the clock gave a moment for each of these arrivals
abbrev pub HasMoments : Option (List ℕ) → Option (List ℕ) → List Arrival → Type 0
HasMoments given gives outs =
    (moments : List ℕ) × (length moments ≡ length outs) × Appends given gives moments

-- the stream begins with as many arrivals as moments were given, and what was read after them is
-- less than a message
abbrev pub LeavesPart : Option (List ℕ) → Option (List ℕ) → Option (List ℕ) → Option (List ℕ)
    → Type 0
LeavesPart left remains given gives =
    (stream : List ℕ) → left ≡ Some stream
    → (outs : List Arrival) × (part : List ℕ) × (rest : List ℕ) × (remains ≡ Some rest)
    × Begins stream outs (part ++ rest) × IsPart part × HasMoments given gives outs

-- a read that fails, and reads that are used up, leave no message without an answer that was read
-- whole
abbrev pub MissesNone : Option (List ℕ) → Option (List ℕ) → Option (List ℕ) → Option (List ℕ)
    → ServeEnd → Type 0
MissesNone left remains given gives ReadFault = LeavesPart left remains given gives
MissesNone left remains given gives ReadsSpent = LeavesPart left remains given gives
MissesNone left remains given gives end = ⊤
