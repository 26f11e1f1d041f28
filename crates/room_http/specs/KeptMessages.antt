-- What an observer keeps of what is served.
use Rattle.std.specs.Prelude.{◌≡◌, ◌⊎◌, ◌<◌, ◌≤◌, ⊤, ℕ, List, [], ◌∷◌, ◌++◌, map, Option, Some}
use Rattle.std.specs.Prelude.{None, Result, Ok, Err}
use Rattle.std.specs.Io.KnownBytes.{Appends}
use Rattle.std.specs.List.{concat}
use Rattle.room_types.specs.declared.fleet.Terminal.{Terminal}
use Rattle.room_types.specs.declared.refusal_statuses.Refusal.{Refusal}
use Rattle.room_model.specs.Room.{Room}
use Rattle.room_http.specs.ReplyMessages.{fixed_bytes}
use Rattle.room_types.specs.declared.numbers.TheConstants.{LAST_MOMENT}
use Rattle.room_http.specs.declared.settings.HttpSettings.{HttpSettings}
use Rattle.room_model.specs.Rooms.{IsUnavailable, Step}
use Rattle.room_http.specs.declared.arrivals.Arrived.{Arrived}
use Rattle.room_http.specs.declared.arrivals.Arrived.TheVariants.{Message, Refused}
use Rattle.room_http.specs.declared.session.ServeEnd.{ServeEnd}
use Rattle.room_http.specs.declared.session.ServeEnd.TheVariants.{ClockFault, JournalFailed}
use Rattle.room_http.specs.Arrivals.{Arrival, Begins, HasNext, IsJustMessage, is_head_only, message}
use Rattle.room_http.specs.Arrivals.{refused}
use Rattle.room_http.specs.ServedTrace.{ServedTrace}
use Rattle.room_http.specs.Dialogues.{IsFront, IsReplyTo, Timed}

-- the observer keeps all these bytes more, or could keep some of the first of them
abbrev pub KeepsAll : {E : Type 0} → Option (List ℕ) → Option (List ℕ) → List ℕ
    → Result (Unit {0}) E → Type 0
KeepsAll held holds bytes (Ok done) = Appends held holds bytes
KeepsAll held holds bytes (Err e) =
    (front : List ℕ) × IsFront front bytes × Appends held holds front

-- what is to be kept of what has arrived, as it comes: of what is refused in the place of a
-- message, nothing
abbrev pub came_of : (ℕ → List ℕ → List ℕ) → Arrived → ℕ → List ℕ
came_of came (Message shown bytes) at = came at bytes.now
came_of came (Refused r head_only) at = []

-- what is to be kept of its answer
abbrev pub response_of : (List ℕ → List ℕ) → Arrived → List ℕ → List ℕ
response_of response (Message shown bytes) answer = response answer
response_of response (Refused r head_only) answer = []

-- what is known of the moments that were given, of what the observer keeps, and of what the writer
-- holds
pub record Tapes : Type 0 where
  pub given : Option (List ℕ)
  pub kept : Option (List ℕ)
  pub held : Option (List ℕ)

-- since then these moments were given, this text was kept, and these bytes were written
pub record Grow (old new : Tapes) (moments text bytes : List ℕ) : Type 0 where
  pub given : Appends old.given new.given moments
  pub kept : Appends old.kept new.kept text
  pub held : Appends old.held new.held bytes

-- none, or a later moment than the last of the room
abbrev pub IsNoMoment : List ℕ → Type 0
IsNoMoment moments = (moments ≡ []) ⊎ ((at : ℕ) × (LAST_MOMENT < at) × (moments ≡ at ∷ []))

-- the clock gave no moment of the room, and nothing was done
abbrev pub DoesNothing : Tapes → Tapes → Type 0
DoesNothing old new = (moments : List ℕ) × IsNoMoment moments × Grow old new moments [] []

-- the stream, where its bytes are known, begins with the arrivals, and something is said of what
-- follows them
abbrev pub BeginsThen : Option (List ℕ) → List Timed → (List ℕ → Type 0) → Type 0
BeginsThen left outs follows = (stream : List ℕ) → left ≡ Some stream
    → (rest : List ℕ) × Begins stream (map (λ x. x.0) outs) rest × follows rest

-- where the room is kept by what gives back what was written: it is as it was
abbrev pub Unmoved : Type 0 → (List Terminal → Room → Type 0) → (List Terminal → Room → Type 0)
    → Type 0
Unmoved trusted stood stands = trusted → (terminals : List Terminal) (room : Room)
    → stood terminals room → stands terminals room

module _ (step : Step) (setting : HttpSettings) where
  -- these are the answers to the arrivals, one to each, and the room afterwards
  abbrev pub AreReplies : List Terminal → Room → List Timed → List (List ℕ) → Room → Type 0
  AreReplies terminals room [] [] after = after ≡ room
  AreReplies terminals room [] (answer ∷ answers) after = ⊥
  AreReplies terminals room (x ∷ outs) [] after = ⊥
  AreReplies terminals room (x ∷ outs) (answer ∷ answers) after =
      (next : Room) × IsReplyTo step setting terminals room x next answer
      × AreReplies terminals next outs answers after

  module _ (trusted : Type 0) (stood stands : List Terminal → Room → Type 0) where
    -- it has acted on the arrival, and this is its answer
    abbrev pub Acts : Timed → List ℕ → Type 0
    Acts x answer =
        trusted → (terminals : List Terminal) (room : Room) → stood terminals room
        → (after : Room) × IsReplyTo step setting terminals room x after answer
        × stands terminals after

    -- it has acted on these arrivals, one after another, and these are their answers
    abbrev pub ActsOnEach : List Timed → List (List ℕ) → Type 0
    ActsOnEach outs answers =
        trusted → (terminals : List Terminal) (room : Room) → stood terminals room
        → (after : Room) × AreReplies terminals room outs answers after × stands terminals after

-- what an observer keeps of a message at its moment, and of an answer
module _ (came : ℕ → List ℕ → List ℕ) (response : List ℕ → List ℕ) where
  -- what is kept of an arrival at its moment as it comes: a message's bytes as they came, and
  -- nothing of what is refused
  abbrev pub IsCome : Timed → List ℕ → Type 0
  IsCome (message m, at) text =
      (bytes : List ℕ) × IsJustMessage bytes m × (at ≤ LAST_MOMENT) × (text ≡ came at bytes)
  IsCome (refused r head_only, at) text = text ≡ []

  -- what is kept of its answer
  abbrev pub answer_kept : Arrival → List ℕ → List ℕ
  answer_kept (message m) answer = response answer
  answer_kept (refused r head_only) answer = []

  -- its record: what is kept of it as it comes, and then of its answer
  abbrev pub IsRecord : Timed → List ℕ → List ℕ → Type 0
  IsRecord x answer text =
      (coming : List ℕ) × IsCome x coming × (text ≡ coming ++ answer_kept x.0 answer)

  -- the text is the records of these arrivals and their answers, one after another
  abbrev pub AreKept : List Timed → List (List ℕ) → List ℕ → Type 0
  AreKept [] [] text = text ≡ []
  AreKept [] (answer ∷ answers) text = ⊥
  AreKept (x ∷ outs) [] text = ⊥
  AreKept (x ∷ outs) (answer ∷ answers) text = (first more : List ℕ) × IsRecord x answer first
      × (text ≡ first ++ more) × AreKept outs answers more

  -- it could not be kept as it came: some first bytes of that are kept, and none was written
  abbrev pub IsCutShort : Timed → List ℕ → List ℕ → Type 0
  IsCutShort x tail wrote = (coming : List ℕ) × IsCome x coming × IsFront tail coming × (wrote ≡ [])

  -- memory or storage failed: it is kept as it came, and some first bytes of the fixed answer
  -- were written
  abbrev pub KeepsUnserved : Timed → List ℕ → List ℕ → Type 0
  KeepsUnserved x tail wrote =
      IsCome x tail
      × ((r : Refusal) × IsUnavailable r × IsFront wrote (fixed_bytes r (is_head_only x.0)))

  -- it is kept as it came, and of its answer some first bytes of what is to be kept; and none was
  -- written
  abbrev pub IsUnwritten : Timed → List ℕ → List ℕ → List ℕ → Type 0
  IsUnwritten x answer tail wrote = (coming front : List ℕ) × IsCome x coming
      × IsFront front (answer_kept x.0 answer) × (tail ≡ coming ++ front) × (wrote ≡ [])

  -- its record is kept, and some first bytes of the answer were written
  abbrev pub IsUnfinished : Timed → List ℕ → List ℕ → List ℕ → Type 0
  IsUnfinished x answer tail wrote = IsRecord x answer tail × IsFront wrote answer

  -- So much is kept and was written of an arrival with which serving ended so: of one on which the
  -- room has not acted, or has, with this answer. Less than that was to be kept, only where serving
  -- ended since it could not be. What was kept of the room still is, unless memory or storage
  -- failed.
  abbrev pub IsBegun : ServeEnd → Type 0 → Type 0 → (List ℕ → Type 0) → Timed → List ℕ → List ℕ
      → Type 0
  IsBegun end lasts unmoved moved x tail wrote =
      (unmoved × ((lasts × IsCutShort x tail wrote × (end ≡ JournalFailed)) ⊎ KeepsUnserved x tail wrote))
      ⊎ ((answer : List ℕ) × moved answer × lasts
      × ((IsUnwritten x answer tail wrote × (end ≡ JournalFailed)) ⊎ IsUnfinished x answer tail wrote))

  -- what was kept and written of one arrival at its moment, where the room has not acted on it, or
  -- has acted and this is its answer
  abbrev pub KeepsOne : Type 0 → Type 0 → (Timed → List ℕ → Type 0) → Tapes → Tapes → ℕ → Arrival
      → Result (Unit {0}) ServeEnd → Type 0
  KeepsOne lasts unmoved moved old new at o (Ok done) = (answer text : List ℕ)
      × moved (o, at) answer × IsRecord (o, at) answer text × Grow old new (at ∷ []) text answer
  KeepsOne lasts unmoved moved old new at o (Err ClockFault) = lasts × unmoved × DoesNothing old new
  KeepsOne lasts unmoved moved old new at o (Err end) =
      (tail wrote : List ℕ) × IsBegun end lasts unmoved (moved (o, at)) (o, at) tail wrote
      × Grow old new (at ∷ []) tail wrote

  -- What was kept and written of a connection that ended so, where `moved` says on which arrivals
  -- the room has acted, and what their answers are, and `lasts` that what was kept of the room
  -- still is: the arrivals of the course were answered, each after its record was kept, and no more
  -- was done; or of the last one so much.
  pub record KeepsEach (lasts : Type 0) (moved : List Timed → List (List ℕ) → Type 0)
      (left : Option (List ℕ)) (old new : Tapes) (end : ServeEnd) (course : ServedTrace)
      : Type 0 where
    pub text : List ℕ
    pub kept : AreKept course.outs course.answers text
    pub ends : ((course.last ≡ None) × lasts × moved course.outs course.answers
        × BeginsThen left course.outs (λ rest. ⊤)
        × ((late : List ℕ) × IsNoMoment late
        × Grow old new (map (λ x. x.1) course.outs ++ late) text (concat course.answers)))
        ⊎ ((x : Timed) × (course.last ≡ Some x) × (tail wrote : List ℕ)
        × BeginsThen left course.outs (HasNext x.0)
        × IsBegun end lasts (moved course.outs course.answers)
        (λ answer. moved (course.outs ++ x ∷ []) (course.answers ++ answer ∷ [])) x tail wrote
        × Grow old new (map (λ x. x.1) (course.outs ++ x ∷ [])) (text ++ tail)
        (concat course.answers ++ wrote))
