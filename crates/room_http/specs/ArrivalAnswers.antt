-- What is done with one request.
use Rattle.std.specs.Prelude.{◌≡◌, ◌⊎◌, ◌≤◌, ℕ, List, [], ◌∷◌, Bool, true, false, ⊤, Option, Result}
use Rattle.std.specs.Prelude.{Ok, Err}
use Rattle.std.specs.Io.KnownBytes.{Appends}
use Rattle.room_types.specs.declared.fleet.Terminal.{Terminal}
use Rattle.room_types.specs.declared.refusal_statuses.Refusal.{Refusal}
use Rattle.room_model.specs.Room.{Room}
use Rattle.room_types.specs.declared.numbers.TheConstants.{LAST_MOMENT}
use Rattle.room_http.specs.declared.session.ServeEnd.{ServeEnd}
use Rattle.room_http.specs.declared.session.ServeEnd.TheVariants.{Closed, Cut, ReadFault}
use Rattle.room_http.specs.declared.session.ServeEnd.TheVariants.{WriteFault, ClockFault}
use Rattle.room_http.specs.declared.session.ServeEnd.TheVariants.{JournalFailed, ReadsSpent, Memory}
use Rattle.room_model.specs.Rooms.{Step}
use Rattle.room_http.specs.Arrivals.{Arrival, is_head_only}
use Rattle.room_http.specs.ClockMoments.{HasNoMoment}
use Rattle.room_http.specs.ReplyMessages.{fixed_bytes}
use Rattle.room_http.specs.declared.settings.HttpSettings.{HttpSettings}
use Rattle.room_http.specs.Dialogues.{Timed, WritesDialogue, IsCaused, IsFront, BreaksOff}

-- serving ends with an answer in one of these ways
abbrev pub EndsAnswering : ServeEnd → Type 0
EndsAnswering Closed = ⊤
EndsAnswering WriteFault = ⊤
EndsAnswering ClockFault = ⊤
EndsAnswering JournalFailed = ⊤
EndsAnswering Cut = ⊥
EndsAnswering ReadFault = ⊥
EndsAnswering ReadsSpent = ⊥
EndsAnswering Memory = ⊥

module _ (step : Step) (setting : HttpSettings) (held holds given gives : Option (List ℕ))
    (write_failed was_none observer_failed : Bool)
    (trusted : Type 0) (stood stands : List Terminal → Room → Type 0)
    (unserved : Timed → List Terminal → Room → Type 0) (failed : Type 0)
    (at : ℕ) (o : Arrival) where
  -- the arrival had this moment
  abbrev pub IsAt : Type 0
  IsAt = (at ≤ LAST_MOMENT) × Appends given gives (at ∷ [])

  -- it was answered, or serving ends with it
  abbrev pub Answers : Result (Unit {0}) ServeEnd → Type 0
  Answers (Ok done) = IsAt × (write_failed ≡ false)
      × WritesDialogue step setting trusted stood held holds ((o, at) ∷ [])
      (λ terminals after tail. stands terminals after × (tail ≡ []))
  Answers (Err Closed) = IsAt × ((r : Refusal) × IsCaused failed r
      × WritesDialogue step setting trusted stood held holds []
      (λ terminals after tail. unserved (o, at) terminals after
      × (tail ≡ fixed_bytes r (is_head_only o))))
  Answers (Err WriteFault) = IsAt × (write_failed ≡ true)
      × (WritesDialogue step setting trusted stood held holds []
      (λ terminals after tail. BreaksOff step setting terminals stands after (o, at) tail)
      ⊎ ((r : Refusal) × IsCaused failed r × WritesDialogue step setting trusted stood held holds []
      (λ terminals after tail. unserved (o, at) terminals after
      × IsFront tail (fixed_bytes r (is_head_only o)))))
  Answers (Err ClockFault) = HasNoMoment given gives was_none []
      × WritesDialogue step setting trusted stood held holds []
      (λ terminals after tail. stands terminals after × (tail ≡ []))
  Answers (Err JournalFailed) = IsAt × (observer_failed ≡ true)
      × (WritesDialogue step setting trusted stood held holds []
      (λ terminals after tail. stands terminals after × (tail ≡ []))
      ⊎ WritesDialogue step setting trusted stood held holds []
      (λ terminals after tail. BreaksOff step setting terminals stands after (o, at) []
      × (tail ≡ [])))
  Answers (Err Cut) = ⊥
  Answers (Err ReadFault) = ⊥
  Answers (Err ReadsSpent) = ⊥
  Answers (Err Memory) = ⊥
