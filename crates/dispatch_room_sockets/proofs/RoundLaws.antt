-- Rounds, one after the other.
use Rattle.std.proofs.Common.{◌≡◌, ◌∙◌, ap, refl, List, [], ◌∷◌, Bool, true, false, None, Option}
use Rattle.std.proofs.Common.{Some, length}
use Rattle.std.specs.Prelude.{MatchOption}
use Rattle.std.specs.declared.time.Duration.{Duration}
use Rattle.dispatch_room_sockets.specs.declared.entrances.Entrance.{Ghosts}
use Rattle.dispatch_room_sockets.specs.declared.kept_callers.Kept.{Kept}
use Rattle.dispatch_room_sockets.specs.declared.waiting_callers.Waiting.{Waiting}
use Rattle.dispatch_room_sockets.specs.CallerHistories.{GivesNext}
use Rattle.dispatch_room_sockets.specs.Rounds.{AreRounds, HasRounds, Hears, IsRound, LooksAround}
use Rattle.dispatch_room_sockets.specs.Rounds.{Queues, Waited, all_watched, none_ready, queues}
use Rattle.dispatch_room_sockets.proofs.HistoryLaws.{admitted_given, given_after, looked_given}
use Rattle.dispatch_room_sockets.proofs.HistoryLaws.{nobody_given}

module _ {C : Type 0} where
  pub no_round : (old new : Queues C) → new ≡ old → HasRounds old new
  no_round old new same = record { moments = []; are = same }

  pub round_of : (now : Duration) (old before new : Queues C) → IsRound now before new → before ≡ old
      → IsRound now old new
  round_of now old before new round same = rw same at round

  -- a round, where the moment is known that it is
  rounds_after : (after : Option Duration) (old new : Queues C)
      → MatchOption after (new ≡ old) (λ now. IsRound now old new) → HasRounds old new
  rounds_after None old new same = no_round old new same
  rounds_after (Some now) old new round = record { moments = now ∷ []; are = (new, round, refl) }

  joined_from : (moments : List Duration) (old mid new : Queues C) → AreRounds moments old mid
      → HasRounds mid new → HasRounds old new
  joined_from [] old mid new same then = rw same at then
  joined_from (now ∷ more) old mid new first then =
      let rest = joined_from more first.0 mid new first.2 then in
      record { moments = now ∷ rest.moments; are = (first.0, first.1, rest.are) }

  pub joined_rounds : (old mid new : Queues C) → HasRounds old mid → HasRounds mid new → HasRounds old new
  joined_rounds old mid new first then = joined_from first.moments old mid new first.are then

  -- nobody is given in a round, and nobody is lost
  given_from : (moments : List Duration) (old new : Queues C) → AreRounds moments old new
      → GivesNext old.line old.ready old.next new.line new.ready new.next None
  given_from [] old new same = rw same (nobody_given old.line old.ready old.next)
  given_from (now ∷ more) old new all =
      given_after old.line all.0.line new.line old.ready all.0.ready new.ready old.next all.0.next new.next None
      (given_after old.line all.1.longer all.0.line old.ready old.ready all.0.ready old.next all.0.next all.0.next
      None (admitted_given _ _ _ _ _ _ _ _ all.1.admitted) (looked_given _ _ _ _ _ _ _ _ _ all.1.swept))
      (given_from more all.0 new all.2)

  pub rounds_given : (old new : Queues C) → HasRounds old new
      → GivesNext old.line old.ready old.next new.line new.ready new.next None
  rounds_given old new all = given_from all.moments old new all.are

  times_from : (moments : List Duration) (old new : Queues C) → AreRounds moments old new
      → (new.keep ≡ old.keep) × (new.patience ≡ old.patience)
  times_from [] old new same = (ap (λ q. q.keep) same, ap (λ q. q.patience) same)
  times_from (now ∷ more) old new all =
      let rest = times_from more all.0 new all.2 in
      (rest.0 ∙ all.1.keep, rest.1 ∙ all.1.patience)

  -- the times of those who wait stay as they are
  pub rounds_times : (old new : Queues C) → HasRounds old new
      → (new.keep ≡ old.keep) × (new.patience ≡ old.patience)
  rounds_times old new all = times_from all.moments old new all.are

module _ {E C : Type 0} (g : Ghosts E C) where
  waited_rounds : (most : Duration) (old new : Waiting E C) → Waited g most old new
      → HasRounds (queues g old) (queues g new)
  waited_rounds most old new w = rounds_after w.after (queues g old) (queues g new) w.round

  same_rounds : (old new : Waiting E C) → new ≡ old → HasRounds (queues g old) (queues g new)
  same_rounds old new same = no_round (queues g old) (queues g new) (ap (λ w. queues g w) same)

  -- nobody was looked at, or it was waited
  either_rounds : (b : Bool) (old new : Waiting E C) → (b ≡ true → HasRounds (queues g old) (queues g new))
      → (b ≡ false → HasRounds (queues g old) (queues g new)) → HasRounds (queues g old) (queues g new)
  either_rounds true old new is not = is refl
  either_rounds false old new is not = not refl

  -- whoever looks around makes rounds
  pub around_rounds : (old new : Waiting E C) → LooksAround g old new
      → HasRounds (queues g old) (queues g new)
  around_rounds old new a =
      joined_rounds (queues g old) (queues g a.mid) (queues g new)
      (either_rounds (all_watched g old) old a.mid (λ all. same_rounds old a.mid (a.watched.same all))
      (λ some. let w = a.watched.waited some in waited_rounds w.0 old a.mid w.2))
      (either_rounds (none_ready g a.mid) a.mid new
      (λ none. let w = a.waited none in waited_rounds w.0 a.mid new w.2)
      (λ some. same_rounds a.mid new (a.same some)))

  module _ (old mid : Waiting E C) (stay : ¬ (length old.ready.items ≡ 0) → mid ≡ old)
      (around : length old.ready.items ≡ 0 → LooksAround g old mid) where
    pub heard_nobody : Hears g old mid None
    heard_nobody = record { heard = mid; same = stay; around = around; gave = refl }

    -- those who were heard are heard no more where someone is to be served
    pub heard_before : (new : Waiting E C) (given : Option (Kept C)) → Hears g mid new given
        → ¬ (length mid.ready.items ≡ 0) → Hears g old new given
    heard_before new given then some = record {
      heard = mid;
      same = stay;
      around = around;
      gave = rw (then.same some) at then.gave;
    }
