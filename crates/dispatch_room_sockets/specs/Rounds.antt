-- Rounds: in each, who calls is admitted, and then all are looked at.
use Rattle.std.specs.Prelude.{◌≡◌, ◌≢◌, ◌+◌, ◌<◌, ◌==◌, ℕ, List, [], ◌∷◌, ◌++◌, Bool, true, false}
use Rattle.std.specs.Prelude.{All, filter, length, min, IfSome, MatchOption, Option, option_to_list}
use Rattle.std.specs.List.{list_all}
use Rattle.std.specs.VecDeque.{deque_len}
use Rattle.std.specs.Duration.{as_nanos, max_nanos}
use Rattle.std.specs.declared.time.Duration.{Duration}
use Rattle.dispatch_room_sockets.specs.declared.entrances.Entrance.{Ghosts}
use Rattle.dispatch_room_sockets.specs.declared.kept_callers.Heard.{Heard}
use Rattle.dispatch_room_sockets.specs.declared.kept_callers.Kept.{Kept}
use Rattle.dispatch_room_sockets.specs.declared.waiting_callers.Waiting.{Waiting}
use Rattle.room_http_messages.specs.Streams.{Grows}
use Rattle.dispatch_room_sockets.specs.Departures.{is_resting}
use Rattle.dispatch_room_sockets.specs.Pauses.{IsLeast, limits}
use Rattle.dispatch_room_sockets.specs.Sweeps.{IsAdmitted, IsSwept}

-- How long one may be silent and a request may take; those who are looked at, those who are to be
-- served, and the number of the next who calls; and who came so far and what each look found.
pub record Queues (C : Type 0) : Type 0 where
  pub keep : Duration
  pub patience : Duration
  pub line : List (Kept C)
  pub ready : List (Kept C)
  pub next : ℕ
  pub came : Option (List C)
  pub heard : Option (List Heard)

-- the queues of those who wait where they come in
abbrev pub queues : {E C : Type 0} → (g : Ghosts E C) → Waiting E C → Queues C
queues g waiting = record {
  keep = waiting.keep;
  patience = waiting.patience;
  line = waiting.line.items;
  ready = waiting.ready.items;
  next = waiting.next;
  came = (g.seen waiting.entrance).came;
  heard = (g.seen waiting.entrance).heard;
}

module _ {C : Type 0} where
  -- the queues as this one was still the first of those who are to be served
  abbrev pub before_giving : Option (Kept C) → Queues C → Queues C
  before_giving given q = record q { ready = option_to_list given ++ q.ready }

  -- who calls is admitted, and may be silent as long as one is kept; then all are looked at
  pub record IsRound (now : Duration) (old new : Queues C) : Type 0 where
    pub keep : new.keep ≡ old.keep
    pub patience : new.patience ≡ old.patience
    pub until : Duration
    pub silent : as_nanos until ≡ min (as_nanos now + as_nanos old.keep) max_nanos
    pub longer : List (Kept C)
    pub admitted : IsAdmitted until old.line longer old.next new.next old.came new.came
    pub swept :
        IsSwept now old.patience longer new.line old.ready new.ready old.heard new.heard

  -- a round at each of these moments, one after the other
  abbrev pub AreRounds : List Duration → Queues C → Queues C → Type 0
  AreRounds [] old new = new ≡ old
  AreRounds (now ∷ more) old new =
      (mid : Queues C) × IsRound now old mid × AreRounds more mid new

  -- Rounds were made, and nothing else was done: who waits is dropped only as a look finds that it
  -- has gone, or that its time is over.
  pub record HasRounds (old new : Queues C) : Type 0 where
    pub moments : List Duration
    pub are : AreRounds moments old new

module _ {E C : Type 0} (g : Ghosts E C) where
  -- all who wait are watched
  abbrev pub all_watched : Waiting E C → Bool
  all_watched w = list_all (λ k. g.is_watched w.entrance k.caller) w.line.items

  -- nobody is to be served
  abbrev pub none_ready : Waiting E C → Bool
  none_ready w = deque_len w.ready == 0

  -- So long it may be waited for someone to move: from the moment on that the clock shows until
  -- something is to be done, and a second where it shows none.
  pub record IsPause (w : Waiting E C) (most : Duration) : Type 0 where
    pub now : Option Duration
    pub shown : g.shows w.entrance now
    pub least : MatchOption now (as_nanos most ≡ 1000000000) (λ now. IsLeast (as_nanos most)
        (limits now (g.is_watched w.entrance) w.line.items w.closing_connections.items))

  -- It was waited so long at most. Before that, those went who leave and whose time was over by the
  -- moment that the clock showed, and who rested stayed. After it a round was made, as of the
  -- moment that it was then; where none is known, nobody was looked at.
  pub record Waited (most : Duration) (old new : Waiting E C) : Type 0 where
    pub before : Option Duration
    pub shown : g.shows old.entrance before
    pub in_time :
        IfSome before (λ now. All (λ l. as_nanos now < as_nanos l.until) new.closing_connections.items)
    pub rest : IfSome before (λ now.
        filter (is_resting now) new.closing_connections.items ≡ filter (is_resting now) old.closing_connections.items)
    pub after : Option Duration
    pub noted : Grows (g.seen old.entrance).waits (g.seen new.entrance).waits
        (record { most = most; after = after } ∷ [])
    pub round : MatchOption after (queues g new ≡ queues g old)
        (λ now. IsRound now (queues g old) (queues g new))

  -- where not all are watched, it was waited for no time
  pub record AreWatched (old new : Waiting E C) : Type 0 where
    pub same : all_watched old ≡ true → new ≡ old
    pub waited : all_watched old ≡ false
        → (most : Duration) × (as_nanos most ≡ 0) × Waited most old new

  -- All were looked at: where not all were watched, without a wait; and where nobody was to be
  -- served then, after a wait until someone moved.
  pub record LooksAround (old new : Waiting E C) : Type 0 where
    pub mid : Waiting E C
    pub watched : AreWatched old mid
    pub waited : none_ready mid ≡ true → (most : Duration) × IsPause mid most × Waited most mid new
    pub same : none_ready mid ≡ false → new ≡ mid

  -- Where someone was to be served, nobody was looked at, and else all were. Then this one was
  -- given, or nobody was.
  pub record Hears (old new : Waiting E C) (given : Option (Kept C)) : Type 0 where
    pub heard : Waiting E C
    pub same : length old.ready.items ≢ 0 → heard ≡ old
    pub around : length old.ready.items ≡ 0 → LooksAround old heard
    pub gave : queues g heard ≡ before_giving given (queues g new)
