-- What one look at all who are kept does: who waits on, who is served, and who is closed.
use Rattle.std.specs.Prelude.{◌≡◌, ◌+◌, ◌||◌, ◌&&◌, ℕ, List, [], ◌∷◌, ◌++◌, Bool, true, false, not}
use Rattle.std.specs.Prelude.{min, map, filter, length, All, Option}
use Rattle.std.specs.Duration.{as_nanos, max_nanos}
use Rattle.std.specs.declared.time.Duration.{Duration}
use Rattle.dispatch_room_sockets.specs.declared.kept_callers.Heard.{Heard}
use Rattle.dispatch_room_sockets.specs.declared.kept_callers.Kept.{Kept}
use Rattle.dispatch_room_sockets.specs.declared.kept_callers.Verdict.{Verdict}
use Rattle.room_http_messages.specs.Streams.{Grows}
use Rattle.dispatch_room_sockets.specs.Verdicts.{is_closed, is_over, is_part, is_served, verdict_on}
use Rattle.dispatch_room_sockets.specs.Verdicts.{waits}

-- a look at one: it before and after, and what was found
pub record Looked (C : Type 0) : Type 0 where
  pub before : Kept C
  pub heard : Heard
  pub after : Kept C

module _ {C : Type 0} where
  -- these, from a number on, each of whom may be silent until a moment
  abbrev pub numbered : ℕ → Duration → List C → List (Kept C)
  numbered n until [] = []
  numbered n until (c ∷ more) =
      record { number = n; caller = c; has_begun = false; until = until }
      ∷ numbered (n + 1) until more

  -- the look found the first part of a request
  abbrev pub begins : Looked C → Bool
  begins l = is_part l.heard && not l.before.has_begun

  -- What was found is noted: from the first part of a request on, its time is what a request may
  -- take.
  pub record IsNoted (now patience : Duration) (l : Looked C) : Type 0 where
    pub same : l.after.number ≡ l.before.number
    pub begun : l.after.has_begun ≡ (l.before.has_begun || is_part l.heard)
    pub times : begins l ≡ true
        → as_nanos l.after.until ≡ min (as_nanos now + as_nanos patience) max_nanos
    pub goes_on : begins l ≡ false → l.after.until ≡ l.before.until

  abbrev pub judged : Duration → Looked C → Verdict
  judged now l = verdict_on l.heard (is_over now l.after.until)

  -- those of them who wait on, are served and are closed, in their order
  abbrev pub waiting_of : Duration → List (Looked C) → List (Kept C)
  waiting_of now looks = map (λ l. l.after) (filter (λ l. waits (judged now l)) looks)

  abbrev pub served_of : Duration → List (Looked C) → List (Kept C)
  served_of now looks = map (λ l. l.after) (filter (λ l. is_served (judged now l)) looks)

  abbrev pub closed_of : Duration → List (Looked C) → List (Kept C)
  closed_of now looks = map (λ l. l.after) (filter (λ l. is_closed (judged now l)) looks)

  -- one was looked at, and this becomes of it
  pub record IsLookedAt (now patience : Duration) (old new : Kept C)
      (log logs : Option (List Heard)) (result : Verdict) : Type 0 where
    pub heard : Heard
    pub noted : IsNoted now patience (record { before = old; heard = heard; after = new })
    pub verdict : result ≡ judged now (record { before = old; heard = heard; after = new })
    pub grown : Grows log logs (heard ∷ [])

  -- Each who waited was looked at once, in their order, and what became of each is by what was
  -- found: who is served stands behind those who are to be served already.
  pub record IsSwept (now patience : Duration) (line left ready readied : List (Kept C))
      (log logs : Option (List Heard)) : Type 0 where
    pub looks : List (Looked C)
    pub noted : All (IsNoted now patience) looks
    pub were : line ≡ map (λ l. l.before) looks
    pub wait : left ≡ waiting_of now looks
    pub serve : readied ≡ ready ++ served_of now looks
    pub grown : Grows log logs (map (λ l. l.heard) looks)

  -- those who came stand behind those who wait, with the next numbers
  pub record IsAdmitted (until : Duration) (line longer : List (Kept C)) (next after : ℕ)
      (log logs : Option (List C)) : Type 0 where
    pub came : List C
    pub grown : Grows log logs came
    pub wait : longer ≡ line ++ numbered next until came
    pub count : after ≡ next + length came
