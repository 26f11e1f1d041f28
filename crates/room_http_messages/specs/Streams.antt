-- What reads and writes do to what is left of a stream, and to what was written.
use Rattle.std.specs.Prelude.{◌≡◌, ⊤, ℕ, ◌+◌, ◌*◌, ◌-◌, ◌≤◌, ◌&&◌, List, ◌++◌, length, Bool, true}
use Rattle.std.specs.Prelude.{false, nat_lt, ◌==◌, if◌then◌else◌, Option, Some, None, Result, Ok}
use Rattle.std.specs.Prelude.{Err, OnOk, OnErr}
use Rattle.std.specs.Io.KnownBytes.{prepend_known, Keeps, Appends}
use Rattle.room_http_messages.specs.declared.limits.TheConstants.{INBOX_ROOM}

-- a read found the end: it gave nothing, and had room
abbrev pub found_end : {E : Type 0} → Result ℕ E → ℕ → Bool
found_end (Ok n) room = (n == 0) && nat_lt 0 room
found_end (Err e) room = false

-- so many more, where the number is known; once it is not known it stays so
abbrev pub CountsBy : ℕ → Option ℕ → Option ℕ → Type 0
CountsBy k None new = new ≡ None
CountsBy k (Some n) None = Unit {0}
CountsBy k (Some n) (Some m) = m ≡ n + k

-- what is known grows by these
abbrev pub Grows : {A : Type 0} → Option (List A) → Option (List A) → List A → Type 0
Grows None new more = ⊤
Grows (Some xs) None more = ⊥
Grows (Some xs) (Some ys) more = ys ≡ xs ++ more

-- a count in 32 bits, which is known below the greatest
unfoldable pub known_count : ℕ → Option ℕ
known_count n = if n == 4294967295 then None else Some n

-- Any number of reads: the bytes that were kept, and then what is left, stay the same stream, where
-- the bytes are known. Each read took a turn, and gave no more than the inbox has room for.
pub record Reads {R : Type 0} (left : R → Option (List ℕ)) (reads : R → Option ℕ)
    (old new : R) (before after : List ℕ) (budget_before budget_after : ℕ) : Type 0 where
  pub same : Keeps (prepend_known before (left old)) (prepend_known after (left new))
  pub spent : budget_after ≤ budget_before
  pub count : CountsBy (budget_before - budget_after) (reads old) (reads new)
  pub room : length after + INBOX_ROOM * budget_after ≤ length before + INBOX_ROOM * budget_before

-- the call failed, or took nothing of what there was
abbrev pub took_none : {E : Type 0} → Result ℕ E → ℕ → Bool
took_none (Ok n) size = (n == 0) && nat_lt 0 size
took_none (Err e) size = true

-- the writer holds all the bytes more, or the first of them, and then it failed
pub record WritesAll {W E : Type 0} (held : W → Option (List ℕ)) (has_failed : W → Bool)
    (old new : W) (bytes : List ℕ) (result : Result (Unit {0}) E) : Type 0 where
  pub all : OnOk result (Appends (held old) (held new) bytes × (has_failed new ≡ false))
  pub part : OnErr result ((front : List ℕ) × (rest : List ℕ) × (bytes ≡ front ++ rest)
      × Appends (held old) (held new) front × (has_failed new ≡ true))
