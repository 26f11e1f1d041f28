-- What follows only from an answer and its moment.
use Rattle.std.specs.Prelude.{◌≡◌, ◌<◌, ℕ, List, Bool, Result}
use Rattle.room_types.specs.declared.answers.Answer.{Answer}
use Rattle.room_types.specs.declared.refusal_statuses.Refusal.{Refusal}
use Rattle.room_http.specs.ReplyMessages.{IsReply}

-- equal answers at equal moments have equal bytes
abbrev pub IsOneReply : Type 0
IsOneReply =
    (answer : Result Answer Refusal) (at : ℕ) (head_only closing : Bool) (bytes others : List ℕ)
    → IsReply answer at head_only closing bytes → IsReply answer at head_only closing others
    → bytes ≡ others

-- each answer has bytes at each moment before the year 10000
abbrev pub IsAlwaysThere : Type 0
IsAlwaysThere =
    (answer : Result Answer Refusal) (at : ℕ) (head_only closing : Bool) → at < 253_402_300_800
    → (bytes : List ℕ) × IsReply answer at head_only closing bytes
