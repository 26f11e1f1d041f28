-- A journal that was read so far.
use Rattle.std.specs.Prelude.{ℕ, List}

-- the bytes that were read and that no entry has taken, and the number of the bytes before them
pub record InboxBytes : Type 0 where
  pub kept : List ℕ
  pub taken : ℕ
