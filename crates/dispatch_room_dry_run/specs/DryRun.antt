-- The numbers of the dry run.
use Rattle.std.specs.Prelude.{ℕ}

-- the moment of all that happens in the dry run
abbrev pub example_moment : ℕ
example_moment = 1000

-- how many reads the dry run makes at most
abbrev pub most_reads : ℕ
most_reads = 10_000
