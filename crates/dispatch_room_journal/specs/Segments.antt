-- The rows that stand behind a segment of a list that is read.
use Rattle.std.specs.Prelude.{◌≡◌, ℕ, List, Option}
use Rattle.dispatch_room_journal.specs.declared.read_progress.Mode.{Mode}
use Rattle.dispatch_room_journal.specs.declared.read_progress.JournalCursor.{JournalCursor}
use Rattle.dispatch_room_journal.specs.declared.read_progress.Mode.TheVariants.{Fresh, Plain, Chain}
use Rattle.dispatch_room_journal.specs.declared.read_progress.Mode.TheVariants.{Done}
use Rattle.dispatch_room_journal.specs.declared.read_progress.Reach.TheVariants.{Full, Segment}
use Rattle.dispatch_room_journal.specs.declared.record_fronts.Link.{Link}
use Rattle.dispatch_room_journal.specs.declared.row_runs.Behind.{Behind}
use Rattle.dispatch_room_journal.specs.declared.row_runs.Behind.TheVariants.{End, Other}
use Rattle.dispatch_room_journal.specs.ReadSteps.{left_in}
use Rattle.dispatch_room_journal.specs.RowRuns.{TakesKnown}

-- what is left to be given by a cursor, and by the bytes that are left to be read
abbrev pub left_to : JournalCursor → Option (List ℕ) → Option (List ℕ)
left_to cursor left = left_in cursor.mode cursor.vouched cursor.inbox left

-- What was taken where reading is: of a chain that is read by segments the rows that stand next, and
-- reading goes on behind them; else none. Behind a list that is no chain there is nothing.
abbrev pub TakesIn : Mode → Mode → Option (List ℕ) → Option (List ℕ) → List ℕ → List ℕ → Behind
    → Type 0
TakesIn (Chain Segment link) now before after old lines behind =
    (next : Link) × (now ≡ Chain Segment next) × TakesKnown link next before after old lines behind
TakesIn (Chain Full link) now before after old lines behind =
    (behind ≡ End) × (now ≡ Chain Full link) × (after ≡ before) × (lines ≡ old)
TakesIn (Fresh reach) now before after old lines behind =
    (behind ≡ End) × (now ≡ Fresh reach) × (after ≡ before) × (lines ≡ old)
TakesIn (Plain reach) now before after old lines behind =
    (behind ≡ End) × (now ≡ Plain reach) × (after ≡ before) × (lines ≡ old)
TakesIn (Done reach) now before after old lines behind =
    (behind ≡ Other) × (now ≡ Done reach) × (after ≡ before) × (lines ≡ old)
