use Rattle.std.proofs.Common.{◌≡◌, ◌<◌, ℕ, map, get_or, []}
use Rattle.csv.specs.Records.{fields_of}
use Rattle.dispatch_room_csv.specs.RowFields.{text_at}
use Rattle.dispatch_room_csv.proofs.csv_records.has_names.Given as goal

abbrev pub invariant-loop-at : goal.invariant-loop-at
invariant-loop-at l =
    (at : ℕ) → at < l.at → text_at (fields_of l.first) at ≡ get_or (map (λ name. name.now) l.names) at []
