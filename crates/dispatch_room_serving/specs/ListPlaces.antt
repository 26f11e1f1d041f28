-- The place of a list that is kept.
use Rattle.std.specs.Prelude.{ℕ, Bool, false, true, if◌then◌else◌, nat_lt, Option, None, Some}
use Rattle.dispatch_room_serving.specs.declared.list_places.Finding.{Finding}
use Rattle.dispatch_room_serving.specs.declared.list_places.Finding.TheVariants.{Elsewhere, There}
use Rattle.dispatch_room_serving.specs.declared.list_places.Finding.TheVariants.{Truncated}
use Rattle.dispatch_room_serving.specs.declared.list_places.ListPlace.{ListPlace}

-- What stands at the place of a list that had so many bytes: another file, or the list, which was
-- truncated if it has fewer.
abbrev pub finding_of : Bool → ℕ → ℕ → Finding
finding_of false len bytes = Elsewhere
finding_of true len bytes = if nat_lt len bytes then Truncated else There

-- whether a look found the list moved or truncated, where one is kept
abbrev pub has_left : Option ListPlace → Bool
has_left None = false
has_left (Some place) = place.has_left
