-- The digest that changes lead to.
use Rattle.std.specs.Prelude.{List}
use Rattle.sqlite_trees.specs.Tree.{Trees}
use Rattle.room_types.specs.declared.changes.Change.{Change}
use Rattle.room_model.specs.Room.{Room, apply}
use Rattle.room_model.specs.Digests.{IsHeadOf, digits_of}
use Rattle.room_model.specs.declared.digests.StartDigest.{StartDigest}
use Rattle.room_tables.specs.RoomsInTables.{Configuration, Stands}
use Rattle.room_store_file.specs.DigestTexts.{digest_of}

-- the head is of the room after these changes
abbrev pub IsHeadAfter : List Change → Configuration → Room → StartDigest → Type 0
IsHeadAfter changes config room head =
    IsHeadOf (digits_of digest_of config.zone) head config.terminals (apply room changes)

-- from the room of the first tables the changes lead to that of the others, of which the head is
abbrev pub Reaches : List Change → StartDigest → Trees → Trees → Type 0
Reaches changes head from db =
    (config : Configuration) (room : Room) → Stands from config room
    → Stands db config (apply room changes) × IsHeadAfter changes config room head

-- from the room of these tables the changes lead to one of which the head is not
abbrev pub Misses : List Change → StartDigest → Trees → Type 0
Misses changes head from =
    (config : Configuration) (room : Room) → Stands from config room
    → ¬ (IsHeadAfter changes config room head)
