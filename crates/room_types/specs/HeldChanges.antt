-- Where the changes of a decision lie.
use Rattle.std.specs.Prelude.{List}
use Rattle.room_types.specs.declared.changes.Change.{Change}
use Rattle.room_types.specs.declared.changes.HeldChanges.{HeldChanges}
use Rattle.room_types.specs.declared.changes.HeldChanges.TheVariants.{Few, Many}

-- the changes, in their order
abbrev pub changes_in : HeldChanges → List Change
changes_in (Few few) = few
changes_in (Many many) = many
