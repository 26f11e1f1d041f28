-- The steps by which a room's file is opened.
use Rattle.std.specs.Prelude.{ℕ, List, [], ◌∷◌}
use Rattle.dispatch_room_disk.specs.declared.room_files.RoomFile.{RoomFile}
use Rattle.dispatch_room_disk.specs.declared.room_files.RoomFile.TheVariants.{Kept, New, Old}

-- A step at a path: it was found that a database was begun in the file; or a file was made where
-- none was; or a database was begun in it where there was none; or the file was opened.
pub data Step : Type 0 where
  found : List ℕ → Step
  made : List ℕ → Step
  begun : List ℕ → Step
  opened : List ℕ → Step

-- A file that has to be there is not made, and not opened before a database was found in it.
abbrev pub opening : RoomFile → List Step
opening (Kept path) = found path.now ∷ opened path.now ∷ []
opening (Old path) = found path.now ∷ opened path.now ∷ []
opening (New path) = made path.now ∷ begun path.now ∷ opened path.now ∷ []
