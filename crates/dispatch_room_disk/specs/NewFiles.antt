-- What becomes of the files in which an empty database is begun.
use Rattle.std.specs.Prelude.{◌≡◌, ◌⊎◌, ℕ}
use Rattle.sqlite.specs.Files.{image_of}
use Rattle.sqlite_disk.specs.declared.Disk.{Ghosts}
use Rattle.sqlite_disk.specs.declared.Files.{Files}
use Rattle.sqlite_pages.specs.PageMap.{PageMap}
use Rattle.sqlite_pool.specs.Opening.{IsBlankFile, IsNew}
use Rattle.sqlite_pool.specs.Stored.{Recovers}
use Rattle.sqlite_wal.specs.Files.{outcomes}
use Rattle.sqlite_wal.specs.Recovery.{Image}

-- how many bytes a small page has
abbrev pub small_page : ℕ
small_page = 512

-- no database was begun in the files
abbrev pub IsBlankRoom : Image → Type 0
IsBlankRoom image = IsBlankFile small_page image

-- the files stand for an empty database with small pages
abbrev pub IsEmptyRoom : Image → Type 0
IsEmptyRoom image = (pages : PageMap) × Recovers small_page image pages × IsNew small_page pages

-- where there was no database, a stop leaves an empty one from then on
abbrev pub IsBegun : {D : Type 0} → Ghosts D → Files D → Files D → Type 0
IsBegun disk old new =
    IsBlankRoom (image_of disk old)
    → (left : Image) → outcomes disk new.log new.db left → IsEmptyRoom left

-- A database that was there stays as it was, and a stop leaves of it what it would have left
-- before. Where there was none, a stop leaves that, or still none, or an empty one.
pub record IsSpared {D : Type 0} (disk : Ghosts D) (old new : Files D) : Type 0 where
  pub same : ¬ IsBlankRoom (image_of disk old) → image_of disk new ≡ image_of disk old
  pub still : ¬ IsBlankRoom (image_of disk old)
      → (left : Image) → outcomes disk new.log new.db left → outcomes disk old.log old.db left
  pub most : (left : Image) → outcomes disk new.log new.db left
      → outcomes disk old.log old.db left ⊎ (IsBlankRoom left ⊎ IsEmptyRoom left)
