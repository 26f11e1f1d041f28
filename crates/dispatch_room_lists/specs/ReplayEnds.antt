-- What a replay ends with.
use Rattle.std.specs.Prelude.{Bool, Err, List, Ok, Option, Result, codes, decimal, false, true, ℕ}
use Rattle.std.specs.Prelude.{◌&&◌, ◌++◌, ◌-◌, ◌≡◌}
use Rattle.std.specs.Io.KnownBytes.{Appends}
use Rattle.sqlite_trees.specs.declared.store.Store.{Ghosts}
use Rattle.room_store.specs.declared.store.Store.{Store}
use Rattle.dispatch_room_exit.specs.declared.exit_status.Done.{Done}
use Rattle.dispatch_room_exit.specs.declared.exit_status.Done.TheVariants.{Whole}
use Rattle.dispatch_room_exit.specs.declared.exit_status.Failure.{Failure}
use Rattle.dispatch_room_exit.specs.declared.exit_status.Failure.TheVariants.{Network, Record}
use Rattle.dispatch_room_cli.specs.declared.tasks.Replay.{Replay as How}
use Rattle.dispatch_room_lists.specs.RoomDigests.{PrintsDigest}

module _ (before after : Option (List ℕ)) where
  -- how many messages were replayed before this record is reported
  abbrev pub PrintsBefore : ℕ → Result Done Failure → Type 0
  PrintsBefore number (Ok done) = (done ≡ Whole)
      × Appends before after (codes "replayed " ++ (decimal (number - 1) ++ codes "\n"))
  PrintsBefore number (Err fault) = fault ≡ Network

  -- If the list may be cut off, a record that can't be read is taken for the one that was, and is
  -- left out. Otherwise the result stays the same, and nothing is printed.
  abbrev pub IsLeftOut : Bool → Result Done Failure → Result Done Failure → Type 0
  IsLeftOut true (Err (Record number)) done = PrintsBefore number done
  IsLeftOut may_be_cut came done = (done ≡ came) × (after ≡ before)

module _ {S : Type 0} (g : Ghosts S) (old new : Store S) where
  -- The digest of the room is printed if it is wanted and all before succeeded.
  abbrev pub EndsWithDigest : Bool → Option (List ℕ) → Option (List ℕ) → Result Done Failure
      → Result Done Failure → Type 0
  EndsWithDigest true before after (Ok _) done = PrintsDigest g old new before after done
  EndsWithDigest wanted before after ended done =
      (done ≡ ended) × (after ≡ before) × (new ≡ old)

  -- How a replay ends that came to this. If each message is answered, nothing more is done.
  -- Otherwise a record that is cut off is left out if it may be, and the digest is printed if it is
  -- wanted.
  abbrev pub ConcludesBy : Bool → Bool → Bool → Result Done Failure → Option (List ℕ)
      → Option (List ℕ) → Result Done Failure → Type 0
  ConcludesBy true may_be_cut wanted came before after done =
      (done ≡ came) × (after ≡ before) × (new ≡ old)
  ConcludesBy false may_be_cut wanted came before after done =
      (between : Option (List ℕ)) × (ended : Result Done Failure)
      × IsLeftOut before between may_be_cut came ended
      × EndsWithDigest wanted between after ended done

  -- a list may be cut off where it may be open, and its end was found
  abbrev pub Concludes : How → Result Done Failure → Bool → Option (List ℕ) → Option (List ℕ)
      → Result Done Failure → Type 0
  Concludes how came has_ended before after done =
      ConcludesBy how.answers (how.open && has_ended) how.digest came before after done
