-- The room of a database, opened and served.
use Rattle.std.specs.Prelude.{◌≡◌, ◌⊎◌, ℕ, List, [], ◌∷◌, if◌then◌else◌, Bool, true, Option, Result}
use Rattle.std.specs.Prelude.{Ok, Err}
use Rattle.std.specs.Io.KnownBytes.{Appends}
use Rattle.sqlite.specs.Held.{Held}
use Rattle.sqlite_trees.specs.declared.store.Store.{Ghosts}
use Rattle.room_types.specs.declared.fleet.Terminal.{Terminal}
use Rattle.room_model.specs.Room.{Room}
use Rattle.room_http.specs.Dialogues.{IsFront}
use Rattle.room_http.specs.Settings.{IsSetting}
use Rattle.room_http.specs.declared.settings.HttpSettings.{HttpSettings}
use Rattle.room_model.specs.Digests.{IsHeadOf, digits_of}
use Rattle.room_model.specs.declared.digests.StartDigest.{StartDigest}
use Rattle.room_model.specs.declared.digests.Version.TheVariants.{Second}
use Rattle.room_store.specs.StoredRoom.{IsKept, IsRoom, LeavesOneOf}
use Rattle.room_store.specs.declared.store.Store.{Store}
use Rattle.room_store_file.specs.DigestTexts.{digest_of}
use Rattle.dispatch_room_exit.specs.declared.exit_status.Done.{Done}
use Rattle.dispatch_room_exit.specs.declared.exit_status.Failure.{Failure}
use Rattle.dispatch_room_exit.specs.declared.exit_status.Failure.TheVariants.{Journal, Memory}
use Rattle.dispatch_room_exit.specs.declared.exit_status.Failure.TheVariants.{Network, Storage}
use Rattle.dispatch_room_tasks.specs.OpenedRoom.{OpensRoom}
use Rattle.dispatch_room_serving.specs.Connections.{Serves, Service}
use Rattle.room_tables_schema.specs.FileConnections.{IsClean}

-- Why an observer was not given the digest of the room's rows: it wants it, and the rows can't be
-- read, or it could not keep it.
abbrev pub IsUnannounced : Bool → Failure → Type 0
IsUnannounced wants fault = (wants ≡ true)
    × ((fault ≡ Journal) ⊎ (fault ≡ Memory) ⊎ (fault ≡ Storage))

-- why serving does not begin: that, or memory fails, or the callers can't begin
abbrev pub IsUnbegun : Bool → Failure → Type 0
IsUnbegun wants fault = IsUnannounced wants fault ⊎ (fault ≡ Memory) ⊎ (fault ≡ Network)

module _ {S : Type 0} (g : Ghosts S) where
  -- The store was looked at, and stands for what it stood for. Where that was kept, a stop leaves
  -- it.
  pub record Looks (old new : Store S) : Type 0 where
    pub zone : new.plan.zone ≡ old.plan.zone
    pub trusted : IsClean g new.conn → IsClean g old.conn
    pub same : IsClean g new.conn → (terminals : List Terminal) (room : Room)
        → IsRoom g old terminals room → IsRoom g new terminals room
    pub left : IsClean g new.conn → IsKept g old
        → (terminals : List Terminal) (room : Room) → IsRoom g old terminals room
        → LeavesOneOf g new terminals (room ∷ [])

  -- and what was kept is kept
  pub record LooksOnly (old new : Store S) : Type 0 where
    pub looks : Looks old new
    pub kept : IsClean g new.conn → IsKept g old → IsKept g new

  -- the head gives the digest of all rows of the room that a store stood for
  abbrev pub IsDigestOf : Store S → Store S → StartDigest → Type 0
  IsDigestOf old new head = (head.version ≡ Second)
      × (IsClean g new.conn → (terminals : List Terminal) (room : Room)
      → IsRoom g old terminals room
      → IsHeadOf (digits_of digest_of old.plan.zone) head terminals room)

  -- where an observer wants the digest of the room's rows, or doesn't, and what it keeps of it
  module _ (wants : Bool) (begun_text : StartDigest → List ℕ) where
    -- what it keeps where serving begins: where it doesn't want the digest, nothing
    pub record IsHead (old new : Store S) (text : List ℕ) : Type 0 where
      pub head : StartDigest
      pub known : wants ≡ true → IsDigestOf old new head
      pub text_is : text ≡ if wants then begun_text head else []

    -- it keeps that; or, where serving doesn't begin, nothing or some first bytes of it
    abbrev pub KeepsHead : Store S → Store S → Option (List ℕ) → Option (List ℕ)
        → Result (Unit {0}) Failure → Type 0
    KeepsHead old new kept keeps (Ok stated) =
        (text : List ℕ) × IsHead old new text × Appends kept keeps text
    KeepsHead old new kept keeps (Err fault) = (keeps ≡ kept)
        ⊎ ((text front : List ℕ) × IsHead old new text × IsFront front text
        × Appends kept keeps front)

    -- the observer was given where the room begins, or serving does not begin
    abbrev pub Announces : Store S → Store S → Option (List ℕ) → Option (List ℕ)
        → Result (Unit {0}) Failure → Type 0
    Announces old new kept keeps (Ok stated) =
        LooksOnly old new × KeepsHead old new kept keeps (Ok stated)
    Announces old new kept keeps (Err fault) =
        IsUnannounced wants fault × Looks old new × KeepsHead old new kept keeps (Err fault)

    -- serving did not begin, and nothing was heard
    pub record IsUnheard (old new : Service S) (result : Result Done Failure) : Type 0 where
      pub fault : Failure
      pub why : IsUnbegun wants fault
      pub result_is : result ≡ Err fault
      -- the journal is at fault only where something could not be kept
      pub failed : fault ≡ Journal → new.stage.has_failed ≡ true
      pub unheard : (new.heard ≡ old.heard) × (new.written ≡ old.written)
          × (new.stage.given ≡ old.stage.given)
      pub looks : Looks old.stage.store new.stage.store
      pub head : KeepsHead old.stage.store new.stage.store old.stage.kept new.stage.kept (Err fault)

    module _ (came_text : ℕ → List ℕ → List ℕ) (response_text : List ℕ → List ℕ) where
      -- so many calls were served, from the store that was looked at
      pub record ServesFrom (setting : HttpSettings) (old new : Service S) (renews : Bool) (most : ℕ)
          (result : Result Done Failure) : Type 0 where
        pub store : Store S
        pub kept : Option (List ℕ)
        pub looks : LooksOnly old.stage.store store
        pub head : KeepsHead old.stage.store store old.stage.kept kept (Ok tt)
        pub serves : Serves g setting came_text response_text
            (record {
              heard = old.heard;
              written = old.written;
              stage =
                  record {
                    given = old.stage.given;
                    kept = kept;
                    has_failed = old.stage.has_failed;
                    store = store;
                  };
            }) new renews most result

      -- serving did not begin, or so many calls were served
      abbrev pub Attends : HttpSettings → Service S → Service S → Bool → ℕ → Result Done Failure
          → Type 0
      Attends setting old new renews most result =
          IsUnheard old new result ⊎ ServesFrom setting old new renews most result

      -- The room that the tables of a connection stood for was opened and attended to, in the zone
      -- of its plan, with the paths of history or without.
      pub record ServesRoom (history : Bool) (conn : Held S) (old new : Store S → Service S)
          (renews : Bool) (most : ℕ) (worked : Result Done Failure × Held S) : Type 0 where
        -- the store as it was opened, and as it was closed
        pub first : Store S
        pub last : Store S
        pub setting : HttpSettings
        pub opens : IsClean g first.conn → OpensRoom g conn first
        pub is_set : IsSetting first.plan.zone history setting
        pub attended : Attends setting (old first) (new last) renews most worked.0
        pub closed : worked.1 ≡ last.conn
