-- The list that a room's service keeps over all its starts, and that it can be replayed.
use Rattle.std.specs.Prelude.{◌≡◌, ◌⊎◌, ◌≤◌, ℕ, List, [], ◌∷◌, ◌++◌, length, All, Bool, MatchResult}
use Rattle.std.specs.Prelude.{None, Result, true, Some}
use Rattle.std.specs.List.{flat_map}
use Rattle.jiff.specs.Placed.{IsPosixZone}
use Rattle.sqlite.specs.Held.{Held, state}
use Rattle.sqlite_trees.specs.declared.store.Store.{Ghosts}
use Rattle.room_types.specs.declared.fleet.Terminal.{Terminal}
use Rattle.room_model.specs.Room.{Room}
use Rattle.room_model.specs.Digests.{DigitsOf, digits_of}
use Rattle.room_model.specs.Rooms.{machine}
use Rattle.room_model.specs.declared.digests.Version.TheVariants.{Second}
use Rattle.room_http.specs.Dialogues.{IsFront, IsReplyTo, Timed}
use Rattle.room_http_time.specs.Days.{zone_of}
use Rattle.room_http.specs.Settings.{IsSetting}
use Rattle.room_http.specs.declared.settings.HttpSettings.{HttpSettings}
use Rattle.room_store.specs.StoredRoom.{IsRoom}
use Rattle.room_store.specs.declared.store.Store.{Store}
use Rattle.room_store_file.specs.DigestTexts.{digest_of}
use Rattle.room_tables.specs.RoomsInTables.{Configuration, Stands}
use Rattle.dispatch_room_exit.specs.declared.exit_status.Done.{Done}
use Rattle.dispatch_room_exit.specs.declared.exit_status.Failure.{Failure}
use Rattle.dispatch_room_journal.specs.WholeEntries.{IsCutTo}
use Rattle.dispatch_room_journal.specs.Entries.{IsEntry, texts_of}
use Rattle.dispatch_room_journal.specs.JournalRecords.{answer_text, message_text, room_text}
use Rattle.dispatch_room_journal.specs.ReplayLaws.{IsExcused, answers_to_messages}
use Rattle.dispatch_room_journal.specs.Replays.{IsReplay, Replays}
use Rattle.dispatch_room_journal.specs.declared.replay_faults.Stopped.{Stopped}
use Rattle.dispatch_room_journal.specs.declared.replayed_journal.Replayed.{Replayed}
use Rattle.dispatch_room_journal.specs.ReplayedTurns.{IsBegun, IsReplayed, IsTurn, Turn, answers_of}
use Rattle.dispatch_room_journal.specs.ReplayedTurns.{ends_open, entries_of}
use Rattle.dispatch_room_serving.specs.Connections.{Conversation, Service}
use Rattle.dispatch_room_serving.specs.ServedRoom.{IsHead, ServesRoom}
use Rattle.dispatch_room_serving.specs.Starts.{AreStarts, IsStart, IsTrusted, OfLast, Start}
use Rattle.dispatch_room_serving.specs.Starts.{connections, left_by}
use Rattle.room_tables_schema.specs.FileConnections.{IsClean}

-- what stands in the list as a start opens it, which are whole records, and at the end of the start
pub record Part : Type 0 where
  pub before : List ℕ
  pub after : List ℕ

-- the answers that were given on these connections, one after another, and after those of each at
-- most one that was not written, or not wholly
abbrev pub AreGiven : {S : Type 0} → List (Conversation S) → List (List ℕ) → Type 0
AreGiven [] answers = answers ≡ []
AreGiven (c ∷ cs) answers = (more rest : List (List ℕ))
    × (answers ≡ answers_to_messages c.course.outs c.course.answers ++ (more ++ rest))
    × (length more ≤ 1) × AreGiven cs rest

module _ {S : Type 0} (g : Ghosts S) where
  -- The start kept its part of the list behind what stood there: the head of the room that was
  -- opened, and then what is kept of each connection; or, where nobody was heard, some first bytes
  -- of the head, or nothing.
  pub record IsPartOf (s : Start S) (part : Part) : Type 0 where
    pub front : List ℕ
    pub begun : ((text : List ℕ) × IsHead g true room_text s.opened s.first.stage.store text
        × ((front ≡ text) ⊎ ((s.calls ≡ []) × IsFront front text)))
        ⊎ ((s.calls ≡ []) × (front ≡ []))
    pub first : s.first.stage.kept ≡ Some (part.before ++ front)
    pub last : s.last.stage.kept ≡ Some part.after

  -- The starts kept these parts, each behind the whole records of the one before. From such records
  -- the list came to these.
  abbrev pub AreParts : List (Start S) → List Part → List ℕ → List ℕ → Type 0
  AreParts [] [] from list = list ≡ from
  AreParts [] (part ∷ parts) from list = ⊥
  AreParts (s ∷ starts) [] from list = ⊥
  AreParts (s ∷ starts) (part ∷ parts) from list = (part.before ≡ from) × IsPartOf s part
      × ((whole : List ℕ) × IsCutTo part.after whole × AreParts starts parts whole list)

  -- the digests of rooms in the zone of a start, in digits
  abbrev pub digits_at : Start S → DigitsOf
  digits_at s = digits_of digest_of s.opened.plan.zone

  module _ (terminals : List Terminal) where
    -- No message leads to the room that was opened from another one with the same digest: so the
    -- digest shows whether a room is the one before a message or after it.
    abbrev pub HasNoTwin : Start S → Type 0
    HasNoTwin s = (x : Timed) (room other : Room) (bytes : List ℕ)
        → IsRoom g s.opened terminals other
        → IsReplyTo machine s.setting terminals room x other bytes
        → digits_at s Second terminals room ≡ digits_at s Second terminals other → room ≡ other

    -- The list can be replayed in this setting, from this room: by turns of its entries, with the
    -- answers that were given. It leads to the room for which the store stands at the end of the
    -- last start; or to the one from which a message leads there that has no status at the end.
    pub record IsListOf (setting : HttpSettings) (digits : DigitsOf) (starts : List (Start S))
        (room : Room) (list : List ℕ) : Type 0 where
      pub turns : List Turn
      pub are_turns : All IsTurn turns
      pub replayed : All IsReplayed turns
      pub entries : All IsEntry (entries_of turns)
      pub begun : (turns ≡ []) ⊎ IsBegun turns
      pub text : texts_of (entries_of turns) ≡ list
      pub after : Room
      pub replay : IsReplay machine setting digits terminals room turns after
      pub given : AreGiven (flat_map connections starts) (answers_of turns)
      pub leads : OfLast (λ s. IsRoom g (left_by s) terminals after
          ⊎ ((ends_open turns ≡ true) × (x : Timed) × (other : Room) × (bytes : List ℕ)
          × IsReplyTo machine setting terminals after x other bytes
          × IsRoom g (left_by s) terminals other)) starts

  -- What serving gives once it has ended, where a list is kept, is a start that kept its part.
  abbrev pub ServedKeepsItsPart : Type 0
  ServedKeepsItsPart =
      (found : Held S) (old new : Store S → Service S) (renews : Bool) (most : ℕ)
      (worked : Result Done Failure × Held S) (part : Part) (history : Bool)
      → ((store : Store S) → ((old store).stage.store ≡ store)
      × ((old store).stage.kept ≡ Some part.before))
      → ((store : Store S) → ((new store).stage.store ≡ store)
      × ((new store).stage.kept ≡ Some part.after))
      → ServesRoom g true room_text message_text answer_text history found old new renews most
      worked
      → (s : Start S) × IsStart g message_text answer_text s × (s.found ≡ found)
      × ((left_by s).conn ≡ worked.1) × (s.setting.history ≡ history) × IsPartOf s part

  -- Whatever starts there were, from the room that the first of them found, with a list that was
  -- empty: it can be replayed from that room.
  abbrev pub ListIsTheRoom : Type 0
  ListIsTheRoom =
      (first : Start S) (more : List (Start S)) (parts : List Part) (list : List ℕ)
      (config : Configuration)
      (room : Room)
      → AreStarts g message_text answer_text (first ∷ more) → All (IsTrusted g) (first ∷ more)
      → Stands (state g first.found).now.trees config room
      → All (HasNoTwin config.terminals) (first ∷ more) → AreParts (first ∷ more) parts [] list
      → IsListOf config.terminals first.setting (digits_at first) (first ∷ more) room list

-- Whoever replays such a list to a room that is equal to the first, in whatever storage, in the
-- same setting: it comes to the room to which the list leads, and reports it. It stops only where a
-- read failed, memory or storage failed, or the list has more turns than are counted.
abbrev pub ListIsReplayed : {S T : Type 0} → Ghosts S → Ghosts T → Type 0
ListIsReplayed {S} {T} g h =
    (terminals : List Terminal) (here there : HttpSettings) (text : List ℕ) (starts : List (Start S))
    (room : Room) (list : List ℕ)
    → IsSetting text there.history here → IsPosixZone text (zone_of there.zone)
    → (of : IsListOf g terminals here (digits_of digest_of text) starts room list)
    → (old new : Store T) (read_failed : Bool) (result : Result Replayed Stopped)
    → old.plan.zone ≡ text → IsClean h new.conn → IsRoom h old terminals room
    → Replays machine there (digits_of digest_of old.plan.zone) (IsClean h new.conn)
    (IsRoom h old) (IsRoom h new) (Some list) None read_failed result
    → MatchResult result
    (λ done. IsRoom h new terminals of.after × (done.is_open ≡ ends_open of.turns))
    (λ stopped. IsExcused read_failed of.turns stopped.fault)
