-- A room that is served in parts, one after another: each begins in a new list, at the room that
-- the one before left in the same database.
use Rattle.std.specs.Prelude.{◌≡◌, ◌⊎◌, ℕ, List, [], ◌∷◌, Bool, true, false, IfSome, IsOk, Option}
use Rattle.std.specs.Prelude.{Result, None, Ok, Err, Some, ◌≢◌, ◌&&◌, is_some, length}
use Rattle.sqlite.specs.Held.{Held}
use Rattle.sqlite_trees.specs.declared.store.Store.{Ghosts}
use Rattle.dispatch_room_exit.specs.declared.exit_status.Done.{Done}
use Rattle.dispatch_room_exit.specs.declared.exit_status.Failure.{Failure}
use Rattle.dispatch_room_exit.specs.declared.exit_status.Failure.TheVariants as failure
use Rattle.dispatch_room_journal.specs.JournalRecords.{answer_text, message_text, room_text}
use Rattle.dispatch_room_journal.specs.declared.list_ends.ListEnd.{ListEnd}
use Rattle.dispatch_room_serving.specs.Callers.{Opening}
use Rattle.dispatch_room_serving.specs.Journals.{EndsAfter, failed_by, held_by, held_in, puts_end}
use Rattle.dispatch_room_serving.specs.Journals.{shown_in}
use Rattle.dispatch_room_serving.specs.ServedRoom.{ServesRoom}
use Rattle.dispatch_room_serving.specs.declared.journal_files.SystemFile.{SystemFile}
use Rattle.dispatch_room_serving.specs.declared.journal_files.WrittenFile.{WrittenFile}
use Rattle.dispatch_room_serving.specs.declared.journals.Journal.{Journal}
use Rattle.dispatch_room_serving.specs.declared.list_places.Finding.{Finding}
use Rattle.dispatch_room_serving.specs.declared.list_places.Finding.TheVariants.{There, Truncated}
use Rattle.dispatch_room_serving.specs.declared.served_room.ServiceLimits.{ServiceLimits}
use Rattle.dispatch_room_tasks.specs.OpenedRoom.{IsUnopened}
use Rattle.dispatch_room_disk.specs.CommandSteps.{Gives, Quietly, Then}
use Rattle.dispatch_room_cli.specs.declared.tasks.Journal.{Journal as Asked}
use Rattle.dispatch_room_tcp.specs.Hosts.{Command, Effect, OpensList}

-- where a service stands before and after a part: the database, the calls that came, what they were
-- written, and the moments that were given
pub record Interval (S : Type 0) : Type 0 where
  pub conn : Held S
  pub heard : Option (List (Option Opening))
  pub written : Option (List (Option (List ℕ)))
  pub given : Option (List ℕ)

-- the same with what was done with the machine, where that is known
pub record Standing (S X : Type 0) : Type 0 where
  pub interval : Interval S
  pub done : Option (List X)

-- A part ends as serving ended; or serving ended well, but no end could be put in the list.
abbrev pub EndsAs : Bool → Result Done Failure → Result Done Failure → Type 0
EndsAs has_journal served result = (result ≡ served)
    ⊎ (IsOk served × (has_journal ≡ true) × (result ≡ Err failure.Journal))

-- How a part is observed: whether there is a journal, and then whether each message lasts before
-- the room acts on it, whether questions are kept too, and what is known of what its file holds.
pub record Watch (F : Type 0) : Type 0 where
  pub has_journal : Bool
  pub is_synced : Bool
  pub keeps_questions : Bool
  pub contents : F → Option (List ℕ)

-- the journal of a part, in the file of a list
abbrev pub PartJournal : Type 0 → Type 0
PartJournal F = Journal (WrittenFile (SystemFile F) × ListEnd)

-- where there is a list, a journal goes on in its file where it ends
abbrev pub GoesOn : {F : Type 0} → Option (F × ListEnd) → PartJournal F → Type 0
GoesOn list journal =
    IfSome list (λ list. (journal.out.0.file.file ≡ list.0) × (journal.out.1 ≡ list.1))

-- the journal is as `watch` says, for a part that has this list or none
pub record IsJournalOf {F : Type 0} (watch : Watch F) (list : Option (F × ListEnd))
    (journal : Option (PartJournal F)) : Type 0 where
  pub kept : is_some journal ≡ watch.has_journal
  pub synced : IfSome journal (λ it. it.is_synced ≡ watch.is_synced)
  pub of : IfSome journal (λ it. it.keeps_questions ≡ watch.keeps_questions)
  pub goes_on : IfSome journal (GoesOn list)

module _ {S F : Type 0} (g : Ghosts S) (watch : Watch F) (limits : ServiceLimits) where
  -- A part was served, which is a start of the room's service, with a journal in this list or none,
  -- and ended so. If serving ended well, an end is put in the journal then, and not before, unless
  -- its list was truncated. No contract can say what a look finds at the place of the list; but
  -- there is a look only where a part may end before all calls came.
  pub record IsPart (list : Option (F × ListEnd)) (old new : Interval S)
      (result : Result Done Failure) : Type 0 where
    -- the journal as the part begins, as serving ended, and as the part ended
    pub journal : Option (PartJournal F)
    pub later : Option (PartJournal F)
    pub last : Option (PartJournal F)
    pub observed : IsJournalOf watch list journal
    pub served : Result Done Failure
    pub ends : EndsAs watch.has_journal served result
    -- whether a look had found its list moved or truncated as serving ended: only then may that
    -- have been before all calls came
    pub has_left : Bool
    -- what the last look found: where a part may not end before all calls came, nothing is looked
    -- at, so its list counts as there, and is given its end
    pub found : Finding
    pub once : limits.renews ≡ false → found ≡ There
    pub ended : watch.has_journal ≡ true → found ≢ Truncated
        → EndsAfter (puts_end (shown_in watch.contents)) later last served result
    pub cut : found ≡ Truncated → (result ≡ served) × (last ≡ later)
    pub is : ServesRoom g watch.has_journal room_text message_text answer_text limits.history
        old.conn (λ store. record {
          heard = old.heard;
          written = old.written;
          stage = record {
            given = old.given;
            kept = held_by (held_in (shown_in watch.contents)) journal;
            has_failed = false;
            store = store;
          };
        })
        (λ store. record {
          heard = new.heard;
          written = new.written;
          stage = record {
            given = new.given;
            kept = held_by (held_in (shown_in watch.contents)) later;
            has_failed = failed_by later;
            store = store;
          };
        })
        (limits.renews && has_left) limits.connections (served, new.conn)

-- where a service stands on such a machine
abbrev pub Standpoint : Type 0 → Type 0 → Type 0
Standpoint F S = Standing S (Effect F)

-- how a room is served: how its parts are observed, within which limits, with which list the first of
-- them begins, and for which journal a list is opened for each further one
pub record Manner (F : Type 0) : Type 1 where
  pub watch : Watch F
  pub limits : ServiceLimits
  pub first : Option (F × ListEnd)
  pub journal : Option Asked

module _ {F : Type 0} where
  -- the list of a journal is opened, if there is one
  abbrev pub OpensFor : Option Asked → Command F (Option (F × ListEnd))
  OpensFor None = Gives None
  OpensFor (Some journal) = Then (OpensList journal.list.now) (λ list. Gives (Some list))

  -- what was done for the list of a part, after these: nothing for that of the first, which was
  -- opened before
  abbrev pub HasList : {S : Type 0} → Manner F → List (Standing S (Effect F))
      → Option (List (Effect F)) → Option (List (Effect F)) → Option (F × ListEnd) → Type 0
  HasList manner [] old new list = (list ≡ manner.first) × (new ≡ old)
  HasList manner (at ∷ earlier) old new list =
      Quietly (OpensFor manner.journal) old new (Ok list)

  module _ {S : Type 0} (g : Ghosts S) (manner : Manner F) where
    -- these parts ended well, the last of them first: each began where the one before ended
    abbrev pub AreParts : List (Standpoint F S) → Standpoint F S → Standpoint F S → Type 0
    AreParts [] first now = now ≡ first
    AreParts (at ∷ earlier) first now =
        AreParts earlier first at × (list : Option (F × ListEnd))
        × HasList manner earlier at.done now.done list
        × (done : Done) × IsPart g manner.watch manner.limits list at.interval
        now.interval (Ok done)

    -- before a part there were others only where a part may end before all calls came
    pub record PartsBefore (first at : Standpoint F S) : Type 0 where
      pub earlier : List (Standpoint F S)
      pub are : AreParts earlier first at
      pub only : manner.limits.renews ≡ false → earlier ≡ []

    -- a part ended so, after others
    pub record EndsPart (first last : Standpoint F S) (result : Result Done Failure) : Type 0 where
      pub at : Standpoint F S
      pub before : PartsBefore first at
      pub list : Option (F × ListEnd)
      pub listed : HasList manner before.earlier at.done last.done list
      pub is : IsPart g manner.watch manner.limits list at.interval last.interval result

    -- The last part ended so. Where a part may end before all calls came, another follows each that
    -- ended well: so none that did is the last, but the last that a number of 64 bits can count.
    pub record EndsLast (first last : Standpoint F S) (result : Result Done Failure) : Type 0 where
      pub part : EndsPart first last result
      pub followed : manner.limits.renews ≡ true → IsOk result
          → length part.before.earlier ≡ 18446744073709551614

    -- no list was opened for a further part
    pub record HasNoList (first last : Standpoint F S) (result : Result Done Failure) : Type 0 where
      pub renews : manner.limits.renews ≡ true
      pub at : Standpoint F S
      pub before : PartsBefore first at
      pub fault : Failure
      pub result_is : result ≡ Err fault
      pub why : Quietly (OpensFor manner.journal) at.done last.done (Err fault)
      pub same : last.interval ≡ at.interval

    -- the room was served in parts, and so that ended
    abbrev pub ServesParts : Standpoint F S → Standpoint F S → Result Done Failure → Type 0
    ServesParts first last result = EndsLast first last result ⊎ HasNoList first last result

    -- no room was opened for a part, once this was done
    pub record OpensNoPart (first : Standpoint F S) (done : Option (List (Effect F))) (fault : Failure)
        : Type 0 where
      pub at : Standpoint F S
      pub before : PartsBefore first at
      pub list : Option (F × ListEnd)
      pub listed : HasList manner before.earlier at.done done list
      pub unopened : IsUnopened g at.interval.conn fault
