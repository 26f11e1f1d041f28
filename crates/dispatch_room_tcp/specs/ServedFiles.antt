-- The room of a file, served to those who call.
use Rattle.std.specs.Prelude.{Bool, Err, IfOk, List, MatchResult, None, Ok, Option, Result, Some}
use Rattle.std.specs.Prelude.{false, if◌then◌else◌, is_some, true, ℕ, ◌&&◌, ◌*◌, ◌==◌, ◌≡◌, ◌⊎◌}
use Rattle.std.specs.Duration.{as_nanos}
use Rattle.sqlite.specs.Files.{over_files}
use Rattle.sqlite.specs.Held.{Held}
use Rattle.sqlite_disk.specs.declared.Disk.{Ghosts as Disk}
use Rattle.sqlite_trees.specs.declared.store.Store.{Ghosts}
use Rattle.dispatch_room_disk.specs.CommandSteps.{Gives, Stand, Then}
use Rattle.dispatch_room_disk.specs.RoomFiles.{there}
use Rattle.dispatch_room_exit.specs.declared.exit_status.Done.{Done}
use Rattle.dispatch_room_exit.specs.declared.exit_status.Failure.{Failure}
use Rattle.dispatch_room_exit.specs.declared.exit_status.Failure.TheVariants.{Network}
use Rattle.dispatch_room_cli.specs.declared.tasks.Journal.{Journal}
use Rattle.dispatch_room_cli.specs.declared.tasks.Service.{Service}
use Rattle.dispatch_room_journal.specs.declared.list_ends.ListEnd.{ListEnd}
use Rattle.dispatch_room_tcp.specs.Hosts.{Command, Effect, Ends, Opens}
use Rattle.dispatch_room_tcp.specs.ServedParts.{Manner, OpensFor, OpensNoPart, ServesParts}
use Rattle.dispatch_room_tcp.specs.ServedParts.{Standing, Watch}
use Rattle.dispatch_room_tcp.specs.declared.serve.Served.{Served}
use Rattle.dispatch_room_serving.specs.Callers.{Opening, PrintsStart}
use Rattle.dispatch_room_serving.specs.declared.served_room.ServiceLimits.{ServiceLimits}
use Rattle.dispatch_room_tcp.specs.declared.listeners.TcpAddress.{TcpAddress}
use Rattle.dispatch_room_tcp.specs.SystemAcceptors.{SystemAcceptor}

-- a service that goes on until it is stopped
abbrev pub is_endless : Service → Bool
is_endless service = service.connections == 18446744073709551615

-- Within which limits a service serves its room. A part may end before all calls came if the service
-- goes on until it is stopped, and keeps a journal.
abbrev pub limits_of : Service → ServiceLimits
limits_of service = record {
  connections = service.connections;
  history = service.history;
  renews = is_endless service && is_some service.journal;
}

-- how serving ended
abbrev pub ended : {L : Type 0} → Result (Served L) Failure → Result Done Failure
ended (Ok served) = Ok served.done
ended (Err fault) = Err fault

-- Where a service stands, by what is known of its calls. Its moments are those of the machine's
-- clock, which are never known before.
abbrev pub stands_at : {S X : Type 0} → Option (List (Option Opening))
    → Option (List (Option (List ℕ))) → Held S → Option (List X) → Standing S X
stands_at heard written conn done = record {
  interval = record { conn = conn; heard = heard; written = written; given = None };
  done = done;
}

-- where it begins, by what listens for its calls
abbrev pub begins_at : {S L X : Type 0} → (L → Option (List (Option Opening)))
    → (L → Option (List (Option (List ℕ)))) → L → Held S → Option (List X) → Standing S X
begins_at heard written listener conn done =
    stands_at (heard listener) (written listener) conn done

-- What the output holds once serving ended so: that a room is served, which is printed as it begins
-- to listen, and nothing else. If serving failed: the same, or nothing, or that could not be
-- printed.
abbrev pub PrintsServing : {T : Type 0} → Bool → Option (List ℕ) → Option (List ℕ)
    → Result T Failure → Type 0
PrintsServing is_listening before after (Ok done) = PrintsStart is_listening before after
PrintsServing is_listening before after (Err fault) =
    (after ≡ before) ⊎ (PrintsStart is_listening before after
    ⊎ ((is_listening ≡ false) × (fault ≡ Network)))

module _ {S L F : Type 0} (heard : L → Option (List (Option Opening)))
    (written : L → Option (List (Option (List ℕ)))) (g : Ghosts S) where
  -- The room was served in this manner. What is known of the calls is what the listener knew of them
  -- before, and what it knows after if it is given back (`heard`, `written`).
  pub record IsServed (old new : Held S) (was is_now : Option (List (Effect F)))
      (manner : Manner F) (listener : L) (served : Result (Served L) Failure) : Type 0 where
    pub hears : Option (List (Option Opening))
    pub writes : Option (List (Option (List ℕ)))
    pub known : IfOk served (λ served. (hears ≡ heard served.listener)
        × (writes ≡ written served.listener))
    pub is : ServesParts g manner (begins_at heard written listener old was)
        (stands_at hears writes new is_now) (ended served)

  -- The room is served, and that is printed; or no room is opened for one of the parts, and that is
  -- printed at most.
  abbrev pub Serves : Bool → Manner F → L → Held S → Stand (Effect F) → Stand (Effect F)
      → Result (Result (Served L) Failure × Held S) Failure → Type 0
  Serves is_listening manner listener old before after worked = MatchResult worked
      (λ it. IsServed old it.1 before.done after.done manner listener it.0
      × PrintsServing is_listening before.printed after.printed (ended it.0))
      (λ fault. OpensNoPart g manner (begins_at heard written listener old before.done) after.done
      fault
      × ((after.printed ≡ before.printed)
      ⊎ PrintsStart is_listening before.printed after.printed))

-- whether each message lasts before the room acts on it: if there is a journal that says so
abbrev pub is_synced_by : Option Journal → Bool
is_synced_by None = false
is_synced_by (Some journal) = journal.is_synced

-- whether questions are kept in it: they are, unless there is a journal that leaves them out
abbrev pub keeps_questions_by : Option Journal → Bool
keeps_questions_by None = true
keeps_questions_by (Some journal) = journal.keeps_questions

-- how a service is observed, by what is known of what a list's file holds: whether it has a
-- journal, and which
abbrev pub watch_of : {F : Type 0} → (F → Option (List ℕ)) → Bool → Service → Watch F
watch_of contents has_journal service = record {
  has_journal = has_journal;
  is_synced = is_synced_by service.journal;
  keeps_questions = keeps_questions_by service.journal;
  contents = contents;
}

-- the acceptor of a service: where it listens, how many seconds a connection may be silent, and how
-- many a request and its answer have
abbrev pub IsAcceptorOf : Service → SystemAcceptor → Type 0
IsAcceptorOf service acceptor = (acceptor.address ≡ service.address)
    × (as_nanos acceptor.keep ≡ service.keep * 1_000_000_000)
    × (as_nanos acceptor.patience ≡ service.patience * 1_000_000_000)

-- the address of a service that serves so many connections: where it listens, how many milliseconds
-- it waits for the first byte of a message, and how many seconds a message and its answer have
abbrev pub IsAddressOf : Service → TcpAddress → Type 0
IsAddressOf service listener = (listener.address ≡ service.address)
    × (as_nanos listener.waits.idle ≡ service.idle * 1_000_000)
    × (as_nanos listener.waits.patience ≡ service.patience * 1_000_000_000)

-- how the room of a service is served that begins with this list or none, by what is known of what
-- a list's file holds
abbrev pub manner_of : {F : Type 0} → (F → Option (List ℕ)) → Service → Option (F × ListEnd)
    → Manner F
manner_of contents service first = record {
  watch = watch_of contents (is_some first) service;
  limits = limits_of service;
  first = first;
  journal = if is_some first then service.journal else None;
}

module _ {D F : Type 0} (disk : Disk D) (contents : F → Option (List ℕ)) where
  -- the room of a file is served to those who call where this listens
  abbrev pub IsServedAt : {L : Type 0} → (L → Option (List (Option Opening)))
      → (L → Option (List (Option (List ℕ)))) → Bool → Manner F → L → List ℕ
      → Command F Done
  IsServedAt heard written is_listening manner listener file =
      Then (Opens disk (there file))
      (λ conn. Then
      (Ends disk (there file) (Serves heard written over_files is_listening manner listener conn))
      (λ served. Gives served.done))

  -- The room of a file is served, with a journal in this list or none: at the acceptor of a
  -- service, where it goes on until it is stopped, or at its address to as many connections as was
  -- asked for, one after another.
  abbrev pub IsServedBy : Bool → Option (F × ListEnd) → List ℕ → Service → Command F Done
  IsServedBy true list file service = λ before after came.
      (acceptor : SystemAcceptor) × IsAcceptorOf service acceptor
      × IsServedAt (λ _. None) (λ _. None) false (manner_of contents service list) acceptor file
      before after came
  IsServedBy false list file service = λ before after came.
      (listener : TcpAddress) × IsAddressOf service listener
      × IsServedAt (λ _. None) (λ _. None) false (manner_of contents service list) listener file
      before after came

  -- `serve`: the list for the journal of a service is opened, where one is asked for, and then the
  -- room of its file is served
  abbrev pub IsServe : List ℕ → Service → Command F Done
  IsServe file service = Then (OpensFor service.journal)
      (λ list. IsServedBy (is_endless service) list file service)
