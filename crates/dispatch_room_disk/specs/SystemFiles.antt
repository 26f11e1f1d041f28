-- The files of the system that a room has, as any disk's: the kit's files of the system, of which
-- nothing is known as they are opened.
use Rattle.std.specs.Prelude.{[], false, true}
use Rattle.sqlite_disk.specs.Events.{Model, replay}
use Rattle.sqlite_disk.specs.History.{MayLeave}
use Rattle.sqlite_disk.specs.Modelled.{start_of}
use Rattle.sqlite_disk.specs.declared.Disk.{Ghosts as Disk}
use Rattle.sqlite_disk.specs.declared.calls.Calls.{Ghosts as Calls}
use Rattle.sqlite_disk.specs.declared.modelled.Modelled.{Modelled}
use Rattle.sqlite_disk.specs.declared.start.Start.{Ghosts as Start}
use Rattle.sqlite_disk.specs.declared.start.Unknown.{Unknown}
use Rattle.sqlite_std_file.specs.declared.host.Host.{Host}

abbrev pub host : Calls Host
host = record { history = λ f. f.log.events }

abbrev pub unknown : Start Unknown
unknown = record { log = []; db = []; is_mixing = true }

abbrev pub SystemFile : Type 0
SystemFile = Modelled Host Unknown host unknown

-- what is known of such a file, by all calls so far
abbrev pub known : SystemFile → Model
known f = replay (start_of unknown f) f.calls.log.events

abbrev pub system : Disk SystemFile
system = record {
  seen = λ f. (known f).seen;
  may_leave = λ f. MayLeave true (known f).seen (known f).synced (known f).steps;
  is_usable = λ f. (known f).is_usable;
  faults = λ f. (known f).faults;
  tally_of = λ f. record { caught = (known f).caught; refused = (known f).refused };
  is_clean = λ f. (known f).is_honest;
  key_of = λ f. (known f).key;
  is_fair = λ f. (known f).is_fair;
  is_frozen = λ _. false;
  is_rotten = λ _ _ _. false;
  is_mixing = λ _. true;
}
