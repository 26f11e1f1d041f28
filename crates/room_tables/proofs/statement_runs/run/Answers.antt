-- What ran, or failed, is reported.
use Rattle.room_tables_schema.proofs.WriteLaws.{unwritten, wrote}
use Rattle.room_tables.proofs.RoomReads.{was_clean}
use Rattle.room_tables.proofs.statement_runs.run.Goals as goal

pub returns-clause-ran : goal.returns-clause-ran
returns-clause-ran g c clean =
    let early = was_clean c.write.ensures.writes.survives clean in
    record {
      room = c.requires.inside.room early;
      inside = c.in_ok-write.ensures.ok clean;
      count = _;
      ran = c.in_ok-write.ensures.ran clean;
    }

pub returns-clause-why : goal.returns-clause-why
returns-clause-why g c clean = tt

pub returns-clause-same_reference : goal.returns-clause-same_reference
returns-clause-same_reference g c = c.write.ensures.same_reference

pub returns-in_err-write-clause-same_reference : goal.returns-in_err-write-clause-same_reference
returns-in_err-write-clause-same_reference g c = c.write.ensures.same_reference

pub returns-clause-writes : goal.returns-clause-writes
returns-clause-writes g c = wrote c.in_ok-write.ensures.writes

pub returns-in_err-write-clause-writes : goal.returns-in_err-write-clause-writes
returns-in_err-write-clause-writes g c = unwritten c.in_err-write.ensures.writes
