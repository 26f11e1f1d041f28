use Rattle.std.proofs.Common.{◌≡◌, ◌<◌, ℕ, List, Some, All, map, false}
use Rattle.csv.specs.Reading.{Reached, Ready, default_config, source_of, strip_bom}
use Rattle.csv.specs.Records.{AllText, fields_of}
use Rattle.csv.specs.declared.parser.State.TheVariants.{StartRecord}
use Rattle.csv.specs.declared.reader.Trim.TheVariants as trim
use Rattle.dispatch_room_csv.specs.Records.{AreAlike}
use Rattle.dispatch_room_csv.proofs.TableLemmas.{width_of}
use Rattle.dispatch_room_csv.proofs.csv_records.read_records.Given as goal

abbrev pub invariant-loop-record : goal.invariant-loop-record
invariant-loop-record l = record {
  plain : l.record-iterator.rdr.trim ≡ trim.None;
  ready : Ready l.record-iterator.rdr;
  left : 0 < l.record-iterator.left;
  strict : l.record-iterator.rdr.flexible ≡ false;
  config : l.record-iterator.rdr.config ≡ default_config;
  width : l.record-iterator.rdr.expected ≡ width_of (map fields_of l.records.items);
  texts : All AllText (map fields_of l.records.items);
  alike : AreAlike (map fields_of l.records.items);
  rest : List ℕ;
  source : source_of (λ s. Some s.now) l.record-iterator.rdr ≡ Some rest;
  reached : Reached default_config StartRecord (strip_bom l.fn.text) (map fields_of l.records.items)
      l.record-iterator.rdr.state rest;
}
