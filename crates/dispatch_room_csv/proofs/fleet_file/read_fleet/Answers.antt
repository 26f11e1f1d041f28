use Rattle.std.proofs.Common.{◌∙◌, ap, map, sym}
use Rattle.std.proofs.lemmas.Simd.{map-map}
use Rattle.csv.specs.Records.{fields_of}
use Rattle.dispatch_room_csv.specs.FleetFile.{fleet_line_of}
use Rattle.dispatch_room_csv.proofs.fleet_file.read_fleet.Goals as goal

pub returns-clause-fleet : goal.returns-clause-fleet
returns-clause-fleet c =
    let rows = c.in_ok-rows.rows.items in (
      map fields_of rows,
      c.in_ok-rows.ensures.rows,
      c.in_ok-fleet_lines.ensures ∙ ap (map (λ row. fleet_line_of (fields_of row))) c.as_slice.ensures.value
          ∙ sym (map-map fleet_line_of fields_of rows),
    )
