use Rattle.std.proofs.Common.{◌≡◌, ◌∙◌, ap, rules, Some, sym}
use Rattle.std.specs.Prelude.{option_and_then}
use Rattle.dispatch_room_csv.specs.FleetFile.{kind_by}
use Rattle.dispatch_room_csv.proofs.FleetLemmas.{kind_found}
use Rattle.dispatch_room_csv.proofs.fleet_file.kind_of.Goals as goal

pub returns : goal.returns
returns c =
    let same : c.in_ok-number.field-0 ≡ c.in_ok-number-2.number = search rules in
    kind_found _ c.from_number.result c.from_number.ensures
    ∙ ap (option_and_then kind_by) (sym (sym c.number.ensures ∙ c.in_ok-number.was ∙ ap Some same))
