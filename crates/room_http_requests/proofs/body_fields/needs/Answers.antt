use Rattle.std.proofs.Common.{arith, sym}
use Rattle.std.proofs.lemmas.Bool.Decides.{nat_tests}
use Rattle.room_http_requests.proofs.FieldLemmas.{no_needs}
use Rattle.room_http_requests.proofs.body_fields.needs.Goals as goal
use Rattle.room_http_requests.proofs.body_fields.needs.Goals.{in_default-via-then-as_slice-lt3}
use Rattle.room_http_requests.proofs.body_fields.needs.Goals.{in_default-via-else-as_slice-lt3+else-this-lt4}

pub returns-in_default : goal.returns-in_default
returns-in_default c =
    let none = no_needs c.args.name.now _ _ c.in_ok-as_array.field-0.now.items (sym c.in_ok-get.ensures)
    (sym c.in_ok-as_array.ensures) in
    elim c.in_default.branch [
      | in_default-via-then-as_slice-lt3 w ↦ none (grind (arith, nat_tests))
      | in_default-via-else-as_slice-lt3+else-this-lt4 w ↦ none (grind (arith, nat_tests))
    ]
