use Rattle.std.proofs.Common.{codes, subst, sym}
use Rattle.std.specs.Prelude.{MatchBool}
use Rattle.dispatch_room_cli.proofs.AddressLemmas.{port_read}
use Rattle.dispatch_room_cli.proofs.TerminalNameLemmas.{stripped}
use Rattle.dispatch_room_cli.specs.Addresses.{IsLocalhost}
use Rattle.dispatch_room_cli.proofs.addresses.is_localhost.Goals as goal

pub returns-in-Some : goal.returns-in-Some
returns-in-Some c =
    let text = c.args.text.now in
    subst (λ found. MatchBool found (IsLocalhost text) (¬ IsLocalhost text)) (sym c.is_ok.ensures.value)
    (port_read text c.in-Some.port.now c.parse.result
    (stripped (codes "localhost:") text c.in-Some.port.now c.in-Some.ensures.cases) c.parse.ensures.value.0)
