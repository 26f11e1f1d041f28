-- Texts that name this machine, and those that may name another.
use Rattle.std.proofs.Common.{Bool, Err, List, Ok, Result, codes, false, inr, subst, sym, true, ℕ}
use Rattle.std.proofs.Common.{◌++◌, ◌∙◌, ◌≡◌}
use Rattle.std.specs.Prelude.{MatchBool}
use Rattle.std.specs.Result.{is_ok}
use Rattle.std.specs.Str.Parse.{ParsesUnsigned}
use Rattle.std.proofs.lemmas.List.{append_cancel_left}
use Rattle.dispatch_room_cli.specs.Addresses.{IsAnother, IsElsewhere, IsLocalhost, IsPort}
use Rattle.dispatch_room_cli.specs.Addresses.{IsThisMachine}

-- what is read as a port behind the name says whether one stands there
pub port_read : {E : Type 0} (text port : List ℕ) (read : Result ℕ E) → text ≡ codes "localhost:" ++ port
    → ParsesUnsigned 16 10 port read → MatchBool (is_ok read) (IsLocalhost text) (¬ IsLocalhost text)
port_read text port (Ok number) named parses =
    record { port = port; named = named; is_port = (parses.0.0, parses.0.1) }
port_read text port (Err e) named parses = λ local.
    let same : local.port ≡ port = append_cancel_left (codes "localhost:") _ _ (sym local.named ∙ named) in
    parses (subst IsPort same local.is_port)

-- a text that is no address of this machine names it by its name, or may name another
pub by_name : (text : List ℕ) (is_name : Bool) → IsElsewhere text
    → MatchBool is_name (IsLocalhost text) (¬ IsLocalhost text)
    → MatchBool is_name (IsThisMachine text) (IsAnother text)
by_name text true elsewhere is = inr is
by_name text false elsewhere is = (elsewhere, is)
