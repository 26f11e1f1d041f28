use Rattle.std.proofs.Common.{[], refl, Err, List, Ok, Result, ℕ, ◌∷◌, ◌≡◌}
use Rattle.std.specs.Global.{Global}
use Rattle.std.specs.Prelude.{Vec}
use Rattle.room_types.specs.Texts.{Callsign, Token}
use Rattle.dispatch_room_board.specs.Requests.{report_requests}
use Rattle.dispatch_room_cli.specs.declared.tasks.Look.{Look}
use Rattle.dispatch_room_commands.specs.TaskSteps.{Hears, HearsOf, reports_nanos}
use Rattle.dispatch_room_disk.specs.CommandSteps.{Stand}
use Rattle.dispatch_room_exit.specs.declared.exit_status.Failure.{Failure}
use Rattle.dispatch_room_exit.specs.declared.exit_status.Failure.TheVariants.{Memory}
use Rattle.dispatch_room_tcp.specs.Hosts.{Effect}
use Rattle.dispatch_room_commands.proofs.board.hear_reports.Goals as goal

module _ {F : Type 0} (heard : List ℕ → ℕ → List ℕ → ℕ → List ℕ → Type 0) (look : Look) (token : Token) where
  -- of no vehicles nothing is asked
  none_asked : (vehicles : List Callsign) (told : Vec ℕ Global) (stand : Stand (Effect F)) → vehicles ≡ []
      → told.items ≡ [] → HearsOf heard look token vehicles stand stand (Ok told)
  none_asked [] told stand none empty = (empty, refl)
  none_asked (c ∷ cs) told stand none empty = absurd (cc)

  -- of some the reports are
  some_asked : (vehicles : List Callsign) (before after : Stand (Effect F)) (came : Result (Vec ℕ Global) Failure)
      → (vehicles ≡ [] → ⊥)
      → Hears heard look (reports_nanos look) (report_requests token vehicles) before after came
      → HearsOf heard look token vehicles before after came
  some_asked [] before after came some hears = absurd (some refl)
  some_asked (c ∷ cs) before after came some hears = hears

pub returns-in_default : goal.returns-in_default
returns-in_default g c printed = record { between = _; found = Err Memory; is = (refl, refl); rest = (refl, refl) }

pub returns-then-is_empty : goal.returns-then-is_empty
returns-then-is_empty g c printed = record {
  between = record { printed = _; done = _ };
  found = Ok c.in-Ok.vehicles;
  is = (c.in-Ok.ensures, refl);
  rest = none_asked g.M.Machine.heard c.args.look.now c.args.token c.in-Ok.vehicles _ _ (c.if-is_empty.ensures.0 refl)
      c.new.ensures.items;
}

pub returns : goal.returns
returns g c printed = record {
  between = record { printed = _; done = _ };
  found = Ok c.in-Ok.vehicles;
  is = (c.in-Ok.ensures, refl);
  rest =
      some_asked g.M.Machine.heard c.args.look.now c.args.token c.in-Ok.vehicles _ _ _ (λ none. cc (c.if-is_empty.ensures.1 none))
      (rw c.as_slice.ensures at c.hear_of.ensures printed);
}
