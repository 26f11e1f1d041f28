use Rattle.std.proofs.Common.{Err, None, Ok, Some, inl, inr, refl}
use Rattle.dispatch_room_exit.specs.declared.exit_status.Failure.TheVariants.{Memory}
use Rattle.dispatch_room_commands.proofs.verify.verify_in.Goals as goal

pub returns-in_default : goal.returns-in_default
returns-in_default g c =
    record { between = _; found = Err Memory; is = (inl refl, refl); rest = (refl, refl) }

pub returns-in-Ok-Some : goal.returns-in-Ok-Some
returns-in-Ok-Some g c = record {
  between = _;
  found = Ok (Some c.in-Ok-Some.tally);
  is = (λ text known. rw c.in-Ok-Some.field-0-is at c.in-Ok-Some.ensures text known, refl);
  rest = rw c.ended_well.ensures at c.print_tally.ensures;
}

pub returns-in-Ok-None : goal.returns-in-Ok-None
returns-in-Ok-None g c = record {
  between = _;
  found = Ok None;
  is = (λ text known. rw c.in-Ok-None.field-0-is at c.in-Ok-None.ensures text known, refl);
  rest = c.print_none.ensures;
}

pub returns : goal.returns
returns g c = record {
  between = _;
  found = Err _;
  is = (inr (c.in-Err.defect, c.failure_of.ensures, λ text known. c.in-Err.ensures text known), refl);
  rest = (refl, refl);
}
