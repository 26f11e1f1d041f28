use Rattle.std.proofs.Common.{ap, inr, option_and_then, refl, sym, ◌∙◌}
use Rattle.room_model.specs.Rooms.{who_at}
use Rattle.room_http.proofs.TerminalLemmas.{found_known, not_refused}
use Rattle.room_http.proofs.message_events.terminal.Goals as goal

pub returns-in_default-clause-terminal : goal.returns-in_default-clause-terminal
returns-in_default-clause-terminal g c = record {
  trusted = λ trust. trust;
  same = λ trust terminals room stood. stood;
  says = λ trust terminals room stood.
      inr (refl, ap (option_and_then (who_at terminals)) (sym c.token.ensures.field ∙ c.in_default.is));
  failed = λ is. absurd (cc);
}

pub returns-in-Ok-Some-clause-terminal : goal.returns-in-Ok-Some-clause-terminal
returns-in-Ok-Some-clause-terminal g c =
    let token = c.in-Some.token in
    let shown = sym c.token.ensures.field ∙ c.in-Some.is in record {
      trusted = c.in-Ok-Some.ensures.trusted;
      same = c.in-Ok-Some.ensures.same;
      says = λ trust terminals room stood.
          let known = c.in-Ok-Some.ensures.known trust terminals room stood in (
            ap (option_and_then (who_at terminals)) shown ∙ sym known ∙ c.in-Ok-Some.field-0-is,
            found_known room terminals token c.in-Ok-Some.who (g.met.M.Room.fits _ terminals room stood)
                (sym c.in-Ok-Some.field-0-is ∙ known),
          );
      failed = λ is. absurd (not_refused _ _ is);
    }
