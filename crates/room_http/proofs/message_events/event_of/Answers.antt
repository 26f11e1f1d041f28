use Rattle.std.proofs.Common.{◌∙◌, sym}
use Rattle.room_http.proofs.AskLemmas.{asks_for, request_addressed}
use Rattle.room_http.proofs.message_events.event_of.Goals as goal

pub returns-in-Ok-ask_of-clause-event : goal.returns-in-Ok-ask_of-clause-event
returns-in-Ok-ask_of-clause-event g c =
    let terminal = c.in-Ok-terminal.ensures.terminal in
    let body_asks = c.in-Ok-ask_of.ensures in
    let asks = c.ask_for.ensures in
    let may = (rw c.of.ensures at (sym c.is_of.ensures ∙ c.if-not-is_of.false)) in
    record {
      trusted = terminal.trusted;
      same = terminal.same;
      says = λ trust terminals room stood.
          let who = terminal.says trust terminals room stood in (
            λ m shown.
                asks_for c.args.handler.now.setting terminals m c.args.at _ _ _ _ c.in-Ok.target c.in-Ok-terminal.who
                c.in-Ok-ask_of.request c.ask_for.result
                shown.method shown.target shown.content shown.terminal (sym c.route.ensures ∙ c.in-Ok.is) who.0 may
                body_asks asks,
            request_addressed c.args.handler.now.setting c.in-Ok.target _ c.in-Ok-ask_of.request c.ask_for.result
                c.in-Ok-terminal.who room body_asks asks may who.1,
          );
      failed = λ is. absurd (cc);
    }
