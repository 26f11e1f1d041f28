use Rattle.std.proofs.Common.{ap, sym, ◌∙◌}
use Rattle.std.specs.Option.{option_map}
use Rattle.room_http.specs.MessageEvents.{token_of}
use Rattle.room_http.proofs.TerminalLemmas.{no_token, read_token}
use Rattle.room_http.proofs.message_events.token.Goals as goal

pub returns-in_default-from_utf8-clause-field : goal.returns-in_default-from_utf8-clause-field
returns-in_default-from_utf8-clause-field c =
    no_token c.in-Some.field.now c.in_default-from_utf8.ensures.cases.0
    ∙ ap token_of (sym (ap (option_map (λ text. text.now)) c.in-Some.is))

pub returns-clause-field : goal.returns-clause-field
returns-clause-field c =
    read_token _ c.in-Some.field.now c.in-Ok.text.now (ap (option_map (λ text. text.now)) c.in-Some.is)
    c.in-Ok.ensures.cases.0 c.parse.result c.parse.ensures

pub returns-in_default-clause-sent : goal.returns-in_default-clause-sent
returns-in_default-clause-sent c m shown =
    ap token_of (sym (ap (option_map (λ text. text.now)) c.in_default.is) ∙ shown.terminal)

pub returns-in_default-from_utf8-clause-sent : goal.returns-in_default-from_utf8-clause-sent
returns-in_default-from_utf8-clause-sent c m shown =
    returns-in_default-from_utf8-clause-field c ∙ ap token_of shown.terminal

pub returns-clause-sent : goal.returns-clause-sent
returns-clause-sent c m shown = returns-clause-field c ∙ ap token_of shown.terminal
