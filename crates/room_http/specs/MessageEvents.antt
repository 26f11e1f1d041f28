-- The event that a message asks for, or the first refusal on the way to it.
use Rattle.std.specs.Prelude.{◌≡◌, ℕ, List, Option, Some, None, Result, Ok, Err, option_and_then}
use Rattle.std.specs.Prelude.{if◌then◌else◌, MatchBool, ℤ, pos}
use Rattle.jiff_core.specs.Calendar.{days_from_civil}
use Rattle.room_types.specs.Texts.{is_token, Token}
use Rattle.room_types.specs.declared.asks.Ask.{Ask}
use Rattle.room_types.specs.declared.asks.Event.{Event}
use Rattle.room_types.specs.declared.asks.Who.{Who}
use Rattle.room_types.specs.declared.fleet.Terminal.{Terminal}
use Rattle.room_types.specs.declared.refusal_statuses.Refusal.{Refusal}
use Rattle.room_types.specs.declared.refusal_statuses.Refusal.TheVariants.{BadBody, NoTerminal}
use Rattle.room_types.specs.declared.refusal_statuses.Refusal.TheVariants.{WrongRole}
use Rattle.room_http_messages.specs.Messages.{WholeMessage, terminal_of}
use Rattle.room_http_requests.specs.RequestTable.{between, is_of, request_by, role_of}
use Rattle.room_http_requests.specs.Router.{routed}
use Rattle.room_http_requests.specs.declared.request_table.Target.{Target}
use Rattle.room_http_requests.specs.declared.request_table.Request.{Request}
use Rattle.room_http_requests.specs.declared.request_table.Request.TheVariants as request
use Rattle.room_http_time.specs.Days.{IsSpan, zone_of}
use Rattle.room_http.specs.declared.settings.HttpSettings.{HttpSettings}
use Rattle.room_model.specs.Rooms.{who_at}

-- the token that a field has for its value
abbrev pub token_of : Option (List ℕ) → Option Token
token_of field = option_and_then (λ text. if is_token text then Some text else None) field

-- the terminal that a field names by its token
abbrev pub named : List Terminal → Option (List ℕ) → Option Who
named terminals field = option_and_then (who_at terminals) (token_of field)

-- a request, as the room is asked: what is asked of a day is asked of its seconds in the zone
abbrev pub IsAskFor : HttpSettings → Request → Ask → Type 0
IsAskFor setting (request.Ask a) asks = asks ≡ a
IsAskFor setting (request.OfDay day asked) asks =
    (span : ℤ × ℤ)
    × IsSpan (zone_of setting.zone) (days_from_civil (pos day.year) day.month day.day) span
    × (asks ≡ between asked span.0 span.1)

-- what a terminal asks for, if its body asks for anything
abbrev pub AsksBy : HttpSettings → ℕ → Who → Option Request → Result Event Refusal → Type 0
AsksBy setting at who None found = found ≡ Err BadBody
AsksBy setting at who (Some given) found = (asks : Ask) × IsAskFor setting given asks
    × (found ≡ Ok (record { who = who; ask = asks; at = at }))

-- what a terminal asks for, if there is one: its role is looked at, and then the body
abbrev pub AsksAs : HttpSettings → Target → List ℕ → ℕ → Option Who → Result Event Refusal → Type 0
AsksAs setting target body at None found = found ≡ Err NoTerminal
AsksAs setting target body at (Some who) found = MatchBool (is_of (role_of target) who)
    (AsksBy setting at who (request_by target body) found) (found ≡ Err WrongRole)

-- what is asked of a target, if there is one: the terminal is looked at next
abbrev pub AsksAt : HttpSettings → List Terminal → WholeMessage → ℕ → Result Target Refusal
    → Result Event Refusal → Type 0
AsksAt setting terminals m at (Ok target) found =
    AsksAs setting target m.body at (named terminals (terminal_of m.head)) found
AsksAt setting terminals m at (Err r) found = found ≡ Err r

-- what a message asks for: its path is looked at first, which one of history is only where that is
-- served, and then its method
abbrev pub AsksFor : HttpSettings → List Terminal → WholeMessage → ℕ → Result Event Refusal → Type 0
AsksFor setting terminals m at found =
    AsksAt setting terminals m at (routed setting.history m.head.method m.head.target) found
