-- An exchange in another setting of the same zone's text and history, and one for an event at any moment.
use Rattle.std.proofs.Common.{◌≡◌, ◌≤◌, arith, refl, subst, ℕ, List, [], ◌∷◌, Bool, true, false}
use Rattle.std.proofs.Common.{Option, Some, None, Result, Ok, Err}
use Rattle.std.specs.Prelude.{MatchBool, pos}
use Rattle.jiff.specs.Placed.{IsPosixZone}
use Rattle.jiff_core.specs.Calendar.{days_from_civil}
use Rattle.room_types.specs.declared.asks.Ask.{Ask}
use Rattle.room_types.specs.declared.asks.Event.{Event}
use Rattle.room_types.specs.declared.asks.Who.{Who}
use Rattle.room_types.specs.declared.fleet.Terminal.{Terminal}
use Rattle.room_types.specs.declared.refusal_statuses.Refusal.{Refusal}
use Rattle.room_types.specs.declared.refusal_statuses.Refusal.TheVariants.{WrongRole}
use Rattle.room_model.specs.Room.{Room}
use Rattle.room_model.specs.Step.{answer_to}
use Rattle.room_model.specs.Rooms.{machine}
use Rattle.room_http_messages.specs.Messages.{terminal_of}
use Rattle.room_http_requests.specs.RequestTable.{is_of, request_by, role_of}
use Rattle.room_http_requests.specs.Router.{routed}
use Rattle.room_http_requests.specs.declared.request_table.Request.{Request}
use Rattle.room_http_requests.specs.declared.request_table.Request.TheVariants as request
use Rattle.room_http_requests.specs.declared.request_table.Target.{Target}
use Rattle.room_http.proofs.DatedMoments.{always_there_law}
use Rattle.room_http_time.specs.Days.{zone_of}
use Rattle.room_types.specs.declared.numbers.TheConstants.{LAST_MOMENT}
use Rattle.room_http.specs.declared.settings.HttpSettings.{HttpSettings}
use Rattle.room_http_time.proofs.ZoneLaws.{one_zone_law}
use Rattle.room_http.specs.Arrivals.{is_closing, is_head_only, message, refused}
use Rattle.room_http.specs.MessageEvents.{AsksAs, AsksAt, AsksBy, IsAskFor, named}
use Rattle.room_http.specs.Runs.{AreAnswered, Exchange}
use Rattle.room_http.specs.Settings.{IsSetting}
use Rattle.room_http.specs.Dialogues.{Finds, Timed, replied}

module _ (text : List ℕ) (a b : HttpSettings) (in_a : IsSetting text b.history a)
    (in_b : IsPosixZone text (zone_of b.zone)) where
  ask_in : (given : Request) (asks : Ask) → IsAskFor a given asks → IsAskFor b given asks
  ask_in (request.Ask q) asks is = is
  ask_in (request.OfDay day asked) asks is = (
    is.0,
    one_zone_law text a.zone b.zone in_a.zone in_b (days_from_civil (pos day.year) day.month day.day) is.0 is.1,
    is.2,
  )

  by_in : (at : ℕ) (who : Who) (given : Option Request) (found : Result Event Refusal)
      → AsksBy a at who given found → AsksBy b at who given found
  by_in at who None found asks = asks
  by_in at who (Some given) found asks = (asks.0, ask_in given asks.0 asks.1, asks.2)

  role_in : (may : Bool) (at : ℕ) (who : Who) (given : Option Request)
      (found : Result Event Refusal) → MatchBool may (AsksBy a at who given found) (found ≡ Err WrongRole)
      → MatchBool may (AsksBy b at who given found) (found ≡ Err WrongRole)
  role_in true at who given found asks = by_in at who given found asks
  role_in false at who given found asks = asks

  as_in : (target : Target) (body : List ℕ) (at : ℕ) (who : Option Who)
      (found : Result Event Refusal) → AsksAs a target body at who found → AsksAs b target body at who found
  as_in target body at None found asks = asks
  as_in target body at (Some who) found asks =
      role_in (is_of (role_of target) who) at who (request_by target body) found asks

  pub found_in : (terminals : List Terminal) (x : Timed) (found : Result Event Refusal)
      → Finds a terminals x found → Finds b terminals x found
  found_in terminals (message m, at) found asks =
      at_in (routed b.history m.head.method m.head.target)
      (subst (λ history. AsksAt a terminals m at (routed history m.head.method m.head.target) found) in_a.history asks)
    where
      at_in : (target : Result Target Refusal) → AsksAt a terminals m at target found
          → AsksAt b terminals m at target found
      at_in (Ok target) asks = as_in target m.body at (named terminals (terminal_of m.head)) found asks
      at_in (Err r) asks = asks
  found_in terminals (refused r head_only, at) found asks = asks

  pub answered_in : (terminals : List Terminal) (xs : List Exchange) (room : Room)
      → AreAnswered a terminals xs room → AreAnswered b terminals xs room
  answered_in terminals [] room are = are
  answered_in terminals (x ∷ xs) room are = (
    found_in terminals x.arrival x.found are.0,
    are.1,
    answered_in terminals xs (replied machine x.found room).0 are.2,
  )

-- an event that was found, with the bytes that the room answers it with
pub exchange_of : (setting : HttpSettings) (terminals : List Terminal) (x : Timed) (event : Event) (room : Room)
    → x.1 ≤ LAST_MOMENT → Finds setting terminals x (Ok event)
    → (done : Exchange) × (done.arrival ≡ x) × (done.found ≡ Ok event)
    × AreAnswered setting terminals (done ∷ []) room
exchange_of setting terminals x event room within finds =
    let reply = always_there_law (answer_to event room) x.1 (is_head_only x.0) (is_closing x.0)
    (omega (arith, within)) in
    (record { arrival = x; found = Ok event; bytes = reply.0 }, refl, refl, (finds, reply.1, tt))
