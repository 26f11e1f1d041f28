-- What is asked by a terminal of the right role, which the room knows, is addressed.
use Rattle.std.proofs.Common.{◌≡◌, ◌∙◌, refl, ap, sym, subst, ℕ, List, Bool, true, Option, Some}
use Rattle.std.proofs.Common.{Result, Ok, Err}
use Rattle.std.specs.Prelude.{MatchBool}
use Rattle.room_types.specs.declared.asks.Ask.{Ask}
use Rattle.room_types.specs.declared.asks.Event.{Event}
use Rattle.room_types.specs.declared.asks.Who.{Who}
use Rattle.room_types.specs.declared.fleet.Terminal.{Terminal}
use Rattle.room_types.specs.declared.refusal_statuses.Refusal.{Refusal}
use Rattle.room_types.specs.declared.refusal_statuses.Refusal.TheVariants.{WrongRole}
use Rattle.room_model.specs.Room.{Room}
use Rattle.room_model.specs.Step.{is_for}
use Rattle.room_http_messages.specs.Messages.{WholeMessage, terminal_of}
use Rattle.room_http_requests.specs.RequestTable.{is_known, is_of, request_by, role_of}
use Rattle.room_http_requests.specs.Router.{routed}
use Rattle.room_http_requests.specs.declared.request_table.Target.{Target}
use Rattle.room_http_requests.specs.declared.request_table.Request.{Request}
use Rattle.room_http_requests.specs.declared.request_table.Request.TheVariants as request
use Rattle.room_http_requests.proofs.RoleLaws.{addressed, asked_is, day_addressed}
use Rattle.room_http.specs.declared.settings.HttpSettings.{HttpSettings}
use Rattle.room_http.specs.MessageEvents.{AsksAs, AsksAt, AsksBy, AsksFor, IsAskFor, named}

pub request_addressed : (setting : HttpSettings) (t : Target) (body : List ℕ) (given : Request) (asks : Ask)
    (who : Who) (room : Room) → request_by t body ≡ Some given
    → IsAskFor setting given asks → is_of (role_of t) who ≡ true → is_known who room ≡ true
    → is_for who asks room ≡ true
request_addressed setting t body (request.Ask a) asks who room body_asks is may known =
    ap (λ (x : Ask). is_for who x room) is ∙ addressed (role_of t) a who room (asked_is t body a body_asks).0 may
    ∙ known
request_addressed setting t body (request.OfDay day asked) asks who room body_asks is may known =
    ap (λ (x : Ask). is_for who x room) is.2
    ∙ day_addressed t body day asked is.0.0 is.0.1 who room body_asks may ∙ known

-- what a message asks for, found step by step
pub asks_for : (setting : HttpSettings) (terminals : List Terminal) (m : WholeMessage) (at : ℕ)
    (method bytes body : List ℕ) (field : Option (List ℕ))
    (t : Target) (who : Who) (given : Request) (asks : Ask)
    → method ≡ m.head.method → bytes ≡ m.head.target → body ≡ m.body → field ≡ terminal_of m.head
    → routed setting.history method bytes ≡ Ok t → named terminals field ≡ Some who
    → is_of (role_of t) who ≡ true
    → request_by t body ≡ Some given → IsAskFor setting given asks
    → AsksFor setting terminals m at (Ok (record { who = who; ask = asks; at = at }))
asks_for setting terminals m at method bytes body field t who given asks method_is target_is body_is field_is routed_is
    named_is may body_asks is =
    let found : Result Event Refusal = Ok (record { who = who; ask = asks; at = at }) in
    let path : routed setting.history m.head.method m.head.target ≡ Ok t =
    ap (λ x. routed setting.history x m.head.target) (sym method_is)
    ∙ ap (λ x. routed setting.history method x) (sym target_is) ∙ routed_is in
    let shows : named terminals (terminal_of m.head) ≡ Some who = ap (named terminals) (sym field_is) ∙ named_is in
    let body_asked : request_by t m.body ≡ Some given = ap (request_by t) (sym body_is) ∙ body_asks in
    let by_body : AsksBy setting at who (request_by t m.body) found = subst
    (λ (g : Option Request). AsksBy setting at who g found) (sym body_asked) (asks, is, refl) in
    let by_role : AsksAs setting t m.body at (Some who) found = subst
    (λ (b : Bool). MatchBool b (AsksBy setting at who (request_by t m.body) found) (found ≡ Err WrongRole)) (sym may)
    by_body in
    let by_terminal : AsksAt setting terminals m at (Ok t) found = subst
    (λ (w : Option Who). AsksAs setting t m.body at w found) (sym shows) by_role in
    subst (λ (r : Result Target Refusal). AsksAt setting terminals m at r found) (sym path) by_terminal
