-- A stream has one list of messages, and arrivals at their moments get one answer each.
use Rattle.std.proofs.Common.{◌≡◌, ◌∙◌, sym, ap, subst, refl, arith, ℕ, ℤ, List, [], ◌∷◌, ◌++◌}
use Rattle.std.proofs.Common.{Bool, true, false, Option, Some, None, Result, Ok, Err}
use Rattle.std.specs.Prelude.{MatchBool, pos}
use Rattle.jiff_core.specs.Calendar.{days_from_civil}
use Rattle.room_types.specs.declared.asks.Ask.{Ask}
use Rattle.room_types.specs.declared.asks.Event.{Event}
use Rattle.room_types.specs.declared.asks.Who.{Who}
use Rattle.room_types.specs.declared.fleet.Terminal.{Terminal}
use Rattle.room_types.specs.declared.refusal_statuses.Refusal.{Refusal}
use Rattle.room_types.specs.declared.refusal_statuses.Refusal.TheVariants.{WrongRole}
use Rattle.room_model.specs.Room.{Room}
use Rattle.room_http_messages.specs.declared.read_faults.Unread.TheVariants.{Refused}
use Rattle.room_http_messages.specs.Messages.{WholeMessage, terminal_of}
use Rattle.room_http_messages.proofs.LawLemmas.{one_message_law, no_end_law}
use Rattle.room_http_requests.specs.RequestTable.{between, is_of, request_by, role_of}
use Rattle.room_http_requests.specs.Router.{routed}
use Rattle.room_http_requests.specs.declared.request_table.Target.{Target}
use Rattle.room_http_requests.specs.declared.request_table.Request.{Request}
use Rattle.room_http_requests.specs.declared.request_table.Request.TheVariants as request
use Rattle.room_http.specs.ReplyMessages.{IsReply}
use Rattle.room_http.proofs.Dates.{one_reply_law}
use Rattle.room_http_time.specs.Days.{zone_of}
use Rattle.room_http.specs.declared.settings.HttpSettings.{HttpSettings}
use Rattle.room_http_time.proofs.SpanLaws.{one_span_law}
use Rattle.room_http.specs.MessageEvents.{AsksAs, AsksAt, AsksBy, IsAskFor, named}
use Rattle.room_http.specs.Laws.{AreFirstOf, IsOneDialogue, IsOneStream}
use Rattle.room_http.specs.Arrivals.{Arrival, message, refused, is_head_only, is_closing, Begins}
use Rattle.room_model.specs.Rooms.{Step, machine}
use Rattle.room_http.specs.KeptMessages.{AreReplies}
use Rattle.room_http.specs.Runs.{AreAnswered, Exchange, answers_of, arrivals_of}
use Rattle.room_http.specs.Dialogues.{Timed, Finds, replied, IsReplyTo, IsDialogue}

none_more : (few many : List Arrival) → few ≡ [] → AreFirstOf few many
none_more few many none = rw none tt

pub one_stream_law : IsOneStream
one_stream_law stream [] many rest left x y fewer = tt
one_stream_law stream (o ∷ few) [] rest left x y fewer = absurd (omega arith)
one_stream_law stream (message m ∷ few) (message n ∷ many) rest left x y fewer =
    let same = one_message_law stream m n x.0 y.0 x.1 y.1 in (
      same.0,
      one_stream_law x.0 few many rest left x.3 (subst (λ (s : List ℕ). Begins s many left) (sym same.1) y.3)
          (omega arith),
    )
one_stream_law stream (message m ∷ few) (refused r head_only ∷ many) rest left x y fewer =
    absurd (no_end_law stream m x.0 (Refused r head_only) x.1 y.1.0)
one_stream_law stream (refused r head_only ∷ few) (message n ∷ many) rest left x y fewer =
    absurd (no_end_law stream n y.0 (Refused r head_only) y.1 x.1.0)
one_stream_law stream (refused r head_only ∷ few) (refused s without ∷ many) rest left x y fewer =
    (tt, none_more few many (x.2 refl))

one_ask : (setting : HttpSettings) (given : Request) (a b : Ask) → IsAskFor setting given a
    → IsAskFor setting given b → a ≡ b
one_ask setting (request.Ask x) a b is also = is ∙ sym also
one_ask setting (request.OfDay day asked) a b is also =
    is.2
    ∙ ap (λ (span : ℤ × ℤ). between asked span.0 span.1)
    (one_span_law (zone_of setting.zone) (days_from_civil (pos day.year) day.month day.day) is.0 also.0 is.1 also.1)
    ∙ sym also.2

one_by : (setting : HttpSettings) (at : ℕ) (who : Who) (given : Option Request) (f g : Result Event Refusal)
    → AsksBy setting at who given f → AsksBy setting at who given g → f ≡ g
one_by setting at who None f g is also = is ∙ sym also
one_by setting at who (Some w) f g is also =
    is.2 ∙ ap (λ (a : Ask). Ok (record { who = who; ask = a; at = at })) (one_ask setting w is.0 also.0 is.1 also.1)
    ∙ sym also.2

one_role : (may : Bool) (setting : HttpSettings) (at : ℕ) (who : Who) (given : Option Request)
    (f g : Result Event Refusal)
    → MatchBool may (AsksBy setting at who given f) (f ≡ Err WrongRole)
    → MatchBool may (AsksBy setting at who given g) (g ≡ Err WrongRole) → f ≡ g
one_role true setting at who given f g is also = one_by setting at who given f g is also
one_role false setting at who given f g is also = is ∙ sym also

one_as : (setting : HttpSettings) (t : Target) (body : List ℕ) (at : ℕ) (who : Option Who)
    (f g : Result Event Refusal) → AsksAs setting t body at who f → AsksAs setting t body at who g → f ≡ g
one_as setting t body at None f g is also = is ∙ sym also
one_as setting t body at (Some who) f g is also =
    one_role (is_of (role_of t) who) setting at who (request_by t body) f g is also

one_at : (setting : HttpSettings) (terminals : List Terminal) (m : WholeMessage) (at : ℕ)
    (r : Result Target Refusal) (f g : Result Event Refusal)
    → AsksAt setting terminals m at r f → AsksAt setting terminals m at r g → f ≡ g
one_at setting terminals m at (Ok t) f g is also =
    one_as setting t m.body at (named terminals (terminal_of m.head)) f g is also
one_at setting terminals m at (Err r) f g is also = is ∙ sym also

one_find : (setting : HttpSettings) (terminals : List Terminal) (x : Timed) (f g : Result Event Refusal)
    → Finds setting terminals x f → Finds setting terminals x g → f ≡ g
one_find setting terminals (message m, at) f g is also =
    one_at setting terminals m at (routed setting.history m.head.method m.head.target) f g is also
one_find setting terminals (refused r head_only, at) f g is also = is ∙ sym also

one_reply_to : (step : Step) (setting : HttpSettings) (terminals : List Terminal) (room : Room) (x : Timed)
    (after other : Room) (bytes others : List ℕ)
    → IsReplyTo step setting terminals room x after bytes
    → IsReplyTo step setting terminals room x other others → (after ≡ other) × (bytes ≡ others)
one_reply_to step setting terminals room x after other bytes others is also =
    let same = one_find setting terminals x is.0 also.0 is.1 also.1 in
    let again = subst
    (λ (f : Result Event Refusal). IsReply (replied step f room).1 x.1 (is_head_only x.0) (is_closing x.0) bytes) same
    is.3 in (
      is.2 ∙ ap (λ (f : Result Event Refusal). (replied step f room).0) same ∙ sym also.2,
      one_reply_law (replied step also.0 room).1 x.1 (is_head_only x.0) (is_closing x.0) bytes others again also.3,
    )

pub one_dialogue_law : IsOneDialogue
one_dialogue_law step setting terminals room [] after other bytes others is also =
    (is.0 ∙ sym also.0, is.1 ∙ sym also.1)
one_dialogue_law step setting terminals room (x ∷ more) after other bytes others is also =
    let first = one_reply_to step setting terminals room x is.0 also.0 is.1 also.1 is.4 also.4 in
    let again = subst (λ (r : Room). IsDialogue step setting terminals r more after is.2) first.0 is.5 in
    let rest = one_dialogue_law step setting terminals also.0 more after other is.2 also.2 again also.5 in
    (rest.0, is.3 ∙ ap (λ t. t ++ is.2) first.1 ∙ ap (λ t. also.1 ++ t) rest.1 ∙ sym also.3)

-- what is answered to equal arrivals, one after another, is the same, each answer by itself
pub one_course_law : (setting : HttpSettings) (terminals : List Terminal) (room after : Room)
    (outs : List Timed) (answers : List (List ℕ)) (xs : List Exchange)
    → AreReplies machine setting terminals room outs answers after
    → AreAnswered setting terminals xs room → arrivals_of xs ≡ outs → answers_of xs ≡ answers
one_course_law setting terminals room after [] [] [] replies answered is = refl
one_course_law setting terminals room after [] [] (x ∷ xs) replies answered is = absurd (cc)
one_course_law setting terminals room after [] (a ∷ answers) xs replies answered is = absurd replies
one_course_law setting terminals room after (o ∷ outs) [] xs replies answered is = absurd replies
one_course_law setting terminals room after (o ∷ outs) (a ∷ answers) [] replies answered is = absurd (cc)
one_course_law setting terminals room after (o ∷ outs) (a ∷ answers) (x ∷ xs) replies answered is =
    let head : x.arrival ≡ o = cc in
    let tail : arrivals_of xs ≡ outs = cc in
    let stated = subst
    (λ (y : Timed). IsReplyTo machine setting terminals room y (replied machine x.found room).0 x.bytes) head
    (x.found, answered.0, refl, answered.1) in
    let same = one_reply_to machine setting terminals room o (replied machine x.found room).0 replies.0 x.bytes a stated
    replies.1 in
    let more = one_course_law setting terminals replies.0 after outs answers xs replies.2
    (subst (AreAnswered setting terminals xs) same.0 answered.2) tail in
    ap (λ b. b ∷ answers_of xs) same.1 ∙ ap (λ bs. a ∷ bs) more
