use Rattle.std.proofs.Common.{◌≡◌, ap, refl, inl, rules, Err, List, Ok, Result, Vec, ℕ}
use Rattle.std.specs.Prelude.{IfErr, IfOk, MatchResult, OnErr, OnOk}
use Rattle.room_types.specs.declared.asks.Event.{Event}
use Rattle.room_types.specs.declared.fleet.Terminal.{Terminal}
use Rattle.room_types.specs.declared.refusal_statuses.Refusal.{Refusal}
use Rattle.room_model.specs.Room.{Room}
use Rattle.room_http_messages.specs.declared.messages.Message.{Message as Given}
use Rattle.room_http_messages.specs.Layouts.{Shows}
use Rattle.room_http_messages.specs.Messages.{WholeMessage}
use Rattle.room_http.specs.declared.settings.HttpSettings.{HttpSettings}
use Rattle.room_model.specs.Digests.{DigitsOf, IsHeadOf, digits_of}
use Rattle.room_model.specs.Rooms.{Step}
use Rattle.room_model.specs.declared.digests.StartDigest.{StartDigest}
use Rattle.room_model.specs.declared.digests.DigestMismatch.{DigestMismatch}
use Rattle.room_model.specs.declared.digests.DigestMismatch.TheVariants.{OtherDigest}
use Rattle.room_http.specs.declared.arrivals.Arrived.{Arrived}
use Rattle.room_http.specs.declared.arrivals.Arrived.TheVariants.{Message, Refused}
use Rattle.room_http.specs.Arrivals.{Arrival, IsShown, message, refused}
use Rattle.room_http.specs.MessageEvents.{AsksFor}
use Rattle.room_http.specs.ReplyMessages.{IsReply}
use Rattle.room_http.specs.Dialogues.{Finds}
use Rattle.room_http.specs.DigestReplies.{LeadsToAnother}
use Rattle.room_http.proofs.digest_replies.reply_towards.Goals as goal

-- what is refused in the place of a message leaves the room at its digest
stays_elsewhere : (step : Step) (setting : HttpSettings) (digits_of : DigitsOf)
    (terminals : List Terminal) (room : Room) (arrived : Arrived) (r : Refusal) (without : _)
    (at : ℕ) (head : StartDigest) (o : Arrival) → arrived ≡ Refused r without → IsShown arrived o
    → (¬ (IsHeadOf digits_of head terminals room))
    → LeadsToAnother step setting digits_of terminals room (o, at) head
stays_elsewhere step setting digits_of terminals room arrived r without at head (message m) is shown elsewhere =
    absurd (rw is at shown)
stays_elsewhere step setting digits_of terminals room arrived r without at head (refused s other) is shown elsewhere =
    let same = rw is at shown in (Err r, ap Err same.0, elsewhere)

-- what a message asks for was found
finds : (setting : HttpSettings) (terminals : List Terminal) (arrived : Arrived) (given : Given) (bytes : _)
    (at : ℕ) (found : Result Event Refusal) (o : Arrival) → arrived ≡ Message given bytes
    → IsShown arrived o
    → ((m : WholeMessage) → Shows given m → AsksFor setting terminals m at found)
    → Finds setting terminals (o, at) found
finds setting terminals arrived given bytes at found (message m) is shown asks =
    let same = rw is at shown in asks m same.0
finds setting terminals arrived given bytes at found (refused s other) is shown asks = absurd (rw is at shown)

-- what the room did with it is reported
says : {A N D R S Y : Type 0} {B X : Vec ℕ A → Type 0} (r : Result (Vec ℕ A) DigestMismatch)
    → IfOk r B → OnOk r D → IfErr r (λ e. e ≡ OtherDigest → N) → OnErr r R
    → ((bytes : Vec ℕ A) → B bytes → D → X bytes) → (R → S) → (N → Y)
    → MatchResult r X (λ e. S × (e ≡ OtherDigest → Y))
says (Ok bytes) b d n s x stays y = x bytes b d
says (Err e) b d n s x stays y = (stays s, λ is. y (n is))

pub returns-in-Refused-clause-reply : goal.returns-in-Refused-clause-reply
returns-in-Refused-clause-reply g c = record {
  trusted = λ trust. trust;
  unavailable = inl refl;
  says = λ trust terminals room stood. (
    stood,
    λ is elsewhere o shown.
        stays_elsewhere g.M.Room.step c.args.handler.now.setting
        (digits_of g.M.Digested.digest_of (g.M.Room.zone c.args.room.now))
        terminals room c.args.arrived.now c.in-Refused.refusal c.in-Refused.head_only c.args.at c.args.head.now o
        c.in-Refused.is shown elsewhere,
  );
  kept = λ trust kept is. kept;
}

pub returns-in-Ok-clause-reply : goal.returns-in-Ok-clause-reply
returns-in-Ok-clause-reply g c = record {
  trusted = λ trust. c.event_of.ensures.event.trusted (c.act_towards.ensures.trusted trust);
  unavailable = c.act_towards.ensures.unavailable;
  says = λ trust terminals room stood.
      let early = c.act_towards.ensures.trusted trust in
      let asks = c.in-Ok.ensures.event.says early terminals room stood in
      let still = c.event_of.ensures.event.same early terminals room stood in
      let asked = λ (o : Arrival) (shown : IsShown c.args.arrived.now o).
      finds c.args.handler.now.setting terminals c.args.arrived.now c.in-Message.message c.in-Message.bytes c.args.at
      (Ok c.in-Ok.event) o c.in-Message.is shown asks.0 in
      says c.act_towards.result (c.act_towards.ensures.bytes trust)
      (rw c.event_of.ensures.zone at (c.act_towards.ensures.after trust))
      (rw c.event_of.ensures.zone at (c.act_towards.ensures.another trust)) (c.act_towards.ensures.same trust)
      (λ bytes stated after o shown.
      let there = after terminals room still asks.1 in
      let rendered = stated terminals room still asks.1 in
      let states : IsReply (g.M.Room.step c.in-Ok.event room).1 c.args.at c.head_only-head_only.result
      c.is_closing-closing.result bytes.items = search rules in (
        _,
        (
          Ok c.in-Ok.event,
          asked o shown,
          refl,
          rw (c.head_only-head_only.ensures o shown, c.is_closing-closing.ensures o shown) at states,
        ),
        there.1,
        there.0,
      ))
      (λ same. same terminals room still)
      (λ never elsewhere o shown. (Ok c.in-Ok.event, asked o shown, never terminals room still asks.1));
  kept = λ trust kept. c.act_towards.ensures.kept trust;
}
