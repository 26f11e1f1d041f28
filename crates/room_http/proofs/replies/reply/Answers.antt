use Rattle.std.proofs.Common.{◌≡◌, ap, refl, Bool, Err, List, Ok, Result, ℕ, inl, rules}
use Rattle.std.specs.Prelude.{IfOk, MatchResult, OnErr, OnOk}
use Rattle.room_types.specs.declared.fleet.Terminal.{Terminal}
use Rattle.room_types.specs.declared.refusal_statuses.Refusal.{Refusal}
use Rattle.room_model.specs.Room.{Room}
use Rattle.room_http.specs.ReplyMessages.{IsReply}
use Rattle.room_http.specs.declared.settings.HttpSettings.{HttpSettings}
use Rattle.room_model.specs.Rooms.{Step}
use Rattle.room_http.specs.declared.arrivals.Arrived.{Arrived}
use Rattle.room_http.specs.declared.arrivals.Arrived.TheVariants.{Refused}
use Rattle.room_http.specs.Arrivals.{Arrival, IsShown, is_closing, is_head_only, message, refused}
use Rattle.room_http.specs.Dialogues.{IsReplyTo}
use Rattle.room_http.proofs.replies.reply.Goals as goal

-- well or not, so much holds
either_way : {T E P Q : Type 0} (r : Result T E) → P → Q → OnOk r P × OnErr r Q
either_way (Ok x) p q = (p, tt)
either_way (Err e) p q = (tt, q)

pub returns-in-Err-clause-reply : goal.returns-in-Err-clause-reply
returns-in-Err-clause-reply g c = record { trusted = search rules; unavailable = search rules; says = search rules }

pub returns-in-Err-clause-keeps : goal.returns-in-Err-clause-keeps
returns-in-Err-clause-keeps g c =
    let looks = c.event_of.ensures.looks in
    let kept : g.M.Room.is_trusted c.event_of.new.room → g.M.Room.is_kept c.args.room.now
    → g.M.Room.is_kept c.event_of.new.room = search rules in
    record {
      kept = λ trust. (either_way {Q = Unit {0}} c.refused-in-Err.result (kept trust) tt).0;
      left =
          λ trust.
          (either_way {P = Unit {0}} c.refused-in-Err.result tt
          (λ was terminals room stood o shown. inl (looks.left trust was terminals room stood))).1;
    }

-- what is refused in the place of a message is reported, and the room stays
stated : (step : Step) (setting : HttpSettings) (terminals : List Terminal) (room : Room) (arrived : Arrived)
    (r : Refusal) (without head_only closing : Bool) (at : ℕ) (bytes : List ℕ) (o : Arrival)
    → arrived ≡ Refused r without → IsShown arrived o
    → head_only ≡ is_head_only o → closing ≡ is_closing o
    → IsReply (Err r) at head_only closing bytes
    → IsReplyTo step setting terminals room (o, at) room bytes
stated step setting terminals room arrived r without head_only closing at bytes (message m) is shown headless closes
    says = absurd (rw is at shown)
stated step setting terminals room arrived r without head_only closing at bytes (refused s other) is shown headless
    closes
    says =
    let same = rw is at shown in (Err r, ap Err same.0, refl, rw (headless, closes) at says)

if_answered : {T E Q : Type 0} {P R : T → Type 0} (r : Result T E) → IfOk r P
    → ((x : T) → P x → R x) → Q → MatchResult r R (λ _. Q)
if_answered (Ok x) p then q = then x p
if_answered (Err e) p then q = q

pub returns-in-Refused-clause-reply : goal.returns-in-Refused-clause-reply
returns-in-Refused-clause-reply g c = record {
  trusted = λ trust. trust;
  unavailable = search rules;
  says = λ trust terminals room stood. if_answered c.refused.result c.refused.ensures.ok
      (λ bytes says o shown. (
        room,
        stated g.M.Room.step c.args.handler.now.setting terminals room c.args.arrived.now c.in-Refused.refusal
            c.in-Refused.head_only _ _ c.args.at bytes.items o c.in-Refused.is shown
            (c.head_only-head_only.ensures o shown) (c.is_closing-closing.ensures o shown) says,
        stood,
      )) stood;
}
