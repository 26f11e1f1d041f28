use Rattle.std.proofs.Common.{◌≡◌, ℕ, Bool, Err, IfOk, List, Ok, Option, Result, Some, false, true}
use Rattle.room_http_messages.specs.Streams.{WritesAll}
use Rattle.dispatch_room_board.specs.Requests.{Sends}
use Rattle.dispatch_room_tcp.specs.HeardRooms.{IsAnswered, IsHeard}
use Rattle.dispatch_room_commands.proofs.board.hear_on.Goals as goal

module _ {R W : Type 0} (left : R → Option (List ℕ)) (read_failed : R → Bool)
    (held : W → Option (List ℕ)) (write_failed : W → Bool) where
  on_sides : (sides : Option (R × W)) (side : R × W) (asked : List ℕ) (most : ℕ) (heard : List ℕ)
      → sides ≡ Some side → IsAnswered left read_failed held write_failed side asked most heard
      → IsHeard left read_failed held write_failed sides asked most heard
  on_sides sides side asked most heard is said = rw is said

-- what was sent was written, or the beginning of it
writes : {W : Type 0} (held : W → Option (List ℕ)) (write_failed : W → Bool) (old new : W) (asked : List ℕ)
    (is_whole : Bool) → Sends held write_failed old new asked is_whole
    → (sent : Result (Unit {0}) (Unit {0})) × WritesAll held write_failed old new asked sent
writes held write_failed old new asked true sends = (Ok tt, record { all = sends; part = tt })
writes held write_failed old new asked false sends = (Err tt, record { all = tt; part = sends })

-- what was heard is both
both : {T E : Type 0} (r : Result T E) (P Q S : T → Type 0) → ((x : T) → P x → Q x → S x)
    → IfOk r P → IfOk r Q → IfOk r S
both (Ok x) P Q S more p q = more x p q
both (Err e) P Q S more p q = tt

pub returns-in-Some : goal.returns-in-Some
returns-in-Some g c =
    let sent = writes _ _ _ _ _ c.send-sent.result c.send-sent.ensures in
    both c.hear.result _ _ _
    (λ heard said all.
    on_sides _ _ _ _ _ (c.in-Some.reader, c.in-Some.writer) _ _ heard.items c.in-Some.is (record {
      after = (c.hear.new.reader, c.send-sent.new.writer);
      sent = sent.0;
      asks = sent.1;
      said = said;
      all = all;
    }))
    c.hear.ensures.heard
    c.hear.ensures.all
