use Rattle.std.proofs.Common.{List, ◌≡◌}
use Rattle.room_place.specs.declared.plans.Area.{Area}
use Rattle.room_model.specs.Room.{IsInOrder}
use Rattle.room_model.specs.RoomSlices.{room_of}
use Rattle.dispatch_room_archive.specs.Composition.{puts}
use Rattle.dispatch_room_archive.specs.Successor.{renewed}
use Rattle.dispatch_room_archive.specs.Leftovers.{puts_kept}
use Rattle.dispatch_room_archive.proofs.LeftLaws.{if_ok, makes_renewed}
use Rattle.dispatch_room_archive.proofs.successor.puts_since.Goals as goal

pub returns : goal.returns
returns c =
    let past = c.in_ok-past.past in
    let s = c.args.rows.now in
    if_ok (λ changes. (plan : List Area) → changes.items ≡ puts_kept past.since (room_of plan past.rows.now))
    (λ changes.
    (plan : List Area) → IsInOrder (room_of plan s) → changes.items ≡ puts (renewed c.args.since (room_of plan s)))
    c.puts_of.result c.puts_of.ensures (λ changes f.
    makes_renewed c.args.since s past.since past.rows.now c.in_ok-past.ensures.0 c.in_ok-past.ensures.1 changes.items f)
