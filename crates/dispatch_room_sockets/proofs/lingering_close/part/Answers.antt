use Rattle.std.proofs.Common.{rules, ◌≡◌, ◌∷◌, true, Some}
use Rattle.dispatch_room_sockets.specs.LingeringClose.{drains_until, shut}
use Rattle.dispatch_room_sockets.proofs.PartingLaws.{parted_by}
use Rattle.dispatch_room_sockets.proofs.SweepLaws.{Grows-more}
use Rattle.dispatch_room_sockets.proofs.lingering_close.part.Goals as goal

pub returns-then-shut-clause-parted : goal.returns-then-shut-clause-parted
returns-then-shut-clause-parted g c =
    let could : c.shut.result ≡ true = search rules in
    let drained = c.drain.ensures.drained in
    let until : drains_until (g.P.Closing.is_open c.args.peer.now) (g.P.Closing.answered c.args.peer.now)
    ≡ Some c.in-Some.moment = cc in (
      shut true ∷ drained.0,
      Grows-more _ _ _ _ _ (rw could at c.shut.ensures.done) drained.1,
      parted_by _ _ _ until drained.2,
    )
