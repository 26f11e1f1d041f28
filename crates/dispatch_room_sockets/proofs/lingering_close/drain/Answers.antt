use Rattle.std.proofs.Common.{arith, rules, refl, inl, inr, ◌≡◌, ◌<◌, ◌∷◌, [], ◌++◌, true, false}
use Rattle.std.proofs.Common.{replicate}
use Rattle.std.proofs.lemmas.List.{replicate_more}
use Rattle.dispatch_room_sockets.specs.LingeringClose.{threw}
use Rattle.dispatch_room_sockets.proofs.PartingLaws.{Throws-more}
use Rattle.dispatch_room_sockets.proofs.SweepLaws.{Grows-more}
use Rattle.dispatch_room_sockets.proofs.lingering_close.drain.Goals as goal

pub returns-then-not-throw_away-clause-drained : goal.returns-then-not-throw_away-clause-drained
returns-then-not-throw_away-clause-drained g c =
    let none : c.throw_away.result ≡ false = search rules in
    let few : c.loop-piece._piece < 4096 = omega arith in (
      replicate c.loop-piece._piece (threw c.args.moment true) ++ threw c.args.moment false ∷ [],
      Grows-more _ _ _ _ _ c.loop-piece.invariant.done (rw none at c.throw_away.ensures.done),
      (c.loop-piece._piece, inl (few, refl)),
    )

pub returns-then-not-throw_away-clause-thrown : goal.returns-then-not-throw_away-clause-thrown
returns-then-not-throw_away-clause-thrown g c =
    Throws-more _ _ _ _ _ _ c.loop-piece.invariant.thrown c.throw_away.ensures.thrown (omega arith)

pub loop-piece-preserved : goal.loop-piece-preserved
loop-piece-preserved g c =
    let more : c.throw_away.result ≡ true = search rules in
    record {
      thrown = Throws-more _ _ _ _ _ _ c.loop-piece.invariant.thrown c.throw_away.ensures.thrown (omega arith);
      done =
          rw replicate_more at
          (Grows-more _ _ _ _ _ c.loop-piece.invariant.done (rw more at c.throw_away.ensures.done));
    }

pub returns-clause-drained : goal.returns-clause-drained
returns-clause-drained g c =
    let all : c.loop-piece._piece ≡ 4096 = omega arith in (
      replicate c.loop-piece._piece (threw c.args.moment true),
      c.loop-piece.invariant.done,
      (c.loop-piece._piece, inr (all, refl)),
    )
