use Rattle.std.proofs.Common.{◌≡◌, ◌∙◌, ◌&&◌, sym, ap, arith, List, [], ◌∷◌, Bool, true, length}
use Rattle.std.proofs.Common.{refl}
use Rattle.std.specs.List.{list_all}
use Rattle.dispatch_room_sockets.proofs.waiting_callers.Waiting.are_watched.Goals as goal

next_one : {X : Type 0} (f : X → Bool) (all others : List X) (x : X) (b : Bool) → all ≡ x ∷ others
    → f x ≡ b → list_all f all ≡ (b && list_all f others)
next_one f all others x b is one = rw is (ap (λ t. t && list_all f others) one)

none_left : {X : Type 0} (f : X → Bool) (all : List X) → length all ≡ 0 → list_all f all ≡ true
none_left f [] none = refl
none_left f (x ∷ more) none = absurd (omega (arith, none))

pub loop-kept-init : goal.loop-kept-init
loop-kept-init g c = record {
  all =
      ap (list_all (λ k. g.E.Entrance.is_watched c.args.self.now.entrance k.caller))
      c.into_iter-kept-iterator.ensures.into_iter_gives.0;
}

pub loop-kept-preserved : goal.loop-kept-preserved
loop-kept-preserved g c = record {
  all =
      sym (next_one _ _ _ c.in-Some.kept.now true c.in-Some.ensures.steps (sym c.if-not-is_watched.ensures))
      ∙ c.loop-kept.invariant.all;
}

pub returns-then-not-is_watched : goal.returns-then-not-is_watched
returns-then-not-is_watched g c =
    sym (next_one _ _ _ c.in-Some.kept.now _ c.in-Some.ensures.steps (sym c.if-not-is_watched.ensures))
    ∙ c.loop-kept.invariant.all

pub returns : goal.returns
returns g c = sym (none_left _ _ c.in-None.ensures.steps.0) ∙ c.loop-kept.invariant.all
