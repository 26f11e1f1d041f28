-- Moves, one after another: what holds of the changes of each holds of those of all.
use Rattle.std.proofs.Common.{ap}
use Rattle.std.specs.Prelude.{Err, List, None, Ok, Option, Some, [], refl, ℕ, ◌++◌, ◌∷◌, ◌≡◌}
use Rattle.room_types.specs.Texts.{Callsign}
use Rattle.room_types.specs.declared.answers.MoveLine.{MoveLine}
use Rattle.room_types.specs.declared.asks.Ask.{Ask}
use Rattle.room_types.specs.declared.asks.Ask.TheVariants.{Mobilise, StandDown}
use Rattle.room_types.specs.declared.asks.Move.{Move}
use Rattle.room_types.specs.declared.changes.Change.{Change}
use Rattle.room_model.specs.Decisions.{Verdict, changes_of}
use Rattle.room_model.specs.Room.{Room, apply, apply_one}
use Rattle.room_model.specs.Step.{Course, and_then, ask_for, ask_of, course, course_after, line_of}
use Rattle.room_model.specs.Step.{single_asks, verdict_of}

-- some changes, and then others
pub apply_both : (r : Room) (cs ds : List Change) → apply r (cs ++ ds) ≡ apply (apply r cs) ds
apply_both r [] ds = refl
apply_both r (c ∷ cs) ds = apply_both (apply_one r c) cs ds

-- what holds of a stand-down and of a mobilisation holds of what any move asks
pub by_ask : (P : Ask → Type 0) → ((c : Callsign) → P (StandDown c))
    → ((n : ℕ) (c : Callsign) → P (Mobilise n c)) → (m : Move) → P (ask_of m)
by_ask P down sent m = to m.incident
  where
    to : (o : Option ℕ) → P (ask_for m.callsign o)
    to None = down m.callsign
    to (Some n) = sent n m.callsign

-- the first decides alike, and what follows goes on alike
pub then_alike : (m : Move) (x : Verdict) (f g : List Change → Course)
    → f (changes_of x) ≡ g (changes_of x) → and_then m x f ≡ and_then m x g
then_alike m (Ok x) f g e = ap (course_after x.changes (line_of m x.answer)) e
then_alike m (Err why) f g e = refl

-- of changes, in the room that they are made in
module _ (d at : ℕ) (P : Room → List Change → Type 0) (none : (r : Room) → P r [])
    (one : (m : Move) (r : Room) → P r (changes_of (single_asks d (ask_of m) at r)))
    (more : (r : Room) (cs ds : List Change) → P r cs → P (apply r cs) ds → P r (cs ++ ds)) where
  joined : (r : Room) (cs : List Change) (l : MoveLine) (x : Course) → P r cs
      → P (apply r cs) (changes_of (verdict_of x))
      → P r (changes_of (verdict_of (course_after cs l x)))
  joined r cs l (Ok x) h g = more r cs x.0 h g
  joined r cs l (Err why) h g = none r

  after_one : (r : Room) (m : Move) (x : Verdict) (rest : List Change → Course)
      → P r (changes_of x)
      → ((cs : List Change) → P (apply r cs) (changes_of (verdict_of (rest cs))))
      → P r (changes_of (verdict_of (and_then m x rest)))
  after_one r m (Ok x) rest h g =
      joined r x.changes (line_of m x.answer) (rest x.changes) h (g x.changes)
  after_one r m (Err why) rest h g = none r

  pub by_moves : (ms : List Move) (r : Room) → P r (changes_of (verdict_of (course d ms at r)))
  by_moves [] r = none r
  by_moves (m ∷ ms) r =
      after_one r m (single_asks d (ask_of m) at r) (λ cs. course d ms at (apply r cs)) (one m r)
      (λ cs. by_moves ms (apply r cs))
