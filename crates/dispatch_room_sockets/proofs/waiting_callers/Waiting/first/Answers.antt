use Rattle.std.proofs.Common.{◌≡◌, sym, ap, arith, refl, ◌<◌, List, [], ◌∷◌, drop, get_or, length}
use Rattle.std.proofs.Common.{Option, None, Some, IfSome, Bor}
use Rattle.std.specs.Slice.{IsItemAt}
use Rattle.dispatch_room_sockets.proofs.waiting_callers.Waiting.first.Goals as goal

first_of : {X : Type 0} (xs : List X) (x : X) → 0 < length xs → x ≡ get_or xs 0 x → xs ≡ x ∷ drop 1 xs
first_of [] x some is = absurd (omega arith)
first_of (y ∷ ys) x some is = ap (λ z. z ∷ ys) (sym is)

first_item : {X : Type 0} (xs : List X) (r : Option (Bor X)) → IsItemAt xs 0 r
    → IfSome r (λ x. xs ≡ x.now ∷ drop 1 xs)
first_item xs None item = tt
first_item xs (Some x) item = first_of xs x.now item.3.0 item.1

no_item : {X : Type 0} (xs : List X) (r : Option (Bor X)) → IsItemAt xs 0 r → r ≡ None → xs ≡ []
no_item [] r item none = refl
no_item (y ∷ ys) None item none = absurd (omega (arith, item.3))
no_item (y ∷ ys) (Some x) item none = absurd (cc)

pub returns : goal.returns
returns g c = record {
  first = first_item _ _ c.front.ensures.item;
  nobody = no_item _ _ c.front.ensures.item;
}
