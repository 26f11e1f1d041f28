-- Steps that were done one after another.
use Rattle.std.proofs.Common.{◌≡◌, ◌∙◌, ap, append_assoc, List, ◌∷◌, ◌++◌, Option, None, Some}
use Rattle.std.proofs.Common.{Result, Ok, Err, sym, OnOk, IsOk, IfErr, ℕ, [], drop, get_or, length}
use Rattle.std.proofs.Common.{map, refl, subst, take, ◌+◌, ◌<◌}
use Rattle.std.proofs.lemmas.List.{map-append, take-append-drop, take_more}
use Rattle.std.specs.List.{AllByRecursion}
use Rattle.std.specs.Result.{IfOk, IsErrAnd}
use Rattle.dispatch_room_disk.specs.FileSteps.{Does, Follows, FollowsFor, Stops}

pub both : {S : Type 0} (first rest : List S) (a b c : Option (List S)) → Does first a b → Does rest b c
    → Does (first ++ rest) a c
both first rest None b c done more = tt
both first rest (Some old) None c done more = absurd done
both first rest (Some old) (Some new) None done more = more
both first rest (Some old) (Some new) (Some last) done more =
    more ∙ ap (λ steps. steps ++ rest) done ∙ append_assoc old first rest

pub then : {S T E : Type 0} (first rest : List S) (a b c : Option (List S)) (r : Result T E) → Does first a b
    → Follows rest b c r → Follows (first ++ rest) a c r
then first rest None b c (Ok done) before more = tt
then first rest None b c (Err fault) before more = tt
then first rest (Some old) b c (Ok done) before more = both first rest (Some old) b c before more
then first rest (Some old) None c (Err fault) before more = absurd before
then first rest (Some old) (Some new) c (Err fault) before (some, failed, after, is, done) = (
  first ++ some,
  failed,
  after,
  ap (λ steps. first ++ steps) is ∙ sym (append_assoc first some (failed ∷ after)),
  both first some (Some old) (Some new) c before done,
)

pub fails : {S T E : Type 0} (first rest : List S) (a b : Option (List S)) (r : Result T E) (P : E → Type 0)
    → IsErrAnd r P → Stops first a b → Follows (first ++ rest) a b r
fails first rest a b (Ok done) P is stops = absurd is
fails first rest None b (Err fault) P is stops = tt
fails first rest (Some old) b (Err fault) P is (some, failed, after, same, done) = (
  some,
  failed,
  after ++ rest,
  ap (λ steps. steps ++ rest) same ∙ append_assoc some (failed ∷ after) rest,
  done,
)

-- one of the steps of a loop failed
pub fails_at : {S X T E : Type 0} (f : X → S) (xs : List X) (i : ℕ) (d : X) (rest : List S) (a b c : Option (List S))
    (r : Result T E) (P : E → Type 0) → i < length xs → Does (map f (take i xs)) a b → IsErrAnd r P
    → Stops (f (get_or xs i d) ∷ []) b c → Follows (map f xs ++ rest) a c r
fails_at f xs i d rest a b c r P below done is stops =
    subst (λ steps. Follows steps a c r) (sym parts)
    (then (map f (take i xs)) _ a b c r done
    (fails (f (get_or xs i d) ∷ []) (map f (drop (i + 1) xs) ++ rest) b c r P is stops))
  where
    whole : take i xs ++ get_or xs i d ∷ drop (i + 1) xs ≡ xs
    whole =
        sym (append_assoc (take i xs) (get_or xs i d ∷ []) (drop (i + 1) xs))
        ∙ ap (λ t. t ++ drop (i + 1) xs) (sym (take_more xs i d below)) ∙ take-append-drop (i + 1) xs

    parts : map f xs ++ rest ≡ map f (take i xs) ++ f (get_or xs i d) ∷ (map f (drop (i + 1) xs) ++ rest)
    parts =
        ap (λ t. map f t ++ rest) (sym whole)
        ∙ ap (λ t. t ++ rest) (map-append f (take i xs) (get_or xs i d ∷ drop (i + 1) xs))
        ∙ append_assoc (map f (take i xs)) (f (get_or xs i d) ∷ map f (drop (i + 1) xs)) rest

of_each : {S : Type 0} (P : S → Type 0) (some : List S) (step : S) (more : List S)
    → AllByRecursion P (some ++ step ∷ more) → P step
of_each P [] step more each = each.0
of_each P (first ∷ some) step more each = of_each P some step more each.1

module _ {S T F : Type 0} (may_have : S → F → Type 0) where
  pub then_for : (first rest : List S) (a b c : Option (List S)) (r : Result T F) → Does first a b
      → FollowsFor may_have rest b c r → FollowsFor may_have (first ++ rest) a c r
  then_for first rest a b c (Ok done) before more = both first rest a b c before more
  then_for first rest a b c (Err fault) before more = record {
    first = first ++ more.first;
    failed = more.failed;
    rest = more.rest;
    are =
        ap (λ steps. first ++ steps) more.are
        ∙ sym (append_assoc first more.first (more.failed ∷ more.rest));
    done = both first more.first a b c before more.done;
    why = more.why;
  }

  -- a step failed with a fault that it may have
  pub fails_for : (step : S) (rest : List S) (a b : Option (List S)) (r : Result T F) (P : F → Type 0)
      → IsErrAnd r P → ((fault : F) → P fault → may_have step fault) → Stops (step ∷ []) a b
      → FollowsFor may_have (step ∷ rest) a b r
  fails_for step rest a b (Ok done) P is by stops = absurd is
  fails_for step rest a b (Err fault) P is by stops =
      record { first = []; failed = step; rest = rest; are = refl; done = none_done a stops; why = by fault is }
    where
      none_done : (a : Option (List S)) → Stops (step ∷ []) a b → Does [] a b
      none_done None stops = tt
      none_done (Some old) ([], failed, after, same, done) = done
      none_done (Some old) (x ∷ [], failed, after, same, done) = absurd (cc same)
      none_done (Some old) (x ∷ y ∷ more, failed, after, same, done) = absurd (cc same)

  -- what came of the steps is reported with a fault that each of them may have
  pub reported : {U E : Type 0} (step : S) (steps : List S) (a b : Option (List S)) (r : Result U E) (s : Result T F)
      (P : E → F → Type 0) → OnOk r (IsOk s) → IfErr r (λ e. IsErrAnd s (P e))
      → IfErr s (λ fault. AllByRecursion (λ it. may_have it fault) (step ∷ steps))
      → Follows (step ∷ steps) a b r → FollowsFor may_have (step ∷ steps) a b s
  reported step steps a b (Ok x) (Ok y) P good bad each done = done
  reported step steps a b (Ok x) (Err fault) P good bad each done = absurd (cc good)
  reported step steps a b (Err e) (Ok y) P good bad each done = absurd bad
  reported step steps None b (Err e) (Err fault) P good bad each done =
      record { first = []; failed = step; rest = steps; are = refl; done = tt; why = each.0 }
  reported step steps (Some old) b (Err e) (Err fault) P good bad each (some, failed, after, is, done) = record {
    first = some;
    failed = failed;
    rest = after;
    are = is;
    done = done;
    why =
        of_each (λ it. may_have it fault) some failed after
        (subst (λ them. AllByRecursion (λ it. may_have it fault) them) is each);
  }

-- what was done is not known
pub unknown : {S T E : Type 0} (steps : List S) (r : Result T E) → Follows steps None None r
unknown steps (Ok done) = tt
unknown steps (Err fault) = tt

-- what failed is not done
pub no_ok : {T E : Type 0} (r : Result T E) (P : E → Type 0) (Q : T → Type 0) → IsErrAnd r P → IfOk r Q
no_ok (Ok x) P Q is = absurd is
no_ok (Err e) P Q is = tt

pub all_append : {S : Type 0} (P : S → Type 0) (first rest : List S) → AllByRecursion P first → AllByRecursion P rest
    → AllByRecursion P (first ++ rest)
all_append P [] rest one two = two
all_append P (step ∷ first) rest one two = (one.0, all_append P first rest one.1 two)
