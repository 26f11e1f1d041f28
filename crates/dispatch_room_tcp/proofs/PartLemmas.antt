-- Parts of a room's service, one after another.
use Rattle.std.proofs.Common.{◌≡◌, ◌⊎◌, ◌+◌, arith, length, refl, ap, inl, inr, sym, subst, [], ◌∷◌}
use Rattle.std.proofs.Common.{Bool, true, false, Option, None, Some, Result, Ok, Err}
use Rattle.std.specs.Prelude.{List, OnErr, is_err, not, ◌&&◌}
use Rattle.sqlite_trees.specs.declared.store.Store.{Ghosts}
use Rattle.dispatch_room_exit.specs.declared.exit_status.Done.{Done}
use Rattle.dispatch_room_exit.specs.declared.exit_status.Failure.{Failure}
use Rattle.dispatch_room_serving.specs.Callers.{MayCall, Printing, Prints}
use Rattle.dispatch_room_serving.specs.Journals.{EndsAfter}
use Rattle.dispatch_room_journal.specs.declared.list_ends.ListEnd.{ListEnd}
use Rattle.dispatch_room_serving.specs.declared.journals.Journal.{Journal}
use Rattle.dispatch_room_tcp.specs.ServedFiles.{PrintsServing}
use Rattle.dispatch_room_disk.specs.CommandSteps.{Quietly}
use Rattle.dispatch_room_tcp.specs.Hosts.{Effect}
use Rattle.dispatch_room_tcp.specs.ServedParts.{EndsAs, EndsLast, EndsPart, HasList, IsPart, Manner}
use Rattle.dispatch_room_tcp.specs.ServedParts.{OpensFor, PartsBefore, Standpoint}

-- where there is a list, a part ends as its service does with it
pub ends_as : {W : Type 0} (ends : W → W → Type 0) (old new : Option (Journal W))
    (served result : Result Done Failure) → EndsAfter ends old new served result
    → EndsAs true served result
ends_as ends old new (Ok done) (Ok written) it = inl (ap Ok it.0)
ends_as ends old new (Ok done) (Err fault) it = inr (refl, refl, ap Err it.0)
ends_as ends old new (Err fault) result it = inl it.0

-- what is printed as serving ends, and where its list can't say so
pub prints_serving : {T : Type 0} (old new : Printing) (result : Result T Failure)
    → Prints old new result → PrintsServing old.has_begun old.printed new.printed result
prints_serving old new (Ok done) may = may.printed
prints_serving old new (Err fault) (inl same) = inl (ap (λ it. it.printed) same)
prints_serving old new (Err fault) (inr (inl may)) = inr (inl may.printed)
prints_serving old new (Err fault) (inr (inr un)) = inr (inr (un.first, un.network))

pub printed_to_end : (has_journal : Bool) (old new : Printing) (served result : Result Done Failure)
    → EndsAs has_journal served result → Prints old new served → Prints old new result
printed_to_end has_journal old new served result (inl same) prints =
    subst (λ (it : Result Done Failure). Prints old new it) (sym same) prints
printed_to_end has_journal old new (Ok done) result (inr ends) may =
    subst (λ (it : Result Done Failure). Prints old new it) (sym ends.2) (inr (inl may))
printed_to_end has_journal old new (Err fault) result (inr ends) prints = absurd (cc ends.0)

-- where no further part is opened nothing more is printed
pub called_before : (a b c : Printing) → MayCall a b → c ≡ b → MayCall a c
called_before a b c may same = subst (λ it. MayCall a it) (sym same) may

pub where_failed : {T E : Type 0} (result : Result T E) (P : Type 0) → P → OnErr result P
where_failed (Ok x) P is = tt
where_failed (Err e) P is = is

pub not_true : (b : Bool) → not b ≡ true → b ≡ false
not_true true is = absurd (cc)
not_true false is = refl

pub not_false : (b : Bool) → not b ≡ false → b ≡ true
not_false true is = refl
not_false false is = absurd (cc)

pub second_true : (a b : Bool) → (a && b) ≡ true → b ≡ true
second_true true b is = is
second_true false b is = absurd (cc)

module _ {S F : Type 0} (g : Ghosts S) (manner : Manner F) where
  abbrev pub first_before : (first : Standpoint F S) → PartsBefore g manner first first
  first_before first = record { earlier = []; are = refl; only = λ once. refl }

  abbrev pub first_part : (first last : Standpoint F S) (result : Result Done Failure) → last.done ≡ first.done
      → IsPart g manner.watch manner.limits manner.first first.interval last.interval result
      → EndsPart g manner first last result
  first_part first last result same is =
      record { at = first; before = first_before first; list = manner.first; listed = (refl, same); is = is }

  -- after a part that ended well another begins
  pub next_before : (first now : Standpoint F S) (result : Result Done Failure) → manner.limits.renews ≡ true
      → is_err result ≡ false → (part : EndsPart g manner first now result)
      → (next : PartsBefore g manner first now)
      × (length next.earlier ≡ length part.before.earlier + 1)
      × ((old new : Option (List (Effect F))) (list : Option (F × ListEnd))
      → Quietly (OpensFor manner.journal) old new (Ok list) → HasList manner next.earlier old new list)
  next_before first now (Ok done) renews well part = (
    record {
      earlier = part.at ∷ part.before.earlier;
      are = (part.before.are, part.list, part.listed, done, part.is);
      only = λ once. absurd (cc);
    },
    omega arith,
    λ old new list opens. opens,
  )
  next_before first now (Err fault) renews well part = absurd (cc)

  -- where one part is all, it is the last
  pub ends_once : (first last : Standpoint F S) (result : Result Done Failure) → manner.limits.renews ≡ false
      → last.done ≡ first.done
      → IsPart g manner.watch manner.limits manner.first first.interval last.interval result
      → EndsLast g manner first last result
  ends_once first last result once same is = record {
    part = first_part first last result same is;
    followed = λ renews well. absurd (cc (once, renews));
  }

  -- and one that ended badly is
  pub ends_badly : (first last : Standpoint F S) (result : Result Done Failure)
      → is_err result ≡ true → EndsPart g manner first last result
      → EndsLast g manner first last result
  ends_badly first last (Ok done) bad part = absurd (cc)
  ends_badly first last (Err fault) bad part = record { part = part; followed = λ renews well. absurd (cc well) }
