-- A list in the order of entries has the most urgent first.
use Rattle.std.proofs.Common.{ap, arith, inl, inr, subst, sym, ◌∙◌}
use Rattle.std.specs.Ordering.{nat_cmp, ordering_then}
use Rattle.std.specs.Prelude.{List, Ok, [], suc, take, refl, zero, ℕ, ◌++◌, ◌<◌, ◌∷◌, ◌≡◌, ◌⊎◌}
use Rattle.std.specs.declared.cmp.Ordering.{Ordering}
use Rattle.std.specs.declared.cmp.Ordering.TheVariants.{Equal, Greater, Less}
use Rattle.std.proofs.lemmas.Cmp.{tied_itself}
use Rattle.room_place.specs.Choice.{Among, AreDistinct}
use Rattle.room_types.specs.KeyLemmas.{entries_total}
use Rattle.room_types.specs.KeyedRows.{IsBelowAll, IsKeyed}
use Rattle.room_types.specs.Keys.{entry_cmp, entry_key}
use Rattle.room_types.specs.Ranks.{rank_cmp, rank_number}
use Rattle.room_types.specs.declared.answers.QueueEntry.{QueueEntry}
use Rattle.room_model.proofs.QueueLaws.{ordered_queue}
use Rattle.room_model.specs.Events.{by_desk}
use Rattle.room_model.specs.Queue.{IsQueueOf, entries, ordered_from, show_queue}
use Rattle.room_model.specs.Room.{Room}
use Rattle.room_model.specs.Step.{answer_to}
use Rattle.room_types.specs.declared.answers.Answer.TheVariants as answer
use Rattle.room_types.specs.declared.asks.Ask.TheVariants.{Queue}
use Rattle.room_laws.specs.UrgentFirst.{IsMoreUrgent, IsUrgentFirst}

abbrev IsOrdered : List QueueEntry → Type 0
IsOrdered q = IsKeyed entry_cmp entry_key q

below : (e : QueueEntry) (q : List QueueEntry) (f : QueueEntry)
    → IsBelowAll entry_cmp entry_key e q → Among f q → IsMoreUrgent e f
below e [] f h a = absurd a
below e (x ∷ q) f h (inl same) = ap (entry_cmp e) same ∙ h.0
below e (x ∷ q) f h (inr a) = below e q f h.1 a

distinct : (q : List QueueEntry) → IsOrdered q → AreDistinct q
distinct [] h = tt
distinct (x ∷ q) h = (
  λ again. let twice : Less ≡ Equal = sym (below x q x h.0 again) ∙ tied_itself entries_total x in cc,
  distinct q h.1,
)

-- an entry of a lower rank is not less urgent
lower_rank : (o p : Ordering) → o ≡ Greater → ordering_then o p ≡ Less → ⊥
lower_rank Less p e f = cc
lower_rank Equal p e f = cc
lower_rank Greater p e f = cc

greater_rank : (m n : ℕ) → m < n → nat_cmp n m ≡ Greater
greater_rank m n less = grind arith

ranked : (before after : List QueueEntry) (e f : QueueEntry) → IsOrdered (before ++ f ∷ after)
    → Among e (before ++ f ∷ after) → rank_number e.rank < rank_number f.rank → Among e before
ranked [] after e f h (inl same) less =
    let alike : rank_number e.rank ≡ rank_number f.rank = ap (λ (x : QueueEntry). rank_number x.rank) same in
    omega (arith, alike, less)
ranked [] after e f h (inr a) less =
    absurd (lower_rank (rank_cmp f.rank e.rank) _
    (greater_rank (rank_number e.rank) (rank_number f.rank) less) (below f after e h.0 a))
ranked (x ∷ before) after e f h (inl same) less = inl same
ranked (x ∷ before) after e f h (inr a) less = inr (ranked before after e f h.1 a less)

taken : (many : ℕ) (q : List QueueEntry) (e f : QueueEntry) → IsOrdered q → Among e (take many q)
    → Among f q → Among f (take many q) ⊎ IsMoreUrgent e f
taken zero q e f h a b = absurd a
taken (suc n) [] e f h a b = absurd b
taken (suc n) (x ∷ q) e f h a (inl same) = inl (inl same)
taken (suc n) (x ∷ q) e f h (inl same) (inr b) = inr (ap (λ z. entry_cmp z f) same ∙ below x q f h.0 b)
taken (suc n) (x ∷ q) e f h (inr a) (inr b) = elim (taken n q e f h.1 a b) [
  | inl k ↦ inl (inr k)
  | inr k ↦ inr k
]

pub urgent_first : (d at : ℕ) (room : Room) (q : List QueueEntry)
    → IsQueueOf (entries d at room) q → IsUrgentFirst d at room q
urgent_first d at room q is = record {
  there = λ e. (is.there e, is.only e);
  once = distinct q is.increasing;
  by_rank =
      λ before after e f split here less.
      ranked before after e f (subst IsOrdered split is.increasing) (subst (Among e) split here) less;
  first = λ many e f here there. taken many q e f is.increasing here there;
}

-- the queue that a desk is shown
pub desk_sees : (d at : ℕ) (room : Room) → (queue : List QueueEntry)
    × (answer_to (by_desk d Queue at) room ≡ Ok (answer.Queue queue))
    × IsUrgentFirst d at room queue
unfolding show_queue
desk_sees d at room =
    let queue = ordered_from [] (entries d at room) in
    (queue, refl, urgent_first d at room queue (ordered_queue (entries d at room)))
