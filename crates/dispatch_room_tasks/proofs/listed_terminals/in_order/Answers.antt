use Rattle.std.proofs.Common.{IsPermutation, IsSorted, List, ap, is_lt, refl, subst, sym, ◌+◌, ◌∙◌}
use Rattle.std.proofs.Common.{◌≡◌}
use Rattle.std.specs.Prelude.{slice_index_or}
use Rattle.dispatch_room_tasks.specs.ListedTerminals.{listed_cmp}
use Rattle.dispatch_room_tasks.specs.contracts.listed_terminals.ListedOrd.TheImpl.{cmp-value}
use Rattle.dispatch_room_tasks.specs.declared.listed_terminals.Listed.{Listed}
use Rattle.dispatch_room_tasks.specs.declared.listed_terminals.Listed.TheVariants.{Crew, Desk}
use Rattle.dispatch_room_tasks.specs.declared.listed_terminals.Listed.TheVariants.{Position}
use Rattle.dispatch_room_tasks.proofs.listed_terminals.in_order.Goals as goal

-- the derived order is the one that is said
same_cmp : (a b : Listed) → cmp-value.it a b ≡ listed_cmp a b
same_cmp (Desk d) (Desk e) = refl
same_cmp (Desk d) (Position q) = refl
same_cmp (Desk d) (Crew e) = refl
same_cmp (Position p) (Desk e) = refl
same_cmp (Position p) (Position q) = refl
same_cmp (Position p) (Crew e) = refl
same_cmp (Crew c) (Desk e) = refl
same_cmp (Crew c) (Position q) = refl
same_cmp (Crew c) (Crew e) = refl

same_order : (xs : List Listed) → IsSorted cmp-value.it xs → IsSorted listed_cmp xs
same_order xs sorted k d low high =
    ap is_lt (sym (same_cmp (slice_index_or xs (k + 1) d) (slice_index_or xs k d))) ∙ sorted k d low high

pub returns : goal.returns
returns c = (
  subst (λ l. IsPermutation l c.sort.new.self.items) c.in_ok-listed.ensures c.sort.ensures.permutation,
  same_order c.sort.new.self.items c.in_ok-sort.ensures.sorted,
)
