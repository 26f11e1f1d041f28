-- Lemmas: the orders of keys are total, and distinguish all keys.
use Rattle.std.proofs.Common.{◌≡◌, ℕ, ap, refl, sym, ◌∙◌, Option, Some, None}
use Rattle.std.specs.Prelude.{◌==◌, if◌then◌else◌}
use Rattle.std.specs.declared.cmp.Ordering.TheVariants.{Less, Equal}
use Rattle.std.specs.Cmp.{IsTotalOrder}
use Rattle.std.specs.Ordering.{nat_cmp, ordering_then, ordering_reverse}
use Rattle.std.proofs.lemmas.Cmp.{nat_cmp_total, nat_list_cmp_total, on_total, then_total}
use Rattle.std.proofs.lemmas.Map.Lookups.{CmpEqualImpliesEq, exact_unsigned, exact_bytes}
use Rattle.std.proofs.lemmas.Map.Lookups.{exact_pairs}
use Rattle.room_types.specs.Ranks.{rank_cmp, rank_number}
use Rattle.room_types.specs.Texts.{Callsign}
use Rattle.room_types.specs.declared.answers.QueueEntry.{QueueEntry}
use Rattle.room_types.specs.declared.ranks.Rank.{Rank}
use Rattle.room_types.specs.declared.ranks.Rank.TheVariants as rank
use Rattle.room_types.specs.Keys.{callsign_cmp, pair_cmp, numbered_cmp, option_callsign_cmp}
use Rattle.room_types.specs.Keys.{entry_cmp}

pub callsigns_total : IsTotalOrder callsign_cmp
callsigns_total = nat_list_cmp_total

pub pairs_total : IsTotalOrder pair_cmp
pairs_total = then_total (on_total (λ (p : ℕ × ℕ). p.0) nat_cmp_total)
    (on_total (λ (p : ℕ × ℕ). p.1) nat_cmp_total)

pub numbered_total : IsTotalOrder numbered_cmp
numbered_total = then_total (on_total (λ (p : Callsign × ℕ). p.0) callsigns_total)
    (on_total (λ (p : Callsign × ℕ). p.1) nat_cmp_total)

pub exact_callsigns : CmpEqualImpliesEq callsign_cmp
exact_callsigns a b h = exact_bytes a b h

pub exact_pair : CmpEqualImpliesEq pair_cmp
exact_pair = exact_pairs nat_cmp nat_cmp exact_unsigned exact_unsigned

pub exact_numbered : CmpEqualImpliesEq numbered_cmp
exact_numbered = exact_pairs callsign_cmp nat_cmp exact_callsigns exact_unsigned

pub exact_number : CmpEqualImpliesEq nat_cmp
exact_number = exact_unsigned

options_antisymm : (a b : Option Callsign)
    → option_callsign_cmp a b ≡ ordering_reverse (option_callsign_cmp b a)
options_antisymm None None = refl
options_antisymm None (Some b) = refl
options_antisymm (Some a) None = refl
options_antisymm (Some a) (Some b) = callsigns_total.antisymm a b

options_trans : (a b c : Option Callsign) → option_callsign_cmp a b ≡ Less
    → option_callsign_cmp b c ≡ Less → option_callsign_cmp a c ≡ Less
options_trans None None c e f = f
options_trans None (Some b) None e f = cc
options_trans None (Some b) (Some c) e f = refl
options_trans (Some a) None c e f = cc
options_trans (Some a) (Some b) None e f = cc
options_trans (Some a) (Some b) (Some c) e f = callsigns_total.trans a b c e f

options_congr : (a b c : Option Callsign) → option_callsign_cmp a b ≡ Equal
    → option_callsign_cmp a c ≡ option_callsign_cmp b c
options_congr None None c e = refl
options_congr None (Some b) c e = cc
options_congr (Some a) None c e = cc
options_congr (Some a) (Some b) None e = refl
options_congr (Some a) (Some b) (Some c) e = callsigns_total.congr a b c e

options_total : IsTotalOrder option_callsign_cmp
options_total = record { antisymm = options_antisymm; trans = options_trans; congr = options_congr }

exact_options : CmpEqualImpliesEq option_callsign_cmp
exact_options None None e = refl
exact_options None (Some b) e = cc
exact_options (Some a) None e = cc
exact_options (Some a) (Some b) e = ap Some (exact_callsigns a b e)

-- the rank of a number of 1 to 8
abbrev rank_at : ℕ → Rank
rank_at n =
    if n == 1 then rank.Unserved else if n == 2 then rank.Unacknowledged
    else if n == 3 then rank.LateForScene else if n == 4 then rank.OutOfTurn
    else if n == 5 then rank.Overdue else if n == 6 then rank.ShiftOver
    else if n == 7 then rank.Uncovered else rank.Unanswered

numbered : (r : Rank) → rank_at (rank_number r) ≡ r
numbered rank.Unserved = refl
numbered rank.Unacknowledged = refl
numbered rank.LateForScene = refl
numbered rank.OutOfTurn = refl
numbered rank.Overdue = refl
numbered rank.ShiftOver = refl
numbered rank.Uncovered = refl
numbered rank.Unanswered = refl

pub exact_ranks : CmpEqualImpliesEq rank_cmp
exact_ranks a b e =
    sym (numbered a) ∙ (ap rank_at (exact_unsigned (rank_number a) (rank_number b) e) ∙ numbered b)

pub entries_total : IsTotalOrder entry_cmp
entries_total = then_total (on_total (λ (e : QueueEntry). rank_number e.rank) nat_cmp_total)
    (then_total (on_total (λ (e : QueueEntry). e.since) nat_cmp_total)
    (then_total (on_total (λ (e : QueueEntry). e.number) nat_cmp_total)
    (on_total (λ (e : QueueEntry). e.callsign) options_total)))

pub exact_entries : CmpEqualImpliesEq entry_cmp
exact_entries a b h =
    ap (λ (p : Rank × (ℕ × (ℕ × Option Callsign))).
    record { rank = p.0; since = p.1.0; number = p.1.1.0; callsign = p.1.1.1 })
    (exact_pairs rank_cmp (λ (x y : ℕ × (ℕ × Option Callsign)). ordering_then (nat_cmp x.0 y.0)
    (ordering_then (nat_cmp x.1.0 y.1.0) (option_callsign_cmp x.1.1 y.1.1))) exact_ranks
    (exact_pairs nat_cmp (λ (x y : ℕ × Option Callsign). ordering_then (nat_cmp x.0 y.0)
    (option_callsign_cmp x.1 y.1)) exact_unsigned
    (exact_pairs nat_cmp option_callsign_cmp exact_unsigned exact_options))
    (a.rank, (a.since, (a.number, a.callsign))) (b.rank, (b.since, (b.number, b.callsign))) h)
