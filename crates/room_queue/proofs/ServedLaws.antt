-- An incident is unserved exactly where no turn of it counts.
use Rattle.std.proofs.Common.{ap, length, refl, sym, ◌∙◌, ◌∷◌, ◌≡◌, ℕ, List, [], Bool, true, false}
use Rattle.std.proofs.Common.{cond}
use Rattle.std.proofs.Math.Dec.{eqb-suc-zero}
use Rattle.std.proofs.lemmas.Cmp.{nat_cmp_total}
use Rattle.std.specs.Cmp.{unsigned_ties}
use Rattle.std.specs.List.{list_any}
use Rattle.std.specs.Ordering.{is_eq, nat_cmp, ordering_reverse}
use Rattle.std.specs.Prelude.{filter, is_some, not, None, Option, Some, ◌&&◌, ◌==◌, ◌||◌}
use Rattle.std.specs.declared.cmp.Ordering.TheVariants.{Equal, Greater, Less}
use Rattle.std.specs.declared.cmp.Ordering.{Ordering}
use Rattle.room_types.proofs.KeyedLaws.{row_put}
use Rattle.room_types.specs.Codes.{is_active, same_kind}
use Rattle.room_types.specs.KeyedRows.{put_row, row_at}
use Rattle.room_types.specs.declared.answers.QueueEntry.{QueueEntry}
use Rattle.room_types.specs.declared.codes.Kind.TheVariants.{Ambulance, Car, Support}
use Rattle.room_types.specs.declared.codes.Kind.{Kind}
use Rattle.room_types.specs.declared.tables.Incident.{Incident}
use Rattle.room_types.specs.declared.tables.Turn.{Turn}
use Rattle.room_model.specs.Moments.{age}
use Rattle.room_model.specs.Queries.{counts, served}
use Rattle.room_model.specs.Queue.{is_unserved, unserved}
use Rattle.room_model.specs.Room.{Room}
use Rattle.room_queue.specs.QueueEntries.{unserved_seen}
use Rattle.room_queue.specs.ServedIncidents.{AreServed, is_served, number_of, serves}
use Rattle.room_queue.specs.declared.served_incidents.Served.{Served}
use Rattle.room_types.specs.Ranks.{is_past}
use Rattle.room_types.specs.declared.ranks.Rank.TheVariants as rank

and_false : (a : Bool) → a && false ≡ false
and_false true = refl
and_false false = refl

-- of one turn more, which is of the division or not, of the incident or not, and counts or not
one_more : (division incident count : Bool) (k : Kind) (t : Turn) (xs ys zs : List Turn)
    (later : Bool) → (length xs == 0 && (length ys == 0 && length zs == 0)) ≡ not later
    → (length (cond (division && (incident && (same_kind k Ambulance && count))) (t ∷ xs) xs) == 0
    && (length (cond (division && (incident && (same_kind k Car && count))) (t ∷ ys) ys) == 0
    && length (cond (division && (incident && (same_kind k Support && count)))
    (t ∷ zs) zs) == 0))
    ≡ not (incident && (division && count) || later)
one_more true true true Ambulance t xs ys zs later h =
    ap (λ b. b && (length ys == 0 && length zs == 0)) (eqb-suc-zero (length xs))
one_more true true true Car t xs ys zs later h =
    ap (λ b. length xs == 0 && (b && length zs == 0)) (eqb-suc-zero (length ys)) ∙ and_false (length xs == 0)
one_more true true true Support t xs ys zs later h =
    ap (λ b. length xs == 0 && (length ys == 0 && b)) (eqb-suc-zero (length zs))
    ∙ (ap (λ b. length xs == 0 && b) (and_false (length ys == 0)) ∙ and_false (length xs == 0))
one_more true true false Ambulance t xs ys zs later h = h
one_more true true false Car t xs ys zs later h = h
one_more true true false Support t xs ys zs later h = h
one_more true false count k t xs ys zs later h = h
one_more false true count k t xs ys zs later h = h
one_more false false count k t xs ys zs later h = h

abbrev of_kind : ℕ → ℕ → Kind → List Turn → ℕ
of_kind d n k ts = length (filter (λ t. t.division == d && (t.incident == n && (same_kind t.kind k && counts t))) ts)

none_counts : (d n : ℕ) (ts : List Turn)
    → (of_kind d n Ambulance ts == 0 && (of_kind d n Car ts == 0 && of_kind d n Support ts == 0))
    ≡ not (list_any (λ t. t.incident == n && serves d t) ts)
none_counts d n [] = refl
none_counts d n (t ∷ ts) = one_more (t.division == d) (t.incident == n) (counts t) t.kind t _ _ _ _ (none_counts d n ts)

turned_eq : (o : Ordering) → is_eq (ordering_reverse o) ≡ is_eq o
turned_eq Less = refl
turned_eq Equal = refl
turned_eq Greater = refl

tied_numbers : (n m : ℕ) → is_eq (nat_cmp n m) ≡ (m == n)
tied_numbers n m = ap is_eq (nat_cmp_total.antisymm n m) ∙ (turned_eq (nat_cmp m n) ∙ sym (unsigned_ties m n))

tied : (d n : ℕ) (ts : List Turn)
    → list_any (λ t. is_eq (nat_cmp n t.incident) && serves d t) ts
    ≡ list_any (λ t. t.incident == n && serves d t) ts
tied d n [] = refl
tied d n (t ∷ ts) =
    ap (λ b. b && serves d t || list_any (λ u. is_eq (nat_cmp n u.incident) && serves d u) ts)
    (tied_numbers n t.incident) ∙ ap (λ b. t.incident == n && serves d t || b) (tied d n ts)

none_serve : (d n : ℕ) (r : Room) (known : List Served) → AreServed d r.turns known
    → not (is_served known n) ≡ is_unserved d n r
unfolding served
none_serve d n r known h = ap not (h n ∙ tied d n r.turns) ∙ sym (none_counts d n r.turns)

-- the order of the last two tests is another
turned : (o : QueueEntry) (owned active old none : Bool)
    → cond (owned && (active && (old && none))) (Some o) None
    ≡ cond (owned && (active && (none && old))) (Some o) None
turned o false active old none = refl
turned o true false old none = refl
turned o true true true true = refl
turned o true true true false = refl
turned o true true false true = refl
turned o true true false false = refl

abbrev unserved_entry : Incident → QueueEntry
unserved_entry i = record { rank = rank.Unserved; since = i.opened; number = i.number; callsign = None }

pub unserved_is : (d at : ℕ) (r : Room) (known : List Served) (i : Incident)
    → AreServed d r.turns known → unserved_seen d at known i ≡ unserved d at r i
unserved_is d at r known i h =
    turned (unserved_entry i) (i.division == d) (is_active i.state) (is_past rank.Unserved (age at i.opened))
    (not (is_served known i.number))
    ∙ ap
    (λ b.
    cond (i.division == d && (is_active i.state && (b && is_past rank.Unserved (age at i.opened))))
    (Some (unserved_entry i)) None)
    (none_serve d i.number r known h)

-- ---- gathering
either : (b : Bool) (x : Served) (o : Option Served) (later : Bool)
    → is_some (cond b (Some x) o) || later ≡ is_some o || (b || later)
either true x None later = refl
either true x (Some y) later = refl
either false x None later = refl
either false x (Some y) later = refl

and_true : (a b : Bool) → b ≡ true → a ≡ a && b
and_true true b e = sym e
and_true false b e = refl

module _ (d n : ℕ) (known : List Served) (t : Turn) (later : Bool) where
  -- a turn that counts is put
  pub counted : (x : Served) → x.incident ≡ t.incident → serves d t ≡ true
      → is_served (put_row nat_cmp number_of known x) n || later ≡ is_served known n
      || (is_eq (nat_cmp n t.incident) && serves d t || later)
  counted x same e =
      ap (λ o. is_some o || later) (row_put nat_cmp number_of nat_cmp_total known x n)
      ∙ (either (is_eq (nat_cmp n x.incident)) x (row_at nat_cmp number_of known n) later
      ∙ ap (λ b. is_served known n || (b || later))
      (ap (λ m. is_eq (nat_cmp n m)) same ∙ and_true (is_eq (nat_cmp n t.incident)) (serves d t) e))

  -- another is left
  pub left : serves d t ≡ false → is_served known n || later ≡ is_served known n
      || (is_eq (nat_cmp n t.incident) && serves d t || later)
  left e =
      ap (λ b. is_served known n || (b || later))
      (sym (ap (λ b. is_eq (nat_cmp n t.incident) && b) e ∙ and_false (is_eq (nat_cmp n t.incident))))
