-- What is found in a slice's rows are the entries of any room that has them.
use Rattle.std.proofs.Common.{ap, append_assoc, append-nil, drop, eqb-true, inl, inr, refl, subst}
use Rattle.std.proofs.Common.{sym, ◌+◌, ◌∙◌}
use Rattle.std.proofs.lemmas.List.{drop_all}
use Rattle.std.specs.Prelude.{Bool, List, None, Option, Some, [], cond, false, filter_map, length}
use Rattle.std.specs.Prelude.{true, ℕ, ◌++◌, ◌∷◌, ◌≡◌, ◌≤◌}
use Rattle.std.specs.List.{cons_option, list_all}
use Rattle.room_place.specs.Choice.{Among}
use Rattle.room_place.specs.declared.plans.Area.{Area}
use Rattle.room_types.proofs.ShareLaws.{share_agrees}
use Rattle.room_types.specs.KeyedRows.{IsKeyed, row_at}
use Rattle.room_types.specs.Keys.{callsign_cmp, numbered_cmp, owns_point, pair_cmp, point_key}
use Rattle.room_types.specs.Keys.{turn_key, vehicle_key}
use Rattle.room_types.specs.KeyLemmas.{callsigns_total, pairs_total}
use Rattle.room_types.specs.Slices.{is_share}
use Rattle.room_types.specs.Slices as slice
use Rattle.room_types.specs.declared.answers.QueueEntry.{QueueEntry}
use Rattle.room_types.specs.declared.slices.DivisionRows.{DivisionRows}
use Rattle.room_types.specs.declared.tables.Point.{Point}
use Rattle.room_types.specs.declared.tables.Turn.{Turn}
use Rattle.room_types.specs.declared.tables.Vehicle.{Vehicle}
use Rattle.room_model.proofs.SliceLookUps.{open_turn_is}
use Rattle.room_model.proofs.Tests.{filter_map_among, left_true, right_true, row_among}
use Rattle.room_model.specs.Queries.{holders, incident_of, open_turn, point_of}
use Rattle.room_model.specs.Queue.{entries, late_for_scene, late_turn, uncovered, unacknowledged}
use Rattle.room_model.specs.Queue.{unacknowledged_turn}
use Rattle.room_model.specs.RoomSlices.{room_of}
use Rattle.room_queue.specs.QueueEntries.{seen, turn_ahead, uncovered_seen}
use Rattle.room_queue.specs.ServedIncidents.{AreServed}
use Rattle.room_queue.specs.declared.served_incidents.Served.{Served}
use Rattle.room_queue.proofs.ServedLaws.{unserved_is}

-- what makes nothing of no turn may look at the turn's guard first
guarded : (f : Option Turn → Option QueueEntry) → f None ≡ None → (b : Bool) (o : Option Turn)
    → f (cond b o None) ≡ cond b (f o) None
guarded f none true o = refl
guarded f none false o = none

all_among_hold : {X : Type 0} (p : X → Bool) (xs : List X) (x : X) → list_all p xs ≡ true
    → Among x xs → p x ≡ true
all_among_hold p [] x h a = absurd a
all_among_hold p (y ∷ ys) x h a = elim a [
  | inl e ↦ rw e (left_true (p y) _ h)
  | inr b ↦ all_among_hold p ys x (right_true (p y) _ h) b
]

module _ (d at : ℕ) (plan : List Area) (s : DivisionRows) (agrees : is_share d s ≡ true)
    (vehicles : IsKeyed callsign_cmp vehicle_key s.vehicles)
    (points : IsKeyed pair_cmp point_key s.points)
    (turns : IsKeyed numbered_cmp turn_key s.turns) where
  same_turn : (v : Vehicle) → Among v s.vehicles
      → slice.open_turn v s ≡ open_turn d v.callsign (room_of plan s)
  same_turn v a =
      sym (open_turn_is d plan s agrees v.callsign v
      (row_among callsign_cmp vehicle_key callsigns_total s.vehicles v vehicles a) turns)

  unacknowledged_is : (v : Vehicle) → Among v s.vehicles
      → unacknowledged_turn at v (turn_ahead d s v) ≡ unacknowledged d at (room_of plan s) v
  unacknowledged_is v a = rw (same_turn v a) (guarded (unacknowledged_turn at v) refl _ _)

  late_is : (v : Vehicle) → Among v s.vehicles
      → late_turn d at (room_of plan s) v (turn_ahead d s v) ≡ late_for_scene d at (room_of plan s) v
  late_is v a = rw (same_turn v a) (guarded (late_turn d at (room_of plan s) v) refl _ _)

  uncovered_is : (p : Point) → Among p s.points
      → uncovered_seen d at s p ≡ uncovered d at (room_of plan s) p
  unfolding holders point_of
  uncovered_is p a =
      let owned : p.division
      ≡ d = eqb-true p.division d (all_among_hold (owns_point d) s.points p (share_agrees d s agrees).owned.points a) in
      let there : row_at pair_cmp point_key s.points (d, p.number)
      ≡ Some p =
      subst (λ k. row_at pair_cmp point_key s.points (k, p.number) ≡ Some p) owned
      (row_among pair_cmp point_key pairs_total s.points p points a) in
      rw there refl

  pub seen_all : (served : List Served) → AreServed d s.turns served
      → seen d at served s ≡ entries d at (room_of plan s)
  unfolding entries holders incident_of
  seen_all served h =
      rw (filter_map_among _ _ s.incidents (λ i a. unserved_is d at (room_of plan s) served i h))
      (rw (filter_map_among _ _ s.vehicles unacknowledged_is) (rw (filter_map_among _ _ s.vehicles late_is)
      (rw (filter_map_among _ _ s.points uncovered_is) (simp append_assoc refl))))

-- ---- walks
one_or_none : {Y : Type 0} (o : Option Y) (ys : List Y) → cons_option o [] ++ ys ≡ cons_option o ys
one_or_none None ys = refl
one_or_none (Some y) ys = refl

-- what one row makes is put behind what those before it made
pub noted : {X Y : Type 0} (h : X → Option Y) (xs : List X) (i : ℕ) (x : X) (o : Option Y)
    (before after all : List Y) → o ≡ h x → after ≡ before ++ cons_option o []
    → drop i xs ≡ x ∷ drop (i + 1) xs → before ++ filter_map h (drop i xs) ≡ all
    → after ++ filter_map h (drop (i + 1) xs) ≡ all
noted h xs i x o before after all made put rest so_far =
    let later = filter_map h (drop (i + 1) xs) in
    ap (λ ys. ys ++ later) put
    ∙ (append_assoc before (cons_option o []) later
    ∙ (ap (λ ys. before ++ ys) (one_or_none o later ∙ ap (λ q. cons_option q later) made)
    ∙ (ap (λ ys. before ++ filter_map h ys) (sym rest) ∙ so_far)))

-- at the end of a walk
pub walked : {X Y : Type 0} (h : X → Option Y) (xs : List X) (i : ℕ) (before after : List Y)
    → length xs ≤ i → after ++ filter_map h (drop i xs) ≡ before ++ filter_map h xs
    → after ≡ before ++ filter_map h xs
walked h xs i before after past so_far =
    sym (append-nil after) ∙ (ap (λ ys. after ++ filter_map h ys) (sym (drop_all i xs past)) ∙ so_far)
