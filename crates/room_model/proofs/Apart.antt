-- What another desk asks leaves a division's share as it is, where nothing is handed over.
use Rattle.std.proofs.Common.{ap, eqb-true, inl, inr, subst, sym}
use Rattle.std.specs.Prelude.{Bool, List, None, Option, Some, [], false, is_none, map, not, refl}
use Rattle.std.specs.Prelude.{true, ℕ, ◌&&◌, ◌+◌, ◌++◌, ◌==◌, ◌∷◌, ◌≡◌}
use Rattle.room_place.specs.Choice.{Among}
use Rattle.room_place.specs.declared.places.Place.{Place}
use Rattle.room_types.specs.Keys.{incident_key, pair_cmp, same_callsign}
use Rattle.room_types.specs.KeyLemmas.{exact_pair, pairs_total}
use Rattle.room_types.specs.declared.asks.Ask.{Ask}
use Rattle.room_types.specs.declared.asks.Move.{Move}
use Rattle.room_types.specs.declared.asks.Who.TheVariants.{Desk}
use Rattle.room_types.specs.declared.changes.Change.{Change}
use Rattle.room_types.specs.declared.needs.Counts.{Counts}
use Rattle.room_types.specs.declared.codes.State.TheVariants.{Closed, Merged}
use Rattle.room_types.specs.declared.codes.Status.TheVariants.{Available, Mobilised, OffDuty}
use Rattle.room_types.specs.declared.codes.Status.TheVariants.{Returning}
use Rattle.room_types.specs.declared.refusal_statuses.Refusal.{Refusal}
use Rattle.room_types.specs.declared.tables.Call.{Call}
use Rattle.room_types.specs.declared.tables.Incident.{Incident}
use Rattle.room_types.specs.declared.tables.Loan.{Loan}
use Rattle.room_types.specs.declared.tables.Report.{Report}
use Rattle.room_types.specs.declared.tables.Turn.{Turn}
use Rattle.room_types.specs.declared.tables.Vehicle.{Vehicle}
use Rattle.room_types.specs.Texts.{Callsign}
use Rattle.room_model.proofs.Foreign.{AllForeign, foreign_append, own_foreign}
use Rattle.room_model.proofs.KeptAsks.{mobilise_kept, stand_down_kept}
use Rattle.room_model.proofs.MoveFolds.{apply_both, by_ask, by_moves}
use Rattle.room_model.proofs.Others.{IsHeld, call_foreign, held_is, incident_foreign, no_turn}
use Rattle.room_model.proofs.Others.{other_assignment, point_foreign, report_foreign, turn_foreign}
use Rattle.room_model.proofs.Others.{vehicle_foreign}
use Rattle.room_model.proofs.Questions.{by_quiet}
use Rattle.room_model.proofs.Tests.{among_filter, first_among, left_true, row_key}
use Rattle.room_types.specs.Codes.{is_active}
use Rattle.room_model.specs.Crossing.{is_local}
use Rattle.room_model.specs.Decisions.{Verdict, changes_of, refuse_if, where_active, where_held}
use Rattle.room_model.specs.Incidents.{change_needs, close, joined, merge, merge_of, moved_call}
use Rattle.room_model.specs.Moments.{first_of}
use Rattle.room_model.specs.Queries.{calls_of, incident_of, open_turn, report_of}
use Rattle.room_model.specs.Queue.{clear, clear_found}
use Rattle.room_model.specs.Room.{Room, apply}
use Rattle.room_model.specs.Shares.{own}
use Rattle.room_model.specs.Step.{ask_of, course, desk_asks, moves_in, single_asks, verdict_of}
use Rattle.room_model.specs.Vehicles.{duty, mobilise, off, posted, stand_down, standby, standby_at}
use Rattle.room_model.specs.Vehicles.{turn_stood_down}
use Rattle.room_model.specs.RoomAgreements.{IsWellFormed}
use Rattle.room_types.specs.declared.asks.Ask.TheVariants as ask
use Rattle.room_types.specs.declared.refusal_statuses.Refusal.TheVariants as refusal

module _ (d h : ℕ) (r : Room) (w : IsWellFormed r) (apart : h == d ≡ false) where
  abbrev pub LeavesShare : Verdict → Type 0
  LeavesShare x = AllForeign d (own d r) (changes_of x)

  pub refuse_leaves : (b : Bool) (e : Refusal) (x : Verdict) → LeavesShare x
      → LeavesShare (refuse_if b e x)
  unfolding refuse_if
  refuse_leaves true e x f = tt
  refuse_leaves false e x f = f

  pub held_leaves : (o : Option Vehicle) (l : Option Loan) (f : Vehicle → Verdict)
      → ((v : Vehicle) → o ≡ Some v → LeavesShare (f v)) → LeavesShare (where_held o l f)
  held_leaves None l f g = tt
  held_leaves (Some v) l f g = g v refl

  pub active_leaves : (o : Option Incident) (f : Incident → Verdict)
      → ((i : Incident) → o ≡ Some i → LeavesShare (f i)) → LeavesShare (where_active o f)
  active_leaves None f g = tt
  active_leaves (Some i) f g = refuse_leaves (not (is_active i.state)) refusal.IncidentNotOpen (f i) (g i refl)

  division_of_incident : (n : ℕ) (i : Incident) → incident_of h n r ≡ Some i → i.division ≡ h
  unfolding incident_of
  division_of_incident n i g =
      sym (ap (λ (p : ℕ × ℕ). p.0) (row_key pair_cmp incident_key pairs_total exact_pair r.incidents (h, n) i g))

  -- ---- incidents
  needs_leaves : (n : ℕ) (needs : Counts) → LeavesShare (change_needs h n needs r)
  unfolding change_needs
  needs_leaves n needs =
      active_leaves _ _ (λ i g.
      refuse_leaves _ _ _
      (incident_foreign d h r w apart (record i { needs = needs }) (division_of_incident n i g), tt))

  close_leaves : (n : ℕ) → LeavesShare (close h n r)
  unfolding close
  close_leaves n =
      active_leaves _ _ (λ i g.
      refuse_leaves _ _ _
      (incident_foreign d h r w apart (record i { state = Closed }) (division_of_incident n i g), tt))

  moved_calls : (m : ℕ) (cs : List Call)
      → ((c : Call) → Among c cs → Among c r.calls × (c.division ≡ h))
      → AllForeign d (own d r) (map (moved_call m) cs)
  moved_calls m [] g = tt
  moved_calls m (c ∷ cs) g =
      (call_foreign d h r w apart c (g c (inl refl)).0 (g c (inl refl)).1 m, moved_calls m cs (λ x f. g x (inr f)))

  calls_are : (n : ℕ) (c : Call) → Among c (calls_of h n r) → Among c r.calls × (c.division ≡ h)
  unfolding calls_of
  calls_are n c g =
      let parts = among_filter (λ c. c.division == h && c.incident == n) r.calls c g in
      (parts.0, eqb-true c.division h (left_true _ _ parts.1))

  merge_leaves_both : (n m : Option Incident) (attended : Bool) (cs : List Call)
      → ((i : Incident) → n ≡ Some i → i.division ≡ h)
      → ((i : Incident) → m ≡ Some i → i.division ≡ h)
      → ((c : Call) → Among c cs → Among c r.calls × (c.division ≡ h))
      → LeavesShare (merge_of n m attended cs)
  merge_leaves_both None m attended cs f g k = tt
  merge_leaves_both (Some n) None attended cs f g k = tt
  merge_leaves_both (Some n) (Some m) attended cs f g k =
      refuse_leaves (n.number == m.number) _ _ (refuse_leaves (not (is_active n.state)) _ _
      (refuse_leaves (not (is_active m.state)) _ _ (refuse_leaves attended _ _ (
        incident_foreign d h r w apart (joined n m) (g m refl),
        (incident_foreign d h r w apart (record n { state = Merged m.number }) (f n refl), moved_calls m.number cs k),
      ))))

  merge_leaves : (n m : ℕ) → LeavesShare (merge h n m r)
  unfolding merge
  merge_leaves n m = merge_leaves_both _ _ _ _ (division_of_incident n) (division_of_incident m) (calls_are n)

  -- ---- vehicles
  posted_leaves : (c : Callsign) (v : Vehicle) → IsHeld h c r v → (p : Option ℕ)
      → LeavesShare (posted v p)
  posted_leaves c v g p = (vehicle_foreign d h r w apart c v g (record v { post = p }) refl g.holder, tt)

  stands_by_leaves : (c : Callsign) (v : Vehicle) → IsHeld h c r v
      → (p : Option ℕ) (has : ℕ → Bool) (at : ℕ) → LeavesShare (standby_at p has at v)
  stands_by_leaves c v g None has at = posted_leaves c v g None
  stands_by_leaves c v g (Some n) has at = refuse_leaves _ _ _ (refuse_leaves _ _ _ (posted_leaves c v g (Some n)))

  standby_leaves : (c : Callsign) (p : Option ℕ) (at : ℕ) → LeavesShare (standby h c p at r)
  unfolding standby
  standby_leaves c p at =
      held_leaves _ _ _ (λ v g. refuse_leaves _ _ _ (stands_by_leaves c v (held_is h c r v g) p _ at))

  duty_leaves : (c : Callsign) (place : Place) (until at : ℕ)
      → LeavesShare (duty h c place until at r)
  unfolding duty
  duty_leaves c place until at =
      held_leaves _ _ _ (λ v g.
      let is = held_is h c r v g in
      refuse_leaves _ _ _ (refuse_leaves _ _ _ (
        vehicle_foreign d h r w apart c v is (record v { status = Available; shift_end = until; place = place }) refl
            is.holder,
        tt,
      )))

  off_leaves : (c : Callsign) → LeavesShare (off h c r)
  unfolding off
  off_leaves c =
      held_leaves _ _ _ (λ v g.
      let is = held_is h c r v g in
      refuse_leaves _ _ _ (refuse_leaves _ _ _
      (vehicle_foreign d h r w apart c v is (record v { status = OffDuty; post = None }) refl is.holder, tt)))

  turn_leaves : (c : Callsign) (at : ℕ) (o : Option Turn)
      → ((t : Turn) → o ≡ Some t → Among t r.turns × (t.division ≡ h))
      → AllForeign d (own d r) (turn_stood_down at o)
  turn_leaves c at None g = tt
  turn_leaves c at (Some t) g = (
    turn_foreign d h r w apart t (g t refl).0 (g t refl).1 (record t { ended = Some at; stood_down = true }) refl refl
        (g t refl).1,
    tt,
  )

  open_is : (c : Callsign) (t : Turn) → open_turn h c r ≡ Some t
      → Among t r.turns × (t.division ≡ h)
  unfolding open_turn
  open_is c t g =
      let parts = among_filter (λ t. t.division == h && (same_callsign t.callsign c && is_none t.ended)) r.turns t
      (first_among _ t g) in
      (parts.0, eqb-true t.division h (left_true _ _ parts.1))

  stand_down_leaves : (c : Callsign) (at : ℕ) → LeavesShare (stand_down h c at r)
  unfolding stand_down
  stand_down_leaves c at = held_leaves _ _ _ (λ v g. let is = held_is h c r v g in refuse_leaves _ _ _
      (foreign_append d (own d r) (turn_stood_down at (open_turn h c r)) _
      (turn_leaves c at (open_turn h c r) (open_is c)) (
        other_assignment d h r w apart c v is,
        (vehicle_foreign d h r w apart c v is (record v { status = Returning }) refl is.holder, tt),
      )))

  mobilise_leaves : (n : ℕ) (c : Callsign) (at : ℕ) → LeavesShare (mobilise h n c at r)
  unfolding mobilise
  mobilise_leaves n c at = active_leaves _ _ (λ i g. held_leaves _ _ _ (λ v e. let is = held_is h c r v e in
      refuse_leaves _ _ _ (refuse_leaves _ _ _ (refuse_leaves _ _ _ (refuse_leaves _ _ _ (
        incident_foreign d h r w apart (record i { first_order = first_of i.first_order at })
            (division_of_incident n i g),
        (
          vehicle_foreign d h r w apart c v is
              (record v { status = Mobilised; post = None; last_order = v.last_order + 1 }) refl is.holder,
          (
            (apart, no_turn d h r w apart c v is),
            ((apart, other_assignment d h r w apart c v is), tt),
          ),
        ),
      ))))))

  -- ---- reports
  clear_leaves_found : (c : Callsign) (n : ℕ) (o : Option Report)
      → ((x : Report) → o ≡ Some x → report_of h c n r ≡ Some x) → LeavesShare (clear_found o)
  clear_leaves_found c n None g = tt
  clear_leaves_found c n (Some x) g =
      refuse_leaves _ _ _
      (report_foreign d h r w apart c n x (g x refl) (record x { cleared = true }) refl refl refl, tt)

  clear_leaves : (c : Callsign) (n : ℕ) → LeavesShare (clear h c n r)
  unfolding clear
  clear_leaves c n = clear_leaves_found c n (report_of h c n r) (λ x e. e)

-- ---- any ask that hands nothing on
-- changes leave the share, and the room well-formed
abbrev LeavesWhole : ℕ → Room → List Change → Type 0
LeavesWhole d r cs = IsWellFormed r → AllForeign d (own d r) cs × IsWellFormed (apply r cs)

leave_both : (d : ℕ) (r : Room) (cs ds : List Change) → LeavesWhole d r cs
    → LeavesWhole d (apply r cs) ds → LeavesWhole d r (cs ++ ds)
leave_both d r cs ds f g w =
    let first = f w in
    let rest = g first.1 in (
      foreign_append d (own d r) cs ds first.0
          (subst (λ s. AllForeign d s ds) (own_foreign d r cs w.order first.0) rest.0),
      subst IsWellFormed (sym (apply_both r cs ds)) rest.1,
    )

move_leaves : (d h : ℕ) → h == d ≡ false → (m : Move) (at : ℕ) (r : Room)
    → LeavesWhole d r (changes_of (single_asks h (ask_of m) at r))
move_leaves d h apart m at r =
    by_ask (λ a. LeavesWhole d r (changes_of (single_asks h a at r)))
    (λ c w. (stand_down_leaves d h r w apart c at, stand_down_kept h r w c at))
    (λ n c w. (mobilise_leaves d h r w apart n c at, mobilise_kept h r w n c at)) m

moves_leave : (d h : ℕ) → h == d ≡ false → (ms : List Move) (at : ℕ) (r : Room)
    → LeavesWhole d r (changes_of (verdict_of (course h ms at r)))
moves_leave d h apart ms at r =
    by_moves h at (LeavesWhole d) (λ s w. (tt, w)) (λ m s. move_leaves d h apart m at s)
    (leave_both d) ms r

module _ (d h : ℕ) (r : Room) (w : IsWellFormed r) (apart : h == d ≡ false) where
  pub local_leaves : (a : Ask) (at : ℕ) → is_local a ≡ true → LeavesShare d h r w apart (desk_asks h a at r)
  local_leaves (ask.Mobilise n c) at l = mobilise_leaves d h r w apart n c at
  local_leaves (ask.Needs n needs) at l = needs_leaves d h r w apart n needs
  local_leaves (ask.Merge n m) at l = merge_leaves d h r w apart n m
  local_leaves (ask.Close n) at l = close_leaves d h r w apart n
  local_leaves (ask.Moves ms) at l = (moves_leave d h apart (moves_in ms) at r w).0
  local_leaves (ask.StandDown c) at l = stand_down_leaves d h r w apart c at
  local_leaves (ask.Standby c p) at l = standby_leaves d h r w apart c p at
  local_leaves (ask.Duty c place until) at l = duty_leaves d h r w apart c place until at
  local_leaves (ask.Off c) at l = off_leaves d h r w apart c
  local_leaves (ask.Lend c to until) at l = cc
  local_leaves (ask.Withdraw c) at l = cc
  local_leaves (ask.Decline c) at l = cc
  local_leaves (ask.Accept c) at l = cc
  local_leaves (ask.Recall c) at l = cc
  local_leaves (ask.GiveBack c) at l = cc
  local_leaves (ask.Clear c n) at l = clear_leaves d h r w apart c n
  local_leaves (ask.SetPoint n place cover) at l =
      (point_foreign d h r w apart (record { division = h; number = n; place = place; cover = cover }) refl, tt)
  local_leaves a at l = by_quiet at r (AllForeign d (own d r)) (Desk h) a refl tt
