-- One event, and what a share becomes by what it is handed.
use Rattle.std.proofs.Common.{ap, sym, ◌∙◌}
use Rattle.std.specs.Prelude.{Bool, List, None, Option, Some, [], cond, false, is_ok, is_some, map}
use Rattle.std.specs.Prelude.{not, refl, true, ℕ, ◌++◌, ◌==◌, ◌∷◌, ◌≡◌}
use Rattle.room_types.specs.declared.asks.Ask.{Ask}
use Rattle.room_types.specs.declared.asks.Who.TheVariants.{Desk}
use Rattle.room_types.specs.declared.changes.Change.{Change}
use Rattle.room_types.specs.declared.changes.Change.TheVariants.{DropAssignment, PutVehicle}
use Rattle.room_types.specs.declared.codes.Status.TheVariants.{Returning}
use Rattle.room_types.specs.declared.refusal_statuses.Refusal.{Refusal}
use Rattle.room_types.specs.declared.tables.Call.{Call}
use Rattle.room_types.specs.declared.tables.Incident.{Incident}
use Rattle.room_types.specs.declared.tables.Loan.{Loan}
use Rattle.room_types.specs.declared.tables.Offer.{Offer}
use Rattle.room_types.specs.declared.tables.Report.{Report}
use Rattle.room_types.specs.declared.tables.Turn.{Turn}
use Rattle.room_types.specs.declared.tables.Vehicle.{Vehicle}
use Rattle.room_model.proofs.Handed.{desk_isolated}
use Rattle.room_model.proofs.OwnChanges.{own_apply_own}
use Rattle.room_model.proofs.OwnDesk.{desk_own}
use Rattle.room_model.proofs.PlainChanges.{mobilise_plain, moves_plain, plain_active, plain_held}
use Rattle.room_model.proofs.PlainChanges.{plain_refuse, stand_down_plain}
use Rattle.room_model.proofs.Questions.{by_quiet}
use Rattle.room_model.specs.Isolation.{share_by}
use Rattle.room_types.specs.Codes.{is_active}
use Rattle.room_model.specs.Crossing.{cross, cross_other, cross_own}
use Rattle.room_model.specs.Decisions.{Verdict, changes_of, refuse_if, where_active, where_held}
use Rattle.room_model.specs.Incidents.{change_needs, close, close_active, merge, merge_of}
use Rattle.room_model.specs.Incidents.{moved_call, needs_changed}
use Rattle.room_model.specs.Loans.{give_back, given_back, lend, offered, recall, recall_lent}
use Rattle.room_model.specs.Loans.{withdraw, withdrawn}
use Rattle.room_model.specs.Queries.{borrowed, held, incident_of, is_attended, lent, offered_by}
use Rattle.room_model.specs.Queries.{open_turn, point_of, served}
use Rattle.room_model.specs.Queue.{clear, clear_found}
use Rattle.room_model.specs.Room.{IsInOrder, Room, apply}
use Rattle.room_model.specs.Shares.{ArePlain, own}
use Rattle.room_model.specs.Step.{desk_asks, moves_in, room_after}
use Rattle.room_model.specs.Vehicles.{duty, mobilise, mobilise_held, mobilised, off, off_duty}
use Rattle.room_model.specs.Vehicles.{on_duty, stand_down, stand_down_held, standby, standby_at}
use Rattle.room_model.specs.Vehicles.{stands_by, turn_stood_down}
use Rattle.room_model.specs.RoomAgreements.{IsWellFormed}
use Rattle.room_types.specs.declared.asks.Ask.TheVariants as ask
use Rattle.room_types.specs.declared.refusal_statuses.Refusal.TheVariants as refusal

-- another desk's request
pub other_desk : (d h : ℕ) (r : Room) (a : Ask) (at : ℕ) → IsWellFormed r → h == d ≡ false
    → own d (room_after (record { who = Desk h; ask = a; at = at }) r)
    ≡ share_by d (own d r) (cross d r (record { who = Desk h; ask = a; at = at }))
other_desk d h r a at w apart =
    desk_isolated d h r w apart a at
    ∙ sym (ap
    (λ (b : Bool).
    share_by d (own d r) (cond b
    (Some (cross_own (is_ok (desk_asks h a at r)) (record { who = Desk h; ask = a; at = at }) a r))
    (cond (is_ok (desk_asks h a at r)) (cross_other d h a r (apply r (changes_of (desk_asks h a at r)))) None))) apart)

-- ---- changes that a share can follow
plain_calls : (m : ℕ) (cs : List Call) → ArePlain (map (moved_call m) cs)
plain_calls m [] = tt
plain_calls m (c ∷ cs) = (tt, plain_calls m cs)

plain_merge : (n m : Option Incident) (b : Bool) (cs : List Call)
    → ArePlain (changes_of (merge_of n m b cs))
plain_merge None m b cs = tt
plain_merge (Some n) None b cs = tt
plain_merge (Some n) (Some m) b cs =
    plain_refuse _ _ _
    (plain_refuse _ _ _ (plain_refuse _ _ _ (plain_refuse _ _ _ (tt, (tt, plain_calls m.number cs)))))

plain_withdrawn : (o : Option Offer) (v : Vehicle) → ArePlain (changes_of (withdrawn o v))
plain_withdrawn None v = tt
plain_withdrawn (Some o) v = (tt, (tt, tt))

plain_recall : (l : Option Loan) (v : Option Vehicle) → ArePlain (changes_of (recall_lent l v))
plain_recall (Some l) v = (tt, tt)
plain_recall None (Some v) = tt
plain_recall None None = tt

plain_clear : (o : Option Report) → ArePlain (changes_of (clear_found o))
plain_clear None = tt
plain_clear (Some x) = plain_refuse _ _ _ (tt, tt)

plain_standby : (p : Option ℕ) (has : ℕ → Bool) (at : ℕ) (v : Vehicle)
    → ArePlain (changes_of (standby_at p has at v))
plain_standby None has at v = (tt, tt)
plain_standby (Some n) has at v = plain_refuse _ _ _ (plain_refuse _ _ _ (tt, tt))

-- every ask but decline and accept
abbrev pub settles : Ask → Bool
settles (ask.Decline c) = true
settles (ask.Accept c) = true
settles a = false

pub desk_plain : (d : ℕ) (a : Ask) (at : ℕ) (r : Room) → settles a ≡ false
    → ArePlain (changes_of (desk_asks d a at r))
unfolding change_needs merge close standby duty off lend withdraw recall give_back clear
desk_plain d (ask.Decline c) at r l = cc
desk_plain d (ask.Accept c) at r l = cc
desk_plain d (ask.Mobilise n c) at r l = mobilise_plain d n c at r
desk_plain d (ask.Needs n needs) at r l =
    plain_active (incident_of d n r) (needs_changed needs (λ k. served d n k r)) (λ i. plain_refuse _ _ _ (tt, tt))
desk_plain d (ask.Merge n m) at r l = plain_merge _ _ _ _
desk_plain d (ask.Close n) at r l =
    plain_active (incident_of d n r) (close_active (is_attended d n r)) (λ i. plain_refuse _ _ _ (tt, tt))
desk_plain d (ask.Moves ms) at r l = moves_plain d (moves_in ms) at r
desk_plain d (ask.StandDown c) at r l = stand_down_plain d c at r
desk_plain d (ask.Standby c p) at r l =
    plain_held (held d c r) (lent d c r) (stands_by p (λ n. is_some (point_of d n r)) at)
    (λ v. plain_refuse _ _ _ (plain_standby p _ at v))
desk_plain d (ask.Duty c place until) at r l =
    plain_held (held d c r) (lent d c r) (on_duty place until at)
    (λ v. plain_refuse _ _ _ (plain_refuse _ _ _ (tt, tt)))
desk_plain d (ask.Off c) at r l =
    plain_held (held d c r) (lent d c r) off_duty (λ v. plain_refuse _ _ _ (plain_refuse _ _ _ (tt, tt)))
desk_plain d (ask.Lend c to until) at r l =
    plain_held (held d c r) (lent d c r) (offered r.plan d to until at)
    (λ v.
    plain_refuse _ _ _
    (plain_refuse _ _ _ (plain_refuse _ _ _ (plain_refuse _ _ _ (plain_refuse _ _ _ (tt, (tt, tt)))))))
desk_plain d (ask.Withdraw c) at r l =
    plain_held _ _ (withdrawn (offered_by d c r)) (λ v. plain_withdrawn (offered_by d c r) v)
desk_plain d (ask.Recall c) at r l = plain_recall _ _
desk_plain d (ask.GiveBack c) at r l =
    plain_held (held d c r) (lent d c r) (given_back d (borrowed d c r))
    (λ v. plain_refuse _ _ _ (plain_refuse _ _ _ (tt, (tt, tt))))
desk_plain d (ask.Clear c n) at r l = plain_clear _
desk_plain d (ask.SetPoint n place cover) at r l = (tt, tt)
desk_plain d a at r l = by_quiet at r ArePlain (Desk d) a refl tt

-- the desk's own request, where it settles no vehicle: the share's step is the room's
pub own_desk : (d : ℕ) (r : Room) (a : Ask) (at : ℕ) → IsInOrder r → settles a ≡ false
    → own d (room_after (record { who = Desk d; ask = a; at = at }) r)
    ≡ own d (room_after (record { who = Desk d; ask = a; at = at }) (own d r))
own_desk d r a at w l =
    own_apply_own d r (changes_of (desk_asks d a at r)) w (desk_plain d a at r l)
    ∙ sym (ap (λ x. own d (apply (own d r) (changes_of x))) (desk_own d r w a at))
