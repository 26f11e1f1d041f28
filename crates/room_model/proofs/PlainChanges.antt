-- Changes that a share can follow by itself.
use Rattle.std.specs.Prelude.{Bool, List, None, Option, Some, [], false, not, true, ℕ, ◌++◌, ◌∷◌}
use Rattle.room_types.specs.declared.asks.Move.{Move}
use Rattle.room_types.specs.declared.changes.Change.{Change}
use Rattle.room_types.specs.declared.changes.Change.TheVariants.{DropAssignment, PutVehicle}
use Rattle.room_types.specs.declared.codes.Status.TheVariants.{Returning}
use Rattle.room_types.specs.declared.refusal_statuses.Refusal.{Refusal}
use Rattle.room_types.specs.declared.tables.Incident.{Incident}
use Rattle.room_types.specs.declared.tables.Loan.{Loan}
use Rattle.room_types.specs.declared.tables.Turn.{Turn}
use Rattle.room_types.specs.declared.tables.Vehicle.{Vehicle}
use Rattle.room_types.specs.Codes.{is_active}
use Rattle.room_types.specs.Texts.{Callsign}
use Rattle.room_model.proofs.MoveFolds.{by_ask, by_moves}
use Rattle.room_model.specs.Decisions.{Verdict, changes_of, refuse_if, where_active, where_held}
use Rattle.room_model.specs.Queries.{held, incident_of, lent, open_turn, served}
use Rattle.room_model.specs.Room.{Room}
use Rattle.room_model.specs.Shares.{ArePlain}
use Rattle.room_model.specs.Step.{ask_of, course, single_asks, verdict_of}
use Rattle.room_model.specs.Vehicles.{mobilise, mobilise_held, mobilised, stand_down}
use Rattle.room_model.specs.Vehicles.{stand_down_held, turn_stood_down}
use Rattle.room_types.specs.declared.refusal_statuses.Refusal.TheVariants as refusal

pub plain_refuse : (b : Bool) (e : Refusal) (x : Verdict) → ArePlain (changes_of x)
    → ArePlain (changes_of (refuse_if b e x))
unfolding refuse_if
plain_refuse true e x f = tt
plain_refuse false e x f = f

pub plain_held : (o : Option Vehicle) (l : Option Loan) (f : Vehicle → Verdict)
    → ((v : Vehicle) → ArePlain (changes_of (f v))) → ArePlain (changes_of (where_held o l f))
plain_held None l f g = tt
plain_held (Some v) l f g = g v

pub plain_active : (o : Option Incident) (f : Incident → Verdict)
    → ((i : Incident) → ArePlain (changes_of (f i))) → ArePlain (changes_of (where_active o f))
plain_active None f g = tt
plain_active (Some i) f g = plain_refuse (not (is_active i.state)) refusal.IncidentNotOpen (f i) (g i)

pub plain_append : (cs bs : List Change) → ArePlain cs → ArePlain bs → ArePlain (cs ++ bs)
plain_append [] bs f g = g
plain_append (c ∷ cs) bs f g = (f.0, plain_append cs bs f.1 g)

pub plain_turn : (at : ℕ) (o : Option Turn) → ArePlain (turn_stood_down at o)
plain_turn at None = tt
plain_turn at (Some t) = (tt, tt)

pub mobilise_plain : (d n : ℕ) (c : Callsign) (at : ℕ) (r : Room)
    → ArePlain (changes_of (mobilise d n c at r))
unfolding mobilise
mobilise_plain d n c at r =
    plain_active (incident_of d n r) (mobilise_held d (held d c r) (lent d c r) at (λ k. served d n k r))
    (λ i.
    plain_held (held d c r) (lent d c r) (mobilised d i at (λ k. served d n k r))
    (λ v. plain_refuse _ _ _ (plain_refuse _ _ _ (plain_refuse _ _ _ (plain_refuse _ _ _ (tt, (tt, (tt, (tt, tt)))))))))

pub stand_down_plain : (d : ℕ) (c : Callsign) (at : ℕ) (r : Room)
    → ArePlain (changes_of (stand_down d c at r))
unfolding stand_down
stand_down_plain d c at r =
    plain_held (held d c r) (lent d c r) (stand_down_held at (open_turn d c r))
    (λ v.
    plain_refuse _ _ _ (plain_append (turn_stood_down at (open_turn d c r))
    (DropAssignment v.callsign ∷ PutVehicle (record v { status = Returning }) ∷ []) (plain_turn at (open_turn d c r))
    (tt, (tt, tt))))

pub move_plain : (d : ℕ) (m : Move) (at : ℕ) (r : Room)
    → ArePlain (changes_of (single_asks d (ask_of m) at r))
move_plain d m at r =
    by_ask (λ a. ArePlain (changes_of (single_asks d a at r))) (λ c. stand_down_plain d c at r)
    (λ n c. mobilise_plain d n c at r) m

pub moves_plain : (d : ℕ) (ms : List Move) (at : ℕ) (r : Room)
    → ArePlain (changes_of (verdict_of (course d ms at r)))
moves_plain d ms at r =
    by_moves d at (λ s cs. ArePlain cs) (λ s. tt) (λ m s. move_plain d m at s)
    (λ s cs ds f g. plain_append cs ds f g) ms r
