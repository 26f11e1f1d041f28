-- A division's share, computed only from what it is handed.
use Rattle.std.specs.Prelude.{List, None, Option, Result, Some, [], true, ℕ, ◌++◌, ◌∷◌}
use Rattle.room_types.specs.KeyedRows.{drop_row}
use Rattle.room_types.specs.Keys.{callsign_cmp, vehicle_key}
use Rattle.room_types.specs.declared.answers.Answer.{Answer}
use Rattle.room_types.specs.declared.changes.Change.TheVariants.{DropLoan, DropOffer, PutLoan}
use Rattle.room_types.specs.declared.changes.Change.TheVariants.{PutOffer, PutVehicle}
use Rattle.room_types.specs.declared.codes.Status.TheVariants.{Available}
use Rattle.room_types.specs.declared.refusal_statuses.Refusal.{Refusal}
use Rattle.room_types.specs.declared.tables.Loan.{Loan}
use Rattle.room_types.specs.declared.tables.Vehicle.{Vehicle}
use Rattle.room_types.specs.Texts.{Callsign}
use Rattle.room_model.specs.Crossing.{Accepted, Arrive, Asked, CallIn, Crossing, Declined, Left}
use Rattle.room_model.specs.Crossing.{OfferIn, Recalled, ReportIn, Withdrawn}
use Rattle.room_model.specs.Queries.{loan_at, vehicle_at}
use Rattle.room_model.specs.Room.{Room, apply_one}
use Rattle.room_model.specs.Shares.{own}
use Rattle.room_model.specs.Step.{answer_to, room_after}

abbrev pub put_vehicle : Room → Vehicle → Room
put_vehicle s v = apply_one s (PutVehicle v)

abbrev pub freed : Room → Option Vehicle → Room
freed s None = s
freed s (Some v) = put_vehicle s (record v { status = Available })

abbrev pub marked : Room → Option Loan → Room
marked s None = s
marked s (Some l) = apply_one s (PutLoan (record l { recalled = true }))

abbrev pub without_vehicle : Room → Callsign → Room
without_vehicle s c = record s { vehicles = drop_row callsign_cmp vehicle_key s.vehicles c }

-- the share after what it is handed
abbrev pub share_by : ℕ → Room → Option Crossing → Room
share_by d s None = s
share_by d s (Some (Asked e)) = own d (room_after e s)
share_by d s (Some (CallIn e)) = own d (room_after e s)
share_by d s (Some (ReportIn e)) = own d (room_after e s)
share_by d s (Some (OfferIn o)) = apply_one s (PutOffer o)
share_by d s (Some (Withdrawn c)) = apply_one s (DropOffer c)
share_by d s (Some (Declined c)) = freed (apply_one s (DropOffer c)) (vehicle_at c s)
share_by d s (Some (Left l)) =
    apply_one (without_vehicle (apply_one s (DropOffer l.callsign)) l.callsign) (PutLoan l)
share_by d s (Some (Accepted e v)) = own d (room_after e (put_vehicle s v))
share_by d s (Some (Arrive v)) = apply_one (put_vehicle s v) (DropLoan v.callsign)
share_by d s (Some (Recalled c)) = marked s (loan_at c s)

-- what the division's desk is answered
abbrev pub answers_by : Room → Option Crossing → List (Result Answer Refusal)
answers_by s None = []
answers_by s (Some (Asked e)) = answer_to e s ∷ []
answers_by s (Some (Accepted e v)) = answer_to e (put_vehicle s v) ∷ []
answers_by s (Some x) = []

abbrev pub share_run : ℕ → List (Option Crossing) → Room → Room
share_run d [] s = s
share_run d (x ∷ xs) s = share_run d xs (share_by d s x)

abbrev pub share_answers : ℕ → List (Option Crossing) → Room → List (Result Answer Refusal)
share_answers d [] s = []
share_answers d (x ∷ xs) s = answers_by s x ++ share_answers d xs (share_by d s x)
