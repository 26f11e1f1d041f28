-- How each refusal is given: by number, by status and by name.
use Rattle.std.specs.Prelude.{ℕ, List, codes}
use Rattle.room_types.specs.declared.refusal_statuses.Refusal.{Refusal}
use Rattle.room_types.specs.declared.refusal_statuses.Refusal.TheVariants.{NoSuchIncident}
use Rattle.room_types.specs.declared.refusal_statuses.Refusal.TheVariants.{IncidentNotOpen}
use Rattle.room_types.specs.declared.refusal_statuses.Refusal.TheVariants.{NoSuchVehicle}
use Rattle.room_types.specs.declared.refusal_statuses.Refusal.TheVariants.{VehicleLent, WrongStatus}
use Rattle.room_types.specs.declared.refusal_statuses.Refusal.TheVariants.{ShiftOver, NotNeeded}
use Rattle.room_types.specs.declared.refusal_statuses.Refusal.TheVariants.{BelowServed}
use Rattle.room_types.specs.declared.refusal_statuses.Refusal.TheVariants.{StillAssigned}
use Rattle.room_types.specs.declared.refusal_statuses.Refusal.TheVariants.{SameIncident}
use Rattle.room_types.specs.declared.refusal_statuses.Refusal.TheVariants.{NoSuchPoint, NotHome}
use Rattle.room_types.specs.declared.refusal_statuses.Refusal.TheVariants.{NoSuchDivision}
use Rattle.room_types.specs.declared.refusal_statuses.Refusal.TheVariants.{NoSuchLoan}
use Rattle.room_types.specs.declared.refusal_statuses.Refusal.TheVariants.{NoSuchException}
use Rattle.room_types.specs.declared.refusal_statuses.Refusal.TheVariants.{OutsideArea}
use Rattle.room_types.specs.declared.refusal_statuses.Refusal.TheVariants.{SerialReused}
use Rattle.room_types.specs.declared.refusal_statuses.Refusal.TheVariants.{NumberReused}
use Rattle.room_types.specs.declared.refusal_statuses.Refusal.TheVariants.{NumbersUsedUp}
use Rattle.room_types.specs.declared.refusal_statuses.Refusal.TheVariants.{CallsignTaken}
use Rattle.room_types.specs.declared.refusal_statuses.Refusal.TheVariants.{TokenTaken, NoSuchOffer}
use Rattle.room_types.specs.declared.refusal_statuses.Refusal.TheVariants.{BadMessage, HeadTooLong}
use Rattle.room_types.specs.declared.refusal_statuses.Refusal.TheVariants.{BodyTooLong, Expectation}
use Rattle.room_types.specs.declared.refusal_statuses.Refusal.TheVariants.{Coding, NoPath}
use Rattle.room_types.specs.declared.refusal_statuses.Refusal.TheVariants.{WrongMethod, NoTerminal}
use Rattle.room_types.specs.declared.refusal_statuses.Refusal.TheVariants.{WrongRole, BadBody}
use Rattle.room_types.specs.declared.refusal_statuses.Refusal.TheVariants.{Memory, Storage}

pub record RefusalParts : Type 0 where
  pub number : ℕ
  pub status : ℕ
  pub name : List ℕ

abbrev pub with_status : ℕ → ℕ → List ℕ → RefusalParts
with_status s n name = record { number = n; status = s; name = name }

-- 404 Not Found: what the request names is not there
abbrev pub not_found : ℕ → List ℕ → RefusalParts
not_found n name = with_status 404 n name

-- 409 Conflict: what is there stands against it
abbrev pub conflict : ℕ → List ℕ → RefusalParts
conflict n name = with_status 409 n name

abbrev pub refusal_parts : Refusal → RefusalParts
refusal_parts NoSuchIncident = not_found 1 (codes "NoSuchIncident")
refusal_parts IncidentNotOpen = conflict 2 (codes "IncidentNotOpen")
refusal_parts NoSuchVehicle = not_found 3 (codes "NoSuchVehicle")
refusal_parts VehicleLent = conflict 4 (codes "VehicleLent")
refusal_parts WrongStatus = conflict 5 (codes "WrongStatus")
refusal_parts ShiftOver = conflict 6 (codes "ShiftOver")
refusal_parts NotNeeded = conflict 7 (codes "NotNeeded")
refusal_parts BelowServed = conflict 8 (codes "BelowServed")
refusal_parts StillAssigned = conflict 9 (codes "StillAssigned")
refusal_parts SameIncident = conflict 10 (codes "SameIncident")
refusal_parts NoSuchPoint = not_found 11 (codes "NoSuchPoint")
refusal_parts NotHome = conflict 12 (codes "NotHome")
refusal_parts NoSuchDivision = not_found 13 (codes "NoSuchDivision")
refusal_parts NoSuchLoan = not_found 14 (codes "NoSuchLoan")
refusal_parts NoSuchException = not_found 15 (codes "NoSuchException")
refusal_parts OutsideArea = conflict 16 (codes "OutsideArea")
refusal_parts SerialReused = conflict 17 (codes "SerialReused")
refusal_parts NumberReused = conflict 18 (codes "NumberReused")
refusal_parts NumbersUsedUp = conflict 19 (codes "NumbersUsedUp")
refusal_parts CallsignTaken = conflict 20 (codes "CallsignTaken")
refusal_parts TokenTaken = conflict 21 (codes "TokenTaken")
refusal_parts NoSuchOffer = not_found 22 (codes "NoSuchOffer")
refusal_parts BadMessage = with_status 400 30 (codes "BadMessage")
refusal_parts HeadTooLong = with_status 431 31 (codes "HeadTooLong")
refusal_parts BodyTooLong = with_status 413 32 (codes "BodyTooLong")
refusal_parts Expectation = with_status 417 33 (codes "Expectation")
refusal_parts Coding = with_status 501 34 (codes "Coding")
refusal_parts NoPath = not_found 36 (codes "NoPath")
refusal_parts (WrongMethod allow) = with_status 405 37 (codes "WrongMethod")
refusal_parts NoTerminal = with_status 403 38 (codes "NoTerminal")
refusal_parts WrongRole = with_status 403 39 (codes "WrongRole")
refusal_parts BadBody = with_status 400 40 (codes "BadBody")
refusal_parts Memory = with_status 503 41 (codes "Memory")
refusal_parts Storage = with_status 503 42 (codes "Storage")

abbrev pub refusal_number : Refusal → ℕ
refusal_number r = (refusal_parts r).number

abbrev pub refusal_status : Refusal → ℕ
refusal_status r = (refusal_parts r).status

abbrev pub refusal_name : Refusal → List ℕ
refusal_name r = (refusal_parts r).name
