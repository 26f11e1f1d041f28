-- What stands in a column.
use Rattle.std.specs.Prelude.{ℕ, List, ◌++◌, ◌-◌, ◌/◌, ◌%◌, codes, decimal, min, nat_lt}
use Rattle.std.specs.Prelude.{if◌then◌else◌, Option, None, Some}
use Rattle.room_place.specs.declared.places.Place.{Place}
use Rattle.room_types.specs.declared.codes.Kind.{Kind}
use Rattle.room_types.specs.declared.codes.Kind.TheVariants.{Ambulance, Car, Support}
use Rattle.room_types.specs.declared.codes.Status.{Status}
use Rattle.room_types.specs.declared.codes.Status.TheVariants.{OffDuty, Available, Mobilised}
use Rattle.room_types.specs.declared.codes.Status.TheVariants.{AtScene, Leaving, AtHospital}
use Rattle.room_types.specs.declared.codes.Status.TheVariants.{Returning, Offered}
use Rattle.room_types.specs.declared.answers.Served.{Served}
use Rattle.room_types.specs.declared.needs.Counts.{Counts}
use Rattle.dispatch_room_board.specs.declared.board_cells.BoardCell.{BoardCell}
use Rattle.dispatch_room_board.specs.declared.board_cells.BoardCell.TheVariants as cell
use Rattle.dispatch_room_board.specs.declared.board_cells.TheConstants.{LONGEST, LONGEST_TURN}

-- a number below a hundred in two digits
abbrev pub two_digits : ℕ → List ℕ
two_digits n = decimal (n / 10) ++ decimal (n % 10)

-- so many seconds: hours, and minutes and seconds in two digits each
unfoldable pub age_text : ℕ → List ℕ
age_text s =
    decimal (s / 3600) ++ codes ":" ++ two_digits (s / 60 % 60) ++ codes ":" ++ two_digits (s % 60)

-- the last five digits of a number
unfoldable pub five_digits : ℕ → List ℕ
five_digits n =
    decimal (n / 10000 % 10) ++ decimal (n / 1000 % 10) ++ decimal (n / 100 % 10)
    ++ decimal (n / 10 % 10) ++ decimal (n % 10)

-- the letters of a place's square
abbrev pub square_of : ℕ → ℕ → List ℕ
square_of east north =
    if nat_lt east 500000
    then (if nat_lt north 200000 then codes "SU" else codes "SP")
    else (if nat_lt north 200000 then codes "TQ" else codes "TL")

-- a place as a grid reference to the metre
unfoldable pub place_text : Place → List ℕ
place_text p =
    square_of p.east p.north ++ codes " " ++ five_digits p.east ++ codes " " ++ five_digits p.north

-- a number for each kind: ambulances, cars, support
unfoldable pub counts_text : Counts → List ℕ
counts_text c =
    decimal c.ambulances ++ codes " " ++ decimal c.cars ++ codes " " ++ decimal c.support

unfoldable pub served_text : Served → List ℕ
served_text s =
    decimal s.ambulances ++ codes " " ++ decimal s.cars ++ codes " " ++ decimal s.support

-- a word and a number
unfoldable pub named_text : List ℕ → ℕ → List ℕ
named_text word n = word ++ codes " " ++ decimal n

-- the text of a cell
abbrev pub text_of : BoardCell → List ℕ
text_of (cell.Text t) = t.now
text_of (cell.Number n) = decimal n
text_of (cell.Named w n) = named_text w.now n
text_of (cell.Age s) = age_text s
text_of (cell.Place p) = place_text p
text_of (cell.Counts c) = counts_text c
text_of (cell.Served s) = served_text s

-- how long a moment is past: nothing where it is to come, and no longer than the longest that is
-- shown
abbrev pub since_text : ℕ → ℕ → List ℕ
since_text now moment = age_text (min (now - moment) LONGEST)

-- the same where there is a moment
abbrev pub since_any_text : ℕ → Option ℕ → List ℕ
since_any_text now None = codes "-"
since_any_text now (Some moment) = since_text now moment

-- how long after an order a step of its turn came, no longer than the longest that is shown for a
-- turn
abbrev pub after_text : ℕ → Option ℕ → List ℕ
after_text order None = codes "-"
after_text order (Some step) = age_text (min (step - order) LONGEST_TURN)

-- how many whole minutes are left to a moment
abbrev pub left_text : ℕ → ℕ → List ℕ
left_text now moment = if nat_lt now moment then decimal ((moment - now) / 60) else codes "over"

abbrev pub kind_text : Kind → List ℕ
kind_text Ambulance = codes "ambulance"
kind_text Car = codes "car"
kind_text Support = codes "support"

abbrev pub status_text : Status → List ℕ
status_text OffDuty = codes "off duty"
status_text Available = codes "available"
status_text Mobilised = codes "mobilised"
status_text AtScene = codes "at scene"
status_text Leaving = codes "leaving"
status_text AtHospital = codes "at hospital"
status_text Returning = codes "returning"
status_text Offered = codes "offered"
