-- The days of the calendar from 1970 to 2099.
use Rattle.std.specs.Prelude.{ℕ, List, length, slice_index, option_and_then, Bool, not, nat_le, ◌+◌}
use Rattle.std.specs.Prelude.{◌-◌, ◌*◌, ◌%◌, ◌==◌, ◌&&◌, ◌||◌, if◌then◌else◌, Option, Some, None}
use Rattle.std.specs.Char.{is_ascii_digit}

-- every fourth year, but of the full centuries every fourth only
abbrev pub is_leap : ℕ → Bool
is_leap year = (year % 4 == 0) && (not (year % 100 == 0) || (year % 400 == 0))

-- how many days a month has, 0 where there is no such month
abbrev pub days_in : ℕ → ℕ → ℕ
days_in year month =
    if month == 2 then (if is_leap year then 29 else 28) else
    (if (month == 4) || ((month == 6) || ((month == 9) || (month == 11))) then 30 else
    (if nat_le 1 month && nat_le month 12 then 31 else 0))

-- the numbers are a day of these years
abbrev pub is_date : ℕ → ℕ → ℕ → Bool
is_date year month day =
    (nat_le 1970 year && nat_le year 2099) && (nat_le 1 day && nat_le day (days_in year month))

-- the number that two digits write
abbrev pub two_digits : ℕ → ℕ → Option ℕ
two_digits tens ones =
    if is_ascii_digit tens && is_ascii_digit ones then Some
    ((tens - 48) * 10 + (ones - 48)) else None

-- the numbers of a day
pub record Date : Type 0 where
  pub year : ℕ
  pub month : ℕ
  pub day : ℕ

-- the day of these numbers
abbrev pub date_of : ℕ → ℕ → ℕ → Option Date
date_of year month day =
    if is_date year month day then Some (record { year = year; month = month; day = day }) else None

-- the two digits at a place of a text
abbrev pub two_digits_at : ℕ → List ℕ → Option ℕ
two_digits_at i text = two_digits (slice_index text i) (slice_index text (i + 1))

-- the day that a text writes as YYYY-MM-DD: four digits, two and two, with a hyphen between them
-- (45 is its code)
abbrev pub day_of : List ℕ → Option Date
day_of text =
    if (length text == 10) && ((slice_index text 4 == 45) && (slice_index text 7 == 45)) then
    option_and_then (λ century. option_and_then
    (λ year. option_and_then (λ month. option_and_then (λ day.
    date_of (century * 100 + year) month day)
    (two_digits_at 8 text)) (two_digits_at 5 text)) (two_digits_at 2 text)) (two_digits_at 0 text)
    else None
