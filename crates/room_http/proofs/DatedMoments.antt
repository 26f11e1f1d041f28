-- Each moment before the year 10000 has a date.
use Rattle.std.proofs.Common.{◌≡◌, ◌∙◌, ap, refl, arith, ℕ, zero, suc, ◌+◌, ◌-◌, ◌/◌, ◌%◌, ◌<◌, ◌≤◌}
use Rattle.std.proofs.Common.{inl, inr}
use Rattle.std.proofs.lemmas.Bool.{cases_order}
use Rattle.std.proofs.lemmas.Bool.Decides.{nat_tests}
use Rattle.httpdate.specs.Calendar.{IsCivilDate, days_from_civil, days_in_month, days_in_year}
use Rattle.httpdate.specs.Calendar.{days_of_months, days_of_years, weekday}
use Rattle.httpdate.specs.Date.{date_text, unix_secs}
use Rattle.httpdate.specs.declared.date.HttpDate.{HttpDate}
use Rattle.httpdate.proofs.CalendarLemmas.{days_of_months_all, days_of_months_more}
use Rattle.httpdate.proofs.CalendarLemmas.{days_of_years_closed}
use Rattle.room_http.specs.ReplyLaws.{IsAlwaysThere}
use Rattle.room_http.specs.ReplyMessages.{reply_bytes}

-- the calendar's day that so many days come before
record DayAt (n : ℕ) : Type 0 where
  year : ℕ
  month : ℕ
  day : ℕ
  is : IsCivilDate year month day
  from : days_from_civil year month day ≡ n

-- each month has a first day
month_begins : (y m : ℕ) → 1 ≤ days_in_month y m
month_begins y m = grind (arith, nat_tests)

-- the years up to one, and that one
years_more : (y : ℕ) → 1970 ≤ y
    → days_of_years (suc y - 1970) ≡ days_of_years (y - 1970) + days_in_year y
unfolding days_of_years
years_more y low =
    let next : suc y - 1970 ≡ suc (y - 1970) = omega (arith, low) in
    let year : 1970 + (y - 1970) ≡ y = omega (arith, low) in
    rw (next, year) refl

-- the day after one: in its month, in the next month, or in the next year
in_month : (y m d n : ℕ) → IsCivilDate y m d → days_from_civil y m d ≡ n → d < days_in_month y m
    → DayAt (suc n)
in_month y m d n is from within = record {
  year = y;
  month = m;
  day = suc d;
  is = (is.0, is.1, (omega arith, omega (arith, within)));
  from = omega (arith, from, is.2.0);
}

next_month : (y m d n : ℕ) → IsCivilDate y m d → days_from_civil y m d ≡ n
    → days_in_month y m ≤ d → m < 12 → DayAt (suc n)
next_month y m d n is from last within =
    let more = days_of_months_more y m is.1.0 in
    let back : suc m - 1 ≡ m = omega arith in
    record {
      year = y;
      month = suc m;
      day = 1;
      is = (is.0, (omega arith, omega (arith, within)), (omega arith, month_begins y (suc m)));
      from = rw back (omega (arith, from, more, last, is.2.0, is.2.1));
    }

before_end : (y : ℕ) → y ≤ 9999 → days_of_years (suc y - 1970) < 2932897 → suc y ≤ 9999
before_end y within bound = elim (cases_order y 9999) [
  | inl last ↦
      let same : suc y - 1970 ≡ 8030 = omega (arith, last) in
      absurd (omega (arith, days_of_years_closed 8030, rw same at bound))
  | inr other ↦ elim other [ inl less ↦ omega (arith, less) | inr more ↦ absurd (omega (arith, more, within)) ]
]

next_year : (y m d n : ℕ) → IsCivilDate y m d → days_from_civil y m d ≡ n
    → days_in_month y m ≤ d → 12 ≤ m → suc n < 2932897 → DayAt (suc n)
unfolding days_of_months
next_year y m d n is from last december bound =
    let same : m ≡ 12 = omega (arith, december, is.1.1) in
    let more = days_of_months_more y m is.1.0 in
    let months : days_of_months y m ≡ days_in_year y = ap (days_of_months y) same ∙ days_of_months_all y in
    let after : days_of_years (suc y - 1970)
    ≡ suc n = omega (arith, from, more, last, is.2.0, is.2.1, years_more y is.0.0, months) in
    record {
      year = suc y;
      month = 1;
      day = 1;
      is = (
        (omega (arith, is.0.0), before_end y is.0.1 (omega (arith, after, bound))),
        (omega arith, omega arith),
        (omega arith, month_begins (suc y) 1),
      );
      from = omega (arith, after);
    }

next_day : (n : ℕ) → suc n < 2932897 → DayAt n → DayAt (suc n)
next_day n bound at = elim (cases_order (suc at.day) (days_in_month at.year at.month)) [
  | inl within ↦ in_month at.year at.month at.day n at.is at.from (omega (arith, within))
  | inr other ↦ elim other [
    | inl within ↦ in_month at.year at.month at.day n at.is at.from (omega (arith, within))
    | inr last ↦ elim (cases_order at.month 12) [
      | inl december ↦
          next_year at.year at.month at.day n at.is at.from (omega (arith, last)) (omega (arith, december)) bound
      | inr month ↦ elim month [
        | inl within ↦ next_month at.year at.month at.day n at.is at.from (omega (arith, last)) within
        | inr beyond ↦ absurd (omega (arith, beyond, at.is.1.1))
      ]
    ]
  ]
]

-- so each day before the year 10000 is one of the calendar
day_at : (n : ℕ) → n < 2932897 → DayAt n
unfolding days_of_years days_of_months
day_at zero bound = record {
  year = 1970;
  month = 1;
  day = 1;
  is = ((omega arith, omega arith), (omega arith, omega arith), (omega arith, month_begins 1970 1));
  from = refl;
}
day_at (suc n) bound = next_day n bound (day_at n (omega (arith, bound)))

-- and each second one of such a day
date_at : (at : ℕ) → at < 253_402_300_800 → (date : HttpDate) × (unix_secs date ≡ at)
date_at at bound =
    let day = day_at (at / 86400) (omega (arith, bound)) in
    let rest = at % 86400 in (
      record {
        parts = record {
          year = day.year;
          mon = day.month;
          day = day.day;
          hour = rest / 3600;
          min = rest % 3600 / 60;
          sec = rest % 60;
          wday = weekday (days_from_civil day.year day.month day.day);
        };
        civil = day.is;
        time = (omega arith, omega arith, omega arith);
        right_day = refl;
      },
      omega (arith, day.from),
    )

pub always_there_law : IsAlwaysThere
always_there_law answer at head_only closing bound =
    let date = date_at at bound in
    (reply_bytes answer (date_text date.0) head_only closing, (date_text date.0, (date.0, date.1, refl), refl))
