-- Lemmas on the fields of a head.
use Rattle.std.proofs.Common.{◌≡◌, ◌<◌, ◌≤◌, ◌^◌, ◌∙◌, arith, sym, ap, ℕ, List, min, true, false}
use Rattle.std.proofs.Common.{Option, None, Some}
use Rattle.std.specs.Option.{MatchOption, SomeIff}
use Rattle.std.specs.Str.Parse.{digits_value}
use Rattle.std.proofs.lemmas.Option.{none-some, same_Some}
use Rattle.httpdate.proofs.Theorems.{IsDateText_unique}
use Rattle.httpdate.specs.Date.{IsDateText, unix_secs}
use Rattle.httpdate.specs.Valid.{parts_secs}
use Rattle.httpdate.specs.declared.date.HttpDate.{HttpDate}
use Rattle.room_http_messages.specs.HeadFields.{only_value}
use Rattle.room_http_messages.specs.Rules.{is_numeral}
use Rattle.dispatch_room_board.specs.declared.heard_answers.TheConstants.{TOO_LONG}
use Rattle.dispatch_room_board.specs.Members.{IsRead, last_moment}
use Rattle.dispatch_room_board.specs.HeardAnswers.{Announces, IsDateOf, IsDated}

pub none_announced : (values : List (List ℕ)) → None ≡ only_value values
    → IsRead (Announces values) None
none_announced values none = record { is = λ n h. none-some h.0 (none ∙ h.1) }

pub announced : (r : Option ℕ) (values : List (List ℕ)) (text value : List ℕ)
    → Some value ≡ only_value values → text ≡ value
    → MatchOption r (is_numeral text ≡ false)
    (λ n. (is_numeral text ≡ true) × (n ≡ min (digits_value 10 text) TOO_LONG))
    → IsRead (Announces values) r
announced None values text value one same read =
    record {
      is = λ n h. let e : text ≡ h.0 = same ∙ same_Some value h.0 (one ∙ h.1) in
          let p : is_numeral h.0 ≡ false = rw (← e) read in absurd (cc (p, h.2));
    }
announced (Some n) values text value one same read =
    record { is = (value, sym one, rw same at read.0, rw same at read.1) }

-- the seconds of a date are those of its text
secs_are_one : (text : List ℕ) (a b : HttpDate) → IsDateText text a → IsDateText text b
    → unix_secs a ≡ unix_secs b
secs_are_one text a b x y = ap parts_secs (IsDateText_unique text a b x y)

pub late_date : (text : List ℕ) (date : HttpDate) (secs : ℕ) → IsDateText text date
    → secs ≡ unix_secs date → ¬ (secs < 2 ^ 32) → IsRead (IsDateOf text) None
late_date text date secs shown is late =
    record {
      is = λ n h. let e = secs_are_one text date h.0 shown h.1 in late
          (omega (arith, is, e, h.2, h.3));
    }

pub date_of : (r : Option ℕ) (n secs : ℕ) (text : List ℕ) (date : HttpDate) → IsDateText text date
    → secs ≡ unix_secs date → n ≡ secs
    → SomeIff r ((0 ≤ n) × (n ≤ last_moment)) n → IsRead (IsDateOf text) r
date_of None n secs text date shown is same made =
    record {
      is = λ m h. let e = secs_are_one text date h.0 shown h.1 in made
          (omega arith, omega (arith, same, is, e, h.2, h.3));
    }
date_of (Some m) n secs text date shown is same made =
    record { is = (date, shown, sym is ∙ sym same ∙ sym made.1, omega (arith, made.0.1, made.1)) }

pub none_dated : (values : List (List ℕ)) → None ≡ only_value values → IsRead (IsDated values) None
none_dated values none = record { is = λ n h. none-some h.0 (none ∙ h.1) }

pub dated : (r : Option ℕ) (values : List (List ℕ)) (text value : List ℕ)
    → Some value ≡ only_value values → text ≡ value
    → IsRead (IsDateOf text) r → IsRead (IsDated values) r
dated None values text value one same read =
    record {
      is = λ n h. let e : text ≡ h.0 = same
          ∙ same_Some value h.0 (one ∙ h.1) in read.is n (rw e h.2);
    }
dated (Some m) values text value one same read = record { is = (value, sym one, rw same at read.is) }
