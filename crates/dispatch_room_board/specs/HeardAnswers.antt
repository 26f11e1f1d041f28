-- The answers in what was heard (RFC 9112, section 2.1).
use Rattle.std.specs.Prelude.{◌≡◌, ◌<◌, ◌≤◌, ◌⊎◌, ℕ, List, ◌++◌, length, map, min, codes, true}
use Rattle.std.specs.Prelude.{Some}
use Rattle.std.specs.Str.Parse.{digits_value}
use Rattle.httparse.specs.Grammar.{MayBecomeResponse, ReadsResponse, ResponseHead, status_code}
use Rattle.httparse.specs.Spans.{name_and_value}
use Rattle.httpdate.specs.Date.{IsDateText, unix_secs}
use Rattle.httpdate.specs.declared.date.HttpDate.{HttpDate}
use Rattle.room_http_messages.specs.HeadFields.{Fields, only_value, values_of}
use Rattle.room_http_messages.specs.Rules.{is_numeral}
use Rattle.room_http_messages.specs.declared.limits.TheConstants.{FIELD_LIMIT}
use Rattle.dispatch_room_board.specs.declared.heard_answers.HeardAnswer.{HeardAnswer}
use Rattle.dispatch_room_board.specs.declared.heard_answers.TheConstants.{TOO_LONG}
use Rattle.dispatch_room_board.specs.declared.board_errors.BoardError.{BoardError}
use Rattle.dispatch_room_board.specs.declared.board_errors.BoardError.TheVariants.{Unheard, Foreign}
use Rattle.dispatch_room_board.specs.declared.board_errors.BoardError.TheVariants.{Refused}
use Rattle.dispatch_room_board.specs.Members.{IsRead, last_moment}

-- there is one value, only digits, and they write this number, or one above all that is read
abbrev pub Announces : List (List ℕ) → ℕ → Type 0
Announces values n =
    (value : List ℕ) × (only_value values ≡ Some value) × (is_numeral value ≡ true)
    × (n ≡ min (digits_value 10 value) TOO_LONG)

-- it is the text of a date, and the date is this moment, up to the end of 2099
abbrev pub IsDateOf : List ℕ → ℕ → Type 0
IsDateOf text moment =
    (date : HttpDate) × IsDateText text date × (unix_secs date ≡ moment) × (moment ≤ last_moment)

-- there is one value, and it is the date of this moment
abbrev pub IsDated : List (List ℕ) → ℕ → Type 0
IsDated values moment = (value : List ℕ) × (only_value values ≡ Some value) × IsDateOf value moment

-- the fields of a head, as names and values
abbrev pub fields_in : ResponseHead → Fields
fields_in h = map name_and_value h.fields

-- the bytes begin with an answer of not too many fields, and rest follows
pub record IsMessage (bytes : List ℕ) (m : HeardAnswer) (rest : List ℕ) : Type 0 where
  pub head : ResponseHead
  pub reads : ReadsResponse bytes head (m.content.now ++ rest)
  pub few : length head.fields ≤ FIELD_LIMIT
  pub code : m.code ≡ status_code head
  pub size : Announces (values_of (codes "content-length") (fields_in head)) (length m.content.now)
  pub moment : IsRead (IsDated (values_of (codes "date") (fields_in head))) m.moment

-- they begin with none
abbrev pub HasNoMessage : List ℕ → Type 0
HasNoMessage bytes = (m : HeardAnswer) (rest : List ℕ) → ¬ IsMessage bytes m rest

-- they begin with none, whatever follows them
abbrev pub NeverHasMessage : List ℕ → Type 0
NeverHasMessage bytes = (more : List ℕ) → HasNoMessage (bytes ++ more)

-- they begin with a head, and are fewer than it announces
abbrev pub IsCutShort : List ℕ → Type 0
IsCutShort bytes =
    (head : ResponseHead) × (rest : List ℕ) × (size : ℕ)
    × ReadsResponse bytes head rest × Announces
    (values_of (codes "content-length") (fields_in head)) size × (length rest < size)

-- why they begin with none: they end too early, or are no answer's
abbrev pub IsNoMessage : List ℕ → BoardError → Type 0
IsNoMessage bytes Unheard = HasNoMessage bytes × (MayBecomeResponse bytes ⊎ IsCutShort bytes)
IsNoMessage bytes Foreign = NeverHasMessage bytes
IsNoMessage bytes (Refused number name) = ⊥
