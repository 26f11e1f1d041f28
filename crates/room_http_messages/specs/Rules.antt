-- What a complete head must not break.
use Rattle.std.specs.Prelude.{ℕ, List, [], ◌∷◌, length, map, codes, Bool, true, false, not, ◌&&◌}
use Rattle.std.specs.Prelude.{◌==◌, nat_lt, if◌then◌else◌, Option, Some, None}
use Rattle.std.specs.List.{list_all}
use Rattle.std.specs.Char.{is_ascii_digit}
use Rattle.std.specs.Str.Parse.{digits_value}
use Rattle.httparse.specs.Grammar.{RequestHead}
use Rattle.httparse.specs.Spans.{name_and_value}
use Rattle.room_types.specs.declared.refusal_statuses.Refusal.{Refusal}
use Rattle.room_types.specs.declared.refusal_statuses.Refusal.TheVariants.{BadMessage, BodyTooLong}
use Rattle.room_types.specs.declared.refusal_statuses.Refusal.TheVariants.{Expectation, Coding}
use Rattle.room_http_messages.specs.declared.limits.TheConstants.{BODY_LIMIT}
use Rattle.room_http_messages.specs.HeadFields.{Fields, values_of, is_there}

-- the fields of a head, as names and values
abbrev pub head_fields : RequestHead → Fields
head_fields h = map name_and_value h.fields

-- only digits
abbrev pub is_numeral : List ℕ → Bool
is_numeral value = nat_lt 0 (length value) && list_all is_ascii_digit value

-- version 1.1 has exactly one Host, version 1.0 at most one
abbrev pub has_host_fault : ℕ → List (List ℕ) → Bool
has_host_fault minor [] = minor == 1
has_host_fault minor (host ∷ []) = false
has_host_fault minor (host ∷ other ∷ more) = true

-- there is at most one length, of only digits
abbrev pub has_length_fault : List (List ℕ) → Bool
has_length_fault [] = false
has_length_fault (value ∷ []) = not (is_numeral value)
has_length_fault (value ∷ other ∷ more) = true

-- the length, 0 where there is none
abbrev pub length_of : List (List ℕ) → ℕ
length_of [] = 0
length_of (value ∷ more) = digits_value 10 value

-- the length of the body
abbrev pub body_length : Fields → ℕ
body_length fields = length_of (values_of (codes "content-length") fields)

-- the rules in their order: whether a head breaks one, and then its refusal
abbrev pub rules_for : ℕ → Fields → List (Bool × Refusal)
rules_for minor fields =
    (has_host_fault minor (values_of (codes "host") fields), BadMessage)
    ∷ (is_there (values_of (codes "transfer-encoding") fields), Coding)
    ∷ (has_length_fault (values_of (codes "content-length") fields), BadMessage)
    ∷ ((minor == 1) && is_there (values_of (codes "expect") fields), Expectation)
    ∷ (nat_lt BODY_LIMIT (body_length fields), BodyTooLong)
    ∷ []

-- the refusal of the first rule that is broken
abbrev pub first_broken : List (Bool × Refusal) → Option Refusal
first_broken [] = None
first_broken (rule ∷ more) = if rule.0 then Some rule.1 else first_broken more

-- what a head is refused with, if it breaks a rule
unfoldable pub fault_of : ℕ → Fields → Option Refusal
fault_of minor fields = first_broken (rules_for minor fields)
