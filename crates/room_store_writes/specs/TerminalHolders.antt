-- Who may have a terminal, and the terminals of a room once those of one user are changed.
use Rattle.std.specs.List.{list_any}
use Rattle.std.specs.Ordering.{is_eq}
use Rattle.std.specs.Prelude.{Bool, List, None, Option, Some, false, filter, not, true, ℕ, ◌==◌}
use Rattle.room_place.specs.Plans.{has_division}
use Rattle.room_place.specs.declared.plans.Area.{Area}
use Rattle.room_types.specs.KeyedRows.{put_row}
use Rattle.room_types.specs.Texts.{Token}
use Rattle.room_types.specs.declared.asks.Who.{Who}
use Rattle.room_types.specs.declared.asks.Who.TheVariants.{Crew, Desk, Position}
use Rattle.room_types.specs.declared.fleet.Terminal.{Terminal}
use Rattle.room_model.specs.FleetRows.{is_crew, terminal_key, token_cmp}

-- who is the desk of a division
abbrev pub is_desk : ℕ → Who → Bool
is_desk d (Desk e) = e == d
is_desk d (Position p) = false
is_desk d (Crew c) = false

-- who is at a position
abbrev pub is_position : ℕ → Who → Bool
is_position p (Desk d) = false
is_position p (Position q) = q == p
is_position p (Crew c) = false

-- one is the other
abbrev pub same_who : Who → Who → Bool
same_who (Desk d) who = is_desk d who
same_who (Position p) who = is_position p who
same_who (Crew c) who = is_crew c who

-- the terminals of all others
abbrev pub without : Who → List Terminal → List Terminal
without who ts = filter (λ t. not (same_who who t.who)) ts

-- all others', and one of this user with this token
abbrev pub with_token : Who → Token → List Terminal → List Terminal
with_token who k ts =
    put_row token_cmp terminal_key (without who ts) (record { token = k; who = who })

-- the terminals once this user has only this token, or none
abbrev pub terminals_by : Who → Option Token → List Terminal → List Terminal
terminals_by who None ts = without who ts
terminals_by who (Some k) ts = with_token who k ts

abbrev pub has_terminal : Who → List Terminal → Bool
has_terminal who ts = list_any (λ t. same_who who t.who) ts

abbrev pub is_token_of : Token → Terminal → Bool
is_token_of k t = is_eq (token_cmp k t.token)

abbrev pub has_token : Token → List Terminal → Bool
has_token k ts = list_any (is_token_of k) ts

-- who may have a terminal: the desk of a division of the plan, every position, and the crew of a
-- vehicle that is enrolled, which has one already
abbrev pub may_have : List Area → List Terminal → Who → Bool
may_have areas ts (Desk d) = has_division areas d
may_have areas ts (Position p) = true
may_have areas ts (Crew c) = has_terminal (Crew c) ts
