-- What becomes of one that was looked at.
use Rattle.std.specs.Prelude.{Bool, true, false, not, nat_lt, if◌then◌else◌}
use Rattle.std.specs.Duration.{as_nanos}
use Rattle.std.specs.declared.time.Duration.{Duration}
use Rattle.dispatch_room_sockets.specs.declared.kept_callers.Heard.{Heard}
use Rattle.dispatch_room_sockets.specs.declared.kept_callers.Heard.TheVariants.{Gone, Nothing, Part}
use Rattle.dispatch_room_sockets.specs.declared.kept_callers.Heard.TheVariants.{Whole}
use Rattle.dispatch_room_sockets.specs.declared.kept_callers.Verdict.{Verdict}
use Rattle.dispatch_room_sockets.specs.declared.kept_callers.Verdict.TheVariants.{Closed, Served}
use Rattle.dispatch_room_sockets.specs.declared.kept_callers.Verdict.TheVariants.{Waits}

-- the moment has come
abbrev pub is_over : Duration → Duration → Bool
is_over now until = not (nat_lt (as_nanos now) (as_nanos until))

-- a part of a request was heard
abbrev pub is_part : Heard → Bool
is_part Nothing = false
is_part Part = true
is_part Whole = false
is_part Gone = false

-- Whose request is whole is served, and whoever has gone is closed. Once its time is over, one that
-- has said a part is served, so that what reads it says why not, and one that has said nothing is
-- closed.
abbrev pub verdict_on : Heard → Bool → Verdict
verdict_on Nothing over = if over then Closed else Waits
verdict_on Part over = if over then Served else Waits
verdict_on Whole over = Served
verdict_on Gone over = Closed

abbrev pub waits : Verdict → Bool
waits Waits = true
waits Served = false
waits Closed = false

abbrev pub is_served : Verdict → Bool
is_served Waits = false
is_served Served = true
is_served Closed = false

abbrev pub is_closed : Verdict → Bool
is_closed Waits = false
is_closed Served = false
is_closed Closed = true
