-- What a request reads: how much of each table, of its division's rows.
use Rattle.std.specs.Ordering.{nat_cmp}
use Rattle.std.specs.Prelude.{Bool, List, false, is_some, not, true, ℕ, ◌&&◌, ◌==◌, ◌||◌, ◌≡◌}
use Rattle.room_types.specs.KeyedRows.{keep}
use Rattle.room_types.specs.Codes.{is_active, is_exception}
use Rattle.room_types.specs.Keys.{callsign_cmp, pair_cmp, same_callsign}
use Rattle.room_types.specs.Texts.{Callsign}
use Rattle.room_types.specs.declared.asks.Ask.{Ask}
use Rattle.room_types.specs.declared.asks.Ask.TheVariants as ask
use Rattle.room_types.specs.declared.tables.Call.{Call}
use Rattle.room_types.specs.declared.tables.Incident.{Incident}
use Rattle.room_types.specs.declared.tables.Report.{Report}
use Rattle.room_types.specs.declared.tables.Turn.{Turn}
use Rattle.room_model.specs.Queries.{calls_of, held, incident_of, is_given, is_opened_within}
use Rattle.room_model.specs.Room.{Room}
use Rattle.room_model.specs.WorkingRows.{is_last_turn, names_incident}
use Rattle.room_model.specs.WorkingRows.{names_opening, names_report, names_turn, reads_active}
use Rattle.room_model.specs.WorkingRows.{reads_assignments, reads_calls, reads_division}
use Rattle.room_model.specs.WorkingRows.{reads_exceptions, reads_loan, reads_offer, reads_point}
use Rattle.room_model.specs.WorkingRows.{reads_vehicle}
use Rattle.room_store_reads.specs.Selections.{reaches}
use Rattle.room_store_reads.specs.declared.request_reads.Incidents.{Incidents}
use Rattle.room_store_reads.specs.declared.request_reads.Incidents.TheVariants as incidents
use Rattle.room_store_reads.specs.declared.request_reads.Reads.{Reads}
use Rattle.room_store_reads.specs.declared.request_reads.Reports.{Reports}
use Rattle.room_store_reads.specs.declared.request_reads.Reports.TheVariants as reports
use Rattle.room_store_reads.specs.declared.request_reads.Turns.{Turns}
use Rattle.room_store_reads.specs.declared.request_reads.Turns.TheVariants as turns

-- the active incidents
abbrev pub shows : Incidents → Bool
shows incidents.Active = true
shows x = false

-- the incident of this number
abbrev pub names : Incidents → ℕ → Bool
names (incidents.One m) n = m == n
names (incidents.Two m k) n = m == n || k == n
names x n = false

-- an incident that was opened then, or that a call at `at` may be linked to
abbrev pub opens : Incidents → ℕ → Incident → Bool
opens (incidents.Opened from to) at i = is_opened_within from to i
opens (incidents.Near form) at i = names_opening (ask.Call form) at i
opens x at i = false

-- an incident is read
abbrev pub is_read : Incidents → ℕ → Incident → Bool
is_read incidents.Nothing at i = false
is_read incidents.Active at i = is_active i.state
is_read (incidents.Opened from to) at i = opens (incidents.Opened from to) at i
is_read (incidents.Near form) at i = opens (incidents.Near form) at i
is_read (incidents.One n) at i = n == i.number
is_read (incidents.Two n m) at i = n == i.number || m == i.number

-- the turns of the division's incident of this number are
abbrev pub reads_turns : ℕ → Incidents → Room → ℕ → Bool
reads_turns d x room n =
    shows x && is_some (keep (λ i. is_active i.state) (incident_of d n room)) || names x n

-- the exceptions that are not cleared
abbrev pub shows_exceptions : Reports → Bool
shows_exceptions reports.Uncleared = true
shows_exceptions x = false

-- the report of this vehicle and number
abbrev pub names_one : Reports → Callsign → ℕ → Bool
names_one (reports.One r) c n = same_callsign r.0 c && r.1 == n
names_one (reports.Of k) c n = same_callsign k c
names_one x c n = false

-- a report is read
abbrev pub is_report : Reports → Report → Bool
is_report reports.Nothing x = false
is_report reports.Uncleared x = is_exception x
is_report (reports.One r) x = names_one (reports.One r) x.callsign x.number
is_report (reports.Of k) x = names_one (reports.Of k) x.callsign x.number

-- another incident that one of these calls was given
abbrev pub is_merged : ℕ → List Call → ℕ → Bool
is_merged n calls m = not (n == m) && is_given calls m

-- the turn of the last order of the vehicle, one of an incident that was merged into this one, or
-- one of the vehicle
abbrev pub is_turn_of : ℕ → Turns → Room → Turn → Bool
is_turn_of d turns.Nothing room t = false
is_turn_of d (turns.Last c) room t = is_last_turn (held d c room) t
is_turn_of d (turns.Merged n) room t = is_merged n (calls_of d n room) t.incident
is_turn_of d (turns.Of c) room t = same_callsign c t.callsign

-- these are the calls that say which were merged
abbrev pub AreCallsFor : ℕ → Turns → Room → List Call → Type 0
AreCallsFor d (turns.Merged n) room calls = calls ≡ calls_of d n room
AreCallsFor d x room calls = Unit {0}

-- only the history of an incident reads the turns of those that were merged into it
abbrev pub IsAskedFor : Turns → Ask → Type 0
IsAskedFor (turns.Merged n) a = a ≡ ask.Incident n
IsAskedFor x a = Unit {0}

-- nothing is read but rows of the fleet
abbrev pub is_of_fleet : Incidents → Reports → Turns → Bool
is_of_fleet incidents.Nothing reports.Nothing turns.Nothing = true
is_of_fleet x y z = false

-- It is what the ask of the division's desk, or a call that is placed in it, reads.
pub record Selects (d : ℕ) (a : Ask) (x : Reads) : Type 0 where
  pub divisions : (n : ℕ) → reads_division a ≡ reaches nat_cmp x.divisions n
  pub vehicles : (k : Callsign) → reads_vehicle a k ≡ reaches callsign_cmp x.vehicles k
  pub assignments : (k : Callsign) → reads_assignments a ≡ reaches callsign_cmp x.assignments k
  pub points : (n : ℕ) → reads_point a n ≡ reaches pair_cmp x.points (d, n)
  pub loans : (k : Callsign) → reads_loan a k ≡ reaches callsign_cmp x.loans k
  pub offers : (k : Callsign) → reads_offer a k ≡ reaches callsign_cmp x.offers k
  pub exceptions : reads_exceptions a ≡ shows_exceptions x.reports
  pub report : (k : Callsign) (n : ℕ) → names_report a k n ≡ names_one x.reports k n
  pub active : reads_active a ≡ shows x.incidents
  pub named : (n : ℕ) → names_incident a n ≡ names x.incidents n
  pub opened : (at : ℕ) (i : Incident) → names_opening a at i ≡ opens x.incidents at i
  pub calls : reads_calls a ≡ x.calls
  pub turn : (room : Room) (t : Turn) → names_turn d a room t ≡ is_turn_of d x.turns room t
  pub history : IsAskedFor x.turns a
