-- What a request reads of incidents, their turns and reports, as its row says it.
use Rattle.std.proofs.Common.{Bool, List, [], ap, arith, false, is_some, not, refl, sym, true, ℕ}
use Rattle.std.proofs.Common.{◌&&◌, ◌++◌, ◌∙◌, ◌∷◌, ◌≡◌, ◌||◌}
use Rattle.std.proofs.lemmas.Bool.Decides.{nat_tests}
use Rattle.std.specs.Prelude.{filter, ◌==◌}
use Rattle.room_types.specs.KeyedRows.{keep}
use Rattle.room_types.specs.Codes.{is_active, is_normal, outcome_number}
use Rattle.room_types.specs.declared.asks.Ask.{Ask}
use Rattle.room_types.specs.declared.asks.Ask.TheVariants as ask
use Rattle.room_types.specs.declared.codes.Outcome.{Outcome}
use Rattle.room_types.specs.declared.codes.Outcome.TheVariants.{Late, Normal, Skipped, Stale, Wrong}
use Rattle.room_types.specs.declared.tables.Incident.{Incident}
use Rattle.room_types.specs.declared.tables.Report.{Report}
use Rattle.room_model.specs.Queries.{calls_of, incident_of}
use Rattle.room_model.specs.Room.{Room}
use Rattle.room_model.specs.WorkingRows.{reads_exceptions, reads_incident, reads_number}
use Rattle.room_model.specs.WorkingRows.{reads_report, working}
use Rattle.room_store_cache.specs.IncidentNumbers.{contains}
use Rattle.room_store_cache.proofs.Filters.{and_none, filter_as, or_assoc, or_none}
use Rattle.room_store_reads.specs.Partitions.{any}
use Rattle.room_store_reads.specs.RequestReads.{AreCallsFor, IsAskedFor, Selects, is_read}
use Rattle.room_store_reads.specs.RequestReads.{is_report, names, names_one, opens, reads_turns}
use Rattle.room_store_reads.specs.RequestReads.{shows, shows_exceptions}
use Rattle.room_store_reads.specs.declared.request_reads.Incidents.{Incidents}
use Rattle.room_store_reads.specs.declared.request_reads.Incidents.TheVariants as incidents
use Rattle.room_store_reads.specs.declared.request_reads.Reads.{Reads}
use Rattle.room_store_reads.specs.declared.request_reads.Reports.{Reports}
use Rattle.room_store_reads.specs.declared.request_reads.Reports.TheVariants as reports
use Rattle.room_store_reads.specs.declared.request_reads.Turns.{Turns}
use Rattle.room_store_reads.specs.declared.request_reads.Turns.TheVariants as turns

-- an incident is read as it is active, named or was opened then
read_as : (x : Incidents) (at : ℕ) (i : Incident) → is_read x at i
    ≡ (shows x && is_active i.state) || (names x i.number || opens x at i)
read_as incidents.Nothing at i = refl
read_as incidents.Active at i = sym (or_none (is_active i.state))
read_as (incidents.Opened from to) at i = refl
read_as (incidents.Near form) at i = refl
read_as (incidents.One n) at i = sym (or_none (n == i.number))
read_as (incidents.Two n m) at i = sym (or_none (n == i.number || m == i.number))

-- and a report as it is an exception or named
reported_as : (x : Reports) (y : Report) → is_report x y
    ≡ (shows_exceptions x && (not (is_normal y.outcome) && not y.cleared))
    || names_one x y.callsign y.number
reported_as reports.Nothing y = refl
reported_as reports.Uncleared y = sym (or_none (not (is_normal y.outcome) && not y.cleared))
reported_as (reports.One r) y = refl
reported_as (reports.Of c) y = refl

module _ {d : ℕ} {a : Ask} {x : Reads} (selects : Selects d a x) where
  pub incident_is : (at : ℕ) (i : Incident) → is_read x.incidents at i ≡ reads_incident a at i
  incident_is at i =
      read_as x.incidents at i
      ∙ sym (λ j. (selects.active j && is_active i.state) || (selects.named i.number j || selects.opened at i j))

  pub incidents_are : (at : ℕ) (room : Room)
      → filter (λ i. i.division == d && is_read x.incidents at i) room.incidents
      ≡ (working d a at room).incidents
  incidents_are at room =
      filter_as _ _ room.incidents (λ i. ap (λ b. (i.division == d) && b) (incident_is at i))

  pub number_is : (room : Room) (n : ℕ)
      → reads_turns d x.incidents room n ≡ reads_number d a room n
  number_is room n =
      sym
      (λ j. (selects.active j && is_some (keep (λ i. is_active i.state) (incident_of d n room))) || selects.named n j)

  pub report_is : (y : Report) → is_report x.reports y ≡ reads_report a y
  report_is y =
      reported_as x.reports y
      ∙ sym (λ j.
      (selects.exceptions j && (not (is_normal y.outcome) && not y.cleared)) || selects.report y.callsign y.number j)

-- only a queue reads the exceptions
pub queue_only : (a : Ask) → reads_exceptions a ≡ true → a ≡ ask.Queue
queue_only ask.Queue h = refl
queue_only a h = cc

one_of : (o : Outcome) (cleared own : Bool)
    → outcome_number o == 1 && (not cleared && own)
    || (outcome_number o == 2 && (not cleared && own)
    || (outcome_number o == 3 && (not cleared && own)
    || (outcome_number o == 4 && (not cleared && own) || false)))
    ≡ own && (not (is_normal o) && not cleared)
one_of Normal c true = refl
one_of Normal c false = refl
one_of Skipped true true = refl
one_of Skipped true false = refl
one_of Skipped false true = refl
one_of Skipped false false = refl
one_of Wrong true true = refl
one_of Wrong true false = refl
one_of Wrong false true = refl
one_of Wrong false false = refl
one_of Late true true = refl
one_of Late true false = refl
one_of Late false true = refl
one_of Late false false = refl
one_of Stale true true = refl
one_of Stale true false = refl
one_of Stale false true = refl
one_of Stale false false = refl

-- the four outcomes are all but the normal one
pub exceptional : (d : ℕ) (x : Report)
    → any (λ o. outcome_number x.outcome == outcome_number o && (not x.cleared && x.division == d))
    (Skipped ∷ Wrong ∷ Late ∷ Stale ∷ []) ≡ (x.division == d)
    && (not (is_normal x.outcome) && not x.cleared)
exceptional d x = one_of x.outcome x.cleared (x.division == d)

-- one item more is looked at
pub any_last : {K : Type 0} (p : K → Bool) (k : K) (ks : List K)
    → any p (ks ++ k ∷ []) ≡ any p ks || p k
any_last p k [] = or_none (p k)
any_last p k (j ∷ ks) = ap (λ b. p j || b) (any_last p k ks) ∙ or_assoc (p j) (any p ks) (p k)

pub same_back : (m n : ℕ) → (m == n) ≡ (n == m)
same_back m n = grind (arith, nat_tests)

one_more : (own same there : Bool) → (same && own) || (own && there) ≡ own && (same || there)
one_more true true there = refl
one_more true false there = refl
one_more false true there = refl
one_more false false there = refl

-- a division's row of one of some numbers
pub own_contains : (own : Bool) (n : ℕ) (ms : List ℕ)
    → any (λ m. (n == m) && own) ms ≡ own && contains n ms
own_contains own n [] = sym (and_none own)
own_contains own n (m ∷ ms) =
    (λ i. (same_back n m i && own) || own_contains own n ms i) ∙ one_more own (m == n) (contains n ms)

-- the calls that a history reads are those of its incident
pub calls_read : (d : ℕ) (a : Ask) (at : ℕ) (room : Room) (x : Turns) → IsAskedFor x a
    → AreCallsFor d x room (working d a at room).calls
unfolding calls_of
calls_read d a at room (turns.Merged n) history =
    rw history (filter_as _ _ room.calls (λ c. ap (λ b. (c.division == d) && b) (same_back n c.incident)))
calls_read d a at room turns.Nothing history = tt
calls_read d a at room (turns.Last c) history = tt
calls_read d a at room (turns.Of c) history = tt

-- a division's row of one of two numbers
pub one_of_two : (own b c : Bool) → (own && b) || ((own && c) || false) ≡ own && (b || c)
one_of_two true b c = ap (λ x. b || x) (or_none c)
one_of_two false b c = refl
