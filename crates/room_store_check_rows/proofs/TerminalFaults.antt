-- What the search reports of terminals holds of them.
use Rattle.std.specs.BTreeSet.{BTreeSet, IsFromIterResult, btree_set_len, contains}
use Rattle.std.specs.Bool.{Decides}
use Rattle.std.specs.Option.{option_or}
use Rattle.std.specs.Ordering.{is_eq}
use Rattle.std.specs.declared.cmp.Ordering.TheVariants.{Equal}
use Rattle.std.specs.Prelude.{cond, is_some, not, ◌==◌, ◌||◌}
use Rattle.std.proofs.Common.{Bool, List, None, Option, Some, [], ap, false, inl, inr, length, refl}
use Rattle.std.proofs.Common.{subst, sym, true, ◌∙◌, ◌∷◌, ◌≡◌}
use Rattle.std.proofs.lemmas.Bool.{false≢true}
use Rattle.std.proofs.lemmas.Cmp.{tied_itself}
use Rattle.room_place.specs.Choice.{Among}
use Rattle.room_place.specs.declared.plans.Area.{Area}
use Rattle.room_types.specs.KeyedRows.{IsKeyed, row_at}
use Rattle.room_types.specs.Keys.{callsign_cmp, vehicle_key}
use Rattle.room_types.specs.KeyLemmas.{callsigns_total}
use Rattle.room_types.specs.Texts.{Callsign}
use Rattle.room_types.specs.declared.asks.Who.TheVariants.{Crew, Desk, Position}
use Rattle.room_types.specs.declared.asks.Who.{Who}
use Rattle.room_types.specs.declared.fleet.Terminal.{Terminal}
use Rattle.room_types.specs.declared.slices.DivisionRows.{DivisionRows}
use Rattle.room_types.specs.declared.tables.Vehicle.{Vehicle}
use Rattle.room_model.specs.FleetRows.{AreTerminals, is_crew, terminal_key, token_cmp}
use Rattle.room_model.specs.Room.{Room}
use Rattle.room_model.specs.RoomSlices.{room_of}
use Rattle.room_model.proofs.Tests.{or_right}
use Rattle.room_store_check_rows.specs.TerminalCrews.{crew_again, crews_fit, crews_of, has_subject}
use Rattle.room_store_check_rows.specs.TerminalCrews.{second_crew, subject_fault, terminals_fault}
use Rattle.room_store_check_rows.specs.TerminalCrews.{two_crews}
use Rattle.room_store_check_rows.specs.Misfits.{DetectsOf, HasTerminal, HasTwoCrews, IsMisfit}
use Rattle.room_store_check_rows.specs.declared.disagreements.TerminalFault.TheVariants as wrong
use Rattle.room_store_check_rows.specs.declared.disagreements.TerminalFault.{TerminalFault}
use Rattle.room_store_check_rows.proofs.CrewLaws.{AreApart, crew_shown, has_crew, its_crew, who_is}
use Rattle.room_store_check_rows.proofs.FaultLaws.{Finds, Reported, find_first, find_like, find_or}
use Rattle.room_store_check_rows.proofs.FaultLaws.{find_unless, not_so, regrouped}
use Rattle.room_store_check_rows.proofs.RowFaults.{absent}
use Rattle.room_store_check_rows.proofs.TerminalLaws.{apart_decides, terminals_decide}

-- ---- a crew's terminal
pub none_detected : (r : Room) (ts : List Terminal) (o : Option TerminalFault) (none : Bool)
    → is_some o ≡ not none → DetectsOf r ts o → Decides none (AreTerminals r ts)
none_detected r ts None true e h = (λ q. h, λ w. refl)
none_detected r ts None false e h = absurd (false≢true e)
none_detected r ts (Some x) true e h = absurd (false≢true (sym e))
none_detected r ts (Some x) false e h = (λ q. absurd (false≢true q), λ w. absurd (h.1 w))

behind : (w : Who) (t : Terminal) (ts : List Terminal) → HasTerminal w ts → HasTerminal w (t ∷ ts)
behind w t ts h = record { terminal = h.terminal; there = inr h.there; is = h.is }

crew_there : (c : Callsign) (ts : List Terminal) → has_crew c ts ≡ true → HasTerminal (Crew c) ts
crew_there c [] h = absurd (false≢true h)
crew_there c (t ∷ ts) h =
    (elim (is_crew c
    t.who) as (λ (b : Bool). is_crew c t.who ≡ b → b || has_crew c ts ≡ true → HasTerminal (Crew c) (t ∷ ts)) [
      | true ↦ λ q any. record { terminal = t; there = inl refl; is = who_is c t.who q }
      | false ↦ λ q any. behind (Crew c) t ts (crew_there c ts any)
    ]) refl h

has_it : (c : Callsign) (ts : List Terminal) (t : Terminal) → Among t ts → t.who ≡ Crew c
    → has_crew c ts ≡ true
has_it c [] t there is = absurd there
has_it c (x ∷ xs) t (inl same) is =
    ap (λ b. b || has_crew c xs) (ap (λ (u : Terminal). is_crew c u.who) (sym same) ∙ ap (is_crew c) is ∙ its_crew c)
has_it c (x ∷ xs) t (inr later) is = or_right (is_crew c x.who) _ (has_it c xs t later is)

no_crew : (c : Callsign) (ts : List Terminal) → has_crew c ts ≡ false → ¬ HasTerminal (Crew c) ts
no_crew c ts none h = false≢true (sym none ∙ has_it c ts h.terminal h.there h.is)

-- ---- two crews of one vehicle
abbrev IsTwice : List Terminal → TerminalFault → Type 0
IsTwice ts (wrong.TwoCrews c) = HasTwoCrews c ts
IsTwice ts wrong.Token = ⊥
IsTwice ts (wrong.NoCrew c) = ⊥
IsTwice ts (wrong.Crew c) = ⊥
IsTwice ts (wrong.Desk d) = ⊥

abbrev Searched : List Terminal → Option TerminalFault → Type 0
Searched ts None = AreApart ts
Searched ts (Some x) = IsTwice ts x

later_twice : (t : Terminal) (ts : List Terminal) (x : TerminalFault) → IsTwice ts x
    → IsTwice (t ∷ ts) x
later_twice t ts (wrong.TwoCrews c) h = inr h
later_twice t ts wrong.Token h = h
later_twice t ts (wrong.NoCrew c) h = h
later_twice t ts (wrong.Crew c) h = h
later_twice t ts (wrong.Desk d) h = h

searched_later : (t : Terminal) (ts : List Terminal)
    → ((c : Callsign) → is_crew c t.who ≡ true → has_crew c ts ≡ false)
    → (o : Option TerminalFault) → Searched ts o → Searched (t ∷ ts) o
searched_later t ts only_one None h = (only_one, h)
searched_later t ts only_one (Some x) h = later_twice t ts x h

only_one : (c : Callsign) (t : Terminal) (ts : List Terminal) → t.who ≡ Crew c → has_crew c ts ≡ false
    → (k : Callsign) → is_crew k t.who ≡ true → has_crew k ts ≡ false
only_one c t ts is none k e =
    let its = who_is k t.who e in
    let same : c ≡ k = cc in
    subst (λ a. has_crew a ts ≡ false) same none

first_searched : (t : Terminal) (ts : List Terminal) (w : Who) → t.who ≡ w
    → (o : Option TerminalFault) → Searched ts o → Searched (t ∷ ts) (option_or (crew_again w ts) o)
first_searched t ts (Crew c) is o h =
    (elim (has_crew c ts) as (λ (b : Bool).
    has_crew c ts ≡ b → Searched (t ∷ ts) (option_or (cond (not b) None (Some (wrong.TwoCrews c))) o)) [
      | true ↦ λ q. inl (is, crew_there c ts q)
      | false ↦ λ q. searched_later t ts (only_one c t ts is q) o h
    ]) refl
first_searched t ts (Desk d) is o h = searched_later t ts (λ k e. absurd (false≢true (ap (is_crew k) (sym is) ∙ e))) o h
first_searched t ts (Position p) is o h =
    searched_later t ts (λ k e. absurd (false≢true (ap (is_crew k) (sym is) ∙ e))) o h

searched : (ts : List Terminal) → Searched ts (second_crew ts)
searched [] = tt
searched (t ∷ ts) = first_searched t ts t.who refl (second_crew ts) (searched ts)

-- ---- a vehicle is there
there_at : (xs : List Vehicle) (x : Vehicle) → Among x xs
    → is_some (row_at callsign_cmp vehicle_key xs x.callsign) ≡ true
there_at [] x there = absurd there
there_at (y ∷ ys) x (inl same) =
    let tied : callsign_cmp x.callsign y.callsign
    ≡ Equal =
    subst (λ (u : Vehicle). callsign_cmp x.callsign u.callsign ≡ Equal) same (tied_itself callsigns_total x.callsign) in
    rw tied refl
there_at (y ∷ ys) x (inr later) =
    (elim (is_eq (callsign_cmp x.callsign
    y.callsign)) as (λ (b : Bool). is_some (cond b (Some y) (row_at callsign_cmp vehicle_key ys x.callsign)) ≡ true) [
      | true ↦ refl
      | false ↦ there_at ys x later
    ])

pub unordered : (r : Room) (ts : List Terminal) → ¬ IsKeyed token_cmp terminal_key ts
    → DetectsOf r ts (Some wrong.Token)
unordered r ts apart = (apart, λ a. apart a.keyed)

detects : (r : Room) (ts : List Terminal) (fits : Bool) (o : Option TerminalFault)
    → Decides fits (AreTerminals r ts) → Finds fits (IsMisfit r ts) o → DetectsOf r ts o
detects r ts fits None d h = d.0 h.reported
detects r ts fits (Some x) d h = (h.reported.1, not_so fits d h.reported.0)

module _ (plan : List Area) (s : DivisionRows) (ts : List Terminal) (crews : BTreeSet Callsign)
    (in_order : IsKeyed token_cmp terminal_key ts)
    (vehicles : IsKeyed callsign_cmp vehicle_key s.vehicles)
    (of_terminals : IsFromIterResult callsign_cmp (crews_of ts) crews) where
  abbrev Misfit : TerminalFault → Type 0
  Misfit = IsMisfit (room_of plan s) ts

  abbrev as_many : Bool
  as_many = btree_set_len crews == length (crews_of ts)

  twice_is : (x : TerminalFault) → IsTwice ts x → Misfit x
  twice_is (wrong.TwoCrews c) h = h
  twice_is wrong.Token h = absurd h
  twice_is (wrong.NoCrew c) h = absurd h
  twice_is (wrong.Crew c) h = absurd h
  twice_is (wrong.Desk d) h = absurd h

  fewer : as_many ≡ false → (o : Option TerminalFault) → Searched ts o → Reported false Misfit o
  fewer q None apart =
      absurd (false≢true (sym q ∙ (apart_decides plan s ts crews in_order vehicles of_terminals).1 apart))
  fewer q (Some x) h = (refl, twice_is x h)

  two_found : Finds as_many Misfit (two_crews ts crews)
  two_found = (elim as_many as (λ (b : Bool). as_many ≡ b → Finds b Misfit (cond b None (second_crew ts))) [
    | true ↦ λ q. record { reported = refl }
    | false ↦ λ q. record { reported = fewer q (second_crew ts) (searched ts) }
  ]) refl

  crewless : (c : Callsign) → contains callsign_cmp crews c ≡ false → ¬ HasTerminal (Crew c) ts
  crewless c fails = no_crew c ts (sym (crew_shown c ts) ∙ sym (of_terminals.0 c) ∙ fails)

  subject_found : (t : Terminal) → Among t ts → (w : Who) → t.who ≡ w
      → Finds (has_subject plan s w) Misfit (subject_fault plan s w)
  subject_found t there (Crew c) is =
      find_unless Misfit _ _ (λ fails. (record { terminal = t; there = there; is = is }, absent _ fails))
  subject_found t there (Desk d) is =
      find_unless Misfit _ _ (λ fails. (record { terminal = t; there = there; is = is }, fails))
  subject_found t there (Position p) is = record { reported = refl }

  -- what the search finds of terminals in order is reported of them and their room
  pub terminals_detected : DetectsOf (room_of plan s) ts (terminals_fault plan s ts crews)
  terminals_detected = detects (room_of plan s) ts _ _ (terminals_decide plan s ts crews in_order vehicles of_terminals)
      (find_like _ (crews_fit plan s ts crews) (simp regrouped)
      (find_or (find_or two_found
      (find_first Misfit (λ v. contains callsign_cmp crews v.callsign) _ s.vehicles
      (λ v there. find_unless _ _ _ (λ fails. (there_at s.vehicles v there, crewless v.callsign fails)))))
      (find_first Misfit (λ t. has_subject plan s t.who) _ ts (λ t there. subject_found t there t.who refl))))
