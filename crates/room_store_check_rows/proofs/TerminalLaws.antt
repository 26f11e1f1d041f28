-- The tests of terminals say whether they fit a room.
use Rattle.std.specs.BTreeSet.{BTreeSet, IsFromIterResult, btree_set_len, contains}
use Rattle.std.specs.Bool.{Decides}
use Rattle.std.specs.Prelude.{IfSome, is_some, ◌==◌}
use Rattle.std.proofs.Common.{List, None, Option, Some, ap, length, refl, sym, true, ◌∙◌, ◌≡◌}
use Rattle.std.proofs.lemmas.Bool.Decides.{Decides-and, Decides-eqb, Decides-like}
use Rattle.std.proofs.lemmas.Cmp.{eq_by_cmp_equiv}
use Rattle.std.proofs.lemmas.Map.Made.{IsDistinct-from_count, distinct_count-from_IsDistinct}
use Rattle.std.proofs.lemmas.Map.Views.{btree_set_len-from_list}
use Rattle.room_place.specs.declared.plans.Area.{Area}
use Rattle.room_types.specs.KeyedRows.{IsKeyed}
use Rattle.room_types.specs.Keys.{callsign_cmp, vehicle_key}
use Rattle.room_types.specs.KeyLemmas.{callsigns_total, exact_callsigns}
use Rattle.room_types.specs.Slices.{vehicle_at}
use Rattle.room_types.specs.Texts.{Callsign, Token}
use Rattle.room_types.specs.declared.asks.Who.TheVariants.{Crew, Desk, Position}
use Rattle.room_types.specs.declared.asks.Who.{Who}
use Rattle.room_types.specs.declared.fleet.Terminal.{Terminal}
use Rattle.room_types.specs.declared.slices.DivisionRows.{DivisionRows}
use Rattle.room_types.specs.declared.tables.Vehicle.{Vehicle}
use Rattle.room_types.proofs.EachRow.{row_key}
use Rattle.room_types.proofs.SentLaws.{itself}
use Rattle.room_model.specs.FleetRows.{AreTerminals, terminal_at, terminal_key, token_cmp}
use Rattle.room_model.specs.RoomSlices.{room_of}
use Rattle.room_store_check_rows.specs.TerminalCrews.{crews_fit, crews_of, has_subject}
use Rattle.room_store_check_rows.proofs.Agreements.{each, holds_there}
use Rattle.room_store_check_rows.proofs.CrewLaws.{AreApart, apart_from_distinct, apart_from_one}
use Rattle.room_store_check_rows.proofs.CrewLaws.{crew_found, crew_there, crew_shown}
use Rattle.room_store_check_rows.proofs.CrewLaws.{distinct_from_apart, one_crew}

module _ (plan : List Area) (s : DivisionRows) (ts : List Terminal) (crews : BTreeSet Callsign)
    (in_order : IsKeyed token_cmp terminal_key ts)
    (vehicles : IsKeyed callsign_cmp vehicle_key s.vehicles)
    (of_terminals : IsFromIterResult callsign_cmp (crews_of ts) crews) where
  -- what the tests say
  record Fits : Type 0 where
    apart : AreApart ts
    crewed : (c : Callsign) → IfSome (vehicle_at c s) (λ v. contains callsign_cmp crews c ≡ true)
    subjects : (k : Token) → IfSome (terminal_at k ts) (λ t. has_subject plan s t.who ≡ true)

  pub apart_decides : Decides (btree_set_len crews == length (crews_of ts)) (AreApart ts)
  apart_decides =
      let laws = eq_by_cmp_equiv callsigns_total in
      let count = btree_set_len-from_list callsigns_total (crews_of ts) crews of_terminals in
      Decides-like _
      (λ same. apart_from_distinct ts (IsDistinct-from_count laws (crews_of ts) (sym count ∙ same)))
      (λ apart. count ∙ distinct_count-from_IsDistinct laws (crews_of ts) (distinct_from_apart ts apart))
      (Decides-eqb _ _)

  fits_decides : Decides (crews_fit plan s ts crews) Fits
  fits_decides = Decides-like _
      (λ h. record { apart = h.0; crewed = h.1.0; subjects = h.1.1 })
      (λ h. (h.apart, (h.crewed, h.subjects)))
      (Decides-and _ _ apart_decides (Decides-and _ _
      (each callsign_cmp vehicle_key callsigns_total exact_callsigns _ (λ c v. contains callsign_cmp crews c ≡ true)
      (λ v. itself _) s.vehicles vehicles)
      (each token_cmp terminal_key callsigns_total exact_callsigns _ (λ k t. has_subject plan s t.who ≡ true)
      (λ t. itself _) ts in_order)))

  fitting : Fits → AreTerminals (room_of plan s) ts
  fitting f = record {
    keyed = in_order;
    has_crew =
        λ c there.
        crew_found c ts in_order
        (sym (crew_shown c ts) ∙ sym (of_terminals.0 c) ∙ holds_there (vehicle_at c s) (f.crewed c) there);
    one_crew = λ j k c. one_crew c ts f.apart j k;
    crews = λ k c e. rw e at (f.subjects k);
    desks = λ k d e. rw e at (f.subjects k);
  }

  subject_of : AreTerminals (room_of plan s) ts → (k : Token) (w : Who)
      → terminal_at k ts ≡ Some (record { token = k; who = w }) → has_subject plan s w ≡ true
  subject_of a k (Crew c) e = a.crews k c e
  subject_of a k (Desk d) e = a.desks k d e
  subject_of a k (Position p) e = refl

  subject_at : AreTerminals (room_of plan s) ts → (k : Token) (o : Option Terminal)
      → terminal_at k ts ≡ o → IfSome o (λ t. t.token ≡ k)
      → IfSome o (λ t. has_subject plan s t.who ≡ true)
  subject_at a k None e named = tt
  subject_at a k (Some t) e named = subject_of a k t.who (e ∙ ap (λ n. Some (record { token = n; who = t.who })) named)

  crewed_at : AreTerminals (room_of plan s) ts → (c : Callsign) (o : Option Vehicle)
      → vehicle_at c s ≡ o → IfSome o (λ v. contains callsign_cmp crews c ≡ true)
  crewed_at a c None e = tt
  crewed_at a c (Some v) e =
      let found = a.has_crew c (ap is_some e) in
      of_terminals.0 c ∙ crew_shown c ts ∙ crew_there c ts found.0 found.1

  fit : AreTerminals (room_of plan s) ts → Fits
  fit a = record {
    apart = apart_from_one ts in_order a.one_crew;
    crewed = λ c. crewed_at a c _ refl;
    subjects = λ k. subject_at a k _ refl (row_key token_cmp terminal_key callsigns_total exact_callsigns ts k);
  }

  pub terminals_decide : Decides (crews_fit plan s ts crews) (AreTerminals (room_of plan s) ts)
  terminals_decide = Decides-like _ fitting fit fits_decides
