-- A room that gets another plan: which divisions it has then, and that it stays well-formed.
use Rattle.std.proofs.Common.{Bool, IfSome, List, None, Option, Some, [], ap, cond, eq-eqb, false}
use Rattle.std.proofs.Common.{is_none, is_some, not, option_map, refl, subst, sym, true, ℕ, ◌&&◌}
use Rattle.std.proofs.Common.{◌==◌, ◌∙◌, ◌∷◌, ◌≡◌, ◌||◌, true≢false}
use Rattle.std.proofs.Math.Bool.{or-false, or_assoc}
use Rattle.std.proofs.lemmas.Bool.{and_from, and_parts, eqb-true, false≢true, or_left, or_right}
use Rattle.std.proofs.lemmas.Cmp.{nat_cmp_total}
use Rattle.std.specs.Ordering.{nat_cmp}
use Rattle.std.specs.List.{cons_option, find}
use Rattle.sqlite_trees.specs.Tree.{Trees}
use Rattle.room_place.specs.Plans.{Layout, are_of_divisions, are_rectangles, has_division}
use Rattle.room_place.specs.Plans.{has_sound_count, is_division, is_zone}
use Rattle.room_place.specs.declared.plans.Area.{Area}
use Rattle.room_place.specs.declared.plans.PlanFault.TheVariants.{Count, Number, Rectangle, Zone}
use Rattle.room_types.proofs.KeyedLaws.{keyed_put}
use Rattle.room_types.specs.KeyedRows.{IsKeyed, put_row, row_at}
use Rattle.room_types.specs.Keys.{division_key}
use Rattle.room_types.specs.declared.changes.Change.TheVariants.{PutDivision}
use Rattle.room_types.specs.declared.fleet.Terminal.{Terminal}
use Rattle.room_types.specs.declared.tables.Call.{Call}
use Rattle.room_types.specs.declared.tables.Division.{Division}
use Rattle.room_types.specs.declared.tables.Incident.{Incident}
use Rattle.room_types.specs.declared.tables.Offer.{Offer}
use Rattle.room_types.specs.declared.tables.Turn.{Turn}
use Rattle.room_types.specs.declared.tables.Vehicle.{Vehicle}
use Rattle.room_model.proofs.IncidentChanges.{divisions_put}
use Rattle.room_model.proofs.VehicleRows.{put_here}
use Rattle.room_model.specs.FleetRows.{AreTerminals}
use Rattle.room_model.specs.Room.{Room, apply}
use Rattle.room_model.specs.RoomAgreements.{CallAgrees, IsGiven, IsPost, IsWellFormed, LastAgrees}
use Rattle.room_model.specs.RoomAgreements.{NumberAgrees, OfferAgrees, OpenedAgrees, PostAgrees}
use Rattle.room_model.specs.RoomAgreements.{TurnIsActive}
use Rattle.room_store_check_tables.specs.HeldRooms.{IsPlanOf}
use Rattle.room_store_writes.specs.Configurations.{config_of}
use Rattle.room_store_writes.specs.NewRoom.{new_division}
use Rattle.dispatch_room_csv.specs.declared.plan_file.PlanFile.{PlanFile}
use Rattle.dispatch_room_tasks.proofs.ReplacedLemmas.{replaced_fit}
use Rattle.dispatch_room_tasks.specs.ReplannedRoom.{HasNewPlan, Replans, additions, first_lacking}
use Rattle.dispatch_room_tasks.specs.ReplannedRoom.{replanned}

-- ---- which divisions the new plan lacks
module _ (new : List Area) where
  pub nothing_lacking : (old : List Area) → first_lacking old new ≡ None → (d : ℕ)
      → has_division old d ≡ true → has_division new d ≡ true
  nothing_lacking [] none d h = absurd (true≢false (sym h))
  nothing_lacking (a ∷ old) none d h =
      (elim (has_division new a.division) as (λ (b : Bool).
      has_division new a.division ≡ b
      → option_map (λ (x : Area). x.division)
      (cond (not b) (Some a) (find (λ (x : Area). not (has_division new x.division)) old)) ≡ None
      → has_division new d ≡ true) [
        | true ↦
            λ is rest.
            (elim (a.division
            == d) as (λ (b : Bool).
            (a.division == d) ≡ b → (b || has_division old d) ≡ true → has_division new d ≡ true) [
              | true ↦ λ same g. subst (λ n. has_division new n ≡ true) (eqb-true a.division d same) is
              | false ↦ λ apart g. nothing_lacking old rest d g
            ]) refl h
        | false ↦ λ is e. absurd cc
      ]) refl none

  something_lacking : (old : List Area) (d : ℕ) → first_lacking old new ≡ Some d
      → (has_division old d ≡ true) × (has_division new d ≡ false)
  something_lacking [] d e = absurd cc
  something_lacking (a ∷ old) d e =
      (elim (has_division new a.division) as (λ (b : Bool).
      has_division new a.division ≡ b
      → option_map (λ (x : Area). x.division)
      (cond (not b) (Some a) (find (λ (x : Area). not (has_division new x.division)) old)) ≡ Some d
      → (has_division (a ∷ old) d ≡ true) × (has_division new d ≡ false)) [
        | true ↦ λ is rest. let it = something_lacking old d rest in (or_right _ _ it.0, it.1)
        | false ↦
            λ is f.
            let same : a.division ≡ d = cc in
            (or_left _ _ (eq-eqb a.division d same), subst (λ n. has_division new n ≡ false) same is)
      ]) refl e

-- no room that has the old one's divisions is well-formed with a plan that lacks one
pub no_room : (old new : Room) (d : ℕ) → IsWellFormed old → new.divisions ≡ old.divisions
    → first_lacking old.plan new.plan ≡ Some d → IsWellFormed new → ⊥
no_room old new d was same lacks is =
    let it = something_lacking new.plan old.plan d lacks in
    true≢false (sym it.0 ∙ sym (was.plan.divisions d) ∙ ap (λ ds. is_some (row_at nat_cmp division_key ds d)) (sym same)
    ∙ is.plan.divisions d ∙ it.1)

-- ---- the divisions afterwards
abbrev pub is_new : List Area → Area → Bool
is_new old a = is_division a.division && not (has_division old a.division)

-- the rows once those of the new divisions are put
abbrev pub fill : List Area → List Area → List Division → List Division
fill old [] ds = ds
fill old (a ∷ rest) ds =
    fill old rest (cond (is_new old a) (put_row nat_cmp division_key ds (new_division a.division)) ds)

applied : (old rest : List Area) (r : Room)
    → apply r (additions old rest) ≡ record r { divisions = fill old rest r.divisions }
applied old [] r = refl
applied old (a ∷ rest) r =
    elim (is_new old a) as (λ (b : Bool).
    apply r (cons_option (cond b (Some (PutDivision (new_division a.division))) None) (additions old rest))
    ≡ record r {
      divisions =
          fill old rest (cond b (put_row nat_cmp division_key r.divisions (new_division a.division)) r.divisions);
    }) [
      | true ↦
          applied old rest (record r { divisions = put_row nat_cmp division_key r.divisions (new_division a.division) })
      | false ↦ applied old rest r
    ]

keyed_fill : (old rest : List Area) (ds : List Division) → IsKeyed nat_cmp division_key ds
    → IsKeyed nat_cmp division_key (fill old rest ds)
keyed_fill old [] ds h = h
keyed_fill old (a ∷ rest) ds h =
    keyed_fill old rest _ (elim (is_new old a) as (λ (b : Bool).
    IsKeyed nat_cmp division_key (cond b (put_row nat_cmp division_key ds (new_division a.division)) ds)) [
      | true ↦ keyed_put nat_cmp division_key nat_cmp_total ds (new_division a.division) h
      | false ↦ h
    ])

not_new : (old : List Area) (a : Area) → has_division old a.division ≡ true → is_new old a ≡ true → ⊥
not_new old a has is = true≢false (sym (and_parts _ _ is).1 ∙ ap not has)

-- the row of a division of the old plan stays
old_row : (old rest : List Area) (ds : List Division) (d : ℕ) → has_division old d ≡ true
    → row_at nat_cmp division_key (fill old rest ds) d ≡ row_at nat_cmp division_key ds d
old_row old [] ds d h = refl
old_row old (a ∷ rest) ds d h =
    old_row old rest _ d h
    ∙ (elim (is_new old a) as (λ (b : Bool).
    is_new old a ≡ b
    → row_at nat_cmp division_key (cond b (put_row nat_cmp division_key ds (new_division a.division)) ds) d
    ≡ row_at nat_cmp division_key ds d) [
      | true ↦
          λ is.
          divisions_put (λ k o. has_division old k ≡ true → o ≡ row_at nat_cmp division_key ds k) ds
          (new_division a.division) (λ has. absurd (not_new old a has is)) (λ k apart has. refl) d h
      | false ↦ λ is. refl
    ]) refl

module _ (old : List Area) (d : ℕ) (none : has_division old d ≡ false) where
  one_more : (a : Area) (ds : List Division) → is_division a.division ≡ true
      → is_some (row_at nat_cmp division_key
      (cond (is_new old a) (put_row nat_cmp division_key ds (new_division a.division)) ds) d)
      ≡ (is_some (row_at nat_cmp division_key ds d) || (a.division == d))
  one_more a ds sound =
      (elim (a.division
      == d) as (λ (b : Bool).
      (a.division == d) ≡ b
      → is_some (row_at nat_cmp division_key
      (cond (is_new old a) (put_row nat_cmp division_key ds (new_division a.division)) ds) d)
      ≡ (is_some (row_at nat_cmp division_key ds d) || b)) [
        | true ↦ λ same.
            let is : a.division ≡ d = eqb-true a.division d same in
            let new : is_new old a ≡ true = and_from _ _ sound (ap not (ap (has_division old) is ∙ none)) in
            ap (λ (b : Bool).
            is_some
            (row_at nat_cmp division_key (cond b (put_row nat_cmp division_key ds (new_division a.division)) ds) d))
            new
            ∙ ap is_some (put_here nat_cmp division_key nat_cmp_total ds (new_division a.division) d is)
            ∙ sym (or_right _ _ refl)
        | false ↦
            λ apart.
            (elim (is_new old a) as (λ (b : Bool).
            is_some
            (row_at nat_cmp division_key (cond b (put_row nat_cmp division_key ds (new_division a.division)) ds) d)
            ≡ (is_some (row_at nat_cmp division_key ds d) || false)) [
              | true ↦
                  divisions_put
                  (λ k o. (a.division == k) ≡ false → is_some o ≡ (is_some (row_at nat_cmp division_key ds k) || false))
                  ds
                  (new_division a.division)
                  (λ other. absurd (true≢false (sym (eq-eqb a.division a.division refl) ∙ other)))
                  (λ k other e. sym (or-false _)) d apart
              | false ↦ sym (or-false _)
            ])
      ]) refl

  -- a division that the old plan hadn't has a row then, where an area is of it
  new_row : (rest : List Area) (ds : List Division) → are_of_divisions rest ≡ true
      → is_some (row_at nat_cmp division_key (fill old rest ds) d)
      ≡ (is_some (row_at nat_cmp division_key ds d) || has_division rest d)
  new_row [] ds sound = sym (or-false _)
  new_row (a ∷ rest) ds sound =
      let parts = and_parts _ _ sound in
      new_row rest _ parts.1 ∙ ap (λ (b : Bool). b || has_division rest d) (one_more a ds parts.0)
      ∙ or_assoc (is_some (row_at nat_cmp division_key ds d)) (a.division == d) (has_division rest d)

sound_numbers : (count numbers rectangles zone : Bool)
    → is_none (cond (not count) (Some Count)
    (cond (not numbers) (Some Number)
    (cond (not rectangles) (Some Rectangle) (cond (not zone) (Some Zone) None)))) ≡ true
    → numbers ≡ true
sound_numbers true true rectangles zone sound = refl
sound_numbers true false rectangles zone sound = sound
sound_numbers false numbers rectangles zone sound = absurd (false≢true sound)

-- ---- the room with other areas and divisions
module _ (r : Room) (areas : List Area) (ds : List Division) where
  abbrev beside : Room
  beside = record r { plan = areas; divisions = ds }

  active_beside : (o : Option Turn) → TurnIsActive r o → TurnIsActive beside o
  active_beside None h = tt
  active_beside (Some t) h = h

  call_beside : (o : Option Call) → CallAgrees r o → CallAgrees beside o
  call_beside None h = tt
  call_beside (Some c) h = h

  opened_beside : (o : Option Incident) → OpenedAgrees r o → OpenedAgrees beside o
  opened_beside None h = tt
  opened_beside (Some i) h = λ unmerged. let by = h unmerged in record {
    position = by.position;
    serial = by.serial;
    first_call = by.first_call;
    there = by.there;
    same = by.same;
  }

  last_beside : (o : Option Vehicle) → LastAgrees r o → LastAgrees beside o
  last_beside None h = tt
  last_beside (Some v) h = h

  at_post : (v : Vehicle) (o : Option ℕ) → IsPost r v o → IsPost beside v o
  at_post v None h = tt
  at_post v (Some n) h = h

  post_beside : (o : Option Vehicle) → PostAgrees r o → PostAgrees beside o
  post_beside None h = tt
  post_beside (Some v) h = at_post v v.post h

  given : (n : ℕ) (old now : Option Division) → now ≡ old → IsGiven n old → IsGiven n now
  given n old now same h = subst (IsGiven n) (sym same) h

  there_is : (n : ℕ) (o : Option Division) → IsGiven n o → is_some o ≡ true
  there_is n None h = absurd h
  there_is n (Some x) h = refl

  module _ (w : IsWellFormed r)
      (stays : (d : ℕ) → has_division r.plan d ≡ true
      → row_at nat_cmp division_key ds d ≡ row_at nat_cmp division_key r.divisions d)
      (rows : (d : ℕ) → is_some (row_at nat_cmp division_key ds d) ≡ has_division areas d)
      (more : (d : ℕ) → has_division r.plan d ≡ true → has_division areas d ≡ true)
      (keyed : IsKeyed nat_cmp division_key ds) where
    offer_beside : (v : Option Vehicle) (o : Option Offer) → OfferAgrees r.plan v o → OfferAgrees areas v o
    offer_beside None None h = h
    offer_beside None (Some o) h = h
    offer_beside (Some v) None h = h
    offer_beside (Some v) (Some o) h = (h.0, h.1, h.2, h.3, more o.borrower h.4)

    number_beside : (o : Option Incident) → NumberAgrees r o → NumberAgrees beside o
    number_beside None h = tt
    number_beside (Some i) h =
        let has : has_division r.plan i.division ≡ true = sym (w.plan.divisions i.division) ∙ there_is i.number _ h.1 in
        (h.0, given i.number _ _ (stays i.division has) h.1)

    still_in : {X : Type 0} (of : X → ℕ) (o : Option X) → IfSome o (λ x. has_division r.plan (of x) ≡ true)
        → IfSome o (λ x. has_division areas (of x) ≡ true)
    still_in of None h = tt
    still_in of (Some x) h = more (of x) h

    well_formed_beside : IsWellFormed beside
    well_formed_beside = record {
      order = record {
        divisions = keyed;
        incidents = w.order.incidents;
        calls = w.order.calls;
        vehicles = w.order.vehicles;
        turns = w.order.turns;
        assignments = w.order.assignments;
        points = w.order.points;
        loans = w.order.loans;
        offers = w.order.offers;
        reports = w.order.reports;
      };
      loans = w.loans;
      offers = λ c. offer_beside _ _ (w.offers c);
      assignments = w.assignments;
      turns = w.turns;
      same_incident = w.same_incident;
      active = λ c n. active_beside _ (w.active c n);
      calls = λ p s. call_beside _ (w.calls p s);
      opened = λ d n. opened_beside _ (w.opened d n);
      numbers = λ d n. number_beside _ (w.numbers d n);
      reports = w.reports;
      last_reports = λ c. last_beside _ (w.last_reports c);
      posts = λ c. post_beside _ (w.posts c);
      plan = record {
        divisions = rows;
        homes = λ c. still_in (λ v. v.home) _ (w.plan.homes c);
        vehicles = λ c. still_in (λ v. v.holder) _ (w.plan.vehicles c);
        turns = λ c n. still_in (λ t. t.division) _ (w.plan.turns c n);
        points = λ d n. still_in (λ p. p.division) _ (w.plan.points d n);
        reports = λ c n. still_in (λ x. x.division) _ (w.plan.reports c n);
      };
    }

-- ---- the room with the new plan
module _ (plan : Layout) (r : Room) where
  pub is_beside : replanned plan.areas r
      ≡ record r { plan = plan.areas; divisions = fill r.plan plan.areas r.divisions }
  is_beside = ap (λ (s : Room). record s { plan = plan.areas }) (applied r.plan plan.areas r)

  module _ (agrees : first_lacking r.plan plan.areas ≡ None) where
    has_rows : IsWellFormed r → (d : ℕ)
        → is_some (row_at nat_cmp division_key (fill r.plan plan.areas r.divisions) d) ≡ has_division plan.areas d
    has_rows w d =
        (elim (has_division r.plan d) as (λ (b : Bool).
        has_division r.plan d ≡ b
        → is_some (row_at nat_cmp division_key (fill r.plan plan.areas r.divisions) d) ≡ has_division plan.areas d) [
          | true ↦
              λ has.
              ap is_some (old_row r.plan plan.areas r.divisions d has) ∙ w.plan.divisions d ∙ has
              ∙ sym (nothing_lacking plan.areas r.plan agrees d has)
          | false ↦ λ none.
              new_row r.plan d none plan.areas r.divisions (sound_numbers (has_sound_count plan.areas)
              (are_of_divisions plan.areas) (are_rectangles plan.areas) (is_zone plan.zone) plan.sound)
              ∙ ap (λ (b : Bool). b || has_division plan.areas d) (w.plan.divisions d ∙ none)
        ]) refl

    pub still_formed : IsWellFormed r → IsWellFormed (replanned plan.areas r)
    still_formed w = subst IsWellFormed (sym is_beside)
        (well_formed_beside r plan.areas (fill r.plan plan.areas r.divisions) w (old_row r.plan plan.areas r.divisions)
        (has_rows w) (nothing_lacking plan.areas r.plan agrees)
        (keyed_fill r.plan plan.areas r.divisions w.order.divisions))

    pub still_fit : (ts : List Terminal) → AreTerminals r ts → AreTerminals (replanned plan.areas r) ts
    still_fit ts are = subst (λ s. AreTerminals s ts) (sym is_beside) (record {
      keyed = are.keyed;
      has_crew = are.has_crew;
      one_crew = are.one_crew;
      crews = are.crews;
      desks = λ k d e. nothing_lacking plan.areas r.plan agrees d (are.desks k d e);
    })

pub has_new_plan : (before after : Trees) (plan : Layout) (file : PlanFile) (Settled : Type 0)
    → IsPlanOf before plan → Replans plan.areas file before after × Settled
    → (terminals : List Terminal) × (room : Room)
    × HasNewPlan before after plan file terminals room × Settled
has_new_plan before after plan file Settled it made =
    let done = made.0 (config_of plan it.0) it.1 it.5 it.4 in
    let agrees : first_lacking it.1.plan file.plan.areas ≡ None = rw it.4 done.0 in (
      it.0,
      it.1,
      record {
        formed = it.2;
        planned = it.4;
        fitted = it.3;
        stood = it.5;
        agrees = agrees;
        none_refused = done.1;
        still_formed = still_formed file.plan it.1 agrees it.2;
        fit =
            replaced_fit (replanned file.plan.areas it.1) it.0 file.terminals.items
            (still_fit file.plan it.1 agrees it.0 it.3) done.1;
        stands = done.2;
      },
      made.1,
    )
