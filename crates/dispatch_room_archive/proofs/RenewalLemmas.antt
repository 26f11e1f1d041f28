-- A room that begins by what another one left is that one renewed.
use Rattle.std.proofs.Common.{IfNone, IfSome, List, None, Option, Some, ap, false, inr, is_some}
use Rattle.std.proofs.Common.{refl, subst, sym, ℕ, ℤ, ◌+◌, ◌<◌, ◌∙◌, ◌≡◌, ◌≤◌}
use Rattle.std.specs.Prelude.{Err, IfOk, IsSome, Ok, Result}
use Rattle.std.specs.Ordering.{nat_cmp}
use Rattle.jiff_tz.specs.declared.timezone.TimeZone.{TimeZone}
use Rattle.sqlite_trees.specs.Tree.{Trees}
use Rattle.room_place.specs.Plans.{Layout, has_division}
use Rattle.room_place.specs.declared.plans.Area.{Area}
use Rattle.room_types.specs.KeyedRows.{row_at}
use Rattle.room_types.specs.Keys.{division_key}
use Rattle.room_types.specs.declared.changes.Change.{Change}
use Rattle.room_types.specs.declared.fleet.Terminal.{Terminal}
use Rattle.room_model.specs.FleetRows.{AreTerminals}
use Rattle.room_model.specs.Room.{Room, apply}
use Rattle.room_model.specs.RoomSlices.{room_of}
use Rattle.room_model.specs.RoomAgreements.{IsWellFormed}
use Rattle.dispatch_room_archive.proofs.LeftBehind.{left_stays}
use Rattle.dispatch_room_tasks.proofs.PutRows.{still_in_order}
use Rattle.dispatch_room_archive.proofs.MadeOfRows.{made_of_rows}
use Rattle.dispatch_room_archive.proofs.RenewedAgreements.{well_formed_without}
use Rattle.dispatch_room_archive.specs.Composition.{IsBare}
use Rattle.dispatch_room_archive.specs.Successor.{left_behind, renewed}
use Rattle.room_store.proofs.CreationLaws.{new_room_formed}
use Rattle.room_store_check_rows.specs.declared.summaries.Summary.{Summary}
use Rattle.room_store_check_tables.specs.declared.whole_file.Configuration.{Configuration}
use Rattle.room_store_check_tables.specs.declared.whole_file.ReadFile.{ReadFile}
use Rattle.room_store_file.specs.ExaminedFile.{HoldsAll, IsSummaryOf}
use Rattle.room_store_writes.specs.Configurations.{config_of}
use Rattle.room_store_writes.specs.NewRoom.{StandsWith, in_order, new_room}
use Rattle.room_tables.specs.RoomsInTables.{Stands}
use Rattle.dispatch_room_exit.specs.declared.exit_status.Failure.{Failure}
use Rattle.dispatch_room_archive.specs.Renewal.{IsLeftBy, IsLeftSince, IsMomentOf, IsNoStart}
use Rattle.dispatch_room_archive.specs.Renewal.{IsStart, StandsRenewed, last_moment}
use Rattle.dispatch_room_archive.specs.TimesReport.{IsSpanOf}
use Rattle.dispatch_room_archive.specs.declared.renewal.Successor.{Successor}

-- ---- the new room
no_row : {X : Type 0} (o : Option X) → is_some o ≡ false → o ≡ None
no_row None e = refl
no_row (Some x) e = cc

-- the new room of a plan has no divisions but those of any well-formed room of that plan
new_is_bare : (plan : Layout) (r : Room) → r.plan ≡ plan.areas → IsWellFormed r
    → IsBare (new_room plan) r
new_is_bare plan r planned formed = record {
  plan = sym planned;
  divisions = λ d none. no_row (row_at nat_cmp division_key (new_room plan).divisions d)
      ((new_room_formed plan).plan.divisions d
      ∙ ap (λ (areas : List Area). has_division areas d) (sym planned)
      ∙ sym (formed.plan.divisions d)
      ∙ ap is_some none);
  incidents = refl;
  calls = refl;
  vehicles = refl;
  turns = refl;
  assignments = refl;
  points = refl;
  loans = refl;
  offers = refl;
  reports = refl;
}

-- these terminals and these changes are what was left
pub stands_renewed : (left : Successor) (ts : List Terminal) (cs : List Change) (trees : Trees)
    → ts ≡ left.config.terminals.items → cs ≡ left.changes.items
    → StandsWith left.config.plan ts cs trees → StandsRenewed left trees
stands_renewed left ts cs trees same put stands old day was =
    let plan = left.config.plan in
    let all = left.config.terminals.items in
    let since = was.of_day.since in
    let after = renewed since was.room in
    let formed : IsWellFormed after = well_formed_without since (left_behind since was.room) was.room was.formed
    (left_stays since was.room was.formed) in
    let made : apply (new_room plan) cs ≡ after =
    ap (apply (new_room plan)) (put ∙ was.of_day.puts was.formed.order)
    ∙ made_of_rows (new_room plan) after (new_room_formed plan).order formed.order
    (new_is_bare plan after was.planned formed) in
    subst (Stands trees (config_of plan all)) made
    (subst (λ t. Stands trees (config_of plan t) (apply (new_room plan) cs))
    (ap in_order same ∙ still_in_order all was.fits.keyed) stands)

-- ---- what is left
-- by a room of which all was read
pub left_by : (left : Successor) (trees : Trees) (day : List ℕ) (whole : ReadFile)
    (summary : Summary) → HoldsAll trees whole summary → left.config ≡ whole.config
    → IsLeftSince whole.config.plan.zone summary.newest day (room_of whole.config.plan.areas whole.rows)
    left.changes.items
    → IsLeftBy trees day left
left_by left trees day whole summary holds config since =
    let room = room_of whole.config.plan.areas whole.rows in
    let dated = subst (λ (n : ℕ). IsLeftSince whole.config.plan.zone n day room left.changes.items)
    (ap (λ (s : Summary). s.newest) holds.amount.2) since in
    record {
      room = room;
      planned = sym (ap (λ (c : Configuration). c.plan.areas) config);
      stands =
          subst (λ (c : Configuration). Stands trees (config_of c.plan c.terminals.items) room) (sym config)
          holds.stands;
      formed = holds.amount.0;
      fits = subst (λ (c : Configuration). AreTerminals room c.terminals.items) (sym config) holds.amount.1;
      of_day =
          subst (λ (c : Configuration). IsLeftSince c.plan.zone (last_moment room) day room left.changes.items)
          (sym config) dated;
    }

pub if_left_by : (left : Result Successor Failure) (trees : Trees) (day : List ℕ)
    (whole : ReadFile) (summary : Summary) → HoldsAll trees whole summary
    → IfOk left (λ left. left.config ≡ whole.config)
    → IfOk left (λ left. IsLeftSince whole.config.plan.zone summary.newest day
    (room_of whole.config.plan.areas whole.rows) left.changes.items)
    → IfOk left (IsLeftBy trees day)
if_left_by (Ok left) trees day whole summary holds config since =
    left_by left trees day whole summary holds config since
if_left_by (Err failure) trees day whole summary holds config since = tt

-- so the file holds a room of which there is so much
pub amount_of : (trees : Trees) (whole : ReadFile) (summary : Summary)
    → HoldsAll trees whole summary → IsSummaryOf trees whole.config.plan summary
amount_of trees whole summary holds = record {
  rows = whole.rows;
  terminals = whole.config.terminals.items;
  stands = holds.stands;
  says = holds.amount;
}

-- ---- since when
pub none_there : {X : Type 0} (o : Option X) → (IsSome o → ⊥) → o ≡ None
none_there None not = refl
none_there (Some x) not = absurd (not refl)

module _ (o : Option ℕ) (zone : TimeZone) (newest moment : ℕ) (text : List ℕ) (span : ℤ × ℤ)
    (of_text : IsSpanOf zone text span) (is : IsMomentOf span.0 moment) where
  pub started : IfSome o (λ since. (since ≡ moment) × (moment + 172_800 ≤ newest))
      → IfSome o (IsStart zone newest text)
  started = go o
    where
      go : (o : Option ℕ) → IfSome o (λ since. (since ≡ moment) × (moment + 172_800 ≤ newest))
          → IfSome o (IsStart zone newest text)
      go None h = tt
      go (Some since) h = (
        (span, of_text, subst (IsMomentOf span.0) (sym h.0) is),
        subst (λ (m : ℕ). m + 172_800 ≤ newest) (sym h.0) h.1,
      )

  pub not_started : IfNone o (newest < moment + 172_800) → IfNone o (IsNoStart zone newest text)
  not_started = go o
    where
      go : (o : Option ℕ) → IfNone o (newest < moment + 172_800)
          → IfNone o (IsNoStart zone newest text)
      go None h = inr (moment, (span, of_text, is), h)
      go (Some since) h = tt
