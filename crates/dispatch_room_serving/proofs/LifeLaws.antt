-- The life of a room's file is one list of deeds.
use Rattle.std.proofs.Common.{ap, arith, inl, inr, length, map, refl, subst, sym, ◌∙◌}
use Rattle.std.specs.List.{flat_map}
use Rattle.std.specs.Prelude.{Err, IfErr, IsTrue, List, None, Ok, OnOk, Option, Result, [], take, ℕ}
use Rattle.std.specs.Prelude.{◌+◌, ◌++◌, ◌∷◌, ◌≡◌, ◌⊎◌}
use Rattle.sqlite.specs.Effect.{Database}
use Rattle.sqlite.specs.Held.{Held, state}
use Rattle.sqlite_catalog.specs.Change.{KeepsRows}
use Rattle.sqlite_schema.specs.declared.schema.Schema.{Schema}
use Rattle.sqlite_trees.specs.Tree.{Trees}
use Rattle.sqlite_trees.specs.declared.store.Store.{Ghosts}
use Rattle.room_place.specs.Plans.{Layout}
use Rattle.room_types.specs.Texts.{Token}
use Rattle.room_types.specs.declared.asks.Who.{Who}
use Rattle.room_types.specs.declared.fleet.FleetRow.{FleetRow}
use Rattle.room_types.specs.declared.fleet.RowFate.{RowFate}
use Rattle.room_types.specs.declared.fleet.Terminal.{Terminal}
use Rattle.room_model.proofs.AssignedOnce.{of_one_order, one_assignment, one_open_turn}
use Rattle.room_model.specs.Fleets.{enrolled, fates_of}
use Rattle.room_model.specs.Room.{Room}
use Rattle.room_model.specs.RoomAgreements.{IsWellFormed}
use Rattle.room_http.specs.Promises.{AreSentOnce}
use Rattle.room_http.specs.Runs.{events_of}
use Rattle.room_store.specs.FleetEnrolment.{HasEnrolled, StandsAfterRows}
use Rattle.room_store_check_tables.specs.HeldRooms.{IsPlanOf}
use Rattle.room_store_file.proofs.FileLaws.{rows_kept, stands_before}
use Rattle.room_store_file.specs.OpenedFile.{KeepsFile, MayBeIndexed}
use Rattle.room_store_writes.specs.Configurations.{config_of}
use Rattle.room_store_writes.specs.TerminalChanges.{Gives}
use Rattle.room_store_writes.specs.Transactions.{IsSettled, Leaves, StandsSettled}
use Rattle.room_tables.specs.RoomsInTables.{Configuration, Stands}
use Rattle.room_tables_rows.proofs.OneRoom.{one_config, one_room}
use Rattle.room_tables_schema.specs.FileConnections.{HasRoomSchema, IsClean}
use Rattle.dispatch_room_csv.specs.declared.fleet_file.FleetLine.{FleetLine}
use Rattle.dispatch_room_csv.specs.declared.plan_file.PlanFile.{PlanFile}
use Rattle.dispatch_room_exit.specs.declared.exit_status.Done.{Done}
use Rattle.dispatch_room_exit.specs.declared.exit_status.Failure.{Failure}
use Rattle.dispatch_room_tasks.proofs.DeedLaws.{after_join, given_is, heard_early, heard_join}
use Rattle.dispatch_room_tasks.proofs.DeedLaws.{listed_is, messages_heard, planned_is, rows_after}
use Rattle.dispatch_room_tasks.proofs.DeedLaws.{rows_heard, run_of_messages, sound_after}
use Rattle.dispatch_room_tasks.specs.ChangedTerminals.{HasChanged}
use Rattle.dispatch_room_tasks.specs.Deeds.{AreHeard, AreSound, Contents, Deed, Enrolled, Given}
use Rattle.dispatch_room_tasks.specs.Deeds.{Listed, Planned, Sent, contents_after, contents_by}
use Rattle.dispatch_room_tasks.specs.Enrolment.{HasImportedIn}
use Rattle.dispatch_room_tasks.specs.OpenedRoom.{HoldsNone}
use Rattle.dispatch_room_tasks.specs.ReplacedTerminals.{AreFree, HasReplaced, Replaces}
use Rattle.dispatch_room_tasks.specs.ReplannedRoom.{HasReplanned, Replans, first_lacking}
use Rattle.dispatch_room_tasks.specs.RowOutcomes.{good_rows}
use Rattle.dispatch_room_serving.proofs.StartLaws.{starts_are_one_run}
use Rattle.dispatch_room_serving.specs.Lives.{AreDeedsOf, AreDone, Change, Import, IsFoundAfter}
use Rattle.dispatch_room_serving.specs.Lives.{Episode, IsEpisode, IsLife, IsMade, LifeIsOneList}
use Rattle.dispatch_room_serving.specs.Lives.{Nothing, Service, found_by, left_after}
use Rattle.dispatch_room_serving.specs.Starts.{Start, whole_of}

-- the tables stand for what a file holds
abbrev Shows : Trees → Contents → Type 0
Shows trees now = Stands trees now.config now.room

-- tables stand for one thing only
same_contents : (trees : Trees) (a b : Contents) → Shows trees a → Shows trees b → a ≡ b
same_contents trees a b h k i = record {
  config = one_config trees a.config b.config a.room b.room h k i;
  room = one_room trees a.config b.config a.room b.room h k i;
}

sent_once_of : (room : Room) → IsWellFormed room → AreSentOnce room
sent_once_of room formed = record {
  assigned_once = one_assignment room formed;
  turned_once = one_open_turn room formed;
  together =
      λ a t here there unended same. let is = of_one_order room formed a t here there unended same in (is.0, is.1);
}

module _ {S : Type 0} (g : Ghosts S)
    (settles : (held : S) (db : Trees) → IsTrue (g.view held).is_open → g.recovers held db
    → db ≡ (g.view held).committed) where
  -- a stop of a settled connection leaves what it shows
  settled_only : (held : Held S) → IsSettled (state g held) → (db : Trees) → (state g held).may_leave db
      → db ≡ (state g held).now.trees
  settled_only held settled db left =
      settles held.store db settled.is_open left ∙ ap (λ (b : Database). b.trees) settled.committed

  -- what was done in an episode: it leads to what is found next
  record Leads (episode : Episode S) (next : Held S) (now : Contents) : Type 0 where
    deeds : List Deed
    are : AreDeedsOf g episode deeds now
    heard : AreHeard deeds now
    shows : Shows (state g next).now.trees (contents_after deeds now)

  -- ---- a service
  service : (first : Start S) (more : List (Start S)) (next : Held S) (now : Contents)
      → IsEpisode g (Service first more) → IsFoundAfter g (left_after (Service first more)) next
      → Shows (state g first.found).now.trees now → Leads (Service first more) next now
  service first more next now (came_text, response_text, starts, clean) found stands =
      let is = starts_are_one_run g came_text response_text first more now.config now.room next starts clean stands
      found in
      let events = events_of (whole_of is.0.done) in
      record {
        deeds = map Sent events;
        are = (is.0, refl);
        heard = messages_heard events now is.0.run.addressed;
        shows = subst (Shows (state g next).now.trees) (sym (run_of_messages events now)) is.1;
      }

  -- ---- a command that opened no room
  indexed : (before : Database) (db : Trees) (now : Contents) → MayBeIndexed before db → Shows before.trees now
      → Shows db now
  indexed before db now may stands =
      rows_kept before.trees db
      (subst (λ ts. KeepsRows ts before.trees db) (ap (λ (s : Schema). s.tables) may.only_tables) may.rows) now.config
      now.room stands

  nothing : (found left : Held S) (failure : Failure) (next : Held S) (now : Contents)
      → IsEpisode g (Nothing found left failure) → IsFoundAfter g left next → Shows (state g found).now.trees now
      → Shows (state g next).now.trees now
  nothing found left failure next now (clean, settled, none, is) (inl may) stands =
      let early : IsClean g none.released = rw is clean in
      elim (none.survives.crash early (state g next).now.trees (rw is may)) [
        | inl before ↦
            subst (λ trees. Shows trees now) (sym (settled_only found settled (state g next).now.trees before)) stands
        | inr more ↦ indexed (state g found).now (state g next).now.trees now more stands
      ]
  nothing found left failure next now (clean, settled, none, is) (inr (same, is_open)) stands =
      let early : IsClean g none.released = rw is clean in
      let kept : (state g none.released).now
      ≡ (state g found).now = (none.left early).now_is (rw is is_open) in
      let shown : Shows (state g none.released).now.trees now = subst (λ (b : Database). Shows b.trees now) (sym kept)
      stands in
      rw same (rw (← is) shown)

  -- ---- a change
  -- a file that was opened for a change shows what it showed
  module _ (found opened : Held S) (now : Contents) (early : IsClean g opened)
      (rows : IsClean g opened → KeepsFile (state g found) (state g opened)) (schema : HasRoomSchema g opened)
      (settled : StandsSettled g opened) where
    shows_opened : Shows (state g found).now.trees now → Shows (state g opened).now.trees now
    shows_opened =
        stands_before (state g found).now (state g opened).now (schema early)
        ((rows early).rows (settled early).is_open) now.config now.room

  plan_is : (trees : Trees) (plan : Layout) (now : Contents) → IsPlanOf trees plan → Shows trees now
      → now.room.plan ≡ plan.areas
  plan_is trees plan now (terminals, room, formed, fits, planned, stood) stands =
      sym (ap (λ (c : Contents). c.room.plan) (same_contents trees (record {
        config = config_of plan terminals;
        room = room;
      }) now stood stands)) ∙ planned

  -- what came of a change: it is made, or, where it failed, made or not
  record Changes (deed : Deed) (done : Result (Unit {0}) Failure) (next : Held S) (now : Contents) : Type 0 where
    deeds : List Deed
    made : IsMade deed done deeds
    shows : Shows (state g next).now.trees (contents_after deeds now)

  module _ (opened left : Held S) (deed : Deed) (now : Contents) (Commits : Trees → Type 0)
      (settled : IsSettled (state g opened)) (stands : Shows (state g opened).now.trees now)
      (as_deed : (db : Trees) → Commits db → Shows db (contents_by deed now)) where
    change : (done : Result (Unit {0}) Failure) (next : Held S)
        → OnOk done (Shows (state g left).now.trees (contents_by deed now) × IsSettled (state g left))
        → IfErr done (λ failure. Leaves (state g opened) (state g left))
        → ((db : Trees) → (state g left).may_leave db → (state g opened).may_leave db ⊎ Commits db)
        → IsFoundAfter g left next → Changes deed done next now
    change (Ok done) next ok err crash (inl may) = record {
      deeds = deed ∷ [];
      made = refl;
      shows = subst (λ trees. Shows trees (contents_by deed now)) (sym (settled_only left ok.1 _ may)) ok.0;
    }
    change (Ok done) next ok err crash (inr (same, is_open)) = record {
      deeds = deed ∷ [];
      made = refl;
      shows = rw same ok.0;
    }
    change (Err failure) next ok err crash (inl may) = elim (crash (state g next).now.trees may) [
      | inl before ↦ record {
        deeds = [];
        made = inl refl;
        shows = subst (λ trees. Shows trees now) (sym (settled_only opened settled _ before)) stands;
      }
      | inr made ↦ record { deeds = deed ∷ []; made = inr refl; shows = as_deed (state g next).now.trees made }
    ]
    change (Err failure) next ok err crash (inr (same, is_open)) = record {
      deeds = [];
      made = inl refl;
      shows = rw same (subst (λ (b : Database). Shows b.trees now) (sym (err.now_is is_open)) stands);
    }

  -- what is shown by what a clause says, of what the file held
  as_held : (trees after : Trees) (deed : Deed) (held now : Contents) → Shows trees held → Shows trees now
      → Shows after (contents_by deed held) → Shows after (contents_by deed now)
  as_held trees after deed held now h k =
      subst (λ (c : Contents). Shows after (contents_by deed c)) (same_contents trees held now h k)

  on_ok : {P Q : Type 0} (done : Result (Unit {0}) Failure) → OnOk done P → (P → Q) → OnOk done Q
  on_ok (Ok x) p f = f p
  on_ok (Err x) p f = tt

  on_err : {P Q : Failure → Type 0} (done : Result (Unit {0}) Failure) → IfErr done P
      → ((f : Failure) → P f → Q f) → IfErr done Q
  on_err (Ok x) p f = tt
  on_err (Err x) p f = f x p

  given : (found left : Held S) (who : Who) (token : Option Token) (done : Result (Unit {0}) Failure)
      (next : Held S) (now : Contents) → IsClean g left → HasChanged g found left who token done
      → IsFoundAfter g left next → Shows (state g found).now.trees now → Changes (Given who token) done next now
  given found left who token done next now clean c after shown =
      let early : IsClean g c.opened = omega (arith, c.survives.clean, clean) in
      let trees = (state g c.opened).now.trees in
      let stands = shows_opened found c.opened now early c.rows c.schema c.settled shown in
      let is = plan_is trees c.plan now (c.of_room early) stands in
      change c.opened left (Given who token) now (Gives c.plan.areas who token trees) (c.settled early) stands
      (λ db gives.
      let made = gives now.config now.room stands in
      subst (Shows db) (sym (given_is who token now (rw is made.0))) made.1) done next
      (on_ok done (c.changed clean) (λ all.
      let held : Contents = record { config = config_of c.plan all.0; room = all.1 } in (
        as_held trees (state g left).now.trees (Given who token) held now all.2.stood stands
            (subst (Shows (state g left).now.trees) (sym (given_is who token held all.2.nothing_against))
            all.2.stands),
        all.3,
      ))) (on_err done (c.unchanged clean) (λ f u. u.3)) (c.survives.crash clean) after

  listed : (found left : Held S) (list : List Terminal) (done : Result (Unit {0}) Failure)
      (next : Held S) (now : Contents) → IsClean g left → HasReplaced g found left list done
      → IsFoundAfter g left next → Shows (state g found).now.trees now → Changes (Listed list) done next now
  listed found left list done next now clean c after shown =
      let early : IsClean g c.opened = omega (arith, c.survives.clean, clean) in
      let trees = (state g c.opened).now.trees in
      let stands = shows_opened found c.opened now early c.rows c.schema c.settled shown in
      let is = plan_is trees c.plan now (c.of_room early) stands in
      change c.opened left (Listed list) now (Replaces c.plan.areas list trees) (c.settled early) stands
      (λ db replaces.
      let made = replaces now.config now.room stands in
      subst (Shows db)
      (sym (listed_is list now
      (subst (λ areas. AreFree areas now.config.terminals list (length list)) (sym is) made.0))) made.1) done next
      (on_ok done (c.replaced clean) (λ all.
      let held : Contents = record { config = config_of c.plan all.0; room = all.1 } in (
        as_held trees (state g left).now.trees (Listed list) held now all.2.stood stands
            (subst (Shows (state g left).now.trees) (sym (listed_is list held all.2.none_refused))
            all.2.stands),
        all.3,
      ))) (on_err done (c.unchanged clean) (λ f u. u.3)) (c.survives.crash clean) after

  planned : (found left : Held S) (file : PlanFile) (done : Result (Unit {0}) Failure)
      (next : Held S) (now : Contents) → IsClean g left → HasReplanned g found left file done
      → IsFoundAfter g left next → Shows (state g found).now.trees now → Changes (Planned file) done next now
  planned found left file done next now clean c after shown =
      let early : IsClean g c.opened = omega (arith, c.survives.clean, clean) in
      let trees = (state g c.opened).now.trees in
      let stands = shows_opened found c.opened now early c.rows c.schema c.settled shown in
      let is = plan_is trees c.plan now (c.of_room early) stands in
      change c.opened left (Planned file) now (Replans c.plan.areas file trees) (c.settled early) stands
      (λ db replans.
      let made = replans now.config now.room stands is in
      subst (Shows db)
      (sym (planned_is file now (subst (λ areas. first_lacking areas file.plan.areas ≡ None) (sym is) made.0) made.1))
      made.2) done next
      (on_ok done (c.replanned clean) (λ all.
      let held : Contents = record { config = config_of c.plan all.0; room = all.1 } in (
        as_held trees (state g left).now.trees (Planned file) held now all.2.stood stands
            (subst (Shows (state g left).now.trees)
            (sym (planned_is file held all.2.agrees all.2.none_refused)) all.2.stands),
        all.3,
      ))) (on_err done (c.unchanged clean) (λ f u. u.3)) (c.survives.crash clean) after

  heard_made : (deed : Deed) (now : Contents) (deeds : List Deed) (done : Result (Unit {0}) Failure)
      → AreHeard (deed ∷ []) now → IsMade deed done deeds → AreHeard deeds now
  heard_made deed now deeds (Ok done) one made = rw made one
  heard_made deed now deeds (Err failure) one (inl none) = rw none tt
  heard_made deed now deeds (Err failure) one (inr made) = rw made one

  changed : (found left next : Held S) (deed : Deed) (done : Result (Unit {0}) Failure) (now : Contents)
      → AreHeard (deed ∷ []) now → Changes deed done next now → Leads (Change found left deed done) next now
  changed found left next deed done now one it = record {
    deeds = it.deeds;
    are = it.made;
    heard = heard_made deed now it.deeds done one it.made;
    shows = it.shows;
  }

  -- ---- an import
  module _ (found left : Held S) (lines : List FleetLine) (fates : List RowFate) (next : Held S) (now : Contents)
      (before after : Option (List ℕ)) (done : Result Done Failure)
      (c : HasImportedIn g found left lines before after done) (reports : c.imported.fates ≡ fates)
      (shown : Shows (state g found).now.trees now) where
    abbrev rows : List FleetRow
    rows = good_rows lines

    abbrev held : Contents
    held = record { config = config_of c.opened.plan c.terminals; room = c.room }

    held_is : held ≡ now
    held_is =
        let same = c.is.same now.config now.room shown in
        let is_open = c.is.kept.is_open in
        same_contents (state g c.opened.conn).now.trees held
        (record { config = config_of c.opened.plan now.config.terminals; room = now.room }) (c.is.is.tables is_open)
        (same.1.tables is_open)
        ∙ ap (λ (zone : List ℕ). record {
          config = record { zone = zone; terminals = now.config.terminals };
          room = now.room;
        }) (sym same.0)

    abbrev made : HasEnrolled g c.opened c.closed rows [] c.imported.fates c.terminals c.room
    made = c.imported.enrolled

    enrolled_as : (db : Trees) (count : ℕ)
        → StandsAfterRows db c.opened.plan rows c.terminals c.room count
        → Shows db (contents_after (map Enrolled (take count rows)) now)
    enrolled_as db count stands =
        subst (λ (it : Contents). Shows db (contents_after (map Enrolled (take count rows)) it)) held_is
        (subst (Shows db) (sym (rows_after (take count rows) held)) stands)

    reported : fates ≡ fates_of (take made.count rows) now.room now.config.terminals
    reported =
        sym reports ∙ made.added
        ∙ ap (λ (it : Contents). fates_of (take made.count rows) it.room it.config.terminals) held_is

    rows_done : (count : ℕ) → (count ≡ made.count) ⊎ (count ≡ made.count + 1)
        → Shows (state g next).now.trees (contents_after (map Enrolled (take count rows)) now)
        → Leads (Import found left lines fates) next now
    rows_done count is shows = record {
      deeds = map Enrolled (take count rows);
      are = record {
        count = made.count;
        reported = reported;
        enrolled = elim is [
          | inl same ↦ inl (ap (λ n. map Enrolled (take n rows)) same)
          | inr more ↦ inr (ap (λ n. map Enrolled (take n rows)) more)
        ];
      };
      heard = rows_heard (take count rows) now;
      shows = shows;
    }

    imported : IsFoundAfter g left next → Leads (Import found left lines fates) next now
    imported (inl may) =
        let db = (state g next).now.trees in
        elim (made.left c.is.kept db (rw c.conn may)) [
          | inl stands ↦ rows_done made.count (inl refl) (enrolled_as db made.count stands)
          | inr stands ↦ rows_done (made.count + 1) (inr refl) (enrolled_as db (made.count + 1) stands)
        ]
    imported (inr (same, is_open)) =
        let trees = (state g c.closed.conn).now.trees in
        let stands : StandsAfterRows trees c.opened.plan rows c.terminals c.room made.count =
        subst (λ (plan : Layout).
        Stands trees (config_of plan (enrolled (take made.count rows) c.room c.terminals).1)
        (enrolled (take made.count rows) c.room c.terminals).0) c.plan (made.stands.tables (rw c.conn is_open)) in
        rows_done made.count (inl refl)
        (subst
        (λ (it : Held S). Shows (state g it).now.trees (contents_after (map Enrolled (take made.count rows)) now))
        (c.conn ∙ sym same) (enrolled_as trees made.count stands))

  -- ---- a life
  episode_leads : (episode : Episode S) (next : Held S) (now : Contents) → IsEpisode g episode
      → IsFoundAfter g (left_after episode) next → Shows (state g (found_by episode)).now.trees now
      → Leads episode next now
  episode_leads (Service first more) next now is found shown = service first more next now is found shown
  episode_leads (Import found left lines fates) next now (clean, before, after, done, c, reports) follows shown =
      imported found left lines fates next now before after done c reports shown follows
  episode_leads (Change found left (Given who token) done) next now (clean, c) follows shown =
      changed found left next (Given who token) done now (tt, tt)
      (given found left who token done next now clean c follows shown)
  episode_leads (Change found left (Listed list) done) next now (clean, c) follows shown =
      changed found left next (Listed list) done now (tt, tt)
      (listed found left list done next now clean c follows shown)
  episode_leads (Change found left (Planned file) done) next now (clean, c) follows shown =
      changed found left next (Planned file) done now (tt, tt)
      (planned found left file done next now clean c follows shown)
  episode_leads (Change found left (Sent e) done) next now (clean, c) follows shown = absurd c
  episode_leads (Change found left (Enrolled row) done) next now (clean, c) follows shown = absurd c
  episode_leads (Nothing found left failure) next now is follows shown = record {
    deeds = [];
    are = refl;
    heard = tt;
    shows = nothing found left failure next now is follows shown;
  }

  abbrev whole : List (List Deed) → List Deed
  whole each = flat_map (λ deeds. deeds) each

  record Lived (episodes : List (Episode S)) (now : Contents) (end : Held S) : Type 0 where
    each : List (List Deed)
    done : AreDone g episodes each now
    heard : AreHeard (whole each) now
    shows : Shows (state g end).now.trees (contents_after (whole each) now)

  lived : (episodes : List (Episode S)) (from end : Held S) (now : Contents) → IsLife g episodes from end
      → Shows (state g from).now.trees now → Lived episodes now end
  lived [] from end now same shown =
      record { each = []; done = tt; heard = tt; shows = rw same shown }
  lived (episode ∷ episodes) from end now (found, is, (next, follows, later)) shown =
      let here : Shows (state g (found_by episode)).now.trees now = rw found shown in
      let step = episode_leads episode next now is follows here in
      let rest = lived episodes next end (contents_after step.deeds now) later step.shows in
      record {
        each = step.deeds ∷ rest.each;
        done = (here, step.are, rest.done);
        heard = heard_join step.deeds (whole rest.each) now step.heard rest.heard;
        shows = subst (Shows (state g end).now.trees) (sym (after_join step.deeds (whole rest.each) now)) rest.shows;
      }

  pub life_is_one_list : LifeIsOneList g
  life_is_one_list episodes from end first life sound shown =
      let all = lived episodes from end first life shown in
      record {
        each = all.each;
        done = all.done;
        heard = all.heard;
        stands = all.shows;
        sound = λ before rest split.
            let is = sound_at before rest (subst (λ deeds. AreHeard deeds first) split all.heard) in
            (is, sent_once_of (contents_after before first).room is.formed);
      }
    where
      sound_at : (before rest : List Deed) → AreHeard (before ++ rest) first
          → AreSound (contents_after before first)
      sound_at before rest heard = sound_after before first sound (heard_early before rest first heard)
