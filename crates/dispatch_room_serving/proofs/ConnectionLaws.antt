-- What is served on some connections and then on others is served on all of them, one after
-- another.
use Rattle.std.proofs.Common.{◌≡◌, ◌∙◌, ap, append-nil, append_assoc, arith, length, length-append}
use Rattle.std.proofs.Common.{refl, subst, sym, ℕ, List, [], ◌∷◌, ◌++◌, ◌<◌, Bool, Option, None}
use Rattle.std.proofs.Common.{Some, Result, Ok, Err, false, true, inl, inr, ◌+◌}
use Rattle.std.proofs.lemmas.List.{map-append}
use Rattle.std.proofs.lemmas.List.Elements.{All-append, All-cons, All-head, All-nil, All-tail}
use Rattle.std.specs.Prelude.{All, option_and_then, ◌≤◌}
use Rattle.sqlite_trees.specs.Tree.{Trees}
use Rattle.sqlite_trees.specs.declared.store.Store.{Ghosts}
use Rattle.room_types.specs.declared.fleet.Terminal.{Terminal}
use Rattle.room_model.specs.FleetRows.{AreTerminals}
use Rattle.room_model.specs.Room.{Room}
use Rattle.room_model.specs.RoomAgreements.{IsWellFormed}
use Rattle.room_http.specs.declared.settings.HttpSettings.{HttpSettings}
use Rattle.room_store.specs.StoredRoom.{IsKept, IsRoom, LeavesOneOf}
use Rattle.room_store.specs.declared.store.Store.{Store}
use Rattle.room_store_writes.specs.Configurations.{config_of}
use Rattle.room_tables.specs.RoomsInTables.{Stands}
use Rattle.room_http.specs.Runs.{Exchange, IsRun, room_by}
use Rattle.room_http.specs.ServedTrace.{AreFirstIn}
use Rattle.room_http.specs.ServedRuns.{KeepsPromises, Served}
use Rattle.room_http.specs.declared.session.ServeEnd.{ServeEnd}
use Rattle.room_http.specs.declared.session.ServeEnd.TheVariants as end
use Rattle.room_http.proofs.PromiseLaws.{promises_kept}
use Rattle.room_http.proofs.RunLemmas.{room_split, run_join}
use Rattle.dispatch_room_exit.specs.declared.exit_status.Failure.{Failure}
use Rattle.room_http_messages.specs.Streams.{Grows}
use Rattle.dispatch_room_serving.specs.Connections.{AreAttended, AreJoined, AreKept, AreNext}
use Rattle.dispatch_room_serving.specs.Connections.{AreServed, AttendsNext, Conversation, EndsAs}
use Rattle.dispatch_room_serving.specs.Connections.{GoOn, GoesOn, HasServed, IsNext, Service, Stage}
use Rattle.dispatch_room_serving.specs.Connections.{connected, done_or, fault_after, fault_by}
use Rattle.dispatch_room_serving.specs.Connections.{opening_of, stage_after, stage_before, together}
use Rattle.dispatch_room_serving.specs.ServedRoom.{Looks}
use Rattle.room_tables_schema.specs.FileConnections.{IsClean}

-- ---- what is known grows
pub grows_none : {A : Type 0} (known : Option (List A)) → Grows known known []
grows_none None = tt
grows_none (Some xs) = sym (append-nil xs)

pub grows_more : {A : Type 0} (a b c : Option (List A)) (xs ys : List A) → Grows a b xs
    → Grows b c ys → Grows a c (xs ++ ys)
grows_more None b c xs ys first second = tt
grows_more (Some known) None c xs ys first second = absurd first
grows_more (Some known) (Some more) None xs ys first second = second
grows_more (Some known) (Some more) (Some most) xs ys first second =
    second ∙ ap (λ t. t ++ ys) first ∙ append_assoc known xs ys

-- nothing was heard or written
-- ---- all that was exchanged
together_more : (xss yss : List (List Exchange))
    → together (xss ++ yss) ≡ together xss ++ together yss
together_more [] yss = refl
together_more (xs ∷ xss) yss = ap (λ more. xs ++ more) (together_more xss yss) ∙ sym (append_assoc xs _ _)

module _ {S : Type 0} where
  pub connected_more : (calls more : List (Option (Conversation S)))
      → connected (calls ++ more) ≡ connected calls ++ connected more
  connected_more [] more = refl
  connected_more (None ∷ calls) more = connected_more calls more
  connected_more (Some c ∷ calls) more = ap (λ cs. c ∷ cs) (connected_more calls more)

module _ {S : Type 0} (g : Ghosts S) (setting : HttpSettings) (terminals : List Terminal) where
  served_more : (cs ds : List (Conversation S)) (xss yss : List (List Exchange)) (room : Room)
      → AreServed g setting terminals cs xss room
      → AreServed g setting terminals ds yss (room_by (together xss) room)
      → AreServed g setting terminals (cs ++ ds) (xss ++ yss) room
  served_more [] ds [] yss room first second = second
  served_more [] ds (xs ∷ xss) yss room first second = absurd first
  served_more (c ∷ cs) ds [] yss room first second = absurd first
  served_more (c ∷ cs) ds (xs ∷ xss) yss room first second = (
    first.0,
    served_more cs ds xss yss (room_by xs room) first.1
        (subst (AreServed g setting terminals ds yss) (room_split xs (together xss) room) second),
  )

  joined_more : (cs ds : List (Conversation S)) (mid last : Store S) (room : Room)
      → AreTerminals room terminals → IsWellFormed room
      → (first : AreJoined g setting terminals cs mid room)
      → AreJoined g setting terminals ds last (room_by (together first.dialogues) room)
      → AreJoined g setting terminals (cs ++ ds) last room
  joined_more cs ds mid last room fit formed first second =
      let here = together first.dialogues in
      let there = together second.dialogues in
      let all : together (first.dialogues ++ second.dialogues)
      ≡ here ++ there = together_more first.dialogues second.dialogues in
      let run : IsRun setting terminals (here ++ there) room = run_join setting terminals room here there fit first.run
      second.run in
      record {
        dialogues = first.dialogues ++ second.dialogues;
        served = served_more cs ds first.dialogues second.dialogues room first.served second.served;
        run = rw all run;
        after = rw all (rw (room_split here there room) second.after);
        promises = rw all (promises_kept setting terminals (here ++ there) room formed run);
      }

  pub joined_none : (store : Store S) (room : Room) → IsRoom g store terminals room
      → AreJoined g setting terminals [] store room
  joined_none store room is =
      let run : IsRun setting terminals [] room = record { addressed = tt; answered = tt } in
      record {
        dialogues = [];
        served = tt;
        run = run;
        after = is;
        promises = promises_kept setting terminals [] room is.formed run;
      }

  pub joined_one : (c : Conversation S) (room : Room)
      → Served setting (AreFirstIn c.course c.before.left c.before.given c.after.given) c.before.held
      c.after.held (IsKept g c.from) (IsRoom g c.store) (LeavesOneOf g c.store) terminals room
      → AreJoined g setting terminals (c ∷ []) c.store room
  joined_one c room s = record {
    dialogues = s.exchanges ∷ [];
    served = (record { served = s; exchanged = refl }, tt);
    run = rw append-nil s.run;
    after = rw append-nil s.after;
    promises = rw append-nil s.promises;
  }

module _ {S : Type 0} (g : Ghosts S) (setting : HttpSettings) (came_text : ℕ → List ℕ → List ℕ)
    (response_text : List ℕ → List ℕ) where
  next_more : (cs ds : List (Conversation S)) (a b c : Stage S)
      → AreNext g setting came_text response_text cs a b → AreNext g setting came_text response_text ds b c
      → AreNext g setting came_text response_text (cs ++ ds) a c
  next_more [] ds a b c first second = rw (← first) second
  next_more (x ∷ cs) ds a b c first second = (first.0, next_more cs ds (stage_after x) b c first.1 second)

  -- ---- what was done
  pub attended_none : (s : Service S) → AreAttended g setting came_text response_text [] s s
  attended_none s = record {
    heard = grows_none s.heard;
    written = grows_none s.written;
    in_turn = refl;
    trusted = λ clean. clean;
    joined = λ clean terminals room is. joined_none g setting terminals s.stage.store room is;
  }

  -- a call of which no connection came
  pub attended_nothing : (old new : Service S) → Grows old.heard new.heard (None ∷ [])
      → new.written ≡ old.written → new.stage ≡ old.stage
      → AreAttended g setting came_text response_text (None ∷ []) old new
  attended_nothing old new heard same stage = record {
    heard = heard;
    written = rw same (grows_none old.written);
    in_turn = stage;
    trusted = λ clean. rw stage at clean;
    joined = λ clean terminals room is. joined_none g setting terminals new.stage.store room (rw stage is);
  }

  -- a connection that was served
  pub attended_one : (c : Conversation S) (old new : Service S)
      → Grows old.heard new.heard (Some (opening_of c) ∷ [])
      → Grows old.written new.written (c.after.held ∷ [])
      → new.stage ≡ stage_after c → IsNext g setting came_text response_text old.stage c
      → (IsClean g c.store.conn → IsClean g old.stage.store.conn)
      → KeepsPromises setting (AreFirstIn c.course c.before.left c.before.given c.after.given) c.before.held
      c.after.held (IsClean g c.store.conn) (IsKept g c.from)
      (IsRoom g old.stage.store) (IsRoom g c.store) (LeavesOneOf g c.store)
      → AreAttended g setting came_text response_text (Some c ∷ []) old new
  attended_one c old new heard back stage next trusted promised = record {
    heard = heard;
    written = back;
    in_turn = (next, stage);
    trusted = λ clean. trusted (rw stage at clean);
    joined =
        λ clean terminals room is.
        rw stage (joined_one g setting terminals c room (promised (rw stage at clean) terminals room is is.formed));
  }

  pub attended_more : (calls more : List (Option (Conversation S))) (old mid new : Service S)
      → AreAttended g setting came_text response_text calls old mid
      → AreAttended g setting came_text response_text more mid new
      → AreAttended g setting came_text response_text (calls ++ more) old new
  attended_more calls more old mid new first second =
      let all = connected_more calls more in
      record {
        heard = rw map-append (grows_more old.heard mid.heard new.heard _ _ first.heard second.heard);
        written =
            rw (all, map-append) (grows_more old.written mid.written new.written _ _ first.written second.written);
        in_turn =
            rw all
            (next_more (connected calls) (connected more) old.stage mid.stage new.stage first.in_turn second.in_turn);
        trusted = λ clean. first.trusted (second.trusted clean);
        joined = λ clean terminals room is.
            let here = first.joined (second.trusted clean) terminals room is in
            let there = second.joined clean terminals (room_by (together here.dialogues) room) here.after in
            rw all (joined_more g setting terminals (connected calls) (connected more) mid.stage.store new.stage.store
            room is.fits is.formed here there);
      }

-- ---- whether more is served
-- no fault, or one
has_none : (fault : Option Failure) → Ok tt ≡ done_or fault → fault ≡ None
has_none None is = refl
has_none (Some fault) is = cc

has_some : (fault : Failure) (found : Option Failure) → Err fault ≡ done_or found
    → found ≡ Some fault
has_some fault None is = cc
has_some fault (Some other) is = cc

-- without a connection there is no fault
no_end : (fault : Failure) → Err fault ≡ done_or None → ⊥
no_end fault is = cc

-- one more is within a number, where fewer than that were before
one_more : {A : Type 0} (xs : List A) (x : A) (most : ℕ) → length xs < most
    → length (xs ++ x ∷ []) ≤ most
one_more xs x most within = rw length-append (omega (arith, within))

module _ {S : Type 0} where
  go_on_one : (call : Option (Conversation S)) → Ok tt ≡ done_or (option_and_then fault_after call)
      → GoOn (call ∷ [])
  go_on_one None is = All-nil GoesOn
  go_on_one (Some c) is = All-cons GoesOn c [] (has_none (fault_after c) is) (All-nil GoesOn)

  pub go_on_none : GoOn {S = S} []
  go_on_none = All-nil GoesOn

  -- what holds of each connection of some calls and of that of one more
  pub each_more : (Holds : Conversation S → Type 0) (calls : List (Option (Conversation S)))
      (call : Option (Conversation S)) → All Holds (connected calls)
      → All Holds (connected (call ∷ [])) → All Holds (connected (calls ++ call ∷ []))
  each_more Holds calls call before last =
      rw (connected_more calls (call ∷ [])) (All-append Holds (connected calls) (connected (call ∷ [])) before last)

  pub go_on_more : (calls : List (Option (Conversation S))) (call : Option (Conversation S))
      → GoOn calls → Ok tt ≡ done_or (option_and_then fault_after call) → GoOn (calls ++ call ∷ [])
  go_on_more calls call go is = each_more GoesOn calls call go (go_on_one call is)

  -- it is the last, with its fault
  ends_with : (calls : List (Option (Conversation S))) (last : Conversation S)
      (renews : Bool) (most : ℕ) (fault : Failure) → GoOn calls → length calls < most
      → Err fault ≡ done_or (fault_after last)
      → EndsAs renews (calls ++ Some last ∷ []) most (Err fault)
  ends_with calls last renews most fault go within is =
      (calls, last, refl, one_more calls (Some last) most within, go, has_some fault (fault_after last) is)

  pub ends_after : (calls : List (Option (Conversation S))) (call : Option (Conversation S))
      (renews : Bool) (most : ℕ) (fault : Failure) → GoOn calls → length calls < most
      → Err fault ≡ done_or (option_and_then fault_after call)
      → EndsAs renews (calls ++ call ∷ []) most (Err fault)
  ends_after calls None renews most fault go within is = absurd (no_end fault is)
  ends_after calls (Some last) renews most fault go within is = ends_with calls last renews most fault go within is

-- ---- what is kept
-- a stop leaves only what is kept
pub leaves_kept : {S : Type 0} (g : Ghosts S) (store : Store S) (terminals : List Terminal)
    (room : Room) → IsRoom g store terminals room → IsKept g store
    → LeavesOneOf g store terminals (room ∷ [])
leaves_kept g store terminals room is kept db left =
    inl (subst (λ (trees : Trees). Stands trees (config_of store.plan terminals) room) (sym (kept.only_left db left))
    (is.tables kept.is_open))

-- where nothing was done, the store was looked at
pub looks_same : {S : Type 0} (g : Ghosts S) (store : Store S) → Looks g store store
looks_same g store = record {
  zone = refl;
  trusted = λ clean. clean;
  same = λ clean terminals room is. is;
  left = λ clean kept terminals room is. leaves_kept g store terminals room is kept;
}

-- more is served only with a store that is sound
sound_of_none : (end : ServeEnd) (is_sound : Bool) → fault_by end is_sound ≡ None
    → is_sound ≡ false → ⊥
sound_of_none end.Memory is_sound none unsound = cc
sound_of_none end.JournalFailed is_sound none unsound = cc
sound_of_none end.Closed true none unsound = cc
sound_of_none end.Closed false none unsound = cc
sound_of_none end.Cut true none unsound = cc
sound_of_none end.Cut false none unsound = cc
sound_of_none end.ReadFault true none unsound = cc
sound_of_none end.ReadFault false none unsound = cc
sound_of_none end.WriteFault true none unsound = cc
sound_of_none end.WriteFault false none unsound = cc
sound_of_none end.ClockFault true none unsound = cc
sound_of_none end.ClockFault false none unsound = cc
sound_of_none end.ReadsSpent true none unsound = cc
sound_of_none end.ReadsSpent false none unsound = cc

module _ {S : Type 0} (g : Ghosts S) (setting : HttpSettings) (came_text : ℕ → List ℕ → List ℕ)
    (response_text : List ℕ → List ℕ) where
  -- where more is served after a connection, what the store holds is kept
  pub kept_after : (stage : Stage S) (c : Conversation S) → IsNext g setting came_text response_text stage c
      → GoesOn c → IsClean g c.store.conn → IsKept g c.store
  kept_after stage c next goes_on clean = elim (next.kept clean) [
    | inl kept ↦ kept
    | inr unsound ↦ absurd (sound_of_none c.end c.store.is_sound goes_on unsound)
  ]

  pub clean_before : (cs : List (Conversation S)) (stage last : Stage S)
      → AreNext g setting came_text response_text cs stage last → IsClean g last.store.conn
      → IsClean g stage.store.conn
  clean_before [] stage last same clean = rw (← same) clean
  clean_before (c ∷ cs) stage last in_turn clean =
      subst (λ (s : Stage S). IsClean g s.store.conn) in_turn.0.begins
      (in_turn.0.trusted (clean_before cs (stage_after c) last in_turn.1 clean))

  kept_from : (stage : Stage S) (c : Conversation S) → stage_before c ≡ stage
      → IsKept g stage.store → IsKept g c.from
  kept_from stage c begins kept = subst (λ (s : Stage S). IsKept g s.store) (sym begins) kept

  -- So what was kept as the first of these connections began, is kept as each begins, and after the
  -- last.
  kept_each : (cs : List (Conversation S)) (stage last : Stage S)
      → AreNext g setting came_text response_text cs stage last → All GoesOn cs
      → IsClean g last.store.conn → IsKept g stage.store
      → All (λ c. IsKept g c.from) cs × IsKept g last.store
  kept_each [] stage last same go_on clean kept = (All-nil (λ c. IsKept g c.from), rw same kept)
  kept_each (c ∷ cs) stage last in_turn go_on clean kept =
      let here : IsClean g c.store.conn = clean_before cs (stage_after c) last in_turn.1 clean in
      let after : IsKept g c.store = kept_after stage c in_turn.0 (All-head GoesOn c cs go_on) here in
      let rest = kept_each cs (stage_after c) last in_turn.1 (All-tail GoesOn c cs go_on) clean after in
      (All-cons (λ c. IsKept g c.from) c cs (kept_from stage c in_turn.0.begins kept) rest.0, rest.1)

  -- and so it is as one call's connection begins, if one came of it
  pub kept_at : (call : Option (Conversation S)) (stage last : Stage S)
      → AreNext g setting came_text response_text (connected (call ∷ [])) stage last
      → IsKept g stage.store → All (λ c. IsKept g c.from) (connected (call ∷ []))
  kept_at None stage last in_turn kept = All-nil (λ c. IsKept g c.from)
  kept_at (Some c) stage last in_turn kept =
      All-cons (λ c. IsKept g c.from) c [] (kept_from stage c in_turn.0.begins kept) (All-nil (λ c. IsKept g c.from))

-- ---- one call more
module _ {S : Type 0} (g : Ghosts S) (setting : HttpSettings) (came_text : ℕ → List ℕ → List ℕ)
    (response_text : List ℕ → List ℕ) where
  pub served_none : (s : Service S) → HasServed g setting came_text response_text s s 0
  served_none s = record {
    calls = [];
    counted = refl;
    go_on = go_on_none;
    attended = attended_none g setting came_text response_text s;
    kept = λ clean kept. All-nil (λ c. IsKept g c.from);
    is_kept = λ clean kept. kept;
  }

  -- what was done with the next call
  pub attends_next : (call : Option (Conversation S)) (old new : Service S)
      (result : Result (Unit {0}) Failure)
      → AreAttended g setting came_text response_text (call ∷ []) old new
      → result ≡ done_or (option_and_then fault_after call)
      → AttendsNext g setting came_text response_text old new result
  attends_next call old new result next ends = record {
    call = call;
    attended = next;
    ends = ends;
    longer = λ goes_on first count before.
        let on : Ok tt ≡ done_or (option_and_then fault_after call) = sym goes_on ∙ ends in
        let one = λ (clean : IsClean g new.stage.store.conn) (kept : IsKept g first.stage.store).
        kept_each g setting came_text response_text (connected (call ∷ [])) old.stage new.stage next.in_turn
        (go_on_one call on) clean (before.is_kept (next.trusted clean) kept) in
        record {
          calls = before.calls ++ call ∷ [];
          counted = rw length-append (ap (λ n. n + 1) before.counted);
          go_on = go_on_more before.calls call before.go_on on;
          attended =
              attended_more g setting came_text response_text before.calls (call ∷ []) first old new before.attended
              next;
          kept =
              λ clean kept.
              each_more (λ c. IsKept g c.from) before.calls call (before.kept (next.trusted clean) kept)
              (one clean kept).0;
          is_kept = λ clean kept. (one clean kept).1;
        };
  }

  -- what was kept where no more is served after the next call
  pub kept_ending : (call : Option (Conversation S)) (first old new : Service S) (count : ℕ)
      → (before : HasServed g setting came_text response_text first old count)
      → AreAttended g setting came_text response_text (call ∷ []) old new
      → AreKept g setting came_text response_text (connected (before.calls ++ call ∷ [])) first
      (IsClean g new.stage.store.conn)
  kept_ending call first old new count before next clean kept =
      let here = next.trusted clean in
      let last = kept_at g setting came_text response_text call old.stage new.stage next.in_turn
      (before.is_kept here kept) in
      each_more (λ c. IsKept g c.from) before.calls call (before.kept here kept) last
