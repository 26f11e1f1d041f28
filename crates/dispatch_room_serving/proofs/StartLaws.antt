-- Starts of a room's service, one after another, are one run.
use Rattle.std.proofs.Common.{◌≡◌, ◌∙◌, ◌≤◌, ap, append-nil, inl, inr, refl, subst, sym, ℕ, List}
use Rattle.std.proofs.Common.{[], ◌∷◌, ◌++◌, Bool, Option, Some, None, Result, Ok, Err}
use Rattle.std.proofs.lemmas.List.Elements.{All-head, All-nil, All-pop, All-same, All-tail}
use Rattle.std.specs.Prelude.{All, ◌⊎◌, IsTrue}
use Rattle.jiff.specs.Placed.{IsPosixZone}
use Rattle.sqlite.specs.Held.{Held, state}
use Rattle.sqlite.specs.State.{HasCleanDisk}
use Rattle.sqlite_trees.specs.Tree.{Trees}
use Rattle.sqlite_trees.specs.declared.store.Store.{Ghosts}
use Rattle.room_types.specs.declared.fleet.Terminal.{Terminal}
use Rattle.room_model.specs.Room.{Room}
use Rattle.room_model.specs.Rooms.{machine}
use Rattle.room_model.specs.declared.digests.StartDigest.{StartDigest}
use Rattle.room_http_time.specs.Days.{zone_of}
use Rattle.room_types.specs.declared.numbers.TheConstants.{LAST_MOMENT}
use Rattle.room_http.specs.declared.settings.HttpSettings.{HttpSettings}
use Rattle.room_http.specs.ServedTrace.{AreFirstIn, AreOf, ServedTrace}
use Rattle.room_http.specs.Runs.{AreAnswered, Exchange, IsRun, arrivals_of, room_by}
use Rattle.room_http.specs.Session.{Finish, ServeIs, Sides}
use Rattle.room_http.specs.Dialogues.{LeavesNext, Timed, replied}
use Rattle.room_http.specs.declared.session.ServeEnd.{ServeEnd}
use Rattle.room_http.specs.declared.session.ServeEnd.TheVariants.{Closed, Cut, ReadFault}
use Rattle.room_http.specs.declared.session.ServeEnd.TheVariants.{WriteFault, ClockFault}
use Rattle.room_http.specs.declared.session.ServeEnd.TheVariants.{JournalFailed, ReadsSpent, Memory}
use Rattle.room_http.proofs.ExchangeLemmas.{answered_in, exchange_of}
use Rattle.room_http.proofs.PromiseLaws.{promises_kept}
use Rattle.room_http.proofs.RunLemmas.{answered_join, room_split, run_first, run_of}
use Rattle.room_store.specs.StoredRoom.{IsKept, IsRoom, LeavesOneOf}
use Rattle.room_store.specs.declared.store.Store.{Store}
use Rattle.room_store_writes.specs.Configurations.{config_of}
use Rattle.room_tables.specs.RoomsInTables.{Configuration, Stands}
use Rattle.dispatch_room_exit.specs.declared.exit_status.Done.{Done}
use Rattle.dispatch_room_exit.specs.declared.exit_status.Failure.{Failure}
use Rattle.dispatch_room_tasks.specs.OpenedRoom.{OpensRoom}
use Rattle.dispatch_room_serving.specs.Connections.{AreJoined, AreNext, AreServed, Conversation}
use Rattle.dispatch_room_serving.specs.Connections.{EndsAs, GoOnBefore, GoesOn, IsNext, IsServed}
use Rattle.dispatch_room_serving.specs.Connections.{Service, Stage, connected, stage_after}
use Rattle.dispatch_room_serving.specs.Connections.{together}
use Rattle.dispatch_room_serving.specs.ServedRoom.{KeepsHead, ServesRoom}
use Rattle.dispatch_room_serving.specs.Starts.{AreDone, AreStarts, Exchanged, Follows, IsDone}
use Rattle.dispatch_room_serving.specs.Starts.{AreOneRun, IsStart, IsTrusted, IsUnwritten}
use Rattle.dispatch_room_serving.specs.Starts.{ServedIsAStart, ServingIsAStart, Start, all_of}
use Rattle.dispatch_room_serving.specs.Starts.{connections, left_by, whole_of}
use Rattle.dispatch_room_serving.specs.Lives.{IsFoundAfter, last_of}
use Rattle.dispatch_room_serving.proofs.ConnectionLaws.{attended_none, connected_more}
use Rattle.room_tables_schema.specs.FileConnections.{IsClean}

-- ---- the moments of a course
abbrev InTime : Timed → Type 0
InTime x = x.1 ≤ LAST_MOMENT

-- of all that had a moment none was later than the last of the room
module _ (course : ServedTrace) where
  whole_timed : course.last ≡ None → All InTime course.outs → (outs : List Timed) → AreOf course outs
      → All InTime outs
  whole_timed none timed outs (inl is) = All-same InTime outs course.outs is timed
  whole_timed none timed outs (inr (x, last, is)) = cc

  last_timed : (x : Timed) → course.last ≡ Some x → All InTime (course.outs ++ x ∷ [])
      → (outs : List Timed) → AreOf course outs → All InTime outs
  last_timed x last timed outs (inl is) =
      All-same InTime outs course.outs is (All-pop InTime (course.outs ++ x ∷ []) course.outs (Some x) refl timed).0
  last_timed x last timed outs (inr (y, other, is)) =
      let same : y ≡ x = cc (other, last) in
      All-same InTime outs (course.outs ++ x ∷ []) (is ∙ ap (λ z. course.outs ++ z ∷ []) same) timed

  module _ (setting : HttpSettings) (old : Sides) (new : Finish) (trusted failed : Type 0)
      (stood stands : List Terminal → Room → Type 0) (while_unserved : Timed → List Terminal → Room → Type 0)
      (budget : ℕ) where
    timed : (end : ServeEnd)
        → ServeIs machine setting old new trusted stood stands while_unserved failed course budget end
        → (outs : List Timed) → AreOf course outs → All InTime outs
    timed Closed (inl ended) = whole_timed ended.0.0 ended.0.1.timed.0
    timed Closed (inr (inl closed)) = whole_timed closed.0.0 closed.0.1.timed.0
    timed Closed (inr (inr cause)) = last_timed cause.0 cause.1 cause.2.timed.0
    timed Cut cut = whole_timed cut.0.0 cut.0.1.timed.0
    timed ReadFault failed = whole_timed failed.0.0 failed.0.1.timed.0
    timed WriteFault ((x, last, inl broken), failed) = last_timed x last broken.timed.0
    timed WriteFault ((x, last, inr unserved), failed) = last_timed x last unserved.timed.0
    timed JournalFailed ((x, last, inl unwritten), failed) = last_timed x last unwritten.timed.0
    timed JournalFailed ((x, last, inr unwritten), failed) = last_timed x last unwritten.timed.0
    timed ClockFault (none, (o, untimed)) = whole_timed none untimed.timed
    timed ReadsSpent spent = whole_timed spent.0.0 spent.0.1.timed.0
    timed Memory refused = whole_timed refused.1.0 refused.1.1.timed.0

-- ---- what a start leaves
module _ {S : Type 0} (g : Ghosts S) (setting : HttpSettings) (terminals : List Terminal) where
  -- the room after what was exchanged, or that after one exchange more
  abbrev Left : List (Conversation S) → List (List Exchange) → Store S → Room → Type 0
  Left cs dialogues last after = LeavesOneOf g last terminals (after ∷ [])
      ⊎ ((x : Exchange) × IsUnwritten cs dialogues x × AreAnswered setting terminals (x ∷ []) after
      × LeavesOneOf g last terminals (after ∷ room_by (x ∷ []) after ∷ []))

  -- the exchange of an event that a stop leaves done
  unwritten_one : (x : Timed) (room : Room) (last : Store S) → InTime x
      → LeavesNext machine setting (LeavesOneOf g last) x terminals room
      → (done : Exchange) × (done.arrival ≡ x) × AreAnswered setting terminals (done ∷ []) room
      × LeavesOneOf g last terminals (room ∷ room_by (done ∷ []) room ∷ [])
  unwritten_one x room last within (event, finds, leaves) =
      let done = exchange_of setting terminals x event room within finds in
      let after : room_by (done.0 ∷ []) room
      ≡ (machine event room).0 = run_first done.0.found [] room ∙ ap (λ found. (replied machine found room).0) done.2 in
      (done.0, done.1, done.3, rw after leaves)

  -- a stop leaves the room after these exchanges, or after what arrives next
  abbrev LeavesOne : Conversation S → Room → List Exchange → Type 0
  LeavesOne c room xs = LeavesOneOf g c.store terminals (room_by xs room ∷ [])
      ⊎ ((x : Timed) × AreFirstIn c.course c.before.left c.before.given c.after.given (arrivals_of xs ++ x ∷ [])
      × LeavesNext machine setting (LeavesOneOf g c.store) x terminals (room_by xs room))

  left_one : (came_text : ℕ → List ℕ → List ℕ) (response_text : List ℕ → List ℕ) (stage : Stage S)
      (c : Conversation S) (xs : List Exchange) (room : Room)
      → IsNext g setting came_text response_text stage c → IsServed g setting terminals c xs room
      → IsKept g c.from → Left (c ∷ []) (xs ∷ []) c.store (room_by xs room)
  left_one came_text response_text stage c xs room next is kept =
      elim (subst (LeavesOne c room) is.exchanged (is.served.kept kept)) [
        | inl only_one ↦ inl only_one
        | inr (x, first, leaves) ↦
            let within = timed c.course setting c.before c.after _ _ _ _ _ _ c.end next.dialogue
            (arrivals_of xs ++ x ∷ [])
            first.0 in
            let done = unwritten_one x (room_by xs room) c.store
            (All-pop InTime (arrivals_of xs ++ x ∷ []) (arrivals_of xs) (Some x) refl within).1 leaves in
            inr (
              done.0,
              record {
                c = c;
                earlier = [];
                is_last = refl;
                dialogue = xs;
                earlier_dialogues = [];
                is_dialogue = refl;
                next = rw done.1 first;
              },
              done.2,
              done.3,
            )
      ]

  -- an earlier connection
  left_more : (c : Conversation S) (cs : List (Conversation S)) (xs : List Exchange)
      (dialogues : List (List Exchange)) (last : Store S) (after same : Room) → after ≡ same
      → Left cs dialogues last after → Left (c ∷ cs) (xs ∷ dialogues) last same
  left_more c cs xs dialogues last after same is (inl only_one) = inl (rw (← is) only_one)
  left_more c cs xs dialogues last after same is (inr (x, not_written, answered, leaves)) = inr (
    x,
    record {
      c = not_written.c;
      earlier = c ∷ not_written.earlier;
      is_last = ap (λ more. c ∷ more) not_written.is_last;
      dialogue = not_written.dialogue;
      earlier_dialogues = xs ∷ not_written.earlier_dialogues;
      is_dialogue = ap (λ more. xs ∷ more) not_written.is_dialogue;
      next = not_written.next;
    },
    rw (← is) answered,
    rw (← is) leaves,
  )

  left_some : (came_text : ℕ → List ℕ → List ℕ) (response_text : List ℕ → List ℕ) (c : Conversation S)
      (cs : List (Conversation S)) (dialogues : List (List Exchange)) (room : Room) (stage last : Stage S)
      → AreNext g setting came_text response_text (c ∷ cs) stage last
      → AreServed g setting terminals (c ∷ cs) dialogues room → All (λ d. IsKept g d.from) (c ∷ cs)
      → Left (c ∷ cs) dialogues last.store (room_by (together dialogues) room)
  left_some came_text response_text c cs [] room stage last next served kept = absurd served
  left_some came_text response_text c [] (xs ∷ []) room stage last next served kept =
      let one = left_one came_text response_text stage c xs room next.0 served.0
      (All-head (λ d. IsKept g d.from) c [] kept) in
      subst (λ (s : Stage S). Left (c ∷ []) (xs ∷ []) s.store (room_by (xs ++ []) room)) (sym next.1)
      (subst (λ ys. Left (c ∷ []) (xs ∷ []) c.store (room_by ys room)) (sym (append-nil xs)) one)
  left_some came_text response_text c [] (xs ∷ ys ∷ more) room stage last next served kept = absurd served.1
  left_some came_text response_text c (d ∷ cs) (xs ∷ more) room stage last next served kept =
      left_more c (d ∷ cs) xs more last.store (room_by (together more) (room_by xs room))
      (room_by (xs ++ together more) room) (sym (room_split xs (together more) room))
      (left_some came_text response_text d cs more (room_by xs room) (stage_after c) last next.1 served.1
      (All-tail (λ e. IsKept g e.from) c (d ∷ cs) kept))

  left_all : (came_text : ℕ → List ℕ → List ℕ) (response_text : List ℕ → List ℕ)
      (cs : List (Conversation S)) (dialogues : List (List Exchange)) (room : Room) (stage last : Stage S)
      → AreNext g setting came_text response_text cs stage last → AreServed g setting terminals cs dialogues room
      → LeavesOneOf g stage.store terminals (room ∷ []) → All (λ d. IsKept g d.from) cs
      → Left cs dialogues last.store (room_by (together dialogues) room)
  left_all came_text response_text [] [] room stage last same served leaves kept = inl (rw same leaves)
  left_all came_text response_text [] (xs ∷ more) room stage last same served leaves kept = absurd served
  left_all came_text response_text (c ∷ cs) dialogues room stage last next served leaves kept =
      left_some came_text response_text c cs dialogues room stage last next served kept

-- ---- the setting of the plan stays
module _ {S : Type 0} (g : Ghosts S) (setting : HttpSettings) (came_text : ℕ → List ℕ → List ℕ)
    (response_text : List ℕ → List ℕ) where
  pub zone_stays : (cs : List (Conversation S)) (stage last : Stage S)
      → AreNext g setting came_text response_text cs stage last → last.store.plan.zone ≡ stage.store.plan.zone
  zone_stays [] stage last same = ap (λ (s : Stage S). s.store.plan.zone) same
  zone_stays (c ∷ cs) stage last next =
      zone_stays cs (stage_after c) last next.1 ∙ next.0.same_zone
      ∙ ap (λ (s : Stage S). s.store.plan.zone) next.0.begins

-- ---- one start
module _ {S : Type 0} (g : Ghosts S) (came_text : ℕ → List ℕ → List ℕ)
    (response_text : List ℕ → List ℕ) where
  module _ (s : Start S) (start : IsStart g came_text response_text s)
      (clean : HasCleanDisk (state g (left_by s).conn)) where
    pub clean_first : IsClean g s.first.stage.store.conn
    clean_first = start.attended.trusted clean

    pub opens : OpensRoom g s.found s.opened
    opens = start.opens (start.looks.trusted clean_first)

    pub one_zone : (left_by s).plan.zone ≡ s.opened.plan.zone
    one_zone =
        zone_stays g s.setting came_text response_text (connections s) s.first.stage s.last.stage start.attended.in_turn
        ∙ start.looks.zone

    module _ (terminals : List Terminal) (room : Room) (is : IsRoom g s.opened terminals room) where
      pub joined : AreJoined g s.setting terminals (connections s) (left_by s) room
      joined = start.attended.joined clean terminals room (start.looks.same clean_first terminals room is)

      pub leaves_first : LeavesOneOf g s.first.stage.store terminals (room ∷ [])
      leaves_first = start.looks.left clean_first opens.2.kept terminals room is

      pub all_kept : All (λ c. IsKept g c.from) (connections s)
      all_kept = elim start.begins_kept [
        | inl none ↦ rw none (All-nil (λ (c : Conversation S). IsKept g c.from))
        | inr kept ↦ start.kept clean (kept clean_first opens.2.kept)
      ]

      left : Left g s.setting terminals (connections s) joined.dialogues (left_by s)
          (room_by (together joined.dialogues) room)
      left =
          left_all g s.setting terminals came_text response_text (connections s) joined.dialogues room s.first.stage
          s.last.stage start.attended.in_turn joined.served leaves_first all_kept

      done_with : (not_written : List Exchange)
          → (not_written ≡ [])
          ⊎ ((x : Exchange) × (not_written ≡ x ∷ []) × IsUnwritten (connections s) joined.dialogues x)
          → IsDone g terminals s (record { written = together joined.dialogues; not_written = not_written }) room
      done_with not_written few = record { opened = is; joined = joined; written = refl; not_written = few }

  -- ---- what is found next
  -- what is found is the room after what was exchanged, written and not written
  record Goes (s : Start S) (terminals : List Terminal) (dialogues : List (List Exchange)) (after : Room)
      (db : Trees) : Type 0 where
    not_written : List Exchange
    few : (not_written ≡ []) ⊎ ((x : Exchange) × (not_written ≡ x ∷ []) × IsUnwritten (connections s) dialogues x)
    answered : AreAnswered s.setting terminals not_written after
    stands : Stands db (config_of (left_by s).plan terminals) (room_by not_written after)

  pub opens_it : (s next : Start S) (terminals : List Terminal) (room : Room)
      → OpensRoom g next.found next.opened
      → Stands (state g next.found).now.trees (config_of (left_by s).plan terminals) room
      → ((left_by s).plan.zone ≡ next.opened.plan.zone) × IsRoom g next.opened terminals room
  opens_it s next terminals room opens stands = opens.2.same (config_of (left_by s).plan terminals) room stands

  -- all that was exchanged was written
  all_written : (s : Start S) (terminals : List Terminal) (dialogues : List (List Exchange)) (after : Room)
      (db : Trees) → Stands db (config_of (left_by s).plan terminals) after → Goes s terminals dialogues after db
  all_written s terminals dialogues after db stands =
      record { not_written = []; few = inl refl; answered = tt; stands = stands }

  -- where it goes on with the database that the one before left, that stands for the same room
  stands_open : (s : Start S) (terminals : List Terminal) (after : Room) (next : Held S)
      → IsRoom g (left_by s) terminals after → next ≡ (left_by s).conn → IsTrue (state g (left_by s).conn).is_open
      → Stands (state g next).now.trees (config_of (left_by s).plan terminals) after
  stands_open s terminals after next is same is_open =
      subst (λ (conn : Held S). Stands (state g conn).now.trees (config_of (left_by s).plan terminals) after)
      (sym same) (is.tables is_open)

  pub stands_on : (s next : Start S) (terminals : List Terminal) (after : Room)
      → OpensRoom g next.found next.opened → IsRoom g (left_by s) terminals after
      → next.found ≡ (left_by s).conn
      → Stands (state g next.found).now.trees (config_of (left_by s).plan terminals) after
  stands_on s next terminals after opens is same =
      stands_open s terminals after next.found is same
      (subst (λ (conn : Held S). IsTrue (state g conn).is_open) same (opens.2.rows.was_open opens.2.kept.is_open))

  -- where it finds what a stop may leave
  finds : (s : Start S) (terminals : List Terminal) (dialogues : List (List Exchange)) (after : Room)
      (db : Trees) → (state g (left_by s).conn).may_leave db
      → Left g s.setting terminals (connections s) dialogues (left_by s) after
      → Goes s terminals dialogues after db
  finds s terminals dialogues after db found (inl only_one) = elim (only_one db found) [
    | inl stands ↦ all_written s terminals dialogues after db stands
    | inr none ↦ absurd none
  ]
  finds s terminals dialogues after db found (inr (x, is, answered, leaves)) = elim (leaves db found) [
    | inl stands ↦ all_written s terminals dialogues after db stands
    | inr other ↦ elim other [
      | inl stands ↦
          record { not_written = x ∷ []; few = inr (x, refl, is); answered = answered; stands = stands }
      | inr none ↦ absurd none
    ]
  ]

  goes : (s next : Start S) (terminals : List Terminal) (dialogues : List (List Exchange)) (after : Room)
      → OpensRoom g next.found next.opened → IsRoom g (left_by s) terminals after → Follows g s next
      → Left g s.setting terminals (connections s) dialogues (left_by s) after
      → Goes s terminals dialogues after (state g next.found).now.trees
  goes s next terminals dialogues after _ is (inl found, history) leaves =
      finds s terminals dialogues after (state g next.found).now.trees found leaves
  goes s next terminals dialogues after opens is (inr same, history) leaves =
      all_written s terminals dialogues after (state g next.found).now.trees
      (stands_on s next terminals after opens is same)

  goes_last : (s : Start S) (next : Held S) (terminals : List Terminal) (dialogues : List (List Exchange))
      (after : Room) → IsRoom g (left_by s) terminals after → IsFoundAfter g (left_by s).conn next
      → Left g s.setting terminals (connections s) dialogues (left_by s) after
      → Goes s terminals dialogues after (state g next).now.trees
  goes_last s next terminals dialogues after is (inl found) leaves =
      finds s terminals dialogues after (state g next).now.trees found leaves
  goes_last s next terminals dialogues after is (inr (same, is_open)) leaves =
      all_written s terminals dialogues after (state g next).now.trees
      (stands_open s terminals after next is same is_open)

  -- ---- all starts
  -- the zone of a start's plan, and history where it serves it
  record IsSetFor (setting : HttpSettings) (s : Start S) : Type 0 where
    zone : IsPosixZone s.opened.plan.zone (zone_of setting.zone)
    history : s.setting.history ≡ setting.history

  abbrev config_in : List ℕ → List Terminal → Configuration
  config_in zone terminals = record { zone = zone; terminals = terminals }

  -- from the room that the first opened, in a setting that is its own, to what is found at the end
  record Run (setting : HttpSettings) (terminals : List Terminal) (starts : List (Start S)) (zone : List ℕ)
      (room : Room) (db : Trees) : Type 0 where
    done : List Exchanged
    each : AreDone g terminals starts done room
    answered : AreAnswered setting terminals (whole_of done) room
    stands : Stands db (config_in zone terminals) (room_by (whole_of done) room)

  module _ (setting : HttpSettings) (terminals : List Terminal) (last : Held S) where
    own_answers : (s : Start S) → IsStart g came_text response_text s → IsSetFor setting s
        → (xs : List Exchange) (room : Room)
        → AreAnswered s.setting terminals xs room → AreAnswered setting terminals xs room
    own_answers s start set =
        answered_in s.opened.plan.zone s.setting setting (record { zone = start.in_zone; history = set.history })
        set.zone terminals

    -- what was exchanged at a start, and one exchange that was not answered
    module _ (s : Start S) (room : Room) (start : IsStart g came_text response_text s)
        (clean : HasCleanDisk (state g (left_by s).conn)) (is : IsRoom g s.opened terminals room)
        (set : IsSetFor setting s) where
      abbrev all : AreJoined g s.setting terminals (connections s) (left_by s) room
      all = joined s start clean terminals room is

      abbrev after_all : Room
      after_all = room_by (together all.dialogues) room

      module _ (db : Trees) (step : Goes s terminals all.dialogues after_all db) where
        abbrev exchanged : Exchanged
        exchanged = record { written = together all.dialogues; not_written = step.not_written }

        room_is : room_by (all_of exchanged) room ≡ room_by step.not_written after_all
        room_is = room_split (together all.dialogues) step.not_written room

        is_done : IsDone g terminals s exchanged room
        is_done = done_with s start clean terminals room is step.not_written step.few

        are_answered : AreAnswered setting terminals (all_of exchanged) room
        are_answered =
            own_answers s start set (all_of exchanged) room
            (answered_join s.setting terminals (together all.dialogues) step.not_written room all.run.answered
            step.answered)

    last_start : (s : Start S) (room : Room) → IsStart g came_text response_text s
        → HasCleanDisk (state g (left_by s).conn) → IsRoom g s.opened terminals room
        → IsSetFor setting s → IsFoundAfter g (left_by s).conn last
        → Run setting terminals (s ∷ []) s.opened.plan.zone room (state g last).now.trees
    last_start s room start clean is set found =
        let db = (state g last).now.trees in
        let here = all s room start clean is set in
        let step = goes_last s last terminals here.dialogues (room_by (together here.dialogues) room) here.after
        found (left s start clean terminals room is) in
        let x = exchanged s room start clean is set db step in
        let same : all_of x ≡ whole_of (x ∷ []) = sym (append-nil (all_of x)) in
        record {
          done = x ∷ [];
          each = (is_done s room start clean is set db step, tt);
          answered =
              subst (λ ys. AreAnswered setting terminals ys room) same
              (are_answered s room start clean is set db step);
          stands =
              subst (λ ys. Stands db (config_in s.opened.plan.zone terminals) (room_by ys room)) same
              (subst (Stands db (config_in s.opened.plan.zone terminals))
              (sym (room_is s room start clean is set db step))
              (subst (λ zone. Stands db (config_in zone terminals)
              (room_by step.not_written (room_by (together here.dialogues) room))) (one_zone s start clean)
              step.stands));
        }

    more_starts : (s : Start S) (starts : List (Start S)) (room : Room)
        → AreStarts g came_text response_text (s ∷ starts) → All (IsTrusted g) (s ∷ starts)
        → IsRoom g s.opened terminals room → IsSetFor setting s
        → IsFoundAfter g (left_by (last_of s starts)).conn last
        → Run setting terminals (s ∷ starts) s.opened.plan.zone room (state g last).now.trees
    more_starts s [] room start clean is set found =
        last_start s room start (All-head (IsTrusted g) s [] clean) is set found
    more_starts s (next ∷ starts) room (start, follows, later) clean is set found =
        let here = All-head (IsTrusted g) s (next ∷ starts) clean in
        let rest = All-tail (IsTrusted g) s (next ∷ starts) clean in
        let db = (state g next.found).now.trees in
        let joint = all s room start here is set in
        let next_start = first_of next starts later in
        let next_opens = opens next next_start (All-head (IsTrusted g) next starts rest) in
        let step = goes s next terminals joint.dialogues (room_by (together joint.dialogues) room) next_opens
        joint.after
        follows (left s start here terminals room is) in
        let x = exchanged s room start here is set db step in
        let it = opens_it s next terminals (room_by step.not_written (room_by (together joint.dialogues) room))
        next_opens step.stands in
        let zone_is : s.opened.plan.zone ≡ next.opened.plan.zone = sym (one_zone s start here) ∙ it.0 in
        let
        then =
        more_starts next starts (room_by (all_of x) room) later rest
        (subst (IsRoom g next.opened terminals) (sym (room_is s room start here is set db step)) it.1)
        (record { zone = rw zone_is at set.zone; history = follows.1 ∙ set.history }) found in
        record {
          done = x ∷ then.done;
          each = (is_done s room start here is set db step, then.each);
          answered =
              answered_join setting terminals (all_of x) (whole_of then.done) room
              (are_answered s room start here is set db step) then.answered;
          stands =
              subst (λ (r : Room). Stands (state g last).now.trees (config_in s.opened.plan.zone terminals) r)
              (sym (room_split (all_of x) (whole_of then.done) room))
              (subst (λ zone. Stands (state g last).now.trees (config_in zone terminals)
              (room_by (whole_of then.done) (room_by (all_of x) room))) (sym zone_is) then.stands);
        }
      where
        first_of : (next : Start S) (starts : List (Start S)) → AreStarts g came_text response_text (next ∷ starts)
            → IsStart g came_text response_text next
        first_of next [] start = start
        first_of next (other ∷ starts) (start, follows, later) = start

-- starts one after another are one run, which leads to what is found next
pub starts_are_one_run : {S : Type 0} (g : Ghosts S) (came_text : ℕ → List ℕ → List ℕ)
    (response_text : List ℕ → List ℕ) (first : Start S) (more : List (Start S)) (config : Configuration) (room : Room)
    (next : Held S) → AreStarts g came_text response_text (first ∷ more) → All (IsTrusted g) (first ∷ more)
    → Stands (state g first.found).now.trees config room → IsFoundAfter g (left_by (last_of first more)).conn next
    → (one : AreOneRun g config.terminals first.setting (first ∷ more) room)
    × Stands (state g next).now.trees config (room_by (whole_of one.done) room)
starts_are_one_run g came_text response_text first more config room next starts clean stands found =
    let start = first_start first more starts in
    let opened = opens g came_text response_text first start (All-head (IsTrusted g) first more clean) in
    let same = opened.2.same config room stands in
    let is = same.1 in
    let run = more_starts g came_text response_text first.setting config.terminals next first more room starts clean is
    (record { zone = start.in_zone; history = refl }) found in
    let whole : IsRun first.setting config.terminals (whole_of run.done) room = run_of first.setting config.terminals
    room (whole_of run.done) is.fits run.answered in (
      record {
        done = run.done;
        each = run.each;
        run = whole;
        promises = promises_kept first.setting config.terminals (whole_of run.done) room is.formed whole;
      },
      subst (λ zone. Stands (state g next).now.trees (record { zone = zone; terminals = config.terminals })
          (room_by (whole_of run.done) room)) (sym same.0) run.stands,
    )
  where
    first_start : (next : _) (starts : _) → AreStarts g came_text response_text (next ∷ starts)
        → IsStart g came_text response_text next
    first_start next [] start = start
    first_start next (other ∷ starts) (start, follows, later) = start

-- ---- what serving gives is a start
-- after each connection but the last more is served
module _ {S : Type 0} where
  all_go : (cs : List (Conversation S)) → All GoesOn cs → GoOnBefore cs
  all_go [] go = tt
  all_go (c ∷ []) go = tt
  all_go (c ∷ d ∷ cs) go = (All-head GoesOn c (d ∷ cs) go, all_go (d ∷ cs) (All-tail GoesOn c (d ∷ cs) go))

  before_go : (cs : List (Conversation S)) (last : Conversation S) → All GoesOn cs
      → GoOnBefore (cs ++ last ∷ [])
  before_go [] last go = tt
  before_go (c ∷ []) last go = (All-head GoesOn c [] go, tt)
  before_go (c ∷ d ∷ cs) last go =
      (All-head GoesOn c (d ∷ cs) go, before_go (d ∷ cs) last (All-tail GoesOn c (d ∷ cs) go))

  ends_go : (renews : Bool) (calls : List (Option (Conversation S))) (most : ℕ)
      (result : Result Done Failure) → EndsAs renews calls most result
      → GoOnBefore (connected calls)
  ends_go renews calls most (Ok done) ends = all_go (connected calls) ends.3
  ends_go renews calls most (Err fault) (before, last, is, few, go, why) =
      subst (λ (all : List (Option (Conversation S))). GoOnBefore (connected all)) (sym is)
      (subst GoOnBefore (sym (connected_more before (Some last ∷ []))) (before_go (connected before) last go))

-- a start that serving gives, and what was kept of its head
pub record IsServedStart {S : Type 0} (g : Ghosts S) (wants : Bool) (begun_text : StartDigest → List ℕ)
    (came_text : ℕ → List ℕ → List ℕ) (response_text : List ℕ → List ℕ) (history : Bool) (found : Held S)
    (old new : Store S → Service S) (worked : Result Done Failure × Held S) (s : Start S) : Type 0 where
  pub start : IsStart g came_text response_text s
  pub found_is : s.found ≡ found
  pub closed : (left_by s).conn ≡ worked.1
  pub history_is : s.setting.history ≡ history
  pub last : Store S
  pub last_is : s.last ≡ new last
  pub head : KeepsHead g wants begun_text s.opened s.first.stage.store (old s.opened).stage.kept s.first.stage.kept
      (Ok tt)
      ⊎ ((s.calls ≡ []) × (fault : Failure)
      × KeepsHead g wants begun_text s.opened s.first.stage.store (old s.opened).stage.kept s.first.stage.kept
      (Err fault))

pub served_start : {S : Type 0} (g : Ghosts S) (wants : Bool) (begun_text : StartDigest → List ℕ)
    (came_text : ℕ → List ℕ → List ℕ) (response_text : List ℕ → List ℕ) (history : Bool) (found : Held S)
    (old new : Store S → Service S) (renews : Bool) (most : ℕ)
    (worked : Result Done Failure × Held S)
    → ((store : Store S) → (old store).stage.store ≡ store)
    → ((store : Store S) → (new store).stage.store ≡ store)
    → ServesRoom g wants begun_text came_text response_text history found old new renews most worked
    → (s : Start S) × IsServedStart g wants begun_text came_text response_text history found old new worked s
served_start g wants begun_text came_text response_text history found old new renews most worked of_old of_new is =
    elim is.attended [
      | inl unheard ↦ (
        record {
          found = found;
          opened = is.first;
          setting = is.setting;
          calls = [];
          first = new is.last;
          last = new is.last;
        },
        record {
          start = record {
            opens = is.opens;
            in_zone = is.is_set.zone;
            looks = rw of_new (rw (of_old, of_new) at unheard.looks);
            attended = attended_none g is.setting came_text response_text (new is.last);
            kept = λ clean kept. All-nil _;
            go_on = tt;
            begins_kept = inl refl;
          };
          found_is = refl;
          closed = ap (λ store. store.conn) (of_new is.last) ∙ sym is.closed;
          history_is = is.is_set.history;
          last = is.last;
          last_is = refl;
          head = inr (
            refl,
            unheard.fault,
            subst (λ (first : Store _).
                KeepsHead g wants begun_text first (new is.last).stage.store (old is.first).stage.kept
                (new is.last).stage.kept
                (Err unheard.fault))
                (of_old is.first) unheard.head,
          );
        },
      )
      | inr served ↦ (
        record {
          found = found;
          opened = is.first;
          setting = is.setting;
          calls = served.serves.calls;
          first = record {
            heard = (old is.first).heard;
            written = (old is.first).written;
            stage = record {
              given = (old is.first).stage.given;
              kept = served.kept;
              has_failed = (old is.first).stage.has_failed;
              store = served.store;
            };
          };
          last = new is.last;
        },
        record {
          start = record {
            opens = is.opens;
            in_zone = is.is_set.zone;
            looks = rw of_old at served.looks.looks;
            attended = served.serves.attended;
            kept = served.serves.kept;
            go_on = ends_go renews served.serves.calls most worked.0 served.serves.ends;
            begins_kept = inr (rw of_old at served.looks.kept);
          };
          found_is = refl;
          closed = ap (λ store. store.conn) (of_new is.last) ∙ sym is.closed;
          history_is = is.is_set.history;
          last = is.last;
          last_is = refl;
          head =
              inl (subst (λ (first : Store _).
              KeepsHead g wants begun_text first served.store (old is.first).stage.kept served.kept (Ok tt))
              (of_old is.first) served.head);
        },
      )
    ]

pub served_is_a_start_law : {S : Type 0} (g : Ghosts S) → ServedIsAStart g
served_is_a_start_law g wants begun_text came_text response_text history found old new renews most worked of_old of_new
    is =
    let s = served_start g wants begun_text came_text response_text history found old new renews most worked of_old
    of_new
    is in
    (s.0, s.1.start, s.1.found_is, s.1.closed, s.1.history_is)

pub serving_is_a_start_law : {S : Type 0} (g : Ghosts S) → ServingIsAStart g
serving_is_a_start_law g came_text response_text found opened setting first now count opens in_zone looks served =
    record {
      opens = opens;
      in_zone = in_zone;
      looks = looks.looks;
      attended = served.attended;
      kept = served.kept;
      go_on = all_go (connected served.calls) served.go_on;
      begins_kept = inr looks.kept;
    }
