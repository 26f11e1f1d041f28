-- The list that is kept over all starts is replayed from the room that the first of them found.
use Rattle.std.proofs.Common.{◌≡◌, ◌∙◌, ◌⊎◌, inl, inr, sym, ap, subst, refl, ℕ, List, [], ◌∷◌, ◌++◌}
use Rattle.std.proofs.Common.{append-nil, append_assoc, true, Some}
use Rattle.std.specs.Prelude.{All}
use Rattle.std.specs.List.{flat_map}
use Rattle.std.proofs.lemmas.List.Elements.{All-head, All-nil, All-tail}
use Rattle.jiff.specs.Placed.{IsPosixZone}
use Rattle.sqlite.specs.Held.{state}
use Rattle.sqlite.specs.State.{HasCleanDisk}
use Rattle.sqlite_trees.specs.declared.store.Store.{Ghosts}
use Rattle.room_types.specs.declared.fleet.Terminal.{Terminal}
use Rattle.room_model.specs.Room.{Room}
use Rattle.room_model.specs.Digests.{IsHeadOf, digits_of}
use Rattle.room_model.specs.Rooms.{machine}
use Rattle.room_model.specs.declared.digests.StartDigest.{StartDigest}
use Rattle.room_model.specs.declared.digests.Version.{Version}
use Rattle.room_model.specs.declared.digests.Version.TheVariants.{Second}
use Rattle.room_http_time.specs.Days.{zone_of}
use Rattle.room_http.specs.Settings.{IsSetting}
use Rattle.room_http.specs.declared.settings.HttpSettings.{HttpSettings}
use Rattle.room_http.specs.Arrivals.{message as arrived}
use Rattle.room_http.specs.Dialogues.{IsFront, IsReplyTo, Timed}
use Rattle.room_store.specs.StoredRoom.{IsRoom, LeavesOneOf}
use Rattle.room_store.specs.declared.store.Store.{Store}
use Rattle.room_store_file.specs.DigestTexts.{digest_of}
use Rattle.room_store_writes.specs.Configurations.{config_of}
use Rattle.room_tables.specs.RoomsInTables.{Stands}
use Rattle.dispatch_room_journal.specs.WholeEntries.{Follows, IsCutTo}
use Rattle.dispatch_room_journal.specs.Entries.{Entry, room as head_entry, IsDigest, IsEntry}
use Rattle.dispatch_room_journal.specs.Entries.{IsPart, texts_of}
use Rattle.dispatch_room_journal.specs.JournalRecords.{answer_text, message_text, room_text}
use Rattle.dispatch_room_journal.specs.ReplayedTurns.{left_out}
use Rattle.dispatch_room_journal.proofs.KeptTurns.{come_front, come_head, come_same, ends_open-push}
use Rattle.dispatch_room_journal.proofs.KeptTurns.{left_open, no_answer}
use Rattle.dispatch_room_journal.proofs.TurnLemmas.{begun-append}
use Rattle.dispatch_room_tasks.specs.OpenedRoom.{OpensRoom}
use Rattle.dispatch_room_serving.specs.Connections.{AreNext, Conversation, Service, Stage}
use Rattle.dispatch_room_serving.specs.Connections.{connected}
use Rattle.dispatch_room_serving.specs.Lists.{AreGiven, AreParts, HasNoTwin, IsListOf, IsPartOf}
use Rattle.dispatch_room_serving.specs.Lists.{ListIsTheRoom, Part, ServedKeepsItsPart}
use Rattle.dispatch_room_serving.specs.ServedRoom.{IsDigestOf, IsHead}
use Rattle.dispatch_room_serving.specs.Starts.{AreStarts, IsStart, IsTrusted, OfLast, Start}
use Rattle.dispatch_room_serving.specs.Starts.{connections, left_by}
use Rattle.dispatch_room_serving.proofs.StartLaws.{all_kept, clean_first, joined, leaves_first}
use Rattle.dispatch_room_serving.proofs.StartLaws.{one_zone, opens, opens_it, served_start}
use Rattle.dispatch_room_serving.proofs.StartLaws.{stands_on}
use Rattle.dispatch_room_serving.proofs.HeardLists.{Comes, Ends, EndsAt, appended, calls_end}
use Rattle.dispatch_room_serving.proofs.HeardLists.{digest_is, no_calls, reply_in, same_known}

-- ---- the first of some starts, and the last
module _ {S : Type 0} (g : Ghosts S) where
  first_of : (s : Start S) (starts : List (Start S))
      → AreStarts g message_text answer_text (s ∷ starts) → IsStart g message_text answer_text s
  first_of s [] start = start
  first_of s (next ∷ starts) (start, follows, later) = start

  -- what holds of the last holds of it as something else
  of_last : (Holds Says : Start S → Type 0) → ((s : Start S) → Holds s → Says s)
      → (starts : List (Start S)) → OfLast Holds starts → OfLast Says starts
  of_last Holds Says says [] is = tt
  of_last Holds Says says (s ∷ []) is = says s is
  of_last Holds Says says (s ∷ next ∷ starts) is = of_last Holds Says says (next ∷ starts) is

-- ---- a start
module _ {S : Type 0} (g : Ghosts S) (setting : HttpSettings) (text : List ℕ)
    (in_zone : IsPosixZone text (zone_of setting.zone)) (terminals : List Terminal) (held : Room) where
  abbrev CameTo : List (Conversation S) → List ℕ → Room → Type 0
  CameTo cs = Comes g setting text in_zone terminals held cs

  abbrev Stops : List (Conversation S) → List ℕ → Store S → Type 0
  Stops cs list store = EndsAt g setting text in_zone terminals held cs list store

  -- a start in this zone, that serves history where this setting does
  record IsAlike (s : Start S) : Type 0 where
    zone : s.opened.plan.zone ≡ text
    history : s.setting.history ≡ setting.history

  module _ (cs : List (Conversation S)) (s : Start S) (part : Part) (from : List ℕ) (now : Room)
      (start : IsStart g message_text answer_text s) (clean : HasCleanDisk (state g (left_by s).conn))
      (alike : IsAlike s) (is : IsRoom g s.opened terminals now)
      (twins : HasNoTwin g terminals s) (come : CameTo cs from now) (before : part.before ≡ from)
      (p : IsPartOf g s part) where
    zone_served : IsPosixZone text (zone_of s.setting.zone)
    zone_served = subst (λ (t : List ℕ). IsPosixZone t (zone_of s.setting.zone)) alike.zone start.in_zone

    in_served : IsSetting text setting.history s.setting
    in_served = record { zone = zone_served; history = alike.history }

    first_is : (front : List ℕ) → p.front ≡ front → s.first.stage.kept ≡ Some (from ++ front)
    first_is front same = p.first ∙ (λ i. Some (before i ++ same i))

    first_room : IsRoom g s.first.stage.store terminals now
    first_room = start.looks.same (clean_first g message_text answer_text s start clean) terminals now is

    leaves_it : LeavesOneOf g s.first.stage.store terminals (now ∷ [])
    leaves_it = leaves_first g message_text answer_text s start clean terminals now is

    -- nobody was heard
    module _ (none : s.calls ≡ []) where
      no_one : connections s ≡ []
      no_one = ap connected none

      unmoved : s.last.stage ≡ s.first.stage
      unmoved =
          subst
          (λ (ds : List (Conversation S)). AreNext g s.setting message_text answer_text ds s.first.stage s.last.stage)
          no_one start.attended.in_turn

      all_kept_is : from ++ p.front ≡ part.after
      all_kept_is =
          same_known s.first.stage.kept (from ++ p.front) part.after (first_is p.front refl)
          (sym (ap (λ (t : Stage S). t.kept) unmoved) ∙ p.last)

      unheard : (list : List ℕ) → CameTo cs list now → Stops (cs ++ connections s) list (left_by s)
      unheard list came =
          subst (λ (ds : List (Conversation S)). Stops (cs ++ ds) list (left_by s)) (sym no_one)
          (no_calls g setting text in_zone terminals held cs s.first.stage s.last.stage list now unmoved came first_room
          leaves_it)

    module _ (entries : List Entry) (rest : List ℕ) (follows : Follows part.after entries rest)
        (end_is : (rest ≡ []) ⊎ IsPart rest) where
      -- nothing is kept of its head
      headless : s.calls ≡ [] → p.front ≡ []
          → Stops (cs ++ connections s) (texts_of entries) (left_by s)
      headless none nothing =
          let same : from ≡ part.after = sym (append-nil from) ∙ ap (λ t. from ++ t) (sym nothing) ∙ all_kept_is none in
          unheard none (texts_of entries) (come_same machine setting (digits_of digest_of text) terminals (AreGiven cs)
          held from now entries rest end_is (follows.0, same ∙ follows.1) come)

      module _ (response : List ℕ) (first_head : IsHead g true room_text s.opened s.first.stage.store response) where
        abbrev h : StartDigest
        h = first_head.head

        states : IsDigestOf g s.opened s.first.stage.store h
        states = first_head.known refl

        head_is : IsHeadOf (digits_of digest_of text) h terminals now
        head_is = subst (λ (t : List ℕ). IsHeadOf (digits_of digest_of t) h terminals now) alike.zone
            (states.1 (clean_first g message_text answer_text s start clean) terminals now is)

        entry : IsEntry (head_entry h)
        entry = subst IsDigest head_is (digest_is h.version text terminals now)

        twin : (after : Room) (x : Timed) (bytes : List ℕ)
            → IsReplyTo machine setting terminals after x now bytes
            → IsHeadOf (digits_of digest_of text) h terminals after → after ≡ now
        twin after x bytes reply same =
            let equal = subst
            (λ (v : Version). digits_of digest_of text v terminals after ≡ digits_of digest_of text v terminals now)
            states.0 (same ∙ sym head_is) in
            twins x after now bytes is (reply_in text setting s.setting
            (record { zone = in_zone; history = sym alike.history }) zone_served terminals after x now bytes reply)
            (subst
            (λ (t : List ℕ). digits_of digest_of t Second terminals after ≡ digits_of digest_of t Second terminals now)
            (sym alike.zone) equal)

        -- its head is kept
        headed : p.front ≡ response → Stops (cs ++ connections s) (texts_of entries) (left_by s)
        headed whole =
            let all = joined g message_text answer_text s start clean terminals now is in
            let s0 = come_head machine setting (digits_of digest_of text) terminals (AreGiven cs) held h entry from now
            head_is twin come in
            calls_end g setting text in_zone terminals held s.setting in_served cs (connections s) s.first.stage
            s.last.stage (from ++ room_text h) part.after now all.dialogues
            start.attended.in_turn all.served (all_kept g message_text answer_text s start clean terminals now is)
            start.go_on clean s0 first_room leaves_it
            (first_is (room_text h) (whole ∙ first_head.text_is)) p.last entries rest follows end_is

        -- its head is cut short
        cut_short : s.calls ≡ [] → IsFront p.front response
            → Stops (cs ++ connections s) (texts_of entries) (left_by s)
        cut_short none front =
            let first = subst (IsFront p.front) first_head.text_is front in
            let it : Follows (from ++ p.front) entries rest = (follows.0, all_kept_is none ∙ follows.1) in
            unheard none (texts_of entries) (come_front machine setting (digits_of digest_of text) terminals
            (AreGiven cs) held h entry from p.front now entries rest end_is head_is twin first it come)

    start_ends : (whole : List ℕ) → IsCutTo part.after whole
        → Stops (cs ++ connections s) whole (left_by s)
    start_ends whole (entries, rest, follows, whole_is, end_is) =
        subst (λ (t : List ℕ). Stops (cs ++ connections s) t (left_by s)) (sym whole_is) (elim p.begun [
          | inl (response, first_head, kept) ↦ elim kept [
            | inl all ↦ headed entries rest follows end_is response first_head all
            | inr (none, front) ↦ cut_short entries rest follows end_is response first_head none front
          ]
          | inr (none, nothing) ↦ headless entries rest follows end_is none nothing
        ])

  -- ---- all starts
  record Over (cs : List (Conversation S)) (starts : List (Start S)) (list : List ℕ) : Type 0 where
    now : Room
    come : CameTo (cs ++ flat_map connections starts) list now
    is : OfLast (λ s. IsRoom g (left_by s) terminals now) starts

  -- the next start finds a room to which the list has come
  comes_on : (cs : List (Conversation S)) (s next : Start S) (list : List ℕ)
      → OpensRoom g next.found next.opened
      → (state g (left_by s).conn).may_leave (state g next.found).now.trees
      ⊎ (next.found ≡ (left_by s).conn)
      → Stops (cs ++ connections s) list (left_by s)
      → (room : Room) × CameTo (cs ++ connections s) list room
      × Stands (state g next.found).now.trees (config_of (left_by s).plan terminals) room
  comes_on cs s next list opens_next (inl found) e = e.leaves (state g next.found).now.trees found
  comes_on cs s next list opens_next (inr same) e =
      (e.now, e.come, stands_on g message_text answer_text s next terminals e.now opens_next e.is same)

  all_starts : (cs : List (Conversation S)) (s : Start S) (starts : List (Start S))
      (parts : List Part) (from list : List ℕ) (now : Room)
      → AreStarts g message_text answer_text (s ∷ starts) → All (IsTrusted g) (s ∷ starts)
      → IsAlike s → IsRoom g s.opened terminals now
      → All (HasNoTwin g terminals) (s ∷ starts) → CameTo cs from now
      → AreParts g (s ∷ starts) parts from list → Over cs (s ∷ starts) list
  all_starts cs s starts [] from list now are clean alike is twins come parts_are = absurd parts_are
  all_starts cs s [] (part ∷ []) from list now are clean alike is twins come (before, p, (whole, cut, same)) =
      let e = start_ends cs s part from now are (All-head (IsTrusted g) s [] clean) alike is
      (All-head (HasNoTwin g terminals) s [] twins) come before p whole cut in
      record {
        now = e.now;
        come = subst (λ (t : List ℕ). CameTo (cs ++ (connections s ++ [])) t e.now) (sym same)
            (subst (λ (ds : List (Conversation S)). CameTo (cs ++ ds) whole e.now) (sym (append-nil (connections s)))
            e.come);
        is = e.is;
      }
  all_starts cs s [] (part ∷ other ∷ parts) from list now are clean alike is twins come
      (before, p, (whole, cut, more)) = absurd more
  all_starts cs s (next ∷ starts) (part ∷ parts) from list now (start, follows, later) clean alike is twins come
      (before, p, (whole, cut, more)) =
      let here = All-head (IsTrusted g) s (next ∷ starts) clean in
      let rest = All-tail (IsTrusted g) s (next ∷ starts) clean in
      let e = start_ends cs s part from now start here alike is
      (All-head (HasNoTwin g terminals) s (next ∷ starts) twins) come before p whole cut in
      let next_start = first_of g next starts later in
      let opens_next = opens g message_text answer_text next next_start (All-head (IsTrusted g) next starts rest) in
      let left = comes_on cs s next whole opens_next follows.0 e in
      let opened = opens_it g message_text answer_text s next terminals left.0 opens_next left.2 in
      let next_alike : IsAlike next = record {
        zone = sym opened.0 ∙ one_zone g message_text answer_text s start here ∙ alike.zone;
        history = follows.1 ∙ alike.history;
      } in
      let
      then =
      all_starts (cs ++ connections s) next starts parts whole list left.0 later rest next_alike opened.1
      (All-tail (HasNoTwin g terminals) s (next ∷ starts) twins) left.1 more in
      record {
        now = then.now;
        come =
            subst (λ (ds : List (Conversation S)). CameTo ds list then.now)
            (append_assoc cs (connections s) (flat_map connections (next ∷ starts))) then.come;
        is = then.is;
      }

  -- what it comes to is a replay
  list_of : (starts : List (Start S)) (list : List ℕ) → Over [] starts list
      → IsListOf g terminals setting (digits_of digest_of text) starts held list
  list_of starts list over = elim over.come [
    | inl fresh ↦ record {
      turns = [];
      are_turns = All-nil _;
      replayed = All-nil _;
      entries = All-nil _;
      begun = inl refl;
      text = sym fresh.list_is;
      after = held;
      replay = refl;
      given = fresh.given;
      leads =
          of_last g (λ s. IsRoom g (left_by s) terminals over.now) _
          (λ s is. inl (subst (λ (r : Room). IsRoom g (left_by s) terminals r) fresh.now_is is)) starts over.is;
    }
    | inr some ↦ elim some [
      | inl s ↦ record {
        turns = s.turns;
        are_turns = s.recorded.are_turns;
        replayed = s.recorded.replayed;
        entries = s.recorded.entries;
        begun = inr s.begun;
        text = s.recorded.text;
        after = over.now;
        replay = s.recorded.replay;
        given = s.given;
        leads = of_last g (λ s. IsRoom g (left_by s) terminals over.now) _ (λ s is. inl is) starts over.is;
      }
      | inr w ↦
          let response = left_open machine setting (digits_of digest_of text) terminals
          (AreGiven (flat_map connections starts)) held w.text list w.turns w.after w.p.at w.p.sent w.recorded w.entry
          w.list_is in
          record {
            turns = w.turns ++ left_out w.p.at w.p.sent ∷ [];
            are_turns = response.are_turns;
            replayed = response.replayed;
            entries = response.entries;
            begun = inr (begun-append w.turns (left_out w.p.at w.p.sent ∷ []) w.begun);
            text = response.text;
            after = w.after;
            replay = response.replay;
            given =
                subst (λ (a : List (List ℕ)). AreGiven (flat_map connections starts) a)
                (sym (no_answer w.turns (left_out w.p.at w.p.sent) refl)) w.given;
            leads = of_last g (λ s. IsRoom g (left_by s) terminals over.now) _
                (λ s is.
                inr (
                  ends_open-push w.turns w.p.at w.p.sent,
                  (arrived w.p.whole, w.p.at),
                  over.now,
                  w.p.response,
                  w.reply,
                  is,
                ))
                starts over.is;
          }
    ]
  ]

pub list_is_the_room_law : {S : Type 0} (g : Ghosts S) → ListIsTheRoom g
list_is_the_room_law g first more parts list home room starts clean stands twins parts_are =
    let start = first_of g first more starts in
    let here = All-head (IsTrusted g) first more clean in
    let is = ((opens g message_text answer_text first start here).2.same home room stands).1 in
    list_of g first.setting first.opened.plan.zone start.in_zone home.terminals room (first ∷ more) list
    (all_starts g first.setting first.opened.plan.zone start.in_zone home.terminals room [] first more parts [] list
    room starts clean (record { zone = refl; history = refl }) is twins
    (inl (record { list_is = refl; now_is = refl; given = refl })) parts_are)

-- ---- what serving gives
pub served_keeps_its_part_law : {S : Type 0} (g : Ghosts S) → ServedKeepsItsPart g
served_keeps_its_part_law g found old new renews most worked part history of_old of_new is =
    let s = served_start g true room_text message_text answer_text history found old new renews most worked
    (λ store. (of_old store).0) (λ store. (of_new store).0) is in
    let before = (of_old s.0.opened).1 in
    let after = ap (λ (t : Service _). t.stage.kept) s.1.last_is ∙ (of_new s.1.last).1 in (
      s.0,
      s.1.start,
      s.1.found_is,
      s.1.closed,
      s.1.history_is,
      elim s.1.head [
        | inl (text, head, grows) ↦ record {
          front = text;
          begun = inl (text, head, inl refl);
          first = appended (old s.0.opened).stage.kept s.0.first.stage.kept part.before text before grows;
          last = after;
        }
        | inr (none, fault, keeps) ↦ elim keeps [
          | inl same ↦ record {
            front = [];
            begun = inr (none, refl);
            first = same ∙ before ∙ ap (λ t. Some t) (sym (append-nil part.before));
            last = after;
          }
          | inr (text, front, head, first, grows) ↦ record {
            front = front;
            begun = inl (text, head, inr (none, first));
            first = appended (old s.0.opened).stage.kept s.0.first.stage.kept part.before front before grows;
            last = after;
          }
        ]
      ],
    )
