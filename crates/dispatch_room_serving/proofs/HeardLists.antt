-- What the list that is kept comes to on the connections of a start.
use Rattle.std.proofs.Common.{◌≡◌, ◌∙◌, ◌≤◌, ◌<◌, ◌⊎◌, inl, inr, sym, ap, subst, refl, arith, ℕ}
use Rattle.std.proofs.Common.{zero, suc, List, [], ◌∷◌, ◌++◌, length, length-append, append-nil}
use Rattle.std.proofs.Common.{append_assoc, Option, Some, None, Ok}
use Rattle.std.specs.Prelude.{All}
use Rattle.std.specs.Int.{to_be_bytes, w32}
use Rattle.std.specs.Io.KnownBytes.{Appends}
use Rattle.std.proofs.lemmas.List.{append_cancel_left}
use Rattle.std.proofs.lemmas.List.Elements.{All-append, All-from_recursion, All-head, All-nil}
use Rattle.std.proofs.lemmas.List.Elements.{All-tail}
use Rattle.hex.proofs.HexLemmas.{length-encode_with}
use Rattle.hex.specs.Hex.{lower_digits}
use Rattle.jiff.specs.Placed.{IsPosixZone}
use Rattle.sha2.proofs.Facts256.{length-sha256}
use Rattle.sha2.specs.Sha256.{digest_bytes, sha256}
use Rattle.sqlite.specs.Held.{state}
use Rattle.sqlite_trees.specs.Tree.{Trees}
use Rattle.sqlite_trees.specs.declared.store.Store.{Ghosts}
use Rattle.room_types.specs.declared.asks.Event.{Event}
use Rattle.room_types.specs.declared.fleet.Terminal.{Terminal}
use Rattle.room_model.specs.Room.{Room}
use Rattle.room_model.specs.Digests.{DigitsOf, digits_of}
use Rattle.room_model.specs.Rooms.{machine}
use Rattle.room_model.specs.declared.digests.Version.{Version}
use Rattle.room_http_time.specs.Days.{zone_of}
use Rattle.room_types.specs.declared.numbers.TheConstants.{LAST_MOMENT}
use Rattle.room_http.specs.Settings.{IsSetting}
use Rattle.room_http.specs.declared.settings.HttpSettings.{HttpSettings}
use Rattle.room_http.specs.Arrivals.{message as arrived, refused}
use Rattle.room_http.specs.ServedTrace.{AreFirstIn}
use Rattle.room_http.specs.KeptMessages.{AreKept as AreRecords, AreReplies, IsCome}
use Rattle.room_http.specs.Runs.{AreAnswered, Exchange, arrivals_of, events_of, room_by}
use Rattle.room_http.specs.ServedRuns.{Served}
use Rattle.room_http.specs.Dialogues.{Finds, IsReplyTo, LeavesNext, Timed, replied}
use Rattle.room_http.specs.declared.session.ServeEnd.{ServeEnd}
use Rattle.room_http.specs.declared.session.ServeEnd.TheVariants as end
use Rattle.room_http.proofs.ExchangeLemmas.{exchange_of, found_in}
use Rattle.room_http.proofs.LawLemmas.{one_dialogue_law}
use Rattle.room_http.proofs.RunLemmas.{run_first}
use Rattle.room_http.proofs.DialogueLemmas.{IsDialogue-one}
use Rattle.room_store.specs.StoredRoom.{IsKept, IsRoom, LeavesOneOf}
use Rattle.room_store.specs.declared.store.Store.{Store}
use Rattle.room_store_file.specs.DigestTexts.{digest_of}
use Rattle.room_store_writes.specs.Configurations.{config_of}
use Rattle.room_tables.specs.RoomsInTables.{Stands}
use Rattle.room_tables_rows.proofs.OneRoom.{one_room}
use Rattle.dispatch_room_journal.specs.WholeEntries.{Follows}
use Rattle.dispatch_room_journal.specs.Entries.{Entry, IsDigest, IsPart, texts_of}
use Rattle.dispatch_room_journal.specs.JournalRecords.{answer_text, message_text}
use Rattle.dispatch_room_journal.proofs.DigestLemmas.{digits_of as are_digits}
use Rattle.dispatch_room_journal.specs.ReplayLaws.{answers_to_messages}
use Rattle.dispatch_room_journal.proofs.KeptTurns.{Come, Ready, Settled, come_course, come_moved}
use Rattle.dispatch_room_journal.proofs.KeptTurns.{come_none, come_record, come_settled, come_short}
use Rattle.dispatch_room_journal.proofs.KeptTurns.{come_still, come_unwritten, settle_record}
use Rattle.dispatch_room_journal.proofs.KeptTurns.{settle_unavailable}
use Rattle.dispatch_room_serving.specs.Connections.{AreNext, AreServed, Conversation, GoOnBefore}
use Rattle.dispatch_room_serving.specs.Connections.{GoesOn, IsNext, IsServed, Stage, fault_by}
use Rattle.dispatch_room_serving.specs.Connections.{stage_after}
use Rattle.dispatch_room_serving.specs.Lists.{AreGiven}
use Rattle.dispatch_room_serving.proofs.ConnectionLaws.{clean_before, kept_after, leaves_kept}
use Rattle.room_tables_schema.specs.FileConnections.{IsClean}

-- ---- what is known of a tape
pub appended : (old new : Option (List ℕ)) (list bytes : List ℕ) → old ≡ Some list
    → Appends old new bytes → new ≡ Some (list ++ bytes)
appended None new list bytes is grows = absurd (cc)
appended (Some xs) None list bytes is grows = absurd grows
appended (Some xs) (Some ys) list bytes is grows =
    let same : xs ≡ list = cc in ap (λ t. Some t) (grows ∙ ap (λ t. t ++ bytes) same)

pub same_known : (tape : Option (List ℕ)) (a b : List ℕ) → tape ≡ Some a → tape ≡ Some b → a ≡ b
same_known tape a b is also = cc

-- ---- digests in digits
bytes_small : (h : List ℕ) (n : ℕ) → All (λ byte. byte < 256) (digest_bytes h n)
unfolding digest_bytes
bytes_small h zero = All-nil (λ byte. byte < 256)
bytes_small h (suc n) =
    All-append (λ byte. byte < 256) (digest_bytes h n) (to_be_bytes w32 _) (bytes_small h n)
    (All-from_recursion (λ byte. byte < 256) (to_be_bytes w32 _)
    (omega arith, (omega arith, (omega arith, (omega arith, tt)))))

hash_small : (text : List ℕ) → All (λ byte. byte < 256) (sha256 text)
unfolding sha256
hash_small text = bytes_small _ 8

pub digest_is : (version : Version) (zone : List ℕ) (terminals : List Terminal) (room : Room)
    → IsDigest (digits_of digest_of zone version terminals room)
digest_is version zone terminals room =
    let hash = digest_of version zone terminals room in
    let long : length hash ≡ 32 = length-sha256 _ in
    (omega (arith, length-encode_with lower_digits hash, long), are_digits hash (hash_small _))

-- ---- answers that were given
module _ {S : Type 0} where
  given_join : (cs ds : List (Conversation S)) (answers others : List (List ℕ)) → AreGiven cs answers
      → AreGiven ds others → AreGiven (cs ++ ds) (answers ++ others)
  given_join [] ds answers others none given = subst (λ (a : List (List ℕ)). AreGiven ds (a ++ others)) (sym none) given
  given_join (c ∷ cs) ds answers others (more, rest, is, few, later) given =
      let response = answers_to_messages c.course.outs c.course.answers in (
        more,
        rest ++ others,
        ap (λ a. a ++ others) is ∙ append_assoc response (more ++ rest) others
            ∙ ap (λ a. response ++ a) (append_assoc more rest others),
        few,
        given_join cs ds rest others later given,
      )

  given_next : (cs : List (Conversation S)) (c : Conversation S) (old more : List (List ℕ))
      → AreGiven cs old → length more ≤ 1
      → AreGiven (cs ++ c ∷ []) (old ++ (answers_to_messages c.course.outs c.course.answers ++ more))
  given_next cs c old more given few =
      let response = answers_to_messages c.course.outs c.course.answers in
      given_join cs (c ∷ []) old (response ++ more) given
      (more, [], ap (λ a. response ++ a) (sym (append-nil more)), few, refl)

-- ---- answers in another setting of the same zone and history
module _ (text : List ℕ) (a b : HttpSettings) (in_a : IsSetting text b.history a)
    (in_b : IsPosixZone text (zone_of b.zone)) (terminals : List Terminal) where
  pub reply_in : (room : Room) (x : Timed) (after : Room) (bytes : List ℕ)
      → IsReplyTo machine a terminals room x after bytes
      → IsReplyTo machine b terminals room x after bytes
  reply_in room x after bytes reply =
      (reply.0, found_in text a b in_a in_b terminals x reply.0 reply.1, reply.2, reply.3)

  replies_in : (room : Room) (outs : List Timed) (answers : List (List ℕ)) (after : Room)
      → AreReplies machine a terminals room outs answers after
      → AreReplies machine b terminals room outs answers after
  replies_in room [] [] after replies = replies
  replies_in room [] (response ∷ answers) after replies = absurd replies
  replies_in room (x ∷ outs) [] after replies = absurd replies
  replies_in room (x ∷ outs) (response ∷ answers) after replies =
      (replies.0, reply_in room x replies.0 response replies.1, replies_in replies.0 outs answers after replies.2)

-- ---- what was exchanged is what was answered
module _ (setting : HttpSettings) (terminals : List Terminal) where
  abbrev Replies : Room → Timed → Room → List ℕ → Type 0
  Replies = IsReplyTo machine setting terminals

  one_reply : (room : Room) (x : Timed) (after other : Room) (bytes others : List ℕ)
      → Replies room x after bytes → Replies room x other others → after ≡ other
  one_reply room x after other bytes others is also =
      let dialogue = IsDialogue-one machine setting terminals room in
      (one_dialogue_law machine setting terminals room (x ∷ []) after other bytes others (dialogue after x bytes is)
      (dialogue other x others also)).0

  exchanged : (x : Exchange) (xs : List Exchange) (room : Room) (y : Timed)
      → AreAnswered setting terminals (x ∷ xs) room → x.arrival ≡ y
      → Replies room y (replied machine x.found room).0 x.bytes
  exchanged x xs room y answered is =
      subst (λ (t : Timed). Replies room t (replied machine x.found room).0 x.bytes) is
      (x.found, answered.0, refl, answered.1)

  -- the room after the first of them is the one after its answer
  module _ (o : Timed) (outs : List Timed) (response : List ℕ) (answers : List (List ℕ)) (x : Exchange)
      (xs : List Exchange) (room after : Room)
      (replies : AreReplies machine setting terminals room (o ∷ outs) (response ∷ answers) after)
      (answered : AreAnswered setting terminals (x ∷ xs) room) (is : x.arrival ≡ o) where
    next_replies : AreReplies machine setting terminals (replied machine x.found room).0 outs answers after
    next_replies = subst (λ (r : Room). AreReplies machine setting terminals r outs answers after)
        (one_reply room o replies.0 (replied machine x.found room).0 response x.bytes replies.1
        (exchanged x xs room o answered is)) replies.2

  same_room : (outs : List Timed) (answers : List (List ℕ)) (xs : List Exchange) (room after : Room)
      → AreReplies machine setting terminals room outs answers after
      → AreAnswered setting terminals xs room → arrivals_of xs ≡ outs → room_by xs room ≡ after
  same_room [] [] [] room after replies answered is = sym replies
  same_room [] [] (x ∷ xs) room after replies answered is = absurd (cc)
  same_room [] (response ∷ answers) xs room after replies answered is = absurd replies
  same_room (o ∷ outs) [] xs room after replies answered is = absurd replies
  same_room (o ∷ outs) (response ∷ answers) [] room after replies answered is = absurd (cc)
  same_room (o ∷ outs) (response ∷ answers) (x ∷ xs) room after replies answered is =
      let first : x.arrival ≡ o = cc in
      let rest : arrivals_of xs ≡ outs = cc in
      run_first x.found (events_of xs) room
      ∙ same_room outs answers xs (replied machine x.found room).0 after
      (next_replies o outs response answers x xs room after replies answered first) answered.2 rest

  last_reply : (outs : List Timed) (answers : List (List ℕ)) (xs : List Exchange) (y : Timed)
      (room after : Room) → AreReplies machine setting terminals room outs answers after
      → AreAnswered setting terminals xs room → arrivals_of xs ≡ outs ++ y ∷ []
      → (bytes : List ℕ) × Replies after y (room_by xs room) bytes
  last_reply [] [] [] y room after replies answered is = absurd (cc)
  last_reply [] [] (x ∷ []) y room after replies answered is =
      let reply = exchanged x [] room y answered (cc) in (
        x.bytes,
        subst (λ (r : Room). Replies r y (room_by (x ∷ []) room) x.bytes) (sym replies)
            (subst (λ (r : Room). Replies room y r x.bytes) (sym (run_first x.found [] room)) reply),
      )
  last_reply [] [] (x ∷ z ∷ xs) y room after replies answered is = absurd (cc)
  last_reply [] (response ∷ answers) xs y room after replies answered is = absurd replies
  last_reply (o ∷ outs) [] xs y room after replies answered is = absurd replies
  last_reply (o ∷ outs) (response ∷ answers) [] y room after replies answered is = absurd (cc)
  last_reply (o ∷ outs) (response ∷ answers) (x ∷ xs) y room after replies answered is =
      let first : x.arrival ≡ o = cc in
      let rest : arrivals_of xs ≡ outs ++ y ∷ [] = cc in
      let found = last_reply outs answers xs y (replied machine x.found room).0 after
      (next_replies o outs response answers x xs room after replies answered first) answered.2 rest in
      (found.0, subst (λ (r : Room). Replies after y r found.0) (sym (run_first x.found (events_of xs) room)) found.1)

  -- the answers to these arrivals and to one more
  replies_split : (outs : List Timed) (answers : List (List ℕ)) (text : List ℕ) (x : Timed)
      (response : List ℕ) (room after : Room) → AreRecords message_text answer_text outs answers text
      → AreReplies machine setting terminals room (outs ++ x ∷ []) (answers ++ response ∷ []) after
      → (mid : Room) × AreReplies machine setting terminals room outs answers mid
      × Replies mid x after response
  replies_split [] [] text x response room after kept replies =
      (room, refl, subst (λ (r : Room). Replies room x r response) (sym replies.2) replies.1)
  replies_split [] (first ∷ answers) text x response room after kept replies = absurd kept
  replies_split (o ∷ outs) [] text x response room after kept replies = absurd kept
  replies_split (o ∷ outs) (first ∷ answers) text x response room after kept replies =
      let rest = replies_split outs answers kept.1 x response replies.0 after kept.4 replies.2 in
      (rest.0, (replies.0, replies.1, rest.1), rest.2)

  -- an arrival that is kept as it came, and asks for an event, came in time
  in_time : (x : Timed) (coming : List ℕ) (event : Event) → IsCome message_text answer_text x coming
      → Finds setting terminals x (Ok event) → x.1 ≤ LAST_MOMENT
  in_time (arrived m, at) coming event came finds = came.2
  in_time (refused why head_only, at) coming event came finds = absurd (cc)

  -- the room after it, and its answer
  event_reply : (x : Timed) (coming : List ℕ) (event : Event) (room : Room)
      → IsCome message_text answer_text x coming → Finds setting terminals x (Ok event)
      → (bytes : List ℕ) × Replies room x (machine event room).0 bytes
  event_reply x coming event room came finds =
      let done = exchange_of setting terminals x event room (in_time x coming event came finds) finds in (
        done.0.bytes,
        subst (λ (r : Room). Replies room x r done.0.bytes) (ap (λ found. (replied machine found room).0) done.2)
            (exchanged done.0 [] room x done.3 done.1),
      )

-- ---- one arrival more than these
longer : (few many : List Timed) (x : Timed) → few ++ x ∷ [] ≡ many → length many ≤ length few → ⊥
longer few many x is short = omega (arith, short, ap length is, length-append few (x ∷ []))

same_last : (outs few : List Timed) (x y : Timed) → few ≡ outs → few ++ x ∷ [] ≡ outs ++ y ∷ [] → x ≡ y
same_last outs few x y is same =
    let last : x ∷ [] ≡ y ∷ [] = append_cancel_left outs (x ∷ []) (y ∷ []) (sym (ap (λ t. t ++ x ∷ []) is) ∙ same) in cc

-- ---- what a stop leaves
module _ {S : Type 0} (g : Ghosts S) where
  -- a store that is kept stands for one room
  one_of : (store : Store S) (terminals : List Terminal) (room other : Room)
      → IsRoom g store terminals room → IsRoom g store terminals other → IsKept g store → room ≡ other
  one_of store terminals room other is also kept =
      one_room (state g store.conn).now.trees (config_of store.plan terminals) (config_of store.plan terminals) room
      other (is.tables kept.is_open) (also.tables kept.is_open)

  -- the room after what was answered, or the one after the last arrival
  module _ (setting : HttpSettings) (terminals : List Terminal) (c : Conversation S) (now after : Room)
      (s : Served setting (AreFirstIn c.course c.before.left c.before.given c.after.given)
      c.before.held c.after.held (IsKept g c.from) (IsRoom g c.store) (LeavesOneOf g c.store) terminals now)
      (kept : IsKept g c.from)
      (replies : AreReplies machine setting terminals now c.course.outs c.course.answers after)
      (x : Timed) (last : c.course.last ≡ Some x) (coming : List ℕ)
      (came : IsCome message_text answer_text x coming) (db : Trees)
      (left : (state g c.store.conn).may_leave db) where
    abbrev StandsFor : Room → Type 0
    StandsFor room = Stands db (config_of c.store.plan terminals) room

    abbrev OneOf : Type 0
    OneOf = StandsFor after
        ⊎ ((next : Room) × (bytes : List ℕ) × IsReplyTo machine setting terminals after x next bytes × StandsFor next)

    abbrev Leaves : Type 0
    Leaves = LeavesOneOf g c.store terminals (room_by s.exchanges now ∷ [])
        ⊎ ((y : Timed)
        × AreFirstIn c.course c.before.left c.before.given c.after.given (arrivals_of s.exchanges ++ y ∷ [])
        × LeavesNext machine setting (LeavesOneOf g c.store) y terminals (room_by s.exchanges now))

    -- all but the last arrival were exchanged
    but_last : arrivals_of s.exchanges ≡ c.course.outs → Leaves → OneOf
    but_last all (inl only_one) = elim (only_one db left) [
      | inl stands ↦
          inl (subst StandsFor
          (same_room setting terminals c.course.outs c.course.answers s.exchanges now after replies s.run.answered all)
          stands)
      | inr none ↦ absurd none
    ]
    but_last all (inr (y, first, (event, finds, leaves))) =
        let room_is = same_room setting terminals c.course.outs c.course.answers s.exchanges now after replies
        s.run.answered all in
        elim first.0 [
          | inl same ↦ absurd (longer (arrivals_of s.exchanges) c.course.outs y same (omega (arith, ap length all)))
          | inr (z, last_z, same) ↦
              let z_is : z ≡ x = cc (last, last_z) in
              let y_is : y ≡ x = same_last c.course.outs (arrivals_of s.exchanges) y z all same ∙ z_is in
              let found = subst (λ (t : Timed). Finds setting terminals t (Ok event)) y_is finds in
              elim (leaves db left) [
                | inl stands ↦ inl (subst StandsFor room_is stands)
                | inr more ↦ elim more [
                  | inl stands ↦
                      let reply = event_reply setting terminals x coming event after came found in
                      inr (
                        (machine event after).0,
                        reply.0,
                        reply.1,
                        subst (λ (r : Room). StandsFor (machine event r).0) room_is stands,
                      )
                  | inr none ↦ absurd none
                ]
              ]
        ]

    -- the last arrival was exchanged too
    with_last : (y : Timed) → c.course.last ≡ Some y
        → arrivals_of s.exchanges ≡ c.course.outs ++ y ∷ [] → Leaves → OneOf
    with_last y last_y all (inl only_one) =
        let reply = last_reply setting terminals c.course.outs c.course.answers s.exchanges y now after replies
        s.run.answered all in
        let y_is : y ≡ x = cc (last, last_y) in
        elim (only_one db left) [
          | inl stands ↦
              inr (
                room_by s.exchanges now,
                reply.0,
                subst (λ (t : Timed). IsReplyTo machine setting terminals after t (room_by s.exchanges now) reply.0)
                    y_is reply.1,
                stands,
              )
          | inr none ↦ absurd none
        ]
    with_last y last_y all (inr (z, first, leaves)) =
        let long = ap length all ∙ length-append c.course.outs (y ∷ []) in
        elim first.0 [
          | inl same ↦ absurd (longer (arrivals_of s.exchanges) c.course.outs z same (omega (arith, long)))
          | inr (u, last_u, same) ↦
              absurd (longer (arrivals_of s.exchanges) (c.course.outs ++ u ∷ []) z same
              (omega (arith, long, length-append c.course.outs (u ∷ []))))
        ]

    leaves_one : OneOf
    leaves_one = elim s.arrivals.0 [
      | inl all ↦ but_last all (s.kept kept)
      | inr (y, last_y, all) ↦ with_last y last_y all (s.kept kept)
    ]

-- ---- the connections of a start
-- it may leave the store standing for rooms to which the list has come, and stands for one
pub record Ends {S : Type 0} (g : Ghosts S) (terminals : List Terminal) (Comes : Room → Type 0)
    (store : Store S) : Type 0 where
  pub now : Room
  pub come : Comes now
  pub is : IsRoom g store terminals now
  pub leaves : (db : Trees) → (state g store.conn).may_leave db
      → (room : Room) × Comes room × Stands db (config_of store.plan terminals) room

module _ {S : Type 0} (g : Ghosts S) (setting : HttpSettings) (text : List ℕ)
    (in_zone : IsPosixZone text (zone_of setting.zone)) (terminals : List Terminal) (held : Room) where
  abbrev pub digits : DigitsOf
  digits = digits_of digest_of text

  abbrev pub Comes : List (Conversation S) → List ℕ → Room → Type 0
  Comes cs = Come machine setting digits terminals (AreGiven cs) held

  abbrev pub Settles : List (Conversation S) → List ℕ → Room → Type 0
  Settles cs = Settled machine setting digits terminals (AreGiven cs) held

  abbrev pub EndsAt : List (Conversation S) → List ℕ → Store S → Type 0
  EndsAt cs list store = Ends g terminals (Comes cs list) store

  -- a stop leaves only this
  still_ends : (cs : List (Conversation S)) (list : List ℕ) (store : Store S) (now : Room)
      → Comes cs list now → IsRoom g store terminals now → LeavesOneOf g store terminals (now ∷ [])
      → EndsAt cs list store
  still_ends cs list store now come is leaves = record {
    now = now;
    come = come;
    is = is;
    leaves = λ db left. elim (leaves db left) [
      | inl stands ↦ (now, come, stands)
      | inr none ↦ absurd none
    ];
  }

  -- where nobody was heard after a look at the store
  pub no_calls : (cs : List (Conversation S)) (stage last : Stage S) (list : List ℕ) (now : Room)
      → last ≡ stage → Comes cs list now → IsRoom g stage.store terminals now
      → LeavesOneOf g stage.store terminals (now ∷ []) → EndsAt (cs ++ []) list last.store
  no_calls cs stage last list now same come is leaves =
      subst (λ (ds : List (Conversation S)). EndsAt ds list last.store) (sym (append-nil cs))
      (subst (λ (t : Stage S). EndsAt cs list t.store) (sym same) (still_ends cs list stage.store now come is leaves))

  -- in the setting in which they were served
  module _ (served_in : HttpSettings) (in_served : IsSetting text setting.history served_in) where
    ready : (cs : List (Conversation S)) (c : Conversation S) (list more : List ℕ) (now after : Room)
        → Settles cs list now
        → AreReplies machine served_in terminals now c.course.outs c.course.answers after
        → AreRecords message_text answer_text c.course.outs c.course.answers more
        → Ready machine setting digits terminals (AreGiven (cs ++ c ∷ [])) held (list ++ more) after
    ready cs c list more now after s replies kept =
        come_course machine setting digits terminals (AreGiven cs) (AreGiven (cs ++ c ∷ [])) held list more now after
        c.course.outs c.course.answers
        (λ old answers given few. given_next cs c old answers given few) s
        (replies_in text served_in setting in_served in_zone terminals now c.course.outs c.course.answers after replies)
        kept

    module _ (cs : List (Conversation S)) (c : Conversation S) (stage : Stage S) (list : List ℕ)
        (now : Room) (next : IsNext g served_in message_text answer_text stage c)
        (clean : IsClean g c.store.conn) (s : Settles cs list now)
        (is : IsRoom g stage.store terminals now) (known : stage.kept ≡ Some list) where
      abbrev All_of : List (Conversation S)
      All_of = cs ++ c ∷ []

      from_is : IsRoom g c.from terminals now
      from_is = subst (λ (t : Stage S). IsRoom g t.store terminals now) (sym next.begins) is

      kept_is : c.kept ≡ Some list
      kept_is = ap (λ (t : Stage S). t.kept) next.begins ∙ known

      abbrev base : List ℕ
      base = list ++ next.observed.text

      abbrev IsReady : Room → Type 0
      IsReady = Ready machine setting digits terminals (AreGiven All_of) held base

      keeps_more : (tail : List ℕ) → Appends c.kept c.keeps (next.observed.text ++ tail)
          → c.keeps ≡ Some (base ++ tail)
      keeps_more tail grows =
          appended c.kept c.keeps list (next.observed.text ++ tail) kept_is grows
          ∙ ap (λ t. Some t) (sym (append_assoc list next.observed.text tail))

      made : (after : Room) → AreReplies machine served_in terminals now c.course.outs c.course.answers after
          → IsReady after
      made after replies = ready cs c list next.observed.text now after s replies next.observed.kept

      -- the last arrival was acted on too
      acted : (x : Timed) (answer : List ℕ) (after : Room)
          → AreReplies machine served_in terminals now (c.course.outs ++ x ∷ []) (c.course.answers ++ answer ∷ []) after
          → (mid : Room) × IsReady mid × IsReplyTo machine setting terminals mid x after answer
      acted x answer after replies =
          let split = replies_split served_in terminals c.course.outs c.course.answers next.observed.text x answer now
          after next.observed.kept replies in (
            split.0,
            made split.0 split.1,
            reply_in text served_in setting in_served in_zone terminals split.0 x after answer split.2,
          )

      -- ---- more is served after it
      record Middle : Type 0 where
        list_after : List ℕ
        after : Room
        settled : Settles All_of list_after after
        keeps : c.keeps ≡ Some list_after
        stands : IsRoom g c.store terminals after

      no_more : GoesOn c → c.end ≡ end.JournalFailed → ⊥
      no_more goes unkept =
          let fault : fault_by end.JournalFailed c.store.is_sound
          ≡ None = subst (λ (e : ServeEnd). fault_by e c.store.is_sound ≡ None) unkept goes in
          cc

      middle : GoesOn c → Middle
      middle goes = elim next.observed.ends [
        | inl (none, lasts, moved, begins, (late, is_late, grow)) ↦
            let m = moved clean terminals now from_is in
            record {
              list_after = base;
              after = m.0;
              settled = (made m.0 m.1).settled;
              keeps = appended c.kept c.keeps list next.observed.text kept_is grow.kept;
              stands = m.2;
            }
        | inr (x, last, tail, wrote, begins, begun, grow) ↦ elim begun [
          | inl (unmoved, few) ↦ elim few [
            | inl (lasts, short, unkept) ↦ absurd (no_more goes unkept)
            | inr cause ↦
                let m = unmoved clean terminals now from_is in
                record {
                  list_after = base ++ tail;
                  after = m.0;
                  settled =
                      settle_unavailable machine setting digits terminals (AreGiven All_of) held base m.0 (made m.0 m.1)
                      x
                      tail wrote cause;
                  keeps = keeps_more tail grow.kept;
                  stands = m.2;
                }
          ]
          | inr (answer, moved, lasts, few) ↦ elim few [
            | inl (unwritten, unkept) ↦ absurd (no_more goes unkept)
            | inr (whole, front) ↦
                let m = moved clean terminals now from_is in
                let done = acted x answer m.0 m.1 in
                record {
                  list_after = base ++ tail;
                  after = m.0;
                  settled =
                      settle_record machine setting digits terminals (AreGiven All_of) held base done.0 done.1 x answer
                      tail m.0 whole done.2;
                  keeps = keeps_more tail grow.kept;
                  stands = m.2;
                }
          ]
        ]
      ]

      -- ---- it is the last one
      module _ (xs : List Exchange) (served : IsServed g served_in terminals c xs now)
          (kept : IsKept g c.from) (after : List ℕ) (after_is : c.keeps ≡ Some after)
          (entries : List Entry) (rest : List ℕ) (follows : Follows after entries rest)
          (end_is : (rest ≡ []) ⊎ IsPart rest) where
        abbrev Came : Room → Type 0
        Came = Comes All_of (texts_of entries)

        -- what follows, where the list has grown by so much
        grown : (list_after : List ℕ) → c.keeps ≡ Some list_after → Follows list_after entries rest
        grown list_after keeps = (follows.0, same_known c.keeps list_after after keeps after_is ∙ follows.1)

        only_one : (room : Room) → Came room → IsRoom g c.store terminals room → IsKept g c.store
            → EndsAt All_of (texts_of entries) c.store
        only_one room come stands lasts =
            still_ends All_of (texts_of entries) c.store room come stands
            (leaves_kept g c.store terminals room stands lasts)

        last_one : EndsAt All_of (texts_of entries) c.store
        last_one = elim next.observed.ends [
          | inl (none, lasts, moved, begins, (late, is_late, grow)) ↦
              let m = moved clean terminals now from_is in
              let it = grown base (appended c.kept c.keeps list next.observed.text kept_is grow.kept) in
              only_one m.0
              (come_none machine setting digits terminals (AreGiven All_of) held base m.0 (made m.0 m.1) entries rest
              end_is it) m.2 (lasts clean kept)
          | inr (x, last, tail, wrote, begins, begun, grow) ↦
              let it = grown (base ++ tail) (keeps_more tail grow.kept) in
              elim begun [
                | inl (unmoved, few) ↦
                    let m = unmoved clean terminals now from_is in
                    let r = made m.0 m.1 in
                    elim few [
                      | inl (lasts, short, unkept) ↦
                          let come = come_short machine setting digits terminals (AreGiven All_of) held base m.0 r
                          entries rest end_is x tail wrote short it in
                          only_one m.0 come m.2 (lasts clean kept)
                      | inr cause ↦
                          let come = come_still machine setting digits terminals (AreGiven All_of) held base m.0 r
                          entries rest end_is x tail wrote cause it in
                          record {
                            now = m.0;
                            come = come;
                            is = m.2;
                            leaves =
                                λ db left.
                                elim (leaves_one g served_in terminals c now m.0 served.served kept m.1 x last tail
                                cause.0 db left) [
                                  | inl stands ↦ (m.0, come, stands)
                                  | inr (room, bytes, reply, stands) ↦
                                      let here = reply_in text served_in setting in_served in_zone terminals m.0 x room
                                      bytes reply in (
                                        room,
                                        come_moved machine setting digits terminals (AreGiven All_of) held base m.0 r
                                            entries rest end_is x tail wrote bytes room cause it here,
                                        stands,
                                      )
                                ];
                          }
                    ]
                | inr (answer, moved, lasts, few) ↦
                    let m = moved clean terminals now from_is in
                    let done = acted x answer m.0 m.1 in
                    elim few [
                      | inl (unwritten, unkept) ↦
                          let come = come_unwritten machine setting digits terminals (AreGiven All_of) held base done.0
                          done.1 entries rest end_is x answer tail wrote m.0 unwritten it done.2 in
                          only_one m.0 come m.2 (lasts clean kept)
                      | inr (whole, front) ↦
                          let come = come_record machine setting digits terminals (AreGiven All_of) held base done.0
                          done.1 entries rest end_is x answer tail m.0 whole it done.2 in
                          only_one m.0 come m.2 (lasts clean kept)
                    ]
              ]
        ]

    -- ---- one after another
    all_calls : (cs : List (Conversation S)) (c : Conversation S) (more : List (Conversation S))
        (stage last : Stage S) (list after : List ℕ) (now : Room) (dialogues : List (List Exchange))
        → AreNext g served_in message_text answer_text (c ∷ more) stage last
        → AreServed g served_in terminals (c ∷ more) dialogues now → All (λ d. IsKept g d.from) (c ∷ more)
        → GoOnBefore (c ∷ more) → IsClean g last.store.conn → Settles cs list now
        → IsRoom g stage.store terminals now → stage.kept ≡ Some list → last.kept ≡ Some after
        → (entries : List Entry) (rest : List ℕ) → Follows after entries rest
        → (rest ≡ []) ⊎ IsPart rest → EndsAt (cs ++ c ∷ more) (texts_of entries) last.store
    all_calls cs c more stage last list after now [] next served kept go clean s is known after_is entries rest follows
        end_is = absurd served
    all_calls cs c [] stage last list after now (xs ∷ dialogues) next served kept go clean s is known after_is entries
        rest
        follows end_is =
        subst (λ (t : Stage S). EndsAt (cs ++ c ∷ []) (texts_of entries) t.store) (sym next.1)
        (last_one cs c stage list now next.0 (subst (λ (t : Stage S). IsClean g t.store.conn) next.1 clean)
        s is known
        xs served.0 (All-head (λ d. IsKept g d.from) c [] kept) after
        (sym (ap (λ (t : Stage S). t.kept) next.1) ∙ after_is) entries rest follows end_is)
    all_calls cs c (d ∷ more) stage last list after now (xs ∷ dialogues) next served kept go clean s is known after_is
        entries rest follows end_is =
        let clean_here = clean_before g served_in message_text answer_text (d ∷ more) (stage_after c) last next.1
        clean in
        let m = middle cs c stage list now next.0 clean_here s is known go.0 in
        let stands = subst (λ (es : List Exchange). IsRoom g c.store terminals (room_by es now)) served.0.exchanged
        served.0.served.after in
        let same : room_by xs now
        ≡ m.after =
        one_of g c.store terminals (room_by xs now) m.after stands m.stands
        (kept_after g served_in message_text answer_text stage c next.0 go.0 clean_here) in
        let
        then =
        all_calls (cs ++ c ∷ []) d more (stage_after c) last m.list_after after m.after dialogues next.1
        (subst (λ (r : Room). AreServed g served_in terminals (d ∷ more) dialogues r) same served.1)
        (All-tail (λ e. IsKept g e.from) c (d ∷ more) kept) go.1 clean m.settled m.stands m.keeps after_is entries rest
        follows end_is in
        subst (λ (ds : List (Conversation S)). EndsAt ds (texts_of entries) last.store)
        (append_assoc cs (c ∷ []) (d ∷ more)) then

    -- from the head of a start on
    pub calls_end : (cs ds : List (Conversation S)) (stage last : Stage S) (list after : List ℕ) (now : Room)
        (dialogues : List (List Exchange)) → AreNext g served_in message_text answer_text ds stage last
        → AreServed g served_in terminals ds dialogues now → All (λ d. IsKept g d.from) ds → GoOnBefore ds
        → IsClean g last.store.conn → Settles cs list now
        → IsRoom g stage.store terminals now → LeavesOneOf g stage.store terminals (now ∷ [])
        → stage.kept ≡ Some list → last.kept ≡ Some after
        → (entries : List Entry) (rest : List ℕ) → Follows after entries rest
        → (rest ≡ []) ⊎ IsPart rest → EndsAt (cs ++ ds) (texts_of entries) last.store
    calls_end cs [] stage last list after now dialogues next served kept go clean s is leaves known after_is entries
        rest
        follows end_is =
        let same : list
        ≡ after = same_known stage.kept list after known (sym (ap (λ (t : Stage S). t.kept) next) ∙ after_is) in
        no_calls cs stage last (texts_of entries) now next
        (come_settled machine setting digits terminals (AreGiven cs) held entries rest end_is list now s
        (follows.0, same ∙ follows.1)) is leaves
    calls_end cs (c ∷ more) stage last list after now dialogues next served kept go clean s is leaves known after_is
        entries
        rest follows end_is =
        all_calls cs c more stage last list after now dialogues next served kept go clean s is known after_is entries
        rest
        follows end_is
