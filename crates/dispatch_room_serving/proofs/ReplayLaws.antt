-- A list that a room's service kept is replayed to the room at its end.
use Rattle.std.proofs.Common.{subst, sym, ℕ, List, [], ◌∷◌, None, Some}
use Rattle.std.proofs.lemmas.Result.{MatchResult-weaker}
use Rattle.jiff.specs.Placed.{IsPosixZone}
use Rattle.sqlite_trees.specs.declared.store.Store.{Ghosts}
use Rattle.room_types.specs.declared.fleet.Terminal.{Terminal}
use Rattle.room_model.specs.Room.{Room}
use Rattle.room_model.specs.Digests.{DigitsOf, digits_of}
use Rattle.room_model.specs.Rooms.{machine}
use Rattle.room_http_time.specs.Days.{zone_of}
use Rattle.room_http.specs.Settings.{IsSetting}
use Rattle.room_http.specs.declared.settings.HttpSettings.{HttpSettings}
use Rattle.room_store.specs.StoredRoom.{IsRoom}
use Rattle.room_store.specs.declared.store.Store.{Store}
use Rattle.room_store_file.specs.DigestTexts.{digest_of}
use Rattle.dispatch_room_journal.specs.Replays.{Answers, Does, IsReplay, Replays}
use Rattle.dispatch_room_journal.specs.ReplayedTurns.{Play, Turn, answered, caught_up, compared}
use Rattle.dispatch_room_journal.specs.ReplayedTurns.{left_out, timed, tried}
use Rattle.dispatch_room_journal.proofs.WholeLaws.{whole_law}
use Rattle.dispatch_room_serving.specs.Lists.{ListIsReplayed}
use Rattle.dispatch_room_serving.proofs.HeardLists.{reply_in}
use Rattle.room_tables_schema.specs.FileConnections.{IsClean}

-- ---- a replay in another setting of the same zone and history
module _ (text : List ℕ) (a b : HttpSettings) (in_a : IsSetting text b.history a)
    (in_b : IsPosixZone text (zone_of b.zone)) (digits : DigitsOf) (terminals : List Terminal) where
  play_in : (room : Room) (p : Play) (after : Room)
      → Answers machine a digits terminals room p after → Answers machine b digits terminals room p after
  play_in room p after is = reply_in text a b in_a in_b terminals room (timed p) after p.response is

  turn_in : (room : Room) (t : Turn) (after : Room) → Does machine a digits terminals room t after
      → Does machine b digits terminals room t after
  turn_in room (compared head) after is = is
  turn_in room (answered p status) after is = play_in room p after is
  turn_in room (caught_up p head) after is = (is.0, play_in room p after is.1, is.2)
  turn_in room (tried p) after is = play_in room p after is
  turn_in room (left_out at sent) after is = is

  replay_in : (room : Room) (ts : List Turn) (after : Room)
      → IsReplay machine a digits terminals room ts after
      → IsReplay machine b digits terminals room ts after
  replay_in room [] after is = is
  replay_in room (t ∷ ts) after is = (is.0, turn_in room t is.0 is.1, replay_in is.0 ts after is.2)

pub list_is_replayed_law : {S T : Type 0} (g : Ghosts S) (h : Ghosts T) → ListIsReplayed g h
list_is_replayed_law g h terminals here there text starts room list in_here in_there of old new read_failed result same
    clean is replays =
    let digits : DigitsOf = digits_of digest_of text in
    let clean_new = IsClean h new.conn in
    let of_text = subst
    (λ (z : List ℕ).
    Replays machine there (digits_of digest_of z) clean_new (IsRoom h old) (IsRoom h new) (Some list) None read_failed
    result) same replays in
    let given = whole_law machine digits (λ (s : Store _). IsClean h s.conn) (λ (s : Store _). IsRoom h s)
    there terminals room of.after of.turns of.are_turns of.replayed
    of.entries of.begun
    (replay_in text here there in_here in_there digits terminals room of.turns of.after of.replay) old new read_failed
    result
    (subst (λ (l : List ℕ).
    Replays machine there digits clean_new (IsRoom h old) (IsRoom h new) (Some l) None read_failed result) (sym of.text)
    of_text) clean is in
    MatchResult-weaker result given (λ done it. (it.0, it.1)) (λ stopped it. it)
