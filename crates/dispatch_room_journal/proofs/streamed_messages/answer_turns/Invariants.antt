use Rattle.std.proofs.Common.{◌≡◌, false, List, length, None}
use Rattle.std.specs.Io.KnownBytes.{prepend_known, Appends}
use Rattle.dispatch_room_journal.specs.AnswerFrames.{frames_of}
use Rattle.dispatch_room_journal.specs.ReplaySteps.{Passes, IsProgress}
use Rattle.dispatch_room_journal.specs.ReplayedTurns.{Turn, IsPlayed}
use Rattle.dispatch_room_journal.specs.Replays.{digits_of}
use Rattle.dispatch_room_journal.proofs.streamed_messages.answer_turns.Given as goal

abbrev pub invariant-turns : goal.invariant-turns
invariant-turns g l = record {
  same_reference : l.writer.output.ghost_name ≡ l.initial.writer.output.ghost_name;
  going : (us : List Turn)
      × Passes g.M.Room.step l.handler.setting (digits_of g.M.Digested.digest_of (g.M.Room.zone l.initial.room))
      (g.M.Room.is_trusted l.room) (g.M.Room.stands l.initial.room)
      (g.M.Room.stands l.room)
      (g.R.Source.left l.initial.reader) (prepend_known l.inbox.kept (g.R.Source.left l.reader)) None IsPlayed us
      × IsProgress l.progress us
      × Appends (g.O.Write.contents l.initial.writer.output.now) (g.O.Write.contents l.writer.output.now) (frames_of us)
      × (length us ≡ l._turn);
  zone : g.M.Room.zone l.room ≡ g.M.Room.zone l.initial.room;
  trusted : g.M.Room.is_trusted l.room → g.M.Room.is_trusted l.initial.room;
  kept : g.M.Room.is_trusted l.room → g.M.Room.is_kept l.initial.room → g.M.Room.is_kept l.room;
  reader : g.R.Source.has_failed l.reader ≡ false;
  writer : l.writer.failed ≡ false;
  ready : g.M.Room.is_ready l.room;
}
