use Rattle.std.proofs.Common.{◌≡◌, ◌∙◌, ◌<◌, ap, refl, arith, subst, sym, length, ◌-◌, ℕ, List, []}
use Rattle.std.proofs.Common.{◌∷◌, ◌++◌, None, false}
use Rattle.std.specs.Prelude.{⊤}
use Rattle.std.specs.Io.KnownBytes.{prepend_known}
use Rattle.room_http.specs.declared.session.ServeEnd.TheVariants.{Closed, Memory}
use Rattle.room_http.specs.ConnectionReads.{kept_after}
use Rattle.room_http.specs.Session.{Finish}
use Rattle.room_http.proofs.KeptLemmas.{Noted-breaks, Noted-closes, Noted-ends, Noted-kept}
use Rattle.room_http.proofs.KeptLemmas.{Noted-more, Noted-none}
use Rattle.room_http.proofs.ServeLemmas.{Going-ends, Going-none, Going-kept, Going-more, closes}
use Rattle.room_http.proofs.ServeLemmas.{ends, ends_missing_none, stops, stops_missing_none}
use Rattle.room_http.proofs.ServedLaws.{one_course}
use Rattle.room_http.proofs.StreamLemmas.{CountsBy-none, Passes, Keeps-prepend, open_is_message}
use Rattle.room_http.proofs.StreamLemmas.{read_goes_on, read_passes, read_whole, reads_by}
use Rattle.room_http.proofs.StreamLemmas.{shown_bounded}
use Rattle.room_http.proofs.session.serve.Given.{Over}
use Rattle.room_http.proofs.session.serve.Goals.{In-Ok-arrived}
use Rattle.room_http.proofs.session.serve.Goals as goal

pub messages-init : goal.messages-init
messages-init g c =
    let none : c.args.budget - c.args.budget ≡ 0 = omega arith in
    record {
      run = (
        [],
        [],
        Going-kept _ _ _ _ _ _ _ _ _ _ _
            (Going-none g.M.Room.step c.args.handler.now.setting _ _ _ _
            (λ terminals room standing. (standing, λ was. g.met.M.Room.leaves_it _ terminals room was standing)))
            (Keeps-prepend _ _ c.in-Ok.ensures),
        Noted-kept _ _ _ _ _ _ _ _ _ _ _ _ _ _
            (Noted-none g.N.Observer.came g.N.Observer.response g.M.Room.step c.args.handler.now.setting _ _ _ _)
            (Keeps-prepend _ _ c.in-Ok.ensures),
      );
      trusted = λ trust. trust;
      kept = λ trust was. was;
      spent = omega arith;
      reads = rw none (CountsBy-none _);
      reader = c.requires.reader;
      writer = c.requires.writer;
      ready = c.requires.ready;
      zone = refl;
      unfailed = refl;
    }

pub arrived-requires : goal.arrived-requires
arrived-requires g c =
    read_whole c.read_message-read.new.inbox _ _ _ _ c.read_message-read.result c.read_message-read.ensures.says

pub answer-requires-clause-bounded : goal.answer-requires-clause-bounded
answer-requires-clause-bounded g c =
    let shown = c.in-Ok-arrived.ensures.ok in shown_bounded c.in-Ok-arrived.arrived shown.0 shown.2

pub returns-in-Err-clause-reads : goal.returns-in-Err-clause-reads
returns-in-Err-clause-reads g c = (
  _,
  omega arith,
  reads_by _ _ _ _ _ _ c.messages.invariant.spent c.read_message-read.ensures.read.spent c.messages.invariant.reads
      c.read_message-read.ensures.read.count,
)

pub returns-in-Err-answer-clause-reads : goal.returns-in-Err-answer-clause-reads
returns-in-Err-answer-clause-reads g c = (
  _,
  omega arith,
  reads_by _ _ _ _ _ _ c.messages.invariant.spent c.read_message-read.ensures.read.spent c.messages.invariant.reads
      c.read_message-read.ensures.read.count,
)

pub returns-then-is_closing-clause-reads : goal.returns-then-is_closing-clause-reads
returns-then-is_closing-clause-reads g c = (
  _,
  omega arith,
  reads_by _ _ _ _ _ _ c.messages.invariant.spent c.read_message-read.ensures.read.spent c.messages.invariant.reads
      c.read_message-read.ensures.read.count,
)

-- what was read passes, once it was answered
passed : (g : Over) (c : In-Ok-arrived g)
    → Passes (prepend_known c.read_message-read.new.inbox (g.R.Source.left c.read_message-read.new.reader))
    (prepend_known (kept_after c.read_message-read.new.inbox c.read_message-read.result)
    (g.R.Source.left c.read_message-read.new.reader)) c.in-Ok-arrived.ensures.ok.0
passed g c =
    let read = c.read_message-read in
    let shown = c.in-Ok-arrived.ensures.ok in
    read_passes read.new.inbox (g.R.Source.left read.new.reader) read.new.budget _ _ read.result shown.0
    read.ensures.says shown.1

pub returns-in-Err-clause-run : goal.returns-in-Err-clause-run
returns-in-Err-clause-run g c =
    let read = c.read_message-read in
    let run = c.messages.invariant.run in
    let count = reads_by _ _ _ _ _ _ c.messages.invariant.spent read.ensures.read.spent c.messages.invariant.reads
    read.ensures.read.count in
    one_course _ _ _ _ _ _ _ _ _ (g.met.M.Room.fits _) _ _ _ c.args.budget c.in-Err.end
    (stops _ _ _ _ _ _ _ _ _ run.0 run.2 read.new.inbox _ read.ensures.read.same read.new.budget _ _ _ _ _ _ _ _ run.1
    c.args.budget count read.result c.in-Err.end read.ensures.says c.in-Err.ensures.err)
    (Noted-ends _ _ _ _ _ _ _ _ _ _ _ _ _ (Noted-kept _ _ _ _ _ _ _ _ _ _ _ _ _ _ run.3 read.ensures.read.same)
    c.in-Err.end _ c.messages.invariant.kept)

pub returns-in-Err-answer-clause-run : goal.returns-in-Err-answer-clause-run
returns-in-Err-answer-clause-run g c =
    let read = c.read_message-read in
    let run = c.messages.invariant.run in
    let shown = c.in-Ok-arrived.ensures.ok in
    let passes = passed g (goal.at.returns-in-Err-answer-clause-run g c).In-Ok-arrived in
    let answers = c.in-Err-answer.ensures.answers shown.0 shown.2 in
    one_course _ _ _ _ _ _ _ _ _ (g.met.M.Room.fits _) _ _ _ c.args.budget c.in-Err-answer.end
    (ends _ _ _ _ _ _ _ (g.M.Room.leaves_one_of c.messages.room) _ _ _ _ run.0 run.2 read.ensures.read.same _ _ _ _ _
    (g.M.Room.leaves_one_of c.answer.new.room) c.in-Err-answer.ensures.trusted
    (λ trust. c.messages.invariant.kept (c.in-Err-answer.ensures.trusted trust))
    _ shown.0 passes run.1 c.args.budget answers.0 c.in-Err-answer.end answers.1)
    (Noted-breaks _ _ _ _ _ _ _ (prepend_known read.new.inbox (g.R.Source.left read.new.reader)) _ _ _ _ _
    (g.M.Room.stands c.answer.new.room) c.in-Err-answer.ensures.trusted run.0 run.1 run.3 read.ensures.read.same _ _
    shown.0 passes answers.0 _ _
    (λ later trust was. later trust (c.messages.invariant.kept (c.in-Err-answer.ensures.trusted trust) was))
    c.in-Err-answer.end answers.2)

pub returns-then-is_closing-clause-run : goal.returns-then-is_closing-clause-run
returns-then-is_closing-clause-run g c =
    let read = c.read_message-read in
    let run = c.messages.invariant.run in
    let shown = c.in-Ok-arrived.ensures.ok in
    let passes = passed g (goal.at.returns-then-is_closing-clause-run g c).In-Ok-arrived in
    let answers = c.in_default-answer.ensures.answers shown.0 shown.2 in
    one_course _ _ _ _ _ _ _ _ _ (g.met.M.Room.fits _) _ _ _ c.args.budget Closed
    (closes _ _ _ _ _ _ _ (g.M.Room.leaves_one_of c.messages.room) _ _ _ _ run.0 run.2 read.ensures.read.same _ _ _ _ _
    (g.M.Room.leaves_one_of c.answer.new.room) c.in_default-answer.ensures.trusted
    (λ trust. c.messages.invariant.kept (c.in_default-answer.ensures.trusted trust))
    _ shown.0 passes (run.1 ++ answers.2.0 ∷ []) c.args.budget answers.0 answers.1
    (sym (c.is_closing.ensures shown.0 shown.2) ∙ c.if-is_closing.true))
    (Noted-closes _ _ _ _ _ _ _ (prepend_known read.new.inbox (g.R.Source.left read.new.reader)) _ _ _ _ _
    (g.M.Room.stands c.answer.new.room) c.in_default-answer.ensures.trusted run.0 run.1 run.3 read.ensures.read.same _ _
    shown.0 passes answers.0 _
    (g.M.Room.is_trusted c.answer.new.room → g.M.Room.is_kept c.messages.room → g.M.Room.is_kept c.answer.new.room)
    (λ later trust was. later trust (c.messages.invariant.kept (c.in_default-answer.ensures.trusted trust) was))
    answers.2 (λ trust was.
    c.in_default-answer.ensures.kept trust (c.messages.invariant.kept (c.in_default-answer.ensures.trusted trust) was)))

pub returns-in-Err-clause-none_missed : goal.returns-in-Err-clause-none_missed
returns-in-Err-clause-none_missed g c =
    let read = c.read_message-read in
    stops_missing_none _ _ _ _ _ _ _ _ _ c.messages.invariant.run.0 c.messages.invariant.run.2 read.new.inbox _
    read.ensures.read.same read.new.budget _ _ read.result c.in-Err.end read.ensures.says c.in-Err.ensures.err

pub returns-in-Err-answer-clause-none_missed : goal.returns-in-Err-answer-clause-none_missed
returns-in-Err-answer-clause-none_missed g c = ends_missing_none _ _ _ _ _ c.in-Err-answer.ensures.ends

pub returns-in-Err-clause-failed : goal.returns-in-Err-clause-failed
returns-in-Err-clause-failed g c others = c.messages.invariant.unfailed

pub returns-in-Err-answer-clause-failed : goal.returns-in-Err-answer-clause-failed
returns-in-Err-answer-clause-failed g c others =
    c.in-Err-answer.ensures.failed (λ is. others (cc)) ∙ c.messages.invariant.unfailed

pub returns-then-is_closing-clause-failed : goal.returns-then-is_closing-clause-failed
returns-then-is_closing-clause-failed g c others =
    c.in_default-answer.ensures.failed (λ is. absurd (cc)) ∙ c.messages.invariant.unfailed

-- what was refused has closed
pub messages-preserved : goal.messages-preserved
messages-preserved g c =
    let shown = c.in-Ok-arrived.ensures.ok in
    let open_ = open_is_message c.read_message-read.new.inbox c.read_message-read.result shown.0 shown.1
    (sym (c.is_closing.ensures shown.0 shown.2) ∙ c.if-is_closing.false) in
    absurd (c.in_default-read.not-Ok open_.0 open_.1)

pub messages-smaller : goal.messages-smaller
messages-smaller g c =
    let shown = c.in-Ok-arrived.ensures.ok in
    let open_ = open_is_message c.read_message-read.new.inbox c.read_message-read.result shown.0 shown.1
    (sym (c.is_closing.ensures shown.0 shown.2) ∙ c.if-is_closing.false) in
    absurd (c.in_default-read.not-Ok open_.0 open_.1)

pub messages-preserved-in-Ok-read : goal.messages-preserved-in-Ok-read
messages-preserved-in-Ok-read g c =
    let read = c.read_message-read in
    let kept = read.new.inbox in
    let left = g.R.Source.left read.new.reader in
    let shown = c.in-Ok-arrived.ensures.ok in
    let passes = passed g (goal.at.messages-preserved-in-Ok-read g c).In-Ok-arrived in
    let goes = sym (c.is_closing.ensures shown.0 shown.2) ∙ c.if-is_closing.false in
    let answers = c.in_default-answer.ensures.answers shown.0 shown.2 in
    let run = c.messages.invariant.run in
    let after = subst (λ (x : List ℕ). Passes (prepend_known kept left) (prepend_known x left) shown.0)
    (ap (kept_after kept) c.in-Ok-read.is ∙ sym c.remove.ensures) passes in
    let new : Finish = record {
      reads = None;
      held = g.W.Sink.held c.answer.new.writer;
      given = g.C.Clock.given c.answer.new.clock;
      read_failed = false;
      read_ended = false;
      write_failed = g.W.Sink.has_failed c.answer.new.writer;
      was_none = g.C.Clock.was_none c.answer.new.clock;
      observer_failed = g.N.Observer.has_failed c.answer.new.observer;
    } in
    record {
      run = (
        run.0 ++ (shown.0, answers.0) ∷ [],
        run.1 ++ answers.2.0 ∷ [],
        Going-more _ _ _ _ _ _ _ (g.M.Room.leaves_one_of c.messages.room) _ _ _ _ run.0 run.2 read.ensures.read.same new
            _ _ (g.M.Room.has_failed c.answer.new.room) (g.M.Room.stands c.answer.new.room)
            (g.M.Room.leaves_one_of c.answer.new.room) c.in_default-answer.ensures.trusted
            (λ trust. c.messages.invariant.kept (c.in_default-answer.ensures.trusted trust)) _ shown.0 after answers.0
            answers.1 goes,
        Noted-more _ _ _ _ _ _ _ _ _ _ _ _ _ (g.M.Room.stands c.answer.new.room) c.in_default-answer.ensures.trusted
            run.0 run.1 run.3 read.ensures.read.same _ _ shown.0 after answers.0 (Unit {0}) (Unit {0}) (λ same. same)
            answers.2 goes,
      );
      trusted = λ trust. c.messages.invariant.trusted (c.in_default-answer.ensures.trusted trust);
      kept =
          λ trust was.
          c.in_default-answer.ensures.kept trust
          (c.messages.invariant.kept (c.in_default-answer.ensures.trusted trust) was);
      spent = omega (arith, c.messages.invariant.spent, read.ensures.read.spent);
      reads =
          reads_by _ _ _ _ _ _ c.messages.invariant.spent read.ensures.read.spent c.messages.invariant.reads
          read.ensures.read.count;
      reader = (read_goes_on kept left read.new.budget _ _ read.result shown.0 read.ensures.says shown.1 goes).0;
      writer = answers.1.1;
      ready = c.in_default-answer.ensures.ready;
      zone = c.in_default-answer.ensures.zone ∙ c.messages.invariant.zone;
      unfailed = c.in_default-answer.ensures.failed (λ is. absurd (cc)) ∙ c.messages.invariant.unfailed;
    }

pub messages-smaller-in-Ok-read : goal.messages-smaller-in-Ok-read
messages-smaller-in-Ok-read g c =
    let read = c.read_message-read in
    let shown = c.in-Ok-arrived.ensures.ok in
    let goes = sym (c.is_closing.ensures shown.0 shown.2) ∙ c.if-is_closing.false in
    let fewer : length c.remove.new.self
    < length read.new.inbox =
    subst (λ (x : List ℕ). length x < length read.new.inbox)
    (ap (kept_after read.new.inbox) c.in-Ok-read.is ∙ sym c.remove.ensures)
    (read_goes_on read.new.inbox (g.R.Source.left read.new.reader) read.new.budget _ _ read.result shown.0
    read.ensures.says shown.1 goes).1 in
    omega (arith, fewer, read.ensures.read.room)

-- nothing was read
pub returns-in_default-clause-run : goal.returns-in_default-clause-run
returns-in_default-clause-run g c =
    let going = Going-none g.M.Room.step c.args.handler.now.setting _ _ _ _
    (λ terminals room standing. (standing, λ was. g.met.M.Room.leaves_it _ terminals room was standing)) in
    one_course _ _ _ _ _ (Unit {0}) _ _ _ (g.met.M.Room.fits _) (record { outs = []; answers = []; last = None }) _ _
    c.args.budget Memory
    (refl, (refl, Going-ends _ _ _ _ _ _ _ _ _ _ _ _ _ _ _ _ (λ rest. ⊤) going (λ rest known. tt)), CountsBy-none _)
    (Noted-ends _ _ _ _ _ _ _ _ _ _ _ _ _
    (Noted-none g.N.Observer.came g.N.Observer.response g.M.Room.step c.args.handler.now.setting _ _ _ _) Memory _
    (λ trust was. was))
