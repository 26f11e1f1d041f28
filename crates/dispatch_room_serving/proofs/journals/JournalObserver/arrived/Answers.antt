use Rattle.std.proofs.Common.{◌≡◌, ◌∙◌, ap, sym}
use Rattle.dispatch_room_journal.specs.JournalRecords.{message_text}
use Rattle.dispatch_room_serving.specs.KeptChanges.{is_kept}
use Rattle.dispatch_room_serving.specs.declared.journals.Journal.{Journal}
use Rattle.dispatch_room_serving.proofs.KeeperLemmas.{keeps_it, keeps_none, known_of, of_keeper}
use Rattle.dispatch_room_serving.proofs.KeeperLemmas.{puts_it, puts_none}
use Rattle.dispatch_room_serving.proofs.journals.JournalObserver.arrived.Goals as goal
use Rattle.dispatch_room_serving.proofs.journals.JournalObserver.arrived.Goals.{in-Message}
use Rattle.dispatch_room_serving.proofs.journals.JournalObserver.arrived.Goals.{in_default-2}
use Rattle.dispatch_room_serving.proofs.journals.JournalObserver.arrived.Goals.{in_default}

pub returns-clause-keeps : goal.returns-clause-keeps
returns-clause-keeps g c = rw (c.noted.ensures.out, c.noted.ensures.same_result) (elim c.match-arrived.branch [
  | in-Message w ↦ rw (w.self-is, w.kept-is)
      (keeps_it _ c.args.arrived.now _ _ _ _ (sym w.keeps.ensures ∙ w.if-keeps.true)
      (rw w.in-Message.is w.keep_message-kept.ensures.kept))
  | in_default-2 w ↦ rw (w.self-is, w.kept-is)
      (keeps_none _ c.args.arrived.now _ _ (sym w.keeps.ensures ∙ w.if-keeps.false))
  | in_default w ↦ rw (w.self-is, w.kept-is)
      (keeps_none _ c.args.arrived.now _ _ (ap (λ it. is_kept c.args.self.now.keeps_questions it) w.in_default.is))
])

pub returns-clause-kept : goal.returns-clause-kept
returns-clause-kept g c =
    let same : c.match-arrived.self.keeps_questions ≡ c.args.self.now.keeps_questions = elim c.match-arrived.branch [
      | in-Message w ↦ ap (λ (it : Journal _). it.keeps_questions) w.self-is
      | in_default-2 w ↦ ap (λ (it : Journal _). it.keeps_questions) w.self-is
      | in_default w ↦ ap (λ (it : Journal _). it.keeps_questions) w.self-is
    ] in
    known_of g.W.Keeper.held c.args.self.now c.noted.new.self c.args.arrived.now message_text c.args.at c.noted.result
    (c.noted.ensures.keeps_questions ∙ same) (returns-clause-keeps g c)

pub returns-clause-put : goal.returns-clause-put
returns-clause-put g c = rw (c.noted.ensures.out, c.noted.ensures.same_result) (elim c.match-arrived.branch [
  | in-Message w ↦ rw (w.self-is, w.kept-is)
      (puts_it g.W.Keeper.puts _ _ _ _ _ (sym w.keeps.ensures ∙ w.if-keeps.true)
      (rw w.in-Message.is w.keep_message-kept.ensures.put))
  | in_default-2 w ↦ rw (w.self-is, w.kept-is)
      (puts_none g.W.Keeper.puts _ _ _ (sym w.keeps.ensures ∙ w.if-keeps.false))
  | in_default w ↦ rw (w.self-is, w.kept-is)
      (puts_none g.W.Keeper.puts _ _ _ (ap (λ it. is_kept c.args.self.now.keeps_questions it) w.in_default.is))
])

pub returns-clause-cause : goal.returns-clause-cause
returns-clause-cause g c =
    of_keeper g.W.Keeper.has_failed c.args.self.now c.noted.new.self c.match-arrived.self.out c.match-arrived.kept
    c.noted.result c.noted.ensures.same_result c.noted.ensures.out (elim c.match-arrived.branch [
      | in-Message w ↦ rw (w.self-is, w.kept-is) w.keep_message-kept.ensures.cause
      | in_default-2 w ↦ rw (w.self-is, w.kept-is) tt
      | in_default w ↦ rw (w.self-is, w.kept-is) tt
    ])
