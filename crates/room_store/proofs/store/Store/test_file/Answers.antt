use Rattle.std.proofs.Common.{inl, inr, ◌∙◌}
use Rattle.room_store.proofs.store.Store.test_file.Goals as goal
use Rattle.room_store.proofs.store.Store.test_file.Goals.{else-is_room, then-is_room}

pub returns-clause-ready : goal.returns-clause-ready
returns-clause-ready g c = elim c.if-is_room.branch [
  | then-is_room w ↦ rw (w.self-is, w.self2-is) (record {
    outside = w.can_read-self.ensures.outside;
    sound = w.can_read-self.ensures.shows;
    unsound = λ _. c.forget.ensures;
    cause = λ unsound clean.
        let failed = w.can_read-self.ensures.cause unsound clean in inr (c.args.self.now.conn, failed.0, failed.1);
  })
  | else-is_room w ↦ rw (w.self-is, w.self2-is) (record {
    outside = c.requires.outside;
    sound = λ sound. let no = rw w.if-is_room.false at sound in absurd (cc no);
    unsound = λ _. c.forget.ensures;
    cause = λ unsound clean. inl (λ is.
        let no = rw w.if-is_room.false at (c.is_room.ensures.1 (c.schema.ensures.value ∙ is)) in absurd (cc no));
  })
]
