use Rattle.std.proofs.Common.{[], ap, inl, sym, ◌++◌, ◌∙◌, ◌∷◌}
use Rattle.room_model.specs.Room.{apply}
use Rattle.room_store.proofs.MoveCourses.{comes_more, comes_stops, unless_said}
use Rattle.room_store.proofs.move_decisions.Course.make.Goals as goal

pub returns-clause-made : goal.returns-clause-made
returns-clause-made c done room before =
    let r = apply room c.args.self.now.changes in
    comes_more c.args.division c.args.at done c.args.next.now room _ _ _ _ _ _ c.in-Ok.decision before
    (sym (c.in-Ok.ensures r before.formed before.cache))
    (c.in-Ok-add_changes.ensures.added ∙ ap (λ l. c.args.self.now.changes ++ l) c.as_slice.ensures)
    (c.in-Ok-add_line.ensures.added ∙ ap (λ x. c.args.self.now.lines ++ x ∷ []) c.move_line.ensures)
    (rw c.as_slice-2.ensures at c.apply.ensures r before.formed.order before.cache)

pub returns-in-Err-clause-refused : goal.returns-in-Err-clause-refused
returns-in-Err-clause-refused c =
    unless_said c.in-Err.refusal _ c.in-Err.ensures (λ is done others room before.
    comes_stops c.args.division c.args.at done others c.args.next.now room _ _ _ _ before
    (sym (is (apply room c.args.self.now.changes) before.formed before.cache)))

pub returns-in-Err-add_line-clause-refused : goal.returns-in-Err-add_line-clause-refused
returns-in-Err-add_line-clause-refused c = inl c.in-Err-add_line.ensures.memory

pub returns-in-Err-add_changes-clause-refused : goal.returns-in-Err-add_changes-clause-refused
returns-in-Err-add_changes-clause-refused c = inl c.in-Err-add_changes.ensures.memory
