use Rattle.std.proofs.Common.{inl, inr, refl}
use Rattle.room_store_file.specs.declared.examined_file.Wrong.TheVariants.{Memory}
use Rattle.dispatch_room_archive.proofs.CheckedLemmas.{room_printed, wrong_printed}
use Rattle.dispatch_room_archive.proofs.examination.check_in.Goals as goal
use Rattle.dispatch_room_archive.proofs.examination.check_in.Goals.{in-Ok, in-Err-Memory, in-Err}

pub returns-clause-checked : goal.returns-clause-checked
returns-clause-checked g c =
    elim c.match-examine.branch [
      | in-Ok w ↦
          let stated = w.print_room-done.ensures in
          rw (w.out-is, w.done-is)
          (room_printed g.S.Store c.args.conn c.examine.new.conn _ _ w.in-Ok.plan w.in-Ok.summary
          w.print_room-done.result w.in-Ok.ensures.room stated.text stated.whole stated.rule stated.fault)
      | in-Err-Memory w ↦
          let text = g.O.Write.contents c.args.out.now in
          rw (w.out-is, w.done-is) (wrong_printed g.S.Store c.args.conn c.examine.new.conn text text Memory _
          (λ clean. inl (tt, tt)) (λ clean storage. cc) (inl (refl, inr (refl, refl))))
      | in-Err w ↦
          rw (w.out-is, w.done-is) (wrong_printed g.S.Store c.args.conn c.examine.new.conn _ _ w.in-Err.wrong
          w.print_wrong-done.result w.in-Err.ensures.wrong w.in-Err.ensures.why
          (elim w.print_wrong-done.ensures [
            | inl said ↦ inl (said.0, inl said.1)
            | inr network ↦ inr network
          ]))
    ]
