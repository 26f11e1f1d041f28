use Rattle.std.proofs.Common.{◌∙◌, sym, ap, refl, [], inl, inr, append-nil, ◌≡◌, ◌||◌, Bool, true}
use Rattle.std.proofs.Common.{false, Ok, Err}
use Rattle.room_http.specs.ReplyMessages.{fixed_bytes}
use Rattle.room_http.specs.Arrivals.{is_head_only}
use Rattle.room_http.specs.KeptMessages.{Acts, Unmoved}
use Rattle.room_http.specs.declared.session.ServeEnd.TheVariants.{Closed, JournalFailed, WriteFault}
use Rattle.room_http_messages.proofs.StreamLemmas.{Appends-none}
use Rattle.room_http.proofs.KeptLemmas.{kept_all, kept_cut, kept_none, kept_part}
use Rattle.room_http.proofs.KeptLemmas.{kept_unserved_tail, nothing_done}
use Rattle.room_http.proofs.ServedLaws.{none_served, one_promised, unavailable_of}
use Rattle.room_http.proofs.DialogueLemmas.{IsDialogue-one, WritesDialogue-none}
use Rattle.room_http.proofs.arrival_answers.answer.Goals as goal

-- where it failed now, it has failed
now_failed : (before after : Bool) → after ≡ (before || true) → after ≡ true
now_failed true after is = is
now_failed false after is = is

pub returns-in-Ok-write_answer-clause-answers : goal.returns-in-Ok-write_answer-clause-answers
returns-in-Ok-write_answer-clause-answers g c o shown =
    let wrote = c.in-Ok-write_answer.ensures.written.all in (
      c.in-Some.at,
      (
        c.in-Some.ensures,
        wrote.1,
        λ trust terminals room stood.
            let says = c.in-Ok.ensures.reply.says trust terminals room stood o shown in (
              says.0,
              c.in-Ok.bytes.items,
              [],
              IsDialogue-one _ _ _ _ _ _ _ says.1,
              (
                (
                  says.2,
                  λ was. (g.met.M.Room.leaves_it _ terminals says.0 (c.in-Ok.ensures.keeps.kept trust was) says.2),
                ),
                refl,
              ),
              rw (append-nil, ← c.as_slice-text.ensures.value) wrote.0,
            ),
      ),
      kept_all g.N.Observer.came g.N.Observer.response
          (g.M.Room.is_trusted c.reply.new.room → g.M.Room.is_kept c.args.room.now → g.M.Room.is_kept c.reply.new.room)
          (Unmoved (g.M.Room.is_trusted c.reply.new.room) (g.M.Room.stands c.args.room.now)
          (g.M.Room.stands c.reply.new.room))
          (Acts g.M.Room.step c.args.handler.now.setting (g.M.Room.is_trusted c.reply.new.room)
          (g.M.Room.stands c.args.room.now)
          (g.M.Room.stands c.reply.new.room)) c.args.arrived.now o shown c.in-Some.at c.in-Some.ensures.0 _ _
          c.in-Some.ensures.1 c.as_slice-text.result.now c.in-Ok.bytes.items c.as_slice-text.ensures.value
          (λ trust terminals room stood. c.in-Ok.ensures.reply.says trust terminals room stood o shown)
          (λ trust was. c.in-Ok.ensures.keeps.kept trust was)
          _ _ _ _ _ _ c.in_default-arrived.ensures.kept c.in_default-answering.ensures.kept
          c.in-Ok-write_answer.ensures.kept
          wrote.0,
    )

pub returns-in-Ok-clause-answers : goal.returns-in-Ok-clause-answers
returns-in-Ok-clause-answers g c o shown =
    let cut = c.in-Err-write_answer.ensures.written.part in (
      c.in-Some.at,
      (
        c.in-Some.ensures,
        cut.4,
        inl (λ trust terminals room stood.
            let says = c.in-Ok.ensures.reply.says trust terminals room stood o shown in (
              room,
              [],
              cut.0,
              (refl, refl),
              (
                says.0,
                c.in-Ok.bytes.items,
                says.1,
                (
                  says.2,
                  λ was. (g.met.M.Room.leaves_it _ terminals says.0 (c.in-Ok.ensures.keeps.kept trust was) says.2),
                ),
                (cut.1, sym c.as_slice-text.ensures.value ∙ cut.2),
              ),
              cut.3,
            )),
      ),
      kept_cut g.N.Observer.came g.N.Observer.response
          (g.M.Room.is_trusted c.reply.new.room → g.M.Room.is_kept c.args.room.now → g.M.Room.is_kept c.reply.new.room)
          (Unmoved (g.M.Room.is_trusted c.reply.new.room) (g.M.Room.stands c.args.room.now)
          (g.M.Room.stands c.reply.new.room))
          (Acts g.M.Room.step c.args.handler.now.setting (g.M.Room.is_trusted c.reply.new.room)
          (g.M.Room.stands c.args.room.now)
          (g.M.Room.stands c.reply.new.room)) c.args.arrived.now o shown c.in-Some.at c.in-Some.ensures.0 _ _
          c.in-Some.ensures.1 c.as_slice-text.result.now c.in-Ok.bytes.items c.as_slice-text.ensures.value
          (λ trust terminals room stood. c.in-Ok.ensures.reply.says trust terminals room stood o shown)
          (λ trust was. c.in-Ok.ensures.keeps.kept trust was)
          _ _ _ _ _ _ cut.0 c.in_default-arrived.ensures.kept c.in_default-answering.ensures.kept
          c.in-Err-write_answer.ensures.kept (cut.1, cut.2) cut.3,
    )

pub returns-clause-answers : goal.returns-clause-answers
returns-clause-answers g c o shown =
    let cut = c.in-Err-write_answer-2.ensures.written.part in
    let r = c.in-Err-reply.refusal in
    let front = ap (fixed_bytes r) (sym (c.head_only.ensures o shown)) ∙ sym c.fixed.ensures ∙ cut.2 in (
      c.in-Some.at,
      (
        c.in-Some.ensures,
        cut.4,
        inr (
          r,
          c.in-Err-reply.ensures.reply.unavailable,
          λ trust terminals room stood. (
            room,
            [],
            cut.0,
            (refl, refl),
            (
              (
                c.in-Err-reply.ensures.reply.says trust terminals room stood,
                λ was. c.in-Err-reply.ensures.keeps.left trust was terminals room stood o shown,
              ),
              (cut.1, front),
            ),
            cut.3,
          ),
        ),
      ),
      kept_unserved_tail g.N.Observer.came g.N.Observer.response
          (g.M.Room.is_trusted c.reply.new.room → g.M.Room.is_kept c.args.room.now → g.M.Room.is_kept c.reply.new.room)
          (Unmoved (g.M.Room.is_trusted c.reply.new.room) (g.M.Room.stands c.args.room.now)
          (g.M.Room.stands c.reply.new.room))
          (Acts g.M.Room.step c.args.handler.now.setting (g.M.Room.is_trusted c.reply.new.room)
          (g.M.Room.stands c.args.room.now)
          (g.M.Room.stands c.reply.new.room)) c.args.arrived.now o shown c.in-Some.at c.in-Some.ensures.0 _ _
          c.in-Some.ensures.1 WriteFault _ _ _ _ _ r cut.0
          c.in-Err-reply.ensures.reply.says (unavailable_of _ _ c.in-Err-reply.ensures.reply.unavailable)
          c.in_default-arrived.ensures.kept c.in-Err-write_answer-2.ensures.kept
          (cut.1, front) cut.3,
    )

pub returns-in-Ok-write_answer-2-clause-answers : goal.returns-in-Ok-write_answer-2-clause-answers
returns-in-Ok-write_answer-2-clause-answers g c o shown =
    let wrote = c.in-Ok-write_answer-2.ensures.written.all in
    let r = c.in-Err-reply.refusal in (
      c.in-Some.at,
      (
        c.in-Some.ensures,
        (
          r,
          c.in-Err-reply.ensures.reply.unavailable,
          λ trust terminals room stood. (
            room,
            [],
            fixed_bytes r (is_head_only o),
            (refl, refl),
            (
              (
                c.in-Err-reply.ensures.reply.says trust terminals room stood,
                λ was. c.in-Err-reply.ensures.keeps.left trust was terminals room stood o shown,
              ),
              refl,
            ),
            rw (← c.head_only.ensures o shown, ← c.fixed.ensures) wrote.0,
          ),
        ),
      ),
      kept_unserved_tail g.N.Observer.came g.N.Observer.response
          (g.M.Room.is_trusted c.reply.new.room → g.M.Room.is_kept c.args.room.now → g.M.Room.is_kept c.reply.new.room)
          (Unmoved (g.M.Room.is_trusted c.reply.new.room) (g.M.Room.stands c.args.room.now)
          (g.M.Room.stands c.reply.new.room))
          (Acts g.M.Room.step c.args.handler.now.setting (g.M.Room.is_trusted c.reply.new.room)
          (g.M.Room.stands c.args.room.now)
          (g.M.Room.stands c.reply.new.room)) c.args.arrived.now o shown c.in-Some.at c.in-Some.ensures.0 _ _
          c.in-Some.ensures.1 Closed _ _ _ _ _ r c.fixed.result.now
          c.in-Err-reply.ensures.reply.says (unavailable_of _ _ c.in-Err-reply.ensures.reply.unavailable)
          c.in_default-arrived.ensures.kept c.in-Ok-write_answer-2.ensures.kept (
            [],
            ap (fixed_bytes r) (sym (c.head_only.ensures o shown)) ∙ sym c.fixed.ensures
                ∙ sym (append-nil c.fixed.result.now),
          ) wrote.0,
    )

pub returns-in_default-clause-answers : goal.returns-in_default-clause-answers
returns-in_default-clause-answers g c o shown = (
  0,
  (
    c.in_default.ensures,
    WritesDialogue-none g.M.Room.step c.args.handler.now.setting _ _ _ _
        (λ terminals room stood. (stood, λ was. g.met.M.Room.leaves_it _ terminals room was stood)),
  ),
  ((λ trust was. was), (λ trust terminals room stood. stood), nothing_done _ _ _ _ _ c.in_default.ensures),
)

pub returns-in-Err-clause-answers : goal.returns-in-Err-clause-answers
returns-in-Err-clause-answers g c o shown = (
  c.in-Some.at,
  (
    c.in-Some.ensures,
    now_failed _ _ c.in-Err.ensures.failed,
    inl (WritesDialogue-none g.M.Room.step c.args.handler.now.setting _ _ _ _
        (λ terminals room stood. (stood, λ was. g.met.M.Room.leaves_it _ terminals room was stood))),
  ),
  kept_none g.N.Observer.came g.N.Observer.response
      (g.M.Room.is_trusted c.args.room.now → g.M.Room.is_kept c.args.room.now → g.M.Room.is_kept c.args.room.now) _
      (Acts g.M.Room.step c.args.handler.now.setting (g.M.Room.is_trusted c.args.room.now)
      (g.M.Room.stands c.args.room.now)
      (g.M.Room.stands c.args.room.now)) c.args.arrived.now o shown c.in-Some.at c.in-Some.ensures.0 _ _
      c.in-Some.ensures.1
      _ _ _ (λ trust was. was) (λ trust terminals room stood. stood) c.in-Err.ensures.kept,
)

pub returns-in-Err-answering-clause-answers : goal.returns-in-Err-answering-clause-answers
returns-in-Err-answering-clause-answers g c o shown = (
  c.in-Some.at,
  (
    c.in-Some.ensures,
    now_failed _ _ c.in-Err-answering.ensures.failed,
    inr (λ trust terminals room stood.
        let says = c.in-Ok.ensures.reply.says trust terminals room stood o shown in (
          room,
          [],
          [],
          (refl, refl),
          (
            (
              says.0,
              c.in-Ok.bytes.items,
              says.1,
              (
                says.2,
                λ was. (g.met.M.Room.leaves_it _ terminals says.0 (c.in-Ok.ensures.keeps.kept trust was) says.2),
              ),
              (c.in-Ok.bytes.items, refl),
            ),
            refl,
          ),
          Appends-none _,
        )),
  ),
  kept_part g.N.Observer.came g.N.Observer.response
      (g.M.Room.is_trusted c.reply.new.room → g.M.Room.is_kept c.args.room.now → g.M.Room.is_kept c.reply.new.room)
      (Unmoved (g.M.Room.is_trusted c.reply.new.room) (g.M.Room.stands c.args.room.now)
      (g.M.Room.stands c.reply.new.room))
      (Acts g.M.Room.step c.args.handler.now.setting (g.M.Room.is_trusted c.reply.new.room)
      (g.M.Room.stands c.args.room.now)
      (g.M.Room.stands c.reply.new.room)) c.args.arrived.now o shown c.in-Some.at c.in-Some.ensures.0 _ _
      c.in-Some.ensures.1 c.as_slice-text.result.now c.in-Ok.bytes.items c.as_slice-text.ensures.value
      (λ trust terminals room stood. c.in-Ok.ensures.reply.says trust terminals room stood o shown)
      (λ trust was. c.in-Ok.ensures.keeps.kept trust was)
      _ _ _ _ c.in_default-arrived.ensures.kept c.in-Err-answering.ensures.kept,
)

pub returns-in_default-clause-promised : goal.returns-in_default-clause-promised
returns-in_default-clause-promised g c same o shown =
    none_served _ _ _ _ _ _ _ (g.met.M.Room.fits _) (g.met.M.Room.leaves_it _) tt

pub returns-in-Ok-write_answer-clause-promised : goal.returns-in-Ok-write_answer-clause-promised
returns-in-Ok-write_answer-clause-promised g c same o shown =
    one_promised _ _ _ _ _ _ false false _ _ (Unit {0}) _ _ _ (g.met.M.Room.fits _) _ o _ (Ok tt)
    (returns-in-Ok-write_answer-clause-answers g c o shown).1 same

pub returns-in-Ok-clause-promised : goal.returns-in-Ok-clause-promised
returns-in-Ok-clause-promised g c same o shown =
    one_promised _ _ _ _ _ _ false false _ _ _ _ _ _ (g.met.M.Room.fits _) _ o _ (Err WriteFault)
    (returns-in-Ok-clause-answers g c o shown).1 same

pub returns-in-Ok-write_answer-2-clause-promised : goal.returns-in-Ok-write_answer-2-clause-promised
returns-in-Ok-write_answer-2-clause-promised g c same o shown =
    one_promised _ _ _ _ _ false false false _ _ _ _ _ _ (g.met.M.Room.fits _) _ o _ (Err Closed)
    (returns-in-Ok-write_answer-2-clause-answers g c o shown).1 same

pub returns-clause-promised : goal.returns-clause-promised
returns-clause-promised g c same o shown =
    one_promised _ _ _ _ _ _ false false _ _ _ _ _ _ (g.met.M.Room.fits _) _ o _ (Err WriteFault)
    (returns-clause-answers g c o shown).1 same

pub returns-in-Err-clause-promised : goal.returns-in-Err-clause-promised
returns-in-Err-clause-promised g c same o shown =
    none_served _ _ _ _ _ _ _ (g.met.M.Room.fits _) (g.met.M.Room.leaves_it _) tt

pub returns-in-Err-answering-clause-promised : goal.returns-in-Err-answering-clause-promised
returns-in-Err-answering-clause-promised g c same o shown =
    one_promised _ _ _ _ _ false false _ _ _ (Unit {0}) _ _ _ (g.met.M.Room.fits _) _ o _ (Err JournalFailed)
    (returns-in-Err-answering-clause-answers g c o shown).1 same
