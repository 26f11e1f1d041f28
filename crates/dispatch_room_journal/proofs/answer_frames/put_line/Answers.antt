use Rattle.std.proofs.Common.{◌≡◌, ◌∙◌, ap, subst, rules, ℕ, List, [], ◌∷◌, ◌++◌, codes, decimal}
use Rattle.std.proofs.Common.{length}
use Rattle.room_http_messages.specs.Streams.{WritesAll}
use Rattle.dispatch_room_journal.specs.AnswerFrames.{frame_line}
use Rattle.dispatch_room_journal.specs.JournalRecords.{status_in}
use Rattle.dispatch_room_journal.proofs.answer_frames.put_line.Goals as goal

pub returns-clause-written : goal.returns-clause-written
returns-clause-written g c =
    let response = c.args.answer.now in
    let new : c.new-text.result.items ≡ [] = search rules in
    let a : c.append.new.text.items
    ≡ codes "answer " = c.append.ensures.items ∙ ap (λ (t : List ℕ). t ++ codes "answer ") new in
    let b : c.append-2.new.text.items
    ≡ codes "answer " ++ status_in response = c.append-2.ensures.items ∙ (λ i. a i ++ c.status_in.ensures.value i) in
    let d : c.append-3.new.text.items
    ≡ codes "answer " ++ status_in response ++ 32 ∷ [] =
    c.append-3.ensures.items ∙ ap (λ (t : List ℕ). t ++ 32 ∷ []) b in
    let digits : c.as_bytes.result.now ≡ decimal (length response) = c.as_bytes.ensures.value ∙ c.format.ensures.text in
    let f : c.append-4.new.text.items
    ≡ codes "answer " ++ status_in response ++ 32 ∷ [] ++ decimal (length response) =
    c.append-4.ensures.items ∙ (λ i. d i ++ digits i) in
    let e : c.as_slice.result.now
    ≡ frame_line response = c.as_slice.ensures.value ∙ c.append-5.ensures.items ∙ ap (λ (t : List ℕ). t ++ 10 ∷ []) f in
    subst (λ (t : List ℕ).
    WritesAll (λ writer. g.O.Write.contents writer.output.now) (λ writer. writer.failed) c.args.writer.now
    c.write_all.new.self t c.write_all.result) e
    c.write_all.ensures.written
