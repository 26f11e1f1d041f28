-- The content of an answer that shows a queue is the queue's text.
use Rattle.std.proofs.Common.{ap, append_assoc, refl, sym, ◌∙◌}
use Rattle.std.specs.Prelude.{Bool, List, Ok, Result, Some, [], codes, decimal, false}
use Rattle.std.specs.Prelude.{if◌then◌else◌, length, map, true, ℕ, ◌++◌, ◌∷◌, ◌≡◌}
use Rattle.http.specs.StatusCode.{status_text}
use Rattle.json.specs.Print.{escape_byte}
use Rattle.serde_json.specs.View.{items_of}
use Rattle.serde_json.specs.Written.{compact_text, items_text}
use Rattle.room_types.specs.declared.answers.Answer.{Answer}
use Rattle.room_types.specs.declared.answers.Answer.TheVariants as answer
use Rattle.room_types.specs.declared.answers.QueueEntry.{QueueEntry}
use Rattle.room_types.specs.declared.refusal_statuses.Refusal.{Refusal}
use Rattle.room_http.specs.AnswerJson.{content, entry_json}
use Rattle.room_http.specs.Arrivals.{is_closing, is_head_only}
use Rattle.room_http.specs.QueueTexts.{EndsWith, queue_text, with_commas}
use Rattle.room_http.specs.ReplyMessages.{allow_field, closing_field, date_field, field, line}
use Rattle.room_http.specs.ReplyMessages.{status_of}
use Rattle.room_http.specs.Runs.{Exchange, HasAnswer}

abbrev text_of : QueueEntry → List ℕ
text_of e = compact_text (entry_json e)

-- after the first entry each has its comma
more : (e : QueueEntry) (queue : List QueueEntry)
    → compact_text (entry_json e) ++ items_text true (items_of (map entry_json queue))
    ≡ with_commas (text_of e ∷ map text_of queue) ++ codes "]"
more e [] = refl
more e (f ∷ queue) =
    let rest = with_commas (text_of f ∷ map text_of queue) in
    ap (λ ts. text_of e ++ 44 ∷ ts) (more f queue)
    ∙ sym (append_assoc (text_of e ++ codes ",") rest (codes "]")
    ∙ append_assoc (text_of e) (codes ",") (rest ++ codes "]"))

all : (queue : List QueueEntry) → items_text false (items_of (map entry_json queue))
    ≡ with_commas (map text_of queue) ++ codes "]"
all [] = refl
all (e ∷ queue) = more e queue

pub queue_content : (queue : List QueueEntry) → content (Ok (answer.Queue queue)) ≡ queue_text queue
unfolding content escape_byte
queue_content queue =
    ap (λ ts. codes "{\"queue\":[" ++ (ts ++ codes "}")) (all queue)
    ∙ ap (λ ts. codes "{\"queue\":[" ++ ts) (append_assoc (with_commas (map text_of queue)) (codes "]") (codes "}"))

-- an answer with content ends with it
pub ends_with : (x : Exchange) (answer : Result Answer Refusal) → HasAnswer x answer
    → is_head_only x.arrival.0 ≡ false → EndsWith (content answer) x.bytes
ends_with x answer (date, is_date, is) whole =
    let head = line (codes "HTTP/1.1 " ++ status_text (status_of answer)) ++ date_field (Some date)
    ++ field (codes "Content-Type") (codes "application/json")
    ++ field (codes "Content-Length") (decimal (length (content answer)))
    ++ allow_field answer ++ closing_field (is_closing x.arrival.0) ++ line [] in
    (head, is ∙ ap (λ (b : Bool). head ++ (if b then [] else content answer)) whole)
