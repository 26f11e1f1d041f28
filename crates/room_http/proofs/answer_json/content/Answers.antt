use Rattle.serde_json.proofs.FreeTexts.{text_of_value}
use Rattle.room_http.specs.Objects.{Sends}
use Rattle.room_http.specs.AnswerJson.{content}
use Rattle.room_http.proofs.answer_json.content.Goals as goal

pub returns-in-Ok : goal.returns-in-Ok
unfolding Sends content
returns-in-Ok c =
    let stated = c.in-Ok.ensures.events in
    text_of_value _ stated.0 _ stated.1.0 stated.2 stated.1.1
