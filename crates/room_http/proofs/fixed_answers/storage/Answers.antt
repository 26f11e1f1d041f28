use Rattle.std.proofs.Common.{refl}
use Rattle.std.specs.Fmt.{digits}
use Rattle.serde_json.proofs.OnLiterals.{serde_json_on_literals}
use Rattle.room_http.specs.AnswerJson.{content}
use Rattle.room_http.specs.ReplyMessages.{field, fixed_bytes, line}
use Rattle.room_http.proofs.fixed_answers.storage.Goals as goal

pub returns-then-head_only : goal.returns-then-head_only
unfolding line field fixed_bytes content digits serde_json_on_literals
returns-then-head_only c = rw c.if-head_only.true refl

pub returns-else-head_only : goal.returns-else-head_only
unfolding line field fixed_bytes content digits serde_json_on_literals
returns-else-head_only c = rw c.if-head_only.false refl
