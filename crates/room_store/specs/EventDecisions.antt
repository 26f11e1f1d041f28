-- What is decided of an event, or why nothing is.
use Rattle.std.specs.Prelude.{Err, List, Ok, Result}
use Rattle.room_model.specs.Decisions.{Verdict, answer_of, changes_of}
use Rattle.room_types.specs.declared.answers.Answer.{Answer}
use Rattle.room_types.specs.declared.changes.Change.{Change}
use Rattle.room_types.specs.declared.decisions.Decision.{Decision}
use Rattle.room_types.specs.declared.refusal_statuses.Refusal.{Refusal}
use Rattle.room_types.specs.declared.refusal_statuses.Refusal.TheVariants as refusal

-- The decision or the refusal, which is to be the machine's. Where memory or storage fails,
-- nothing is decided.
abbrev pub unless_unavailable : Result Decision Refusal → Result Verdict Refusal
unless_unavailable (Err refusal.Memory) = Err refusal.Memory
unless_unavailable (Err refusal.Storage) = Err refusal.Storage
unless_unavailable decision = Ok decision

-- what is decided, as changes and an answer
abbrev pub in_parts : Result Verdict Refusal → Result (List Change × Result Answer Refusal) Refusal
in_parts (Ok decided) = Ok (changes_of decided, answer_of decided)
in_parts (Err why) = Err why
