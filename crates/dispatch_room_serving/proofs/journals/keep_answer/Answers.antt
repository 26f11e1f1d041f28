use Rattle.std.proofs.Common.{inl, ◌∙◌}
use Rattle.std.proofs.lemmas.Result.{on_err_weaker}
use Rattle.dispatch_room_journal.specs.Entries.{answer}
use Rattle.dispatch_room_serving.proofs.KeeperLemmas.{flag_failed}
use Rattle.dispatch_room_serving.proofs.journals.keep_answer.Goals as goal

pub keep-requires : goal.keep-requires
keep-requires g c = record {
  is_one = (answer c.in-Some.status, c.in-Some.ensures.0, c.bytes.ensures ∙ c.answer.ensures);
}

pub returns-in-Some-clause-cause : goal.returns-in-Some-clause-cause
returns-in-Some-clause-cause g c =
    on_err_weaker c.keep.result (λ failed. inl failed) (flag_failed _ _ c.keep.result c.keep.ensures.failed)
