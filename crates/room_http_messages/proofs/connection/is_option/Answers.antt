use Rattle.std.proofs.lemmas.Slice.Eq.{bytes_eq-Decides}
use Rattle.httparse.specs.Grammar.{trim_ows}
use Rattle.room_http_messages.specs.HeadFields.{lower}
use Rattle.room_http_messages.specs.ConnectionOptions.{is_option}
use Rattle.room_http_messages.proofs.FieldLemmas.{same_test}
use Rattle.room_http_messages.proofs.connection.is_option.Goals as goal

pub returns : goal.returns
unfolding is_option trim_ows
returns c =
    rw (← c.trim_start.ensures, ← c.trim_end.ensures) (same_test _ _ _ c.eq_ignore_ascii_case.ensures.test
    (bytes_eq-Decides (lower c.trim_end.result.now) (lower c.args.option.now)))
