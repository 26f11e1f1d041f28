use Rattle.room_store_writes.proofs.FitLaws.{here_with, one_left}
use Rattle.room_store_writes.proofs.terminal_laws.one_token_is_left.Goals as goal

pub returns : goal.returns
returns c = record {
  named = λ ts who k. here_with ts who k;
  only = λ room ts who j k are e. one_left room ts are who j k e;
}
