use Rattle.room_store_writes.proofs.FitLaws.{others_stay, others_were}
use Rattle.room_store_writes.proofs.terminal_laws.others_stay.Goals as goal

pub returns : goal.returns
returns c = record {
  stay = λ room ts who other token k are none apart e. others_stay room ts are who other token k none apart e;
  come = λ room ts who other token k are apart e. others_were room ts are who other token k apart e;
}
