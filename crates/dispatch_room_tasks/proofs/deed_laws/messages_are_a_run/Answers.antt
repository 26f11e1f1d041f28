use Rattle.dispatch_room_tasks.proofs.DeedLaws.{messages_heard, run_of_messages}
use Rattle.dispatch_room_tasks.proofs.deed_laws.messages_are_a_run.Goals as goal

pub returns : goal.returns
returns c = record {
  run = λ es now. run_of_messages es now;
  heard = λ es now addressed. messages_heard es now addressed;
}
