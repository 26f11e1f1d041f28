use Rattle.dispatch_room_archive.proofs.examination.print_plan.Goals as goal

pub returns : goal.returns
returns g c = record { text = c.writeln.ensures.bytes }
