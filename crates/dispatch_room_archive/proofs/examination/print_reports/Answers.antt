use Rattle.dispatch_room_archive.proofs.examination.print_reports.Goals as goal

pub returns : goal.returns
returns g c = record { text = rw c.get.ensures.value at c.writeln.ensures.bytes }
