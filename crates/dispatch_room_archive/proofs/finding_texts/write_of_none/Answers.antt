use Rattle.dispatch_room_archive.proofs.finding_texts.write_of_none.Goals as goal

pub returns : goal.returns
returns g c = rw c.as_str.ensures.text at c.write.ensures.writes
