use Rattle.dispatch_room_dry_run.proofs.dry_run.dry_run.Goals as goal

pub returns-clause-dialogue : goal.returns-clause-dialogue
returns-clause-dialogue g c =
    let clock = c.serve_example.new.clock in
    let dialogue = rw c.new-clock.ensures at c.in_ok-end.ensures.dialogue in
    (clock.count, clock.was_none, dialogue)
