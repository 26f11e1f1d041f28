use Rattle.dispatch_room_archive.proofs.finding_texts.DisagreementTextDisplay.fmt.Goals as goal

pub returns-in-Vehicle-clause-writes : goal.returns-in-Vehicle-clause-writes
returns-in-Vehicle-clause-writes g c =
    rw c.in-Vehicle.is
    (rw (c.as_str-name.ensures.text, c.number-number.ensures, c.vehicle_text-what.ensures)
    at c.write-in-Vehicle.ensures.writes)
