use Rattle.room_store_check_rows.proofs.OpeningLaws.{openings_more}
use Rattle.room_store_check_rows.proofs.history_checks.Openings.add.Goals as goal

pub returns : goal.returns
returns c =
    λ calls are_openings.
    openings_more calls c.args.call.now c.args.self.now _ are_openings
    (rw c.self.view_is at c.in_ok-insert.ensures.updates)
