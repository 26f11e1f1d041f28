use Rattle.std.proofs.Common.{ap, sym, ◌∙◌}
use Rattle.std.specs.Prelude.{option_copied}
use Rattle.dispatch_room_archive.proofs.PastLaws.{found_stays, none_stays}
use Rattle.dispatch_room_archive.proofs.past_rows.Past.incident_stays_behind.Goals as goal

pub returns-in-Some : goal.returns-in-Some
returns-in-Some c plan =
    c.is_over.ensures plan
    ∙ found_stays c.args.self.now.since c.args.self.now.rows.now plan c.args.division c.args.number
    c.in-Some.incident.now (sym c.get.ensures ∙ ap option_copied c.in-Some.is)

pub returns-in-None : goal.returns-in-None
returns-in-None c plan =
    none_stays c.args.self.now.since c.args.self.now.rows.now plan c.args.division c.args.number
    (sym c.get.ensures ∙ ap option_copied c.in-None.is)
