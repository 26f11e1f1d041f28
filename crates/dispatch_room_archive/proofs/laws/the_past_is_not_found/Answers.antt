use Rattle.std.proofs.Common.{ap, ◌∙◌}
use Rattle.room_model.specs.Decisions.{answer_of}
use Rattle.room_model.specs.Events.{by_desk}
use Rattle.room_model.specs.Room.{apply}
use Rattle.room_model.specs.Step.{answer_to, decided}
use Rattle.dispatch_room_archive.proofs.GoingOn.{nothing_new}
use Rattle.dispatch_room_archive.proofs.PastAsked.{asks_nothing, class_times_left, closed_left}
use Rattle.dispatch_room_archive.proofs.PastAsked.{names_none, reports_left, times_left}
use Rattle.room_types.specs.declared.asks.Ask.TheVariants.{ClassTimes, Closed, Reports, Times}
use Rattle.dispatch_room_archive.proofs.laws.the_past_is_not_found.Goals as goal

pub returns-clause-incident : goal.returns-clause-incident
returns-clause-incident g since b old new d a at w is named =
    ap (answer_to (by_desk d a at)) is.rows ∙ ap answer_of (names_none since b old is.behind w.order d a at named)

pub returns-clause-times : goal.returns-clause-times
returns-clause-times g since b old new d from to at is =
    ap (decided (by_desk d (Times from to) at)) is.rows ∙ times_left b old d from to at

pub returns-clause-classes : goal.returns-clause-classes
returns-clause-classes g since b old new d from to at is =
    ap (decided (by_desk d (ClassTimes from to) at)) is.rows ∙ class_times_left b old d from to at

pub returns-clause-closed : goal.returns-clause-closed
returns-clause-closed g since b old new d from to x at is =
    ap (decided (by_desk d (Closed from to x) at)) is.rows ∙ closed_left b old d from to x at

pub returns-clause-reports : goal.returns-clause-reports
returns-clause-reports g since b old new d c at is =
    ap (decided (by_desk d (Reports c) at)) is.rows ∙ reports_left b old d c at

pub returns-clause-old : goal.returns-clause-old
returns-clause-old g since b old new e is asked =
    ap (apply old) (asks_nothing since b old is.behind e.who e.ask e.at asked)

pub returns-clause-new : goal.returns-clause-new
returns-clause-new g since b old new e w is asked = ap (apply new) (nothing_new since b old new w is e asked)
