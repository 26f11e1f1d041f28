use Rattle.std.proofs.Common.{ap, subst, sym, ◌≡◌}
use Rattle.room_place.specs.Plans.{division_of}
use Rattle.room_types.specs.declared.asks.Ask.TheVariants.{Call}
use Rattle.room_model.specs.Calls.{call_somewhere, new_call}
use Rattle.room_model.specs.Events.{by_position}
use Rattle.room_model.specs.Room.{apply}
use Rattle.room_model.specs.Step.{decided}
use Rattle.dispatch_room_archive.proofs.PastAsked.{again_nothing, call_again, report_again}
use Rattle.dispatch_room_archive.specs.Continuation.{IsTakenLate}
use Rattle.dispatch_room_archive.proofs.laws.the_past_may_be_sent_again.Goals as goal

pub returns-clause-old : goal.returns-clause-old
returns-clause-old g since b old new e is again =
    ap (apply old) (again_nothing since b old is.behind e.who e.ask e.at again)

pub returns-clause-call : goal.returns-clause-call
returns-clause-call g since b old new p f at w is again =
    subst (λ r. decided (by_position p (Call f) at) r ≡ call_somewhere (division_of r.plan f.place) (new_call p f at) r)
    (sym is.rows) (call_again since b old is.behind w.order p f at again)

pub returns-clause-report : goal.returns-clause-report
returns-clause-report g since b old new c p at w is again =
    subst (IsTakenLate c p at) (sym is.rows) (report_again since b old is.behind w.order c p at again)
