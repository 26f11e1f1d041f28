use Rattle.std.proofs.Common.{false, subst, sym, true, ◌∙◌}
use Rattle.std.proofs.lemmas.Result.{on_ok_weaker}
use Rattle.room_types.specs.declared.changes.Change.TheVariants.{PutTurn}
use Rattle.room_model.specs.Room.{apply_one}
use Rattle.room_store_cache.specs.IncidentViews.{IsIncidentViewOf}
use Rattle.room_store_cache.proofs.DossierLaws.{incident_put, turn_put}
use Rattle.room_store_cache.proofs.incident_views.IncidentViewEntry.apply.Goals as goal

pub returns-then-is_of-clause-so : goal.returns-then-is_of-clause-so
returns-then-is_of-clause-so c room in_order known =
    rw c.in-PutIncident.is
    (incident_put c.args.self.now c.in-PutIncident.incident room true (sym c.if-is_of.true ∙ c.is_of.ensures) known)

pub returns-else-is_of-clause-so : goal.returns-else-is_of-clause-so
returns-else-is_of-clause-so c room in_order known =
    rw c.in-PutIncident.is
    (incident_put c.args.self.now c.in-PutIncident.incident room false (sym c.if-is_of.false ∙ c.is_of.ensures) known)

pub returns-in-PutTurn-clause-so : goal.returns-in-PutTurn-clause-so
returns-in-PutTurn-clause-so c =
    let x = c.args.self.now in
    let t = c.in-PutTurn.turn in
    on_ok_weaker c.put_if.result
    (λ kept room in_order known.
    rw c.in-PutTurn.is (subst (λ rows. IsIncidentViewOf (record x { turns = rows }) (apply_one room (PutTurn t)))
    (sym kept) (turn_put x t room _ c.is_of-is_own.ensures in_order known))) c.put_if.ensures.put
