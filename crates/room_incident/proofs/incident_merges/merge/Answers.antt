use Rattle.std.proofs.Common.{Some, [], ap, map, ◌++◌, ◌∙◌, ◌≡◌}
use Rattle.room_types.specs.declared.changes.Change.TheVariants.{PutIncident}
use Rattle.room_model.specs.Incidents.{joined, moved_call}
use Rattle.room_model.specs.Queries.{calls_of}
use Rattle.room_model.specs.RoomSlices.{room_of}
use Rattle.room_types.specs.declared.codes.State.TheVariants.{Merged}
use Rattle.room_incident.proofs.MergeLaws.{joins_so, put_two}
use Rattle.room_incident.proofs.incident_merges.merge.Goals as goal

pub returns-clause-joins : goal.returns-clause-joins
returns-clause-joins c n m there_n there_m =
    let source = c.in-Some.source.now in
    let target = c.in-Some-get.target.now in
    let is_some_n : Some source ≡ Some n = c.in-Some.ensures ∙ there_n in
    let is_some_m : Some target ≡ Some m = c.in-Some-get.ensures ∙ there_m in
    let is_n : source ≡ n = cc in
    let is_m : target ≡ m = cc in
    let into : c.with_source.result
    ≡ joined n m = c.with_source.ensures ∙ (ap (λ y. joined y target) is_n ∙ ap (joined n) is_m) in
    let calls = calls_of c.args.slice.now.division c.args.from (room_of [] c.args.slice.now.rows) in
    let merged = PutIncident (record source { state = Merged target.number }) in
    let puts = put_two c.new-changes.result c.push.new.self c.push-2.new.self (PutIncident c.with_source.result) merged
    c.new-changes.ensures c.in_ok-push.ensures.ok c.in_ok-push-2.ensures.ok in
    joins_so n m target _ (record source { state = Merged target.number }) calls _ into is_m
    (c.many.ensures
    ∙ (c.in_ok-move_calls.ensures.ok [] ∙ ap (λ ys. ys ++ map (moved_call target.number) calls) puts))
