use Rattle.std.proofs.Common.{◌∙◌, ap, map, sym}
use Rattle.std.proofs.lemmas.Simd.{map-map}
use Rattle.csv.specs.Records.{fields_of}
use Rattle.dispatch_room_csv.specs.PlanLines.{plan_line_of}
use Rattle.dispatch_room_csv.proofs.PlanLemmas.{fault_read, plan_read}
use Rattle.dispatch_room_csv.proofs.plan_file.read_plan.Goals as goal

pub returns-clause-plan : goal.returns-clause-plan
returns-clause-plan c =
    let rows = c.in_ok-rows.rows.items in
    let said = c.as_slice-2.ensures.value ∙ c.in_ok-lines.ensures
    ∙ ap (map (λ row. plan_line_of (fields_of row))) c.as_slice.ensures.value
    ∙ sym (map-map plan_line_of fields_of rows) in
    plan_read c.args.text.now (map fields_of rows) _ c.plan_of.result c.in_ok-rows.ensures.rows said
    c.plan_of.ensures.plan

pub returns-clause-fault : goal.returns-clause-fault
returns-clause-fault c =
    let rows = c.in_ok-rows.rows.items in
    let said = c.as_slice-2.ensures.value ∙ c.in_ok-lines.ensures
    ∙ ap (map (λ row. plan_line_of (fields_of row))) c.as_slice.ensures.value
    ∙ sym (map-map plan_line_of fields_of rows) in
    fault_read c.args.text.now (map fields_of rows) _ c.plan_of.result c.in_ok-rows.ensures.rows said
    c.plan_of.ensures.fault
