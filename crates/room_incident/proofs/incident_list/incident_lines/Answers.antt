use Rattle.std.proofs.Common.{List, [], ap, arith, false, length, map, sym, take_all, true, ◌&&◌}
use Rattle.std.proofs.Common.{◌∙◌, ◌≡◌, ◌≤◌}
use Rattle.std.specs.Prelude.{filter, ◌==◌}
use Rattle.room_types.specs.Codes.{is_active}
use Rattle.room_types.specs.declared.tables.Incident.{Incident}
use Rattle.room_model.specs.Incidents.{incident_line}
use Rattle.room_model.specs.Queries.{active_incidents, calls_of, served}
use Rattle.room_model.specs.RoomSlices.{room_of}
use Rattle.room_incident.proofs.TallyLaws.{left_out, none_active, shown_more}
use Rattle.room_incident.proofs.incident_list.incident_lines.Goals.{then-eq+then-is_active+in_ok-push}
use Rattle.room_incident.proofs.incident_list.incident_lines.Goals.{else-eq}
use Rattle.room_incident.proofs.incident_list.incident_lines.Goals.{else-eq-via-then-eq+else-is_active}
use Rattle.room_incident.proofs.incident_list.incident_lines.Goals.{else-eq-via-else-eq}
use Rattle.room_incident.proofs.incident_list.incident_lines.Goals as goal

pub returns-then-not-has_active-clause-lines : goal.returns-then-not-has_active-clause-lines
unfolding active_incidents
returns-then-not-has_active-clause-lines c plan =
    let slice = c.args.slice.now in
    c.new.ensures
    ∙ ap (map _) (sym (none_active (λ i. i.division == slice.division) slice.rows.incidents
    (sym c.has_active.ensures ∙ c.if-not-has_active.true)))

pub loop-at-preserved : goal.loop-at-preserved
loop-at-preserved c =
    let slice = c.args.slice.now in
    let d = slice.division in
    let xs = slice.rows.incidents in
    let x = c.incident-item.result in
    let at = c.loop-at.at in
    let f = incident_line d (room_of [] slice.rows) in
    let p = λ (i : Incident). i.division == d && is_active i.state in
    let inside = rw c.as_slice-incident-items.ensures.all at c.loop-at-test.true in
    let here = rw c.as_slice-incident-items.ensures.all at c.incident-item.is in
    elim c.if-eq.branch [
      | then-eq+then-is_active+in_ok-push w ↦
          let passes : p x ≡ true = λ t.
          (sym c.eq.ensures ∙ w.if-eq.true) t && (sym w.is_active.ensures ∙ w.if-is_active.true) t in
          w.lines-is
          ∙ (w.in_ok-push.ensures.ok
          ∙ shown_more f p xs c.loop-at.lines at x inside here c.loop-at.invariant _ passes
          (w.incident_line.ensures []))
      | else-eq w ↦
          let fails : p x ≡ false = elim w.else-eq.branch [
            | else-eq-via-then-eq+else-is_active v ↦
                (λ t. (sym c.eq.ensures ∙ v.if-eq.true) t && (sym v.is_active.ensures ∙ v.if-is_active.false) t)
            | else-eq-via-else-eq v ↦ ap (λ b. b && is_active x.state) (sym c.eq.ensures ∙ v.if-eq.false)
          ] in
          w.lines-is ∙ left_out f p xs c.loop-at.lines at x inside here c.loop-at.invariant fails
    ]

pub returns-clause-lines : goal.returns-clause-lines
unfolding active_incidents calls_of served
returns-clause-lines c plan =
    let slice = c.args.slice.now in
    let past : length c.as_slice-incident-items.result.now ≤ c.loop-at.at = omega (arith, c.loop-at-test.false) in
    let all = take_all c.loop-at.at slice.rows.incidents (rw c.as_slice-incident-items.ensures.all at past) in
    c.loop-at.invariant
    ∙ ap (λ (xs : List Incident).
    map (incident_line slice.division (room_of [] slice.rows))
    (filter (λ (i : Incident). i.division == slice.division && is_active i.state) xs)) all
