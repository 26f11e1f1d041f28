use Rattle.std.proofs.Common.{ap, arith, drop, length, of_z, sym, to_z, w64, ◌+◌, ◌++◌, ◌∙◌, ◌∷◌}
use Rattle.std.proofs.Common.{◌≡◌}
use Rattle.std.proofs.lemmas.Grind.{common_steps}
use Rattle.std.proofs.lemmas.Int.{to_z-of_z}
use Rattle.std.specs.Prelude.{filter}
use Rattle.room_model.specs.ClosedIncidents.{page_of}
use Rattle.room_incident.proofs.ClosedLaws.{full_page, last_page}
use Rattle.room_incident.specs.ClosedPages.{is_on_pages}
use Rattle.room_incident.proofs.closed_incidents.page_of.Goals as goal

pub returns-then-len-eq-PAGE-clause-page : goal.returns-then-len-eq-PAGE-clause-page
returns-then-len-eq-PAGE-clause-page c =
    let slice = c.args.slice.now in
    let kept = c.loop-incident.incidents in
    let is_kept = is_on_pages slice.division slice.rows.turns (to_z w64 (of_z w64 c.args.from))
    (to_z w64 (of_z w64 c.args.to)) c.args.search.now in
    let full : length kept ≡ 100 = sym c.len.ensures ∙ c.if-len-eq-PAGE.true in
    let all : kept
    ++ c.incident-item.result ∷ filter is_kept (drop (c.loop-incident.incident-index + 1) slice.rows.incidents)
    ≡ filter is_kept slice.rows.incidents = grind (arith, common_steps) in
    let page = sym (full_page kept c.incident-item.result _ full) ∙ ap page_of all in
    rw (to_z-of_z w64 c.args.from c.ranges.from, to_z-of_z w64 c.args.to c.ranges.to) at page

pub returns-clause-page : goal.returns-clause-page
returns-clause-page c =
    let slice = c.args.slice.now in
    let kept = c.loop-incident.incidents in
    let is_kept = is_on_pages slice.division slice.rows.turns (to_z w64 (of_z w64 c.args.from))
    (to_z w64 (of_z w64 c.args.to)) c.args.search.now in
    let all : kept ≡ filter is_kept slice.rows.incidents = grind (arith, common_steps) in
    let page = sym (last_page kept c.loop-incident.invariant.few) ∙ ap page_of all in
    rw (to_z-of_z w64 c.args.from c.ranges.from, to_z-of_z w64 c.args.to c.ranges.to) at page
