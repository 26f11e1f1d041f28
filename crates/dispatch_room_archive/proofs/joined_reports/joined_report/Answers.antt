use Rattle.std.proofs.Common.{FitsSigned, rules, subst, sym, true, w64, ◌∙◌, ◌≡◌}
use Rattle.std.proofs.lemmas.Int.{to_z-of_z}
use Rattle.std.specs.List.{list_all}
use Rattle.room_types.proofs.KeyedLaws.{keyed_filter}
use Rattle.room_types.specs.KeyedRows.{IsKeyed}
use Rattle.room_types.specs.Keys.{incident_key, owns_incident, pair_cmp}
use Rattle.room_types.specs.KeyLemmas.{pairs_total}
use Rattle.dispatch_room_archive.specs.JoinedReports.{AreOfBoth}
use Rattle.dispatch_room_archive.proofs.JoinedLemmas.{all_passing, report_shown}
use Rattle.dispatch_room_archive.proofs.joined_reports.joined_report.Goals as goal

pub times-requires : goal.times-requires
times-requires c =
    let owned = owns_incident c.args.newer.now.division in
    let older = subst (λ xs. list_all owned xs ≡ true) (sym c.in-Ok.ensures.ok)
    (all_passing pair_cmp incident_key owned c.args.rows.now.incidents) in
    (c.args.newer.now.division, c.in-Ok-joined.ensures.own c.args.newer.now.division older c.args.newer.now.owned)

pub returns-in-Ok-day_report-clause-report : goal.returns-in-Ok-day_report-clause-report
returns-in-Ok-day_report-clause-report c order =
    let newer = c.args.newer.now in
    let rows = c.args.rows.now.incidents in
    let owned = owns_incident newer.division in
    let older = subst (λ xs. list_all owned xs ≡ true) (sym c.in-Ok.ensures.ok)
    (all_passing pair_cmp incident_key owned rows) in
    let own = c.in-Ok-joined.ensures.own newer.division older newer.owned in
    let keyed = subst (IsKeyed pair_cmp incident_key) (sym c.in-Ok.ensures.ok)
    (keyed_filter pair_cmp incident_key pairs_total owned rows order) in
    let from : FitsSigned w64 newer.from = search rules in
    let to : FitsSigned w64 newer.to = search rules in
    record {
      both = c.in-Ok-joined.both;
      are =
          subst (λ xs. AreOfBoth newer.incidents xs c.in-Ok-joined.both) c.in-Ok.ensures.ok
          (c.in-Ok-joined.ensures.both keyed);
      says =
          λ r same.
          c.in-Ok-day_report.ensures
          ∙ report_shown newer.division newer.from newer.to r c.in-Ok-times.times
          (rw (to_z-of_z w64 newer.from from, to_z-of_z w64 newer.to to) at
          (c.in-Ok-times.ensures.times newer.division r same own));
    }
