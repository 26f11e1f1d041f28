use Rattle.std.proofs.Common.{Bool, ap, not, sym, ◌&&◌, ◌∙◌}
use Rattle.dispatch_room_archive.proofs.PastLaws.{report_is}
use Rattle.dispatch_room_archive.proofs.past_rows.Past.is_report_over.Goals as goal

pub returns-then-is_settled : goal.returns-then-is_settled
returns-then-is_settled c plan =
    let last = c.is_last-is_last.result in
    let x = c.args.report.now in
    ap (λ (y : Bool). y && not last) (sym (sym c.is_settled.ensures ∙ c.if-is_settled.true))
    ∙ report_is c.args.self.now.since c.args.self.now.rows.now plan x last
    c.is_last-is_last.ensures
