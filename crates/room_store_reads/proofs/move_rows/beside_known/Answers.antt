use Rattle.std.proofs.Common.{subst}
use Rattle.std.proofs.lemmas.Result.{IfOk-weaker}
use Rattle.room_store_reads.proofs.MoveReads.{never, same_number}
use Rattle.room_store_reads.specs.MoveParts.{HasIncident}
use Rattle.room_store_reads.proofs.move_rows.beside_known.Goals as goal

pub returns-in-Some : goal.returns-in-Some
returns-in-Some c =
    let m = c.args.next.now in
    IfOk-weaker c.incident_known.result _ _ (λ x has room in_order fleet is. record {
      incident = λ n named.
          subst (λ k. HasIncident c.args.division k room x) (same_number m.incident _ n c.in-Some.is named)
          (has room is);
      turn = λ v none there on. never m.incident _ none c.in-Some.is;
    }) c.incident_known.ensures

pub returns-in_ok-turns-in-None : goal.returns-in_ok-turns-in-None
returns-in_ok-turns-in-None c room in_order fleet is = record {
  incident = λ n named. never c.args.next.now.incident n c.in-None.is named;
  turn = λ v none there on. c.in_ok-turns-in-None.ensures room v in_order fleet there on;
}
