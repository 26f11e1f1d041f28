use Rattle.std.proofs.Common.{arith, eq-eqb, le-leb, lt-ltb, refl, subst}
use Rattle.std.specs.Prelude.{Some, ℕ, ◌+◌, ◌≡◌}
use Rattle.room_types.specs.KeyLemmas.{callsigns_total, numbered_total, pairs_total}
use Rattle.room_types.specs.KeyedRows.{row_at}
use Rattle.room_types.specs.Keys.{callsign_cmp, loan_key, numbered_cmp, offer_key, pair_cmp}
use Rattle.room_types.specs.Keys.{point_key, report_key}
use Rattle.room_model.proofs.Tests.{both_true, row_among}
use Rattle.room_model.specs.Moments.{scene_limit}
use Rattle.room_model.specs.Queries.{incident_of}
use Rattle.room_laws.proofs.Causes.{due, incident_at, on_way, served_by, vehicle_here}
use Rattle.room_laws.specs.Exceptions.{OutOfTurn, Overdue, ShiftOver, LateForScene, Unanswered}
use Rattle.room_laws.specs.Exceptions.{Uncovered, Unacknowledged, Unserved}
use Rattle.room_laws.proofs.exception_laws.each_cause_is_due.Goals as goal

pub returns-clause-incident : goal.returns-clause-incident
returns-clause-incident g d r i formed there own active alone =
    let m = i.opened + 181 in
    due d m r formed (Unserved i.number) (record {
      incident = i;
      found = incident_at d m r formed i there (eq-eqb i.division d own);
      active = active;
      late = lt-ltb _ _ (omega arith);
      nobody = λ t a. served_by d m r formed i.number t t.kind refl alone a;
    })

pub returns-clause-order : goal.returns-clause-order
unfolding on_way
returns-clause-order g d r v t formed there own mobilised turn unseen =
    let m = t.ordered + 61 in
    due d m r formed (Unacknowledged t.incident v.callsign) (record {
      way = on_way d m r formed v t there (both_true _ _ (eq-eqb v.holder d own) mobilised) turn;
      unseen = unseen;
      late = lt-ltb _ _ (omega arith);
    })

pub returns-clause-way : goal.returns-clause-way
unfolding on_way incident_of
returns-clause-way g d r v t i formed there own mobilised turn found =
    let m = i.opened + scene_limit i.class + 1 in
    due d m r formed (LateForScene t.incident v.callsign) (record {
      way = on_way d m r formed v t there (both_true _ _ (eq-eqb v.holder d own) mobilised) turn;
      incident = i;
      found = found;
      late = lt-ltb _ _ (omega arith);
    })

pub returns-clause-report : goal.returns-clause-report
returns-clause-report g d m r x formed there own exceptional =
    due d m r formed (OutOfTurn x.number x.callsign) (record {
      report = x;
      found = row_among numbered_cmp report_key numbered_total r.reports x formed.order.reports there;
      own = own;
      unended = exceptional;
    })

pub returns-clause-loan : goal.returns-clause-loan
returns-clause-loan g d r l formed there party =
    due d (l.until + 1) r formed (Overdue _ l.callsign) (record {
      loan = l;
      found = row_among callsign_cmp loan_key callsigns_total r.loans l formed.order.loans there;
      party = party;
      other = refl;
      late = lt-ltb _ _ (omega arith);
    })

pub returns-clause-shift : goal.returns-clause-shift
returns-clause-shift g d r v formed there own on =
    due d v.shift_end r formed (ShiftOver v.callsign) (record {
      vehicle = v;
      found = vehicle_here d v.shift_end r formed v there;
      holder = own;
      on = on;
      late = le-leb _ _ (omega arith);
    })

pub returns-clause-point : goal.returns-clause-point
returns-clause-point g d m r p formed there own short =
    due d m r formed (Uncovered p.number) (record {
      point = p;
      found =
          subst (λ (h : ℕ). row_at pair_cmp point_key r.points (h, p.number) ≡ Some p) own
          (row_among pair_cmp point_key pairs_total r.points p formed.order.points there);
      short = lt-ltb _ _ short;
    })

pub returns-clause-offer : goal.returns-clause-offer
returns-clause-offer g d r o formed there party =
    due d (o.since + 301) r formed (Unanswered _ o.callsign) (record {
      offer = o;
      found = row_among callsign_cmp offer_key callsigns_total r.offers o formed.order.offers there;
      party = party;
      other = refl;
      late = lt-ltb _ _ (omega arith);
    })
