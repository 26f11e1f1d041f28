use Rattle.std.proofs.Common.{arith, inl, inr, refl, sym, ◌∙◌}
use Rattle.dispatch_room_disk.proofs.WorkLemmas.{where_well}
use Rattle.dispatch_room_changes.proofs.KeptLemmas.{where_failed}
use Rattle.dispatch_room_changes.proofs.kept_enrolments.keep_and_enrol.Goals as goal

pub returns-in-Err : goal.returns-in-Err
returns-in-Err g c =
    inl (record {
      stays = c.head_of.ensures.stays;
      unprinted = refl;
      fault = c.in-Err.fault;
      done_is = refl;
      why = inl (c.in-Err.ensures.fault, refl);
    })

pub returns-then-is_err : goal.returns-then-is_err
returns-then-is_err g c =
    inl (record {
      stays = c.head_of.ensures.stays;
      unprinted = refl;
      fault = _;
      done_is = refl;
      why = inr (
        refl,
        where_failed c.keep_lines.result _ (sym c.is_err.ensures.value ∙ c.if-is_err.true) c.keep_lines.ensures.unkept,
      );
    })

pub returns : goal.returns
returns g c =
    inr (record {
      begun = c.head_of.new.room;
      head = c.in-Ok.head;
      shows = c.in-Ok.ensures.head;
      kept = c.keep_lines.new.list;
      keeps =
          where_well c.keep_lines.result _ (sym c.is_err.ensures.value ∙ c.if-is_err.false) c.keep_lines.ensures.kept;
      enrolled = c.enrol-came.new.room;
      came = c.enrol-came.result;
      imports = record {
        clean = λ clean. omega (arith, c.enrol-came.ensures.survives.clean);
        imported = c.enrol-came.ensures.imported;
        printed = c.enrol-came.ensures.printed;
      };
      ends = c.end_kept.ensures;
    })
