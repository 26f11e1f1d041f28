use Rattle.std.proofs.Common.{List, [], arith, inl, inr, refl, subst, sym, take, ◌+◌, ◌++◌, ◌∷◌}
use Rattle.std.proofs.Common.{◌≡◌}
use Rattle.std.proofs.lemmas.List.{take_more}
use Rattle.room_types.specs.declared.fleet.Terminal.{Terminal}
use Rattle.room_model.specs.Digests.{IsHeadOf, digits_of}
use Rattle.room_model.specs.Room.{Room}
use Rattle.room_store_file.specs.DigestTexts.{digest_of}
use Rattle.room_store.proofs.EnrolledLaws.{enrolled_more}
use Rattle.room_store.specs.FleetEnrolment.{room_after_rows, terminals_after_rows}
use Rattle.room_store.specs.StoredRoom.{IsRoom}
use Rattle.dispatch_room_lists.proofs.DueLemmas.{begins, goes_on, no_more, unmet_here, unmet_more}
use Rattle.dispatch_room_lists.proofs.listed_rows.enrol_rows.Goals as goal

pub loop-row-init : goal.loop-row-init
loop-row-init g c = record {
  goes = record { ready = c.requires.ready; zone = refl; trusted = λ clean. clean };
  done = λ clean terminals room is. (begins _ _ _ terminals room, is);
}

pub loop-row-preserved : goal.loop-row-preserved
loop-row-preserved g c =
    let before = c.loop-row.invariant in
    let rows = c.args.rows.now in
    let i = c.loop-row.row-index in
    let row = c.row-item.result in
    let more : take (i + 1) rows
    ≡ take i rows ++ row ∷ [] = rw c.row-item.is (take_more rows i _ c.loop-row-test.true) in
    record {
      goes = goes_on _ _ _ _ (goes_on _ _ _ _ before.goes c.has_come_to.ensures.goes) c.enrol_row.ensures.goes;
      done = λ clean terminals room is.
          let looked = c.enrol_row.ensures.goes.trusted clean in
          let early = c.has_come_to.ensures.stays.clean looked in
          let done = before.done early terminals room is in
          let now = terminals_after_rows (take i rows) room terminals in
          let at = room_after_rows (take i rows) room terminals in
          let stands = c.has_come_to.ensures.stays.same looked now at done.1 in
          let unmet = c.in-Ok-false.ensures.found.unmet looked in (
            unmet_more _ _ rows terminals room _ _ i row more done.0
                (unmet_here _ _ rows terminals room _ i done.0 (λ changed.
                subst (λ zone. ¬ IsHeadOf (digits_of digest_of zone) c.args.head.now now at) before.goes.zone
                (unmet c.in-Ok-false.field-0-test changed now at done.1)))
                (λ none. c.in-Ok.ensures.same clean none now at stands),
            subst (λ (p : Room × List Terminal). IsRoom g.S.Store c.enrol_row.new.room p.1 p.0)
                (sym (enrolled_more rows i row more room terminals)) (c.in-Ok.ensures.enrolled clean now at stands),
          );
    }

pub returns-in-Ok-true-clause-goes : goal.returns-in-Ok-true-clause-goes
returns-in-Ok-true-clause-goes g c = goes_on _ _ _ _ c.loop-row.invariant.goes c.has_come_to.ensures.goes

pub returns-in-Err-clause-goes : goal.returns-in-Err-clause-goes
returns-in-Err-clause-goes g c = goes_on _ _ _ _ c.loop-row.invariant.goes c.has_come_to.ensures.goes

pub returns-in-Ok-true-clause-enrolled : goal.returns-in-Ok-true-clause-enrolled
returns-in-Ok-true-clause-enrolled g c clean terminals room is =
    let before = c.loop-row.invariant in
    let done = before.done (c.has_come_to.ensures.stays.clean clean) terminals room is in
    let i = c.loop-row.row-index in
    let now = terminals_after_rows (take i c.args.rows.now) room terminals in
    let at = room_after_rows (take i c.args.rows.now) room terminals in (
      i,
      record {
        no_more = record { within = c.loop-row.auto.row-index-end; fewest = done.0.fewest };
        met = inl (subst (λ zone. IsHeadOf (digits_of digest_of zone) c.args.head.now now at) before.goes.zone
            (c.in-Ok-true.ensures.found.met clean c.in-Ok-true.field-0-test now at done.1));
      },
      c.has_come_to.ensures.stays.same clean now at done.1,
    )

pub returns-clause-enrolled : goal.returns-clause-enrolled
returns-clause-enrolled g c clean terminals room is =
    let done = c.loop-row.invariant.done clean terminals room is in (
      c.loop-row.row-index,
      record {
        no_more = record { within = c.loop-row.auto.row-index-end; fewest = done.0.fewest };
        met = inr (omega (arith, c.loop-row.auto.row-index-end, c.loop-row-test.false));
      },
      done.1,
    )

pub returns-clause-goes : goal.returns-clause-goes
returns-clause-goes g c = c.loop-row.invariant.goes

pub returns-in-Err-clause-part : goal.returns-in-Err-clause-part
returns-in-Err-clause-part g c clean terminals room is =
    let done = c.loop-row.invariant.done (c.has_come_to.ensures.stays.clean clean) terminals room is in (
      c.loop-row.row-index,
      record { within = c.loop-row.auto.row-index-end; fewest = done.0.fewest },
      c.has_come_to.ensures.stays.same clean _ _ done.1,
    )

pub returns-in-Err-enrol_row-clause-part : goal.returns-in-Err-enrol_row-clause-part
returns-in-Err-enrol_row-clause-part g c clean terminals room is =
    let before = c.loop-row.invariant in
    let rows = c.args.rows.now in
    let i = c.loop-row.row-index in
    let looked = c.enrol_row.ensures.goes.trusted clean in
    let done = before.done (c.has_come_to.ensures.stays.clean looked) terminals room is in
    let now = terminals_after_rows (take i rows) room terminals in
    let at = room_after_rows (take i rows) room terminals in
    let stands = c.has_come_to.ensures.stays.same looked now at done.1 in
    elim (c.in-Err-enrol_row.ensures.part clean now at stands) [
      | inl same ↦ (i, record { within = c.loop-row.auto.row-index-end; fewest = done.0.fewest }, same)
      | inr more ↦ (
        i + 1,
        no_more _ _ rows terminals room i c.loop-row-test.true done.0.fewest
            (unmet_here _ _ rows terminals room _ i done.0 (λ changed.
            subst (λ zone. ¬ IsHeadOf (digits_of digest_of zone) c.args.head.now now at) before.goes.zone
            (c.in-Ok-false.ensures.found.unmet looked c.in-Ok-false.field-0-test changed now at done.1))),
        subst (λ (p : Room × List Terminal). IsRoom g.S.Store c.enrol_row.new.room p.1 p.0)
            (sym (enrolled_more rows i c.row-item.result (rw c.row-item.is (take_more rows i _ c.loop-row-test.true))
            room terminals)) more,
      )
    ]
