use Rattle.std.proofs.Common.{inl, inr}
use Rattle.std.proofs.lemmas.Result.{IfErr-weaker, on_ok_weaker}
use Rattle.room_tables.proofs.ReadFailures.{holds_on}
use Rattle.dispatch_room_lists.proofs.FollowLemmas.{elsewhere}
use Rattle.dispatch_room_lists.proofs.followed_rows.make_towards.Goals as goal

pub returns-in-Ok-true-clause-made : goal.returns-in-Ok-true-clause-made
returns-in-Ok-true-clause-made g c =
    inl (record {
      stays = c.has_come_to.ensures.stays;
      met = λ clean. c.in-Ok-true.ensures.found.met clean c.in-Ok-true.field-0-test;
    })

pub returns-in-Err-clause-fault : goal.returns-in-Err-clause-fault
returns-in-Err-clause-fault g c = inl (c.in-Err.ensures.unavailable, c.has_come_to.ensures.stays)

pub returns-in_err-remade-clause-lost : goal.returns-in_err-remade-clause-lost
returns-in_err-remade-clause-lost g c =
    holds_on c.from_residual.result _ _ c.from_residual.ensures.1 (record {
      begun = c.has_come_to.new.room;
      elsewhere =
          elsewhere _ _ _ _ _ c.has_come_to.ensures.stays c.in-Ok-false.ensures.found
          c.in-Ok-false.field-0-test;
      loses = c.in_err-remade.ensures.fault;
    })

pub returns-clause-made : goal.returns-clause-made
returns-clause-made g c =
    on_ok_weaker c.followed_by.result.0
    (λ made. inr (record {
      begun = c.has_come_to.new.room;
      elsewhere =
          elsewhere _ _ _ _ _ c.has_come_to.ensures.stays c.in-Ok-false.ensures.found
          c.in-Ok-false.field-0-test;
      remakes = rw c.followed_by.ensures.room (rw made at c.in_ok-remade.ensures.made);
    }))
    c.followed_by.ensures.made

pub returns-clause-fault : goal.returns-clause-fault
returns-clause-fault g c =
    IfErr-weaker c.followed_by.result.0 _ _
    (λ fault is. inr (record {
      begun = c.has_come_to.new.room;
      elsewhere =
          elsewhere _ _ _ _ _ c.has_come_to.ensures.stays c.in-Ok-false.ensures.found
          c.in-Ok-false.field-0-test;
      failure = is.0;
      remakes = rw c.followed_by.ensures.room (rw is.1 at c.in_ok-remade.ensures.made);
      failed = is.2;
    }))
    c.followed_by.ensures.fault

pub returns-clause-goes : goal.returns-clause-goes
returns-clause-goes g c = record {
  ready = rw c.followed_by.ensures.room c.in_ok-remade.ensures.ready;
  set = λ serves is.
      rw (c.followed_by.ensures.room, c.followed_by.ensures.setting)
      (record { zone = c.in_ok-remade.ensures.zone; history = is.history });
  trusted = λ clean. c.has_come_to.ensures.goes.trusted
      (c.in_ok-remade.ensures.made.clean (rw c.followed_by.ensures.room at clean));
}
