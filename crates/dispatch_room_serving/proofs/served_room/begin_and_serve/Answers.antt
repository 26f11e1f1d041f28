use Rattle.std.proofs.Common.{◌≡◌, append-nil, inl, inr, refl, sym, ℕ, List, [], Bool, Option}
use Rattle.std.proofs.Common.{Result, Ok, Err}
use Rattle.std.specs.Prelude.{MatchResult, true}
use Rattle.dispatch_room_exit.specs.declared.exit_status.Failure.{Failure}
use Rattle.dispatch_room_exit.specs.declared.exit_status.Failure.TheVariants.{Journal}
use Rattle.room_store.specs.declared.store.Store.{Store}
use Rattle.sqlite_trees.specs.declared.store.Store.{Ghosts}
use Rattle.room_model.specs.declared.digests.StartDigest.{StartDigest}
use Rattle.dispatch_room_serving.specs.ServedRoom.{Announces, KeepsHead, LooksOnly}
use Rattle.dispatch_room_serving.proofs.served_room.begin_and_serve.Goals as goal

-- the observer has failed only where it had
same_failed : (result : Result (Unit {0}) Failure)
    → ((fault : Failure) → result ≡ Err fault → ⊥) → (old new : Bool)
    → MatchResult result (λ _. new ≡ old) (λ fault. fault ≡ Journal → new ≡ true) → new ≡ old
same_failed (Ok stated) well old new is = is
same_failed (Err fault) well old new is = absurd (well fault refl)

module _ {S : Type 0} (g : Ghosts S) (wants : Bool) (begun : StartDigest → List ℕ) (old new : Store S)
    (kept keeps : Option (List ℕ)) where
  announced : (result : Result (Unit {0}) Failure) → ((fault : Failure) → result ≡ Err fault → ⊥)
      → Announces g wants begun old new kept keeps result
      → LooksOnly g old new × KeepsHead g wants begun old new kept keeps (Ok tt)
  announced (Ok stated) well is = is
  announced (Err fault) well is = absurd (well fault refl)

  -- what was announced is there where the callers don't begin
  unheard : (fault : Failure) → KeepsHead g wants begun old new kept keeps (Ok tt)
      → KeepsHead g wants begun old new kept keeps (Err fault)
  unheard fault head = inr (head.0, head.0, head.1, ([], sym (append-nil head.0)), head.2)

pub returns-in-Err-clause-attends : goal.returns-in-Err-clause-attends
returns-in-Err-clause-attends g c = inl (record {
  fault = c.in-Err.fault;
  why = inl c.in-Err.ensures.announces.0;
  result_is = refl;
  failed = c.in-Err.ensures.failed;
  unheard = (refl, refl, refl);
  looks = c.in-Err.ensures.announces.1;
  head = c.in-Err.ensures.announces.2;
})

pub returns-in-Ok-clause-attends : goal.returns-in-Ok-clause-attends
returns-in-Ok-clause-attends g c =
    let stated = announced g.S.Store _ _ c.args.room.now c.announce.new.room _ _ c.announce.result c.in_default.not-Err
    c.announce.ensures.announces in
    let failed : g.N.Observer.has_failed c.announce.new.journal_observer
    ≡ g.N.Observer.has_failed c.args.journal_observer.now =
    same_failed c.announce.result c.in_default.not-Err _ _ c.announce.ensures.failed in
    inr (record {
      store = c.announce.new.room;
      kept = g.N.Observer.held c.announce.new.journal_observer;
      looks = stated.0;
      head = stated.1;
      serves = rw (c.begin.ensures.heard, c.begin.ensures.written, failed) at c.serve_each.ensures.served;
    })

pub returns-in-Err-begin-clause-attends : goal.returns-in-Err-begin-clause-attends
returns-in-Err-begin-clause-attends g c =
    let stated = announced g.S.Store _ _ c.args.room.now c.announce.new.room _ _ c.announce.result c.in_default.not-Err
    c.announce.ensures.announces in
    inl (record {
      fault = c.in-Err-begin.fault;
      why = inr (inr c.in-Err-begin.ensures.fault);
      result_is = refl;
      failed = λ is. absurd (cc (is, c.in-Err-begin.ensures.fault));
      unheard = (c.begin.ensures.heard, c.begin.ensures.written, refl);
      looks = stated.0.looks;
      head = unheard g.S.Store _ _ c.args.room.now c.announce.new.room _ _ c.in-Err-begin.fault stated.1;
    })
