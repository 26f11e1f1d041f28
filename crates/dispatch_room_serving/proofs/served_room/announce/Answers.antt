use Rattle.std.proofs.Common.{◌≡◌, ◌∙◌, ap, inl, inr, refl, sym, if◌then◌else◌, ℕ, List, [], Bool}
use Rattle.std.proofs.Common.{true, false, ◌⊎◌}
use Rattle.hex.specs.Hex.{encode_lower}
use Rattle.dispatch_room_exit.specs.ExitStatus.{refused}
use Rattle.dispatch_room_exit.specs.declared.exit_status.Failure.{Failure}
use Rattle.dispatch_room_exit.specs.declared.exit_status.Failure.TheVariants.{Journal, Memory}
use Rattle.dispatch_room_exit.specs.declared.exit_status.Failure.TheVariants.{Storage}
use Rattle.room_http_messages.proofs.StreamLemmas.{Appends-none}
use Rattle.room_model.specs.Rooms.{IsUnavailable}
use Rattle.room_model.specs.declared.digests.StartDigest.{StartDigest}
use Rattle.room_model.specs.declared.digests.Version.TheVariants.{Second}
use Rattle.room_types.specs.declared.refusal_statuses.Refusal.{Refusal}
use Rattle.dispatch_room_serving.proofs.ConnectionLaws.{looks_same}
use Rattle.dispatch_room_serving.proofs.served_room.announce.Goals as goal

-- the head that is announced
abbrev second : List ℕ → StartDigest
second digits = record { version = Second; digits = digits }

-- what is kept where the digest is wanted, and where it is not
where_wanted : (wants asked : Bool) (text : List ℕ) → asked ≡ wants → asked ≡ true → text ≡ if wants then text else []
where_wanted true asked text same is = refl
where_wanted false asked text same is = cc

where_unwanted : (wants asked : Bool) (text : List ℕ) → asked ≡ wants → asked ≡ false → [] ≡ if wants then text else []
where_unwanted true asked text same is = absurd (cc)
where_unwanted false asked text same is = refl

never_wanted : {P : Type 0} (wants asked : Bool) → asked ≡ wants → asked ≡ false → wants ≡ true → P
never_wanted wants asked same is wanted = absurd (cc)

pub returns-then-not-wants_digest-clause-announces :
    goal.returns-then-not-wants_digest-clause-announces
returns-then-not-wants_digest-clause-announces g c = (
  record { looks = looks_same g.S.Store c.args.room.now; kept = λ clean kept. kept },
  (
    [],
    record {
      head = second [];
      known =
          never_wanted (g.N.JournalObserver.wants c.args.journal_observer.now) c.wants_digest.result
          c.wants_digest.ensures c.if-not-wants_digest.true;
      text_is =
          where_unwanted (g.N.JournalObserver.wants c.args.journal_observer.now) c.wants_digest.result
          (g.N.JournalObserver.begun (second [])) c.wants_digest.ensures c.if-not-wants_digest.true;
    },
    Appends-none (g.N.Observer.held c.args.journal_observer.now),
  ),
)

pub returns-in-Ok-begins-clause-announces : goal.returns-in-Ok-begins-clause-announces
returns-in-Ok-begins-clause-announces g c = (
  record {
    looks = record {
      zone = ap (λ plan. plan.zone) c.digest_of_room.ensures.plan;
      trusted = c.digest_of_room.ensures.trusted;
      same = c.digest_of_room.ensures.same;
      left = c.digest_of_room.ensures.left;
    };
    kept = c.in-Ok.ensures.kept;
  },
  (
    g.N.JournalObserver.begun (second c.digest_of.result),
    record {
      head = second c.digest_of.result;
      known =
          λ wanted. (
            refl,
            λ clean terminals room is.
                sym (c.digest_of.ensures.written ∙ ap encode_lower (c.in-Ok.ensures.known clean terminals room is)),
          );
      text_is =
          where_wanted (g.N.JournalObserver.wants c.args.journal_observer.now) c.wants_digest.result
          (g.N.JournalObserver.begun (second c.digest_of.result)) c.wants_digest.ensures c.if-not-wants_digest.false;
    },
    c.in-Ok-begins.ensures.kept,
  ),
)

pub returns-in-Err-begins-clause-announces : goal.returns-in-Err-begins-clause-announces
returns-in-Err-begins-clause-announces g c =
    let kept = c.in-Err-begins.ensures.kept in (
      (sym c.wants_digest.ensures ∙ c.if-not-wants_digest.false, inl refl),
      record {
        zone = ap (λ plan. plan.zone) c.digest_of_room.ensures.plan;
        trusted = c.digest_of_room.ensures.trusted;
        same = c.digest_of_room.ensures.same;
        left = c.digest_of_room.ensures.left;
      },
      inr (
        g.N.JournalObserver.begun (second c.digest_of.result),
        kept.0,
        record {
          head = second c.digest_of.result;
          known =
              λ wanted. (
                refl,
                λ clean terminals room is.
                    sym (c.digest_of.ensures.written ∙ ap encode_lower (c.in-Ok.ensures.known clean terminals room is)),
              );
          text_is =
              where_wanted (g.N.JournalObserver.wants c.args.journal_observer.now) c.wants_digest.result
              (g.N.JournalObserver.begun (second c.digest_of.result)) c.wants_digest.ensures
              c.if-not-wants_digest.false;
        },
        kept.1,
        kept.2,
      ),
    )

-- a store that can't be read refuses for memory or for storage
unread : (refusal : Refusal) (fault : Failure) → fault ≡ refused refusal → IsUnavailable refusal
    → (fault ≡ Journal) ⊎ (fault ≡ Memory) ⊎ (fault ≡ Storage)
unread refusal fault same (inl is) = inr (inl (same ∙ ap refused is))
unread refusal fault same (inr is) = inr (inr (same ∙ ap refused is))

pub returns-in-Err-clause-announces : goal.returns-in-Err-clause-announces
returns-in-Err-clause-announces g c = (
  (
    sym c.wants_digest.ensures ∙ c.if-not-wants_digest.false,
    unread c.in-Err.refusal c.refused.result c.refused.ensures c.in-Err.ensures.unavailable,
  ),
  record {
    zone = ap (λ plan. plan.zone) c.digest_of_room.ensures.plan;
    trusted = c.digest_of_room.ensures.trusted;
    same = c.digest_of_room.ensures.same;
    left = c.digest_of_room.ensures.left;
  },
  inl refl,
)
