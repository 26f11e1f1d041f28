use Rattle.std.proofs.Common.{refl}
use Rattle.room_types.specs.Keys.{incident_key, pair_cmp}
use Rattle.room_store_cache.proofs.KeptLaws.{all_kept}
use Rattle.room_store_cache.specs.HalfHours.{IsOpenedIn}
use Rattle.room_store_cache.proofs.half_hours.HalfHour.with.Goals as goal
use Rattle.room_store_cache.proofs.half_hours.HalfHour.with.Goals.{else-is_since-via-then-is_since+else-not-is_in}
use Rattle.room_store_cache.proofs.half_hours.HalfHour.with.Goals.{else-is_since-via-else-is_since}

pub invariant_of-result : goal.invariant_of-result
invariant_of-result c =
    let P = IsOpenedIn c.args.self.from in
    record {
      within =
          rw c.in-Ok.ensures.put (all_kept pair_cmp incident_key P c.args.self.incidents c.args.incident.now _
          (λ since. elim c.else-is_since.branch [
            | else-is_since-via-then-is_since+else-not-is_in w ↦ w.if-not-is_in.ensures.0 refl
            | else-is_since-via-else-is_since w ↦ absurd (cc)
          ]) c.args.self.within);
    }
