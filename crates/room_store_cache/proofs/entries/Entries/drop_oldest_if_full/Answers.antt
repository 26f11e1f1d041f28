use Rattle.room_store_cache.proofs.KeptLaws.{apart_rest}
use Rattle.room_store_cache.proofs.entries.Entries.drop_oldest_if_full.Goals as goal

pub invariant_of-self-clause-apart : goal.invariant_of-self-clause-apart
invariant_of-self-clause-apart g c =
    rw c.remove.ensures.items (apart_rest g.E.Entry.key_of c.args.self.now.kept.items c.args.self.now.apart)
