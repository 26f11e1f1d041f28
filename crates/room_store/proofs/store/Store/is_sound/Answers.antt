use Rattle.room_store.proofs.store.Store.is_sound.Goals as goal

pub returns-clause-cause : goal.returns-clause-cause
returns-clause-cause g c clean is = c.requires.cause is clean
