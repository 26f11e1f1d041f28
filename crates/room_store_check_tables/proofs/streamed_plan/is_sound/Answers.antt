use Rattle.room_store_check_tables.proofs.StreamLaws.{sound_shown}
use Rattle.room_store_check_tables.proofs.streamed_plan.is_sound.Goals as goal

pub returns-in-Ok-clause-test : goal.returns-in-Ok-clause-test
returns-in-Ok-clause-test c =
    sound_shown c.args.config.now.plan.areas c.args.config.now.terminals.items c.args.judged.now
    c.is_room_well_formed-formed.result c.in-Ok.fit c.is_room_well_formed-formed.ensures
    (rw c.as_slice.ensures.value at c.in-Ok.ensures.test)
