use Rattle.std.proofs.Common.{[]}
use Rattle.room_store_file.specs.DigestTexts.{digest_text, tables_in}
use Rattle.room_store_file.proofs.room_digest.digest_inside.Goals as goal

pub returns-clause-digest : goal.returns-clause-digest
unfolding digest_text
returns-clause-digest g c clean config room h =
    let all = (c.in_ok-add_tables.ensures.rows clean (tables_in c.args.version config.zone config.terminals room)
    (c.texts_of.ensures.read _ config room h)).holds [] c.new-hasher.ensures in
    c.finalize.ensures _ all
