use Rattle.room_store_file.proofs.WholeTables.{first_known, first_read, second_known, second_read}
use Rattle.room_store_file.proofs.room_digest.texts_of.Goals as goal

pub returns-in-First-clause-known : goal.returns-in-First-clause-known
returns-in-First-clause-known c = first_known

pub returns-in-First-clause-read : goal.returns-in-First-clause-read
returns-in-First-clause-read c = rw (c.in-First.is) first_read

pub returns-in-Second-clause-known : goal.returns-in-Second-clause-known
returns-in-Second-clause-known c = second_known

pub returns-in-Second-clause-read : goal.returns-in-Second-clause-read
returns-in-Second-clause-read c = rw (c.in-Second.is) second_read
