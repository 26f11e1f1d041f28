use Rattle.dispatch_room_commands.proofs.commands.perform.Goals as goal

pub returns-in-Init : goal.returns-in-Init
returns-in-Init g c = rw c.in-Init.is c.init.ensures

pub returns-in-Import : goal.returns-in-Import
returns-in-Import g c = rw c.in-Import.is c.import_fleet.ensures

pub returns-in-Replan : goal.returns-in-Replan
returns-in-Replan g c = rw c.in-Replan.is c.replan.ensures

pub returns-in-Migrate : goal.returns-in-Migrate
returns-in-Migrate g c = rw c.in-Migrate.is c.migrate.ensures

pub returns-in-Check : goal.returns-in-Check
returns-in-Check g c = rw c.in-Check.is c.check.ensures

pub returns-in-Digest : goal.returns-in-Digest
returns-in-Digest g c = rw c.in-Digest.is c.digest.ensures

pub returns-in-Restore : goal.returns-in-Restore
returns-in-Restore g c = rw c.in-Restore.is c.restore.ensures

pub returns-in-Serve : goal.returns-in-Serve
returns-in-Serve g c = rw c.in-Serve.is c.serve_file.ensures

pub returns-in-Replay : goal.returns-in-Replay
returns-in-Replay g c = rw c.in-Replay.is c.replay.ensures

pub returns-in-Renew : goal.returns-in-Renew
returns-in-Renew g c = rw c.in-Renew.is c.renew.ensures

pub returns-in-Verify : goal.returns-in-Verify
returns-in-Verify g c = rw c.in-Verify.is c.verify_list.ensures

pub returns-in-Board : goal.returns-in-Board
returns-in-Board g c = rw c.in-Board.is c.board.ensures

pub returns-in-Times : goal.returns-in-Times
returns-in-Times g c = rw c.in-Times.is c.times.ensures

pub returns-in-JoinedTimes : goal.returns-in-JoinedTimes
returns-in-JoinedTimes g c = rw c.in-JoinedTimes.is c.joined_times.ensures

pub returns-in-Terminals : goal.returns-in-Terminals
returns-in-Terminals g c = rw c.in-Terminals.is c.terminals.ensures

pub returns-in-SetTerminals : goal.returns-in-SetTerminals
returns-in-SetTerminals g c = rw c.in-SetTerminals.is c.set_terminals.ensures
