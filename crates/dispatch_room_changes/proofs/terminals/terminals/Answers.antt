use Rattle.dispatch_room_changes.proofs.terminals.terminals.Goals as goal

pub returns-in-List : goal.returns-in-List
returns-in-List g c = rw c.in-List.is c.list.ensures

pub returns-in-New : goal.returns-in-New
returns-in-New g c = rw c.in-New.is c.give_token.ensures

pub returns-in-Revoke : goal.returns-in-Revoke
returns-in-Revoke g c = rw c.in-Revoke.is c.revoke.ensures
