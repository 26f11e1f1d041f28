use Rattle.std.proofs.Common.{List, refl, subst, sym, true, ℕ}
use Rattle.sqlite.specs.Held.{state}
use Rattle.room_tables.specs.RoomsInTables.{Stands}
use Rattle.room_store_writes.specs.NewRoom.{in_order, new_room}
use Rattle.room_store.proofs.CreationLaws.{new_room_formed, new_terminals_fit}
use Rattle.room_store.proofs.KnownLaws.{knows_none, knows_nothing}
use Rattle.room_store.proofs.StoreLaws.{ready_sound, settled_kept}
use Rattle.room_store.proofs.LookLaws.{left_same}
use Rattle.room_store_writes.proofs.CommitLaws.{unchanged_survives}
use Rattle.room_store.proofs.store.Store.create.Goals as goal

pub returns-in-Ok-create_in-clause-room : goal.returns-in-Ok-create_in-clause-room
returns-in-Ok-create_in-clause-room g c clean =
    let plan = c.args.plan.now in
    let terminals = in_order c.args.terminals.now in
    let trees = (state g.S.Store c.create_in.new.conn).now.trees in
    let begun = c.in-Ok-create_in.ensures.ok clean in
    record {
      formed = new_room_formed plan;
      fits = new_terminals_fit plan c.args.terminals.now c.in-Ok.ensures.begun.terminals;
      plan = sym c.in-Ok.ensures.plan.0;
      known = knows_none terminals _ c.new.ensures;
      cache = knows_nothing c.new-in-Ok-create_in.result (new_room plan) c.new-in-Ok-create_in.ensures;
      tables =
          λ is_open.
          subst (λ (zone : List ℕ). Stands trees (record { zone = zone; terminals = terminals }) (new_room plan))
          (sym c.in-Ok.ensures.plan.1) begun.stands;
    }

pub returns-in-Ok-create_in-clause-kept : goal.returns-in-Ok-create_in-clause-kept
returns-in-Ok-create_in-clause-kept g c clean =
    settled_kept g.S.Store
    (record {
      conn = c.create_in.new.conn;
      plan = c.in-Ok.own;
      terminals = c.new.result;
      cache = c.new-in-Ok-create_in.result;
      is_sound = true;
    }) (g.met.S.Store.settled c.create_in.new.conn.store) (c.in-Ok-create_in.ensures.ok clean).settled

pub returns-in-Err-clause-err : goal.returns-in-Err-clause-err
returns-in-Err-clause-err g c clean = left_same _

pub returns-in-Err-clause-survives_fault : goal.returns-in-Err-clause-survives_fault
returns-in-Err-clause-survives_fault g c = unchanged_survives g.S.Store c.args.conn _

pub create_in-requires-clause-committed : goal.create_in-requires-clause-committed
create_in-requires-clause-committed g c =
    c.lemma_committed.ensures c.requires.outside

pub returns-in-Ok-create_in-clause-ready : goal.returns-in-Ok-create_in-clause-ready
returns-in-Ok-create_in-clause-ready g c =
    ready_sound g.S.Store
    (record {
      conn = c.create_in.new.conn;
      plan = c.in-Ok.own;
      terminals = c.new.result;
      cache = c.new-in-Ok-create_in.result;
      is_sound = true;
    }) c.create_in.ensures.ended refl (λ clean. record {
      schema = (c.in-Ok-create_in.ensures.ok clean).schema;
      settled = (c.in-Ok-create_in.ensures.ok clean).settled;
    })

pub returns-in-Ok-create_in-clause-settled : goal.returns-in-Ok-create_in-clause-settled
returns-in-Ok-create_in-clause-settled g c clean = (c.in-Ok-create_in.ensures.ok clean).settled

pub returns-in-Ok-create_in-clause-survives : goal.returns-in-Ok-create_in-clause-survives
returns-in-Ok-create_in-clause-survives g c = c.create_in.ensures.survives

pub returns-in-Err-create_in-clause-err : goal.returns-in-Err-create_in-clause-err
returns-in-Err-create_in-clause-err g c clean = c.in-Err-create_in.ensures.err clean

pub returns-in-Err-create_in-clause-survives_fault : goal.returns-in-Err-create_in-clause-survives_fault
returns-in-Err-create_in-clause-survives_fault g c = c.create_in.ensures.survives
