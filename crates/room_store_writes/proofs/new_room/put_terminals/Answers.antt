use Rattle.std.proofs.Common.{[], ap, arith, length, subst, sym, take, ◌+◌, ◌++◌, ◌∙◌, ◌∷◌, ◌≡◌}
use Rattle.std.proofs.Common.{◌≤◌}
use Rattle.std.proofs.lemmas.List.{take_all, take_more}
use Rattle.sqlite.specs.Held.{state}
use Rattle.sqlite.specs.State.{HasCleanDisk}
use Rattle.room_tables.specs.RoomsInTables.{Stands}
use Rattle.std.proofs.lemmas.List.Sums.{fold-append}
use Rattle.room_types.specs.KeyedRows.{put_row}
use Rattle.room_model.specs.FleetRows.{terminal_key, token_cmp}
use Rattle.room_tables_schema.proofs.WriteLaws.{commits_more}
use Rattle.room_store_writes.specs.NewRoom.{put_all}
use Rattle.room_store_writes.proofs.CommitLaws.{put_commits}
use Rattle.room_store_writes.proofs.new_room.put_terminals.Goals as goal

pub loop-terminal-preserved : goal.loop-terminal-preserved
loop-terminal-preserved g c =
    let old = state g.S.Store c.args.tx.now.conn.now in
    let mid = state g.S.Store c.loop-terminal.tx.conn.now in
    let new = state g.S.Store c.put_terminal.new.tx.conn.now in
    let before = c.loop-terminal.invariant in
    let early = λ (clean : HasCleanDisk new).
    let e : HasCleanDisk mid = omega (arith, c.put_terminal.ensures.writes.survives.clean) in e in
    let ts = c.args.terminals.now in
    let at = c.loop-terminal.terminal-index in
    let item = c.terminal-item.result in
    let more : take (at + 1) ts
    ≡ take at ts ++ item ∷ [] = rw c.terminal-item.is (take_more ts at _ c.loop-terminal-test.true) in
    record {
      same_reference = c.put_terminal.ensures.same_reference ∙ before.same_reference;
      commits =
          commits_more before.commits
          (put_commits _ _ _ _ _ c.put_terminal.result c.put_terminal.ensures.ok c.put_terminal.ensures.writes);
      may = record {
        room = λ clean. (c.in_ok-put_terminal.ensures.ok clean).schema;
        inside = λ clean. (c.in_ok-put_terminal.ensures.ok clean).inside.mode;
      };
      stands = λ clean config room h.
          let among = put_all config.terminals (take at ts) in
          subst (λ l. Stands new.now.trees (record config { terminals = l }) room)
          (sym (ap (put_all config.terminals) more
          ∙ fold-append (put_row token_cmp terminal_key) config.terminals (take at ts) (item ∷ [])))
          ((c.in_ok-put_terminal.ensures.ok clean).stands (record config { terminals = among }) room
          (before.stands (early clean) config room h));
    }

pub returns-clause-stands : goal.returns-clause-stands
returns-clause-stands g c clean config room h =
    let ts = c.args.terminals.now in
    let past : length ts ≤ c.loop-terminal.terminal-index = omega (arith, c.loop-terminal-test.false) in
    subst (λ l.
    Stands (state g.S.Store c.loop-terminal.tx.conn.now).now.trees
    (record config { terminals = put_all config.terminals l }) room) (take_all c.loop-terminal.terminal-index ts past)
    (c.loop-terminal.invariant.stands clean config room h)

pub returns-in_err-put_terminal-clause-commits : goal.returns-in_err-put_terminal-clause-commits
returns-in_err-put_terminal-clause-commits g c =
    commits_more c.loop-terminal.invariant.commits
    (put_commits _ _ _ _ _ c.put_terminal.result c.put_terminal.ensures.ok c.put_terminal.ensures.writes)
