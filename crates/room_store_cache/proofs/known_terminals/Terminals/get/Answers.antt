use Rattle.std.proofs.Common.{Ok, rules}
use Rattle.std.proofs.lemmas.List.Sorted.{answers_always}
use Rattle.room_types.specs.declared.fleet.Terminal.{Terminal}
use Rattle.room_store_cache.proofs.TerminalLaws.{has_token, known_one}
use Rattle.room_store_cache.proofs.known_terminals.Terminals.get.Goals as goal

pub returns-in-Ok : goal.returns-in-Ok
returns-in-Ok c terminals all =
    let same = c.deref.ensures.value in
    let found = has_token c.deref.result.now c.args.token.now (Ok c.in-Ok.at)
    (c.in-Ok.ensures.position (λ (t : Terminal). t.token) (answers_always _ _ _ (λ f a r h called. search rules))) in
    known_one terminals c.args.self.now.kept.items c.args.token.now c.in-Ok.at c.index.result.now all
    (rw same at c.in-Ok.ensures.bound) (rw same at found) c.index.ensures
