use Rattle.std.proofs.Common.{◌&&◌, ◌∙◌}
use Rattle.std.proofs.lemmas.Result.{on_ok_weaker}
use Rattle.std.specs.Prelude.{◌==◌}
use Rattle.room_types.specs.Keys.{call_key, numbered_cmp, pair_cmp, turn_key}
use Rattle.room_types.specs.KeyLemmas.{numbered_total, pairs_total}
use Rattle.room_store_cache.specs.ShownLists.{has}
use Rattle.room_store_cache.proofs.KeptLaws.{pass_put}
use Rattle.room_store_cache.proofs.shown_lists.ShownListEntry.apply.Goals as goal

pub returns-in-PutCall-clause-so : goal.returns-in-PutCall-clause-so
returns-in-PutCall-clause-so c =
    let x = c.args.self.now in
    on_ok_weaker c.put_if.result (λ kept room in_order known. rw c.in-PutCall.is (record {
      calls =
          kept
          ∙ pass_put pair_cmp call_key pairs_total (λ y. y.division == x.division && has x y.incident) x.calls
          room.calls c.in-PutCall.call _ c.keeps-is_kept.ensures in_order.calls known.calls;
      turns = known.turns;
    })) c.put_if.ensures.put

pub returns-in-PutTurn-clause-so : goal.returns-in-PutTurn-clause-so
returns-in-PutTurn-clause-so c =
    let x = c.args.self.now in
    on_ok_weaker c.put_if-in-PutTurn.result (λ kept room in_order known. rw c.in-PutTurn.is (record {
      calls = known.calls;
      turns =
          kept
          ∙ pass_put numbered_cmp turn_key numbered_total (λ y. y.division == x.division && has x y.incident) x.turns
          room.turns c.in-PutTurn.turn _ c.keeps-is_kept-in-PutTurn.ensures in_order.turns known.turns;
    })) c.put_if-in-PutTurn.ensures.put
