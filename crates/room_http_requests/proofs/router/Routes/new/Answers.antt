use Rattle.std.proofs.Common.{◌∙◌, sym, []}
use Rattle.std.proofs.lemmas.List.Sums.{fold_more}
use Rattle.room_http_requests.specs.Router.{with_path}
use Rattle.room_http_requests.specs.declared.request_table.Path.TheVariants.{Call}
use Rattle.room_http_requests.specs.declared.request_table.TheConstants.{PATHS}
use Rattle.room_http_requests.proofs.TableLemmas.{all_free, free_at}
use Rattle.room_http_requests.proofs.router.Routes.new.Goals as goal

pub add-requires : goal.add-requires
add-requires c = rw c.loop-path.invariant (free_at [] PATHS c.loop-path.path-index Call all_free c.loop-path-test.true)

pub loop-path-preserved : goal.loop-path-preserved
loop-path-preserved c =
    rw c.loop-path.invariant at c.in_ok-add.ensures.ok
    ∙ sym (fold_more with_path [] PATHS c.loop-path.path-index Call c.loop-path-test.true)
