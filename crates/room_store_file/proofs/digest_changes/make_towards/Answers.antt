use Rattle.std.proofs.Common.{arith, ap, sym, ◌∙◌}
use Rattle.hex.specs.Hex.{encode_lower}
use Rattle.room_model.specs.Room.{apply}
use Rattle.room_tables_schema.proofs.WriteLaws.{commits_more}
use Rattle.room_store_file.proofs.Inside.{made_seen, never_both, reads_commit}
use Rattle.room_tables_schema.specs.FileConnections.{IsClean}
use Rattle.room_store_file.proofs.digest_changes.make_towards.Goals as goal

pub returns-then-is_written-clause-ok : goal.returns-then-is_written-clause-ok
returns-then-is_written-clause-ok g c clean =
    let early : IsClean g.S.Store c.put_each.new.tx.conn.now = omega
    (arith, c.digest_inside.ensures.reads.survives.clean) in
    let made = c.in_ok-put_each.ensures.ok early in
    let seen = made_seen (c.in_ok-hash.ensures.reads.ok clean) made in (
      seen,
      λ config room h. (
        seen.stands config room h,
        ap encode_lower
            (sym (c.in_ok-hash.ensures.digest clean config (apply room c.args.changes.now) (made.stands config room h)))
            ∙ c.is_written.ensures.0 c.if-is_written.true,
      ),
    )

pub returns-else-is_written-clause-another : goal.returns-else-is_written-clause-another
returns-else-is_written-clause-another g c clean is config room h same =
    let early : IsClean g.S.Store c.put_each.new.tx.conn.now = omega
    (arith, c.digest_inside.ensures.reads.survives.clean) in
    let made = c.in_ok-put_each.ensures.ok early in
    never_both c.is_written.result c.if-is_written.false
    (c.is_written.ensures.1 (ap encode_lower
    (c.in_ok-hash.ensures.digest clean config (apply room c.args.changes.now) (made.stands config room h)) ∙ same))

pub returns-then-is_written-clause-commits : goal.returns-then-is_written-clause-commits
returns-then-is_written-clause-commits g c =
    commits_more c.put_each.ensures.commits (reads_commit c.digest_inside.result c.digest_inside.ensures.reads)

pub returns-else-is_written-clause-commits : goal.returns-else-is_written-clause-commits
returns-else-is_written-clause-commits g c =
    commits_more c.put_each.ensures.commits (reads_commit c.digest_inside.result c.digest_inside.ensures.reads)

pub returns-in_err-hash-clause-commits : goal.returns-in_err-hash-clause-commits
returns-in_err-hash-clause-commits g c =
    commits_more c.put_each.ensures.commits (reads_commit c.digest_inside.result c.digest_inside.ensures.reads)
