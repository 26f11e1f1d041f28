use Rattle.std.proofs.Common.{arith}
use Rattle.std.proofs.lemmas.List.{at_drop_more}
use Rattle.std.specs.List.{flat_map}
use Rattle.sqlite_value.specs.declared.value.Value.TheVariants.{Null}
use Rattle.room_store_file.specs.DigestTexts.{value_text}
use Rattle.room_store_file.proofs.Added.{less_left}
use Rattle.room_store_file.proofs.row_hash.add_row.Goals.{in-Ok, in_default}
use Rattle.room_store_file.proofs.row_hash.add_row.Goals as goal

pub loop-at-preserved : goal.loop-at-preserved
loop-at-preserved c = elim c.match-get_ref.branch [
  | in-Ok w ↦
      rw (w.hasher-is) (less_left
      (at_drop_more (flat_map value_text) c.args.row.now c.loop-at.at Null w.in-Ok.ensures.ok.0) c.loop-at.invariant
      (rw (w.in-Ok.ensures.ok.1) at w.add_value.ensures))
  | in_default w ↦ absurd (omega (arith, w.in_default.ensures.err.1))
]
