-- The greatest serial of calls that are taken one at a time.
use Rattle.std.proofs.Common.{List, [], ap, arith, ◌++◌, ◌∙◌, ◌∷◌, ◌≡◌}
use Rattle.std.specs.Prelude.{max}
use Rattle.room_types.specs.declared.tables.Call.{Call}
use Rattle.room_model.specs.Queries.{greatest_serial}

pub greatest_end : (calls : List Call) (call : Call)
    → greatest_serial (calls ++ call ∷ []) ≡ max (greatest_serial calls) call.serial
greatest_end [] call = omega arith
greatest_end (c ∷ calls) call = ap (λ n. max c.serial n) (greatest_end calls call) ∙ omega arith
