use Rattle.std.proofs.Common.{rules}
use Rattle.std.specs.Cmp.Lexicographic.{texts_ties}
use Rattle.room_types.proofs.text.TextPartialEq.eq.Goals as goal

-- the bytes are alike exactly where they tie in their order
pub returns : goal.returns
returns g c = search (rules, texts_ties)
