use Rattle.std.proofs.Common.{◌≡◌, ◌++◌, drop}
use Rattle.room_alloc.proofs.proposals.append.Given as goal

abbrev pub invariant-loop-proposal : goal.invariant-loop-proposal
invariant-loop-proposal l = l.all ++ drop l.proposal-index l.more ≡ l.initial.all ++ l.more
