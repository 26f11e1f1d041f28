use Rattle.std.proofs.Common.{◌+◌, ◌-◌, ◌<◌, length, vec_len}
use Rattle.std.specs.Io.KnownBytes.{Consumes}
use Rattle.dispatch_room_board.specs.declared.exchange.TheConstants.{MOST_HEARD, PIECE}
use Rattle.dispatch_room_board.proofs.exchange.hear.Given as goal

abbrev pub invariant-reads : goal.invariant-reads
invariant-reads g l = record {
  heard : Consumes (g.R.Source.left l.initial.reader) (g.R.Source.left l.reader) l.heard.items;
  most : length l.heard.items < MOST_HEARD + PIECE;
}

abbrev pub decreases-reads : goal.decreases-reads
decreases-reads g l = MOST_HEARD - vec_len l.heard
