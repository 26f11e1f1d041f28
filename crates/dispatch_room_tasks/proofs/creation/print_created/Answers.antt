use Rattle.std.proofs.Common.{refl, subst}
use Rattle.std.specs.Io.KnownBytes.{Appends}
use Rattle.dispatch_room_tasks.proofs.CreatedLemmas.{amounts_printed}
use Rattle.dispatch_room_tasks.proofs.creation.print_created.Goals as goal

pub returns-in-Ok : goal.returns-in-Ok
returns-in-Ok g c =
    let stated = amounts_printed c.args.created.now _ _ _ c.count_divisions-divisions.ensures c.areas.ensures
    c.len-terminals.ensures in (
      subst (Appends (g.O.Write.contents c.args.out.now) (g.O.Write.contents c.writeln.new.self)) stated
          c.in-Ok.ensures.bytes,
      refl,
    )
