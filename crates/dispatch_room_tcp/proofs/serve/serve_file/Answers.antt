use Rattle.std.proofs.Common.{Ok, false, refl, sym, true, ◌≡◌, ◌∙◌}
use Rattle.dispatch_room_disk.proofs.WorkLemmas.{stops}
use Rattle.dispatch_room_tcp.specs.ServedFiles.{is_endless}
use Rattle.dispatch_room_tcp.proofs.serve.serve_file.Goals as goal

pub returns-in_err-journal : goal.returns-in_err-journal
returns-in_err-journal g c =
    stops _ _ _ _ c.from_residual.result _ c.from_residual.ensures.1
    (λ fault is. rw is (c.in_err-journal.ensures.opens _))

pub returns-then-is_endless : goal.returns-then-is_endless
returns-then-is_endless g c =
    let endless : is_endless c.args.service ≡ true = sym c.is_endless.ensures ∙ c.if-is_endless.true in
    record {
      between = record { printed = _; done = _ };
      found = Ok c.in_ok-journal.journal;
      is = c.in_ok-journal.ensures.opens _;
      rest = rw endless (
        c.acceptor_of.result,
        c.acceptor_of.ensures.acceptor,
        rw c.acceptor_of.ensures.deaf at c.serve_at.ensures,
      );
    }

pub returns-else-is_endless : goal.returns-else-is_endless
returns-else-is_endless g c =
    let counted : is_endless c.args.service ≡ false = sym c.is_endless.ensures ∙ c.if-is_endless.false in
    record {
      between = record { printed = _; done = _ };
      found = Ok c.in_ok-journal.journal;
      is = c.in_ok-journal.ensures.opens _;
      rest = rw counted (
        c.address_of.result,
        c.address_of.ensures.address,
        rw c.address_of.ensures.deaf at c.serve_at-else-is_endless.ensures,
      );
    }
