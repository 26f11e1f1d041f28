use Rattle.std.proofs.Common.{◌∙◌, ap, arith, length, not, refl, sym, true≢false, None, Some}
use Rattle.std.specs.Duration.{as_nanos}
use Rattle.dispatch_room_sockets.proofs.PieceTurnLaws.{first_hindered, nobody_ready}
use Rattle.dispatch_room_sockets.proofs.PieceTurnLaws.{one_given_piece}
use Rattle.dispatch_room_sockets.proofs.RoundLaws.{heard_before, heard_nobody, rounds_given}
use Rattle.dispatch_room_sockets.proofs.pieces.next_piece.Goals.{then-is_awaited, else-is_awaited}
use Rattle.dispatch_room_sockets.proofs.pieces.next_piece.Goals as goal

pub returns-in_err-first-clause-given : goal.returns-in_err-first-clause-given
returns-in_err-first-clause-given g c =
    rw c.from_residual.ensures
    (nobody_ready _ _ _ _ _ _ _ _ (rounds_given _ _ c.hear.ensures.rounds)
    (λ some.
    let same = c.hear.ensures.stay some in
    (ap (λ w. w.ready.items) same, ap (λ w. w.line.items) same)) (c.in_err-first.ensures.nobody refl))

pub returns-in_err-stream-clause-given : goal.returns-in_err-stream-clause-given
returns-in_err-stream-clause-given g c =
    rw c.from_residual-in_err-stream.ensures
    (first_hindered _ _ _ _ _ _ _ _ (rounds_given _ _ c.hear.ensures.rounds)
    (λ some.
    let same = c.hear.ensures.stay some in
    (ap (λ w. w.ready.items) same, ap (λ w. w.line.items) same)) _ _ c.in_ok-first.ensures.first
    (c.in_err-stream.ensures.none refl))

pub returns-clause-given : goal.returns-clause-given
returns-clause-given g c =
    one_given_piece _ _ _ _ _ _ _ _ (rounds_given _ _ c.hear.ensures.rounds)
    (λ some.
    let same = c.hear.ensures.stay some in
    (ap (λ w. w.ready.items) same, ap (λ w. w.line.items) same)) _ _ _ _ _ c.in_ok-kept.ensures.given
    c.in_ok-kept.ensures.in_turn
    (c.new.ensures.kept ∙ ap (λ client. record c.in_ok-kept.kept { caller = client }) c.release.ensures)
    (c.in_ok-kept.ensures.room refl)

pub returns-in_err-first-clause-hears : goal.returns-in_err-first-clause-hears
returns-in_err-first-clause-hears g c = rw c.from_residual.ensures (record {
  first = None;
  is = refl;
  hears = heard_nobody _ _ _ c.hear.ensures.stay c.hear.ensures.around;
})

pub returns-in_err-stream-clause-hears : goal.returns-in_err-stream-clause-hears
returns-in_err-stream-clause-hears g c = rw c.from_residual-in_err-stream.ensures (record {
  first = None;
  is = refl;
  hears = heard_nobody _ _ _ c.hear.ensures.stay c.hear.ensures.around;
})

pub returns-clause-hears : goal.returns-clause-hears
returns-clause-hears g c = record {
  first = Some c.in_ok-kept.kept;
  is = ap Some
      (c.new.ensures.kept
      ∙ ap (λ client. record c.in_ok-kept.kept { caller = client }) c.release.ensures);
  hears =
      heard_before _ _ _ c.hear.ensures.stay c.hear.ensures.around _ _ c.in_ok-kept.ensures.hears
      (λ none. omega (arith, ap length c.in_ok-first.ensures.first, none));
}

pub returns-clause-turn : goal.returns-clause-turn
returns-clause-turn g c = record {
  now = c.in_ok-stream.now;
  shown = c.in_ok-stream.ensures.shown;
  ends = c.new.ensures.turn.1;
  pause = as_nanos c.if-is_awaited.pause;
  only = c.new.ensures.turn.0;
  beside = λ some. elim c.if-is_awaited.branch [
    | then-is_awaited w ↦ rw w.pause-is refl
    | else-is_awaited w ↦ absurd (true≢false (sym (w.if-is_awaited.ensures ∙ ap not some)))
  ];
  single = λ none. elim c.if-is_awaited.branch [
    | then-is_awaited w ↦ absurd (true≢false (w.if-is_awaited.ensures ∙ ap not none))
    | else-is_awaited w ↦ rw w.pause-is w.pause-pause.ensures.least
  ];
}
