use Rattle.std.proofs.Common.{option_to_list, ap, arith, ◌∙◌, ◌++◌, ◌≡◌, ◌+◌, ◌-◌, length, refl}
use Rattle.std.proofs.Common.{sym, append-nil, true}
use Rattle.dispatch_room_sockets.specs.declared.kept_callers.Verdict.TheVariants.{Closed, Served}
use Rattle.dispatch_room_sockets.specs.declared.kept_callers.Verdict.TheVariants.{Waits}
use Rattle.dispatch_room_sockets.proofs.SweepLaws.{swept_left, swept_more, swept_none}
use Rattle.dispatch_room_sockets.proofs.lines.look_at_all.Goals.{in-Some+in-Waits}
use Rattle.dispatch_room_sockets.proofs.lines.look_at_all.Goals.{in-Some+in-Served}
use Rattle.dispatch_room_sockets.proofs.lines.look_at_all.Goals.{in-Some+in-Closed, in_default}
use Rattle.dispatch_room_sockets.proofs.lines.look_at_all.Goals as goal

pub loop-kept-init : goal.loop-kept-init
loop-kept-init g c =
    let count : c.len-kept-end.result - 0 ≡ length c.args.line.now.items = omega (arith, c.len-kept-end.ensures) in
    record {
      swept = swept_none c.args.now c.args.patience _ _ _ _ count;
      same = refl;
      bound = omega arith;
      line = refl;
      ready = refl;
    }

pub loop-kept-preserved : goal.loop-kept-preserved
loop-kept-preserved g c =
    let i = c.loop-kept.invariant in
    let count : c.len-kept-end.result - c.loop-kept._kept
    ≡ c.len-kept-end.result - (c.loop-kept._kept + 1) + 1 = omega (arith, c.loop-kept-test.true) in
    elim c.match-pop_front.branch [
      | in-Some+in-Waits w ↦ rw (w.entrance-is, w.line-is, w.ready-is) (record {
        swept =
            swept_more c.args.now c.args.patience _ _ _ _ _ _ _ _ w.in-Some.kept w.look_at.new.kept
            c.pop_front.new.self.items Waits (rw count at i.swept)
            (c.pop_front.ensures.items ∙ ap (λ r. option_to_list r ++ c.pop_front.new.self.items) w.in-Some.is)
            (rw w.in-Waits.is at w.look_at.ensures.looked) w.push_back_reserved.ensures.items (sym (append-nil _));
        same = rw i.same at w.look_at.ensures.same;
        bound =
            omega (
              arith,
              i.bound,
              c.pop_front.ensures.len,
              ap (λ r. length (option_to_list r)) w.in-Some.is,
              w.push_back_reserved.ensures.len,
            );
        line = w.push_back_reserved.ensures.capacity ∙ c.pop_front.ensures.capacity ∙ i.line;
        ready = i.ready;
      })
      | in-Some+in-Served w ↦ rw (w.entrance-is, w.line-is, w.ready-is) (record {
        swept =
            swept_more c.args.now c.args.patience _ _ _ _ _ _ _ _ w.in-Some.kept w.look_at.new.kept
            c.pop_front.new.self.items Served (rw count at i.swept)
            (c.pop_front.ensures.items ∙ ap (λ r. option_to_list r ++ c.pop_front.new.self.items) w.in-Some.is)
            (rw w.in-Served.is at w.look_at.ensures.looked) (sym (append-nil _))
            w.push_back_reserved-in-Served.ensures.items;
        same = rw i.same at w.look_at.ensures.same;
        bound =
            omega (
              arith,
              i.bound,
              c.pop_front.ensures.len,
              ap (λ r. length (option_to_list r)) w.in-Some.is,
              w.push_back_reserved-in-Served.ensures.len,
            );
        line = c.pop_front.ensures.capacity ∙ i.line;
        ready = w.push_back_reserved-in-Served.ensures.capacity ∙ i.ready;
      })
      | in-Some+in-Closed w ↦ rw (w.entrance-is, w.line-is, w.ready-is) (record {
        swept =
            swept_more c.args.now c.args.patience _ _ _ _ _ _ _ _ w.in-Some.kept w.look_at.new.kept
            c.pop_front.new.self.items Closed (rw count at i.swept)
            (c.pop_front.ensures.items ∙ ap (λ r. option_to_list r ++ c.pop_front.new.self.items) w.in-Some.is)
            (rw w.in-Closed.is at w.look_at.ensures.looked) (sym (append-nil _)) (sym (append-nil _));
        same = rw i.same at w.look_at.ensures.same;
        bound = omega (arith, i.bound, c.pop_front.ensures.len, ap (λ r. length (option_to_list r)) w.in-Some.is);
        line = c.pop_front.ensures.capacity ∙ i.line;
        ready = i.ready;
      })
      | in_default w ↦
          let none : length c.pop_front.new.self.items
          ≡ 0 = omega (arith, (rw w.in_default.is at c.pop_front.ensures.cases).1) in
          absurd (swept_left c.args.now c.args.patience _ _ _ _ _ _ _ (rw count at i.swept)
          (c.pop_front.ensures.items ∙ ap (λ r. option_to_list r ++ c.pop_front.new.self.items) w.in_default.is) none)
    ]
