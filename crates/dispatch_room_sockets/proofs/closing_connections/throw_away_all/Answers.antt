-- Who stays is behind the others.
use Rattle.std.proofs.Common.{ap, arith, length, option_to_list, refl, ◌+◌, ◌++◌, ◌-◌, ◌∙◌, ◌≡◌}
use Rattle.dispatch_room_sockets.proofs.LeaverLaws.{all_seen, none_rested, none_yet, one_gone}
use Rattle.dispatch_room_sockets.proofs.LeaverLaws.{one_stays, some_left}
use Rattle.dispatch_room_sockets.proofs.closing_connections.throw_away_all.Goals.{in-Some+then-stays}
use Rattle.dispatch_room_sockets.proofs.closing_connections.throw_away_all.Goals.{in-Some+else-stays}
use Rattle.dispatch_room_sockets.proofs.closing_connections.throw_away_all.Goals.{in_default}
use Rattle.dispatch_room_sockets.proofs.closing_connections.throw_away_all.Goals as goal

pub loop-leaver-init : goal.loop-leaver-init
loop-leaver-init g c =
    let count : c.len-leaver-end.result - 0
    ≡ length c.args.closing_connections.now.items = omega (arith, c.len-leaver-end.ensures) in
    record {
      in_time = none_yet c.args.now _ _ count;
      same = refl;
      bound = omega arith;
      capacity = refl;
    }

pub loop-leaver-preserved : goal.loop-leaver-preserved
loop-leaver-preserved g c =
    let i = c.loop-leaver.invariant in
    let rest : c.len-leaver-end.result - c.loop-leaver._leaver
    ≡ c.len-leaver-end.result - (c.loop-leaver._leaver + 1) + 1 = omega (arith, c.loop-leaver-test.true) in
    let others = c.pop_front.new.self.items in
    elim c.match-pop_front.branch [
      | in-Some+then-stays w ↦ rw (w.entrance-is, w.closing_connections-is) (record {
        in_time =
            one_stays c.args.now _ _ _ others _ w.in-Some.leaver w.stays.new.leaver (rw rest at i.in_time)
            (c.pop_front.ensures.items ∙ ap (λ r. option_to_list r ++ others) w.in-Some.is)
            w.push_back_reserved.ensures.items (w.stays.ensures.in_time w.if-stays.true)
            (λ rests. (w.stays.ensures.rests rests).1) w.stays.ensures.due;
        same = w.stays.ensures.same ∙ i.same;
        bound =
            omega (
              arith,
              i.bound,
              c.pop_front.ensures.len,
              ap (λ r. length (option_to_list r)) w.in-Some.is,
              w.push_back_reserved.ensures.len,
            );
        capacity = w.push_back_reserved.ensures.capacity ∙ c.pop_front.ensures.capacity ∙ i.capacity;
      })
      | in-Some+else-stays w ↦ rw (w.entrance-is, w.closing_connections-is) (record {
        in_time =
            one_gone c.args.now _ _ _ others w.in-Some.leaver (rw rest at i.in_time)
            (c.pop_front.ensures.items ∙ ap (λ r. option_to_list r ++ others) w.in-Some.is)
            (none_rested c.args.now _ _ _ w.stays.ensures.rests w.if-stays.false);
        same = w.stays.ensures.same ∙ i.same;
        bound = omega (arith, i.bound, c.pop_front.ensures.len, ap (λ r. length (option_to_list r)) w.in-Some.is);
        capacity = c.pop_front.ensures.capacity ∙ i.capacity;
      })
      | in_default w ↦
          let none : length others ≡ 0 = omega (arith, (rw w.in_default.is at c.pop_front.ensures.cases).1) in
          absurd (some_left c.args.now _ _ _ _ (rw rest at i.in_time)
          (c.pop_front.ensures.items ∙ ap (λ r. option_to_list r ++ others) w.in_default.is) none)
    ]

pub returns : goal.returns
returns g c =
    let i = c.loop-leaver.invariant in
    let last : c.len-leaver-end.result - c.loop-leaver._leaver ≡ 0 = omega (arith, c.loop-leaver-test.false) in
    let seen = all_seen c.args.now _ _ (rw last at i.in_time) in
    record {
      in_time = seen.0;
      rest = seen.1;
      same = i.same;
      bound = i.bound;
      capacity = i.capacity;
    }
