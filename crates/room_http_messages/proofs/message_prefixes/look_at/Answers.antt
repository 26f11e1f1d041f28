use Rattle.std.proofs.Common.{arith, refl, rules}
use Rattle.room_http_messages.proofs.LookLemmas.{window_is, no_head_always, too_long_always}
use Rattle.room_http_messages.proofs.LookLemmas.{part_of_head, found_in, by_rule_always}
use Rattle.room_http_messages.proofs.LookLemmas.{part_of_body, whole}
use Rattle.room_http_messages.proofs.message_prefixes.look_at.Goals as goal

pub returns-in-Ok-Partial : goal.returns-in-Ok-Partial
returns-in-Ok-Partial c =
    let is = window_is c.args.bytes.now c.min.result c.min.ensures in (
      omega arith,
      omega arith,
      part_of_head c.args.bytes.now c.if-bytes-lt-HEAD_LIMIT.true (record {
        none = rw (c.in-Ok-Partial.field-0-is, is) at c.in-Ok-Partial.ensures.partial;
        may = rw (c.in-Ok-Partial.field-0-is, is) at c.in-Ok-Partial.ensures.unfinished;
      }),
    )

pub returns-in-Ok-Partial-2 : goal.returns-in-Ok-Partial-2
returns-in-Ok-Partial-2 c =
    let is = window_is c.args.bytes.now c.min.result c.min.ensures in
    too_long_always c.args.bytes.now c.if-bytes-lt-HEAD_LIMIT.false (record {
      none = rw (c.in-Ok-Partial.field-0-is, is) at c.in-Ok-Partial.ensures.partial;
      may = rw (c.in-Ok-Partial.field-0-is, is) at c.in-Ok-Partial.ensures.unfinished;
    })

pub returns-in-Err : goal.returns-in-Err
returns-in-Err c =
    no_head_always c.args.bytes.now
    (rw (window_is c.args.bytes.now c.min.result c.min.ensures) at c.in-Err.ensures.no_room)

pub returns-in-Err-check_head : goal.returns-in-Err-check_head
returns-in-Err-check_head c =
    let within = rw c.in-Ok-Complete.field-0-is at c.in-Ok-Complete.ensures.within in
    let head = rw c.in-Ok-Complete.field-0-is at c.in-Ok-Complete.ensures.complete in
    let found = found_in c.args.bytes.now c.min.result c.parse_request.new.headers c.in-Ok-Complete.head head.0
    c.min.ensures c.parse_request.auto.headers within head.1 in
    by_rule_always _ _ _ _ _ _ _ _ found c.in-Err-check_head.ensures (search rules)

pub returns-in-Ok : goal.returns-in-Ok
returns-in-Ok c =
    let within = rw c.in-Ok-Complete.field-0-is at c.in-Ok-Complete.ensures.within in
    let head = rw c.in-Ok-Complete.field-0-is at c.in-Ok-Complete.ensures.complete in
    let found = found_in c.args.bytes.now c.min.result c.parse_request.new.headers c.in-Ok-Complete.head head.0
    c.min.ensures c.parse_request.auto.headers within head.1 in (
      c.if-bytes-head.true,
      omega (arith, within.section.len_fits, found.short, c.in-Ok.ensures.2),
      part_of_body _ _ _ _ _ _ _ found c.in-Ok.ensures.0 c.in-Ok.ensures.1,
    )

pub returns-in-Ok-2 : goal.returns-in-Ok-2
returns-in-Ok-2 c =
    let within = rw c.in-Ok-Complete.field-0-is at c.in-Ok-Complete.ensures.within in
    let head = rw c.in-Ok-Complete.field-0-is at c.in-Ok-Complete.ensures.complete in
    let found = found_in c.args.bytes.now c.min.result c.parse_request.new.headers c.in-Ok-Complete.head head.0
    c.min.ensures c.parse_request.auto.headers within head.1 in
    whole _ _ _ _ _ _ _ _ found c.in-Ok.ensures.0 c.in-Ok.ensures.1 c.if-bytes-head.false (record {
      method = refl;
      target = refl;
      content = refl;
      terminal = c.only.ensures.value _ _ c.find_field.ensures;
      terminal_in = c.only.ensures.within _ _ c.find_field.ensures;
      head_only = search rules;
      closing = c.is_closing.ensures;
    })
