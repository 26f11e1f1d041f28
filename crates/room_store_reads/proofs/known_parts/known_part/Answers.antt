use Rattle.std.proofs.Common.{ap, false, map, not, refl, sym, ℕ, ◌&&◌, ◌∙◌, ◌≡◌}
use Rattle.std.proofs.lemmas.Result.{IfOk-weaker}
use Rattle.std.specs.Prelude.{filter, ◌==◌}
use Rattle.room_types.specs.Codes.{is_active}
use Rattle.room_types.specs.Keys.{owns_call, owns_turn}
use Rattle.room_types.specs.declared.tables.Incident.{Incident}
use Rattle.room_model.specs.Queries.{incident_of}
use Rattle.room_store_cache.specs.IncidentNumbers.{contains}
use Rattle.room_store_cache.specs.ShownLists.{is_among}
use Rattle.room_store_cache.proofs.Filters.{and_none, filter_and, filter_as, or_none}
use Rattle.room_store_reads.proofs.ReadFilters.{filter_never}
use Rattle.room_store_cache.proofs.QueueReads.{number_of}
use Rattle.room_store_cache.proofs.ShownLaws.{among_read}
use Rattle.room_store_reads.proofs.KnownRows.{first_known, numbers_unless, then_read}
use Rattle.room_store_reads.specs.RequestReads.{reads_turns}
use Rattle.room_store_reads.specs.declared.request_reads.Incidents.TheVariants.{Active}
use Rattle.room_store_reads.proofs.known_parts.known_part.Goals as goal

pub returns-clause-part : goal.returns-clause-part
unfolding incident_of
returns-clause-part c =
    IfOk-weaker c.kept_part.result _ _ (λ part of_list room at in_order are shown.
    let d = c.args.division in
    let list = rw c.in-Some.is at c.get.ensures.so room are in
    let kept = rw list.0 at of_list in
    let all = rw list.0 at list.1 in
    let known = is_among d c.in-Some.list.now.incidents in
    let reads = reads_turns d Active room in
    let active = rw c.in-Active.is at shown in
    let keyed = in_order.incidents in
    let is_read = λ (i : Incident). is_active i.state in
    let same : (n : ℕ) → is_among d c.args.incidents.now n ≡ reads n = λ n.
    ap (λ is. is_among d is n) active ∙ among_read d is_read room.incidents keyed n ∙ sym (or_none _) in (
      known,
      rw c.in-Active.is (record {
        calls =
            kept.calls
            ∙ ap (filter (λ x. c.args.reads.now.calls && is_among d c.args.incidents.now x.incident)) all.calls
            ∙ sym (filter_and _ _ room.calls)
            ∙ filter_as _ _ room.calls (λ x.
            let n = x.incident in
            (λ j. (x.division == d && known n) && (c.args.reads.now.calls && same n j))
            ∙ first_known (x.division == d) c.args.reads.now.calls (known n) (reads n));
        turns = kept.turns ∙ ap (filter (λ x. is_among d c.args.incidents.now x.incident)) all.turns
            ∙ sym (filter_and _ _ room.turns)
            ∙ filter_as _ _ room.turns (λ x.
            let n = x.incident in
            (λ j. (x.division == d && known n) && same n j)
            ∙ then_read (x.division == d) (known n) (reads n));
        numbers =
            λ n.
            ap (contains n) (kept.numbers ∙ ap (λ is. map number_of (filter (λ i. not (known i.number)) is)) active)
            ∙ numbers_unless d is_read room.incidents keyed n known
            ∙ ap (λ b. not (known n) && b) (sym (or_none _));
      }),
    )) c.kept_part.ensures.part

pub returns-2-clause-part : goal.returns-2-clause-part
returns-2-clause-part c room at in_order are shown =
    let d = c.args.division in (
      λ n. false,
      record {
        calls = c.new.ensures ∙ sym (filter_never (owns_call d) _ room.calls (λ x. and_none c.args.reads.now.calls));
        turns = c.new-2.ensures ∙ sym (filter_never (owns_turn d) _ room.turns (λ x. refl));
        numbers = c.in_ok-numbers_read.ensures.ok d at room in_order shown;
      },
    )
