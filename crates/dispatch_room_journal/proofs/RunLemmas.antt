-- Lemmas on records of one kind, one after another.
use Rattle.std.proofs.Common.{◌≡◌, ◌∙◌, refl, sym, ap, ℕ, ◌+◌, List, [], ◌∷◌, ◌++◌, drop}
use Rattle.std.proofs.Common.{append_assoc}
use Rattle.std.proofs.lemmas.List.{drop-append-le}
use Rattle.std.proofs.lemmas.List.Elements.{All-nil, All-push}
use Rattle.dispatch_room_journal.specs.declared.record_headers.TheConstants.{HEADER}
use Rattle.dispatch_room_journal.specs.declared.record_fronts.Front.TheVariants.{Whole}
use Rattle.dispatch_room_journal.specs.declared.record_fronts.Link.{Link}
use Rattle.dispatch_room_journal.specs.Chains.{chain_text, is_end, next_check, record_text}
use Rattle.dispatch_room_journal.specs.Chains.{sha256_digits}
use Rattle.dispatch_room_journal.specs.RecordFronts.{Stays, after, body_in, front_of}
use Rattle.dispatch_room_journal.specs.RecordRuns.{Runs}
use Rattle.dispatch_room_journal.proofs.FrontLemmas.{body_stays}
use Rattle.dispatch_room_journal.proofs.PlainLemmas.{bodies-push, chain-push, ended-push, last-push}
use Rattle.dispatch_room_journal.proofs.SoundLemmas.{next_whole}

-- no record was taken
pub none_run : (Kind : List ℕ → Type 0) (link : Link) (text : List ℕ) → Runs Kind link text [] text link
none_run Kind link text =
    record { are = tt; kinds = All-nil Kind; is = refl; check = refl; has_ended = refl }

-- the text goes on to one record more
module _ (Kind : List ℕ → Type 0) (first link : Link) (kept : List ℕ) (size : ℕ) (check : List ℕ)
    (stays : Stays (front_of sha256_digits link.check link.has_ended) link.has_ended kept (Whole size check))
    (bodies : List (List ℕ)) where
  abbrev body : List ℕ
  body = body_in size kept

  abbrev next_link : Link
  next_link = record { check = check; has_ended = is_end body }

  pub run_more : (text more : List ℕ) → Runs Kind first text bodies (kept ++ more) link → Kind body
      → Runs Kind first text (bodies ++ body ∷ []) (drop (HEADER + size) kept ++ more) next_link
  run_more text more goes is_kind =
      let next = next_whole sha256_digits link.check link.has_ended (kept ++ more) size check (stays.3 more) in
      let same : body_in size (kept ++ more) ≡ body = body_stays size kept more stays.0 in
      let is_one = (rw same at next.is_one) in
      let comes = (rw same at next.comes) in
      let split = (rw same at next.text_is) in
      let checked = (rw same at next.next_is) in
      let front = chain_text sha256_digits first.check bodies in
      let after_is : after size (kept ++ more)
      ≡ drop (HEADER + size) kept ++ more = drop-append-le (HEADER + size) kept more stays.0 in
      record {
        are = bodies-push bodies first.has_ended body goes.are is_one (rw goes.has_ended at comes);
        kinds = All-push Kind bodies body goes.kinds is_kind;
        is =
            goes.is
            ∙ ap (λ t. front ++ t)
            (split ∙ ap (λ t. record_text sha256_digits link.check body ++ t) after_is)
            ∙ sym (append_assoc front (record_text sha256_digits link.check body)
            (drop (HEADER + size) kept ++ more))
            ∙ ap (λ t. t ++ (drop (HEADER + size) kept ++ more))
            (ap (λ k. front ++ record_text sha256_digits k body) goes.check
            ∙ sym (chain-push sha256_digits bodies first.check body));
        check =
            checked ∙ ap (λ k. next_check sha256_digits k body) goes.check
            ∙ sym (last-push sha256_digits bodies first.check body);
        has_ended = sym (ended-push bodies first.has_ended body);
      }
