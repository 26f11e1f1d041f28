-- Lemmas on a chain that is read again.
use Rattle.std.proofs.Common.{◌≡◌, ◌∙◌, refl, sym, ap, arith, ℕ, ◌+◌, ◌-◌, ◌*◌, ◌/◌, ◌%◌, ◌≤◌, List}
use Rattle.std.proofs.Common.{[], ◌∷◌, ◌++◌, length, length-append, take, drop, append_assoc, Bool}
use Rattle.std.proofs.Common.{true, false}
use Rattle.std.proofs.lemmas.List.{drop-drop, take_at, drop_at}
use Rattle.std.proofs.lemmas.Slice.Eq.{bytes_eq-Decides}
use Rattle.std.specs.List.{flat_map}
use Rattle.std.specs.Str.{bytes_eq}
use Rattle.dispatch_room_journal.specs.declared.record_headers.TheConstants.{HEADER}
use Rattle.dispatch_room_journal.specs.declared.record_fronts.Front.TheVariants.{Whole}
use Rattle.dispatch_room_journal.specs.declared.read_progress.Reach.TheVariants.{Full}
use Rattle.dispatch_room_journal.specs.Chains.{IsBody, chain_text, first_check, header, is_end}
use Rattle.dispatch_room_journal.specs.Chains.{next_check, record_text, said_by}
use Rattle.dispatch_room_journal.specs.RecordFronts.{after, body_in, comes_next, front_of, says}
use Rattle.dispatch_room_journal.specs.RecordFronts.{sized_front, whole_front}
use Rattle.dispatch_room_journal.specs.ChainLaws.{AreBodies, IsReadAgain}
use Rattle.dispatch_room_journal.proofs.FrontLemmas.{front_sized, sized_whole, whole_is}
use Rattle.dispatch_room_journal.proofs.SaysLemmas.{says_none, says_whole}
use Rattle.dispatch_room_journal.proofs.SoundLemmas.{chain_opened}

-- five digits are the number that they were written for
pub five_digits : (n : ℕ) → n ≤ 99999
    → (48 + n / 10000 % 10 - 48) * 10000 + (48 + n / 1000 % 10 - 48) * 1000
    + (48 + n / 100 % 10 - 48) * 100 + (48 + n / 10 % 10 - 48) * 10 + (48 + n % 10 - 48) ≡ n
five_digits n fits = omega (arith, fits)

module _ (hash : List ℕ → List ℕ) (long : (text : List ℕ) → length (hash text) ≡ 64) where
  module _ (check : List ℕ) (has_ended : Bool) (body rest : List ℕ) (is_one : IsBody body)
      (comes : comes_next has_ended body ≡ true) where
    abbrev text : List ℕ
    text = record_text hash check body ++ rest

    abbrev next : List ℕ
    next = next_check hash check body

    header_long : length (header (length body) next) ≡ HEADER
    header_long = omega (arith, long (check ++ body), length-append next (10 ∷ []))

    split : text ≡ header (length body) next ++ (body ++ rest)
    split = append_assoc (header (length body) next) body rest

    pub read_line : take HEADER text ≡ header (length body) next
    read_line = ap (take HEADER) split ∙ take_at (header (length body) next) (body ++ rest) HEADER header_long

    behind : drop HEADER text ≡ body ++ rest
    behind = ap (drop HEADER) split ∙ drop_at (header (length body) next) (body ++ rest) HEADER header_long

    pub read_body : body_in (length body) text ≡ body
    read_body = ap (take (length body)) behind ∙ take_at body rest (length body) refl

    pub read_after : after (length body) text ≡ rest
    read_after =
        sym (drop-drop (length body) HEADER text) ∙ ap (drop (length body)) behind
        ∙ drop_at body rest (length body) refl

    text_long : HEADER + length body ≤ length text
    text_long =
        omega (
          arith,
          header_long,
          ap length split,
          length-append (header (length body) next) (body ++ rest),
          length-append body rest,
        )

    read_whole : whole_front has_ended text (length body) (next_check hash check (body_in (length body) text))
        ≡ Whole (length body) next
    read_whole =
        let line = header (length body) next in
        ap (λ b. whole_front has_ended text (length body) (next_check hash check b)) read_body
        ∙ whole_is has_ended text (length body) next (ap (comes_next has_ended) read_body ∙ comes)
        (ap (λ t. bytes_eq t line) read_line ∙ (bytes_eq-Decides line line).1 refl)

    pub read_front : front_of hash check has_ended text ≡ Whole (length body) next
    read_front =
        front_sized hash check has_ended text (omega (arith, text_long))
        ∙ ap (sized_front hash check has_ended text) (five_digits (length body) (omega (arith, is_one)))
        ∙ sized_whole hash check has_ended text (length body) is_one.0 is_one.1 text_long
        ∙ read_whole

  pub chain_says : (bodies : List (List ℕ)) (check : List ℕ) (has_ended : Bool) → AreBodies has_ended bodies
      → says hash Full check has_ended (chain_text hash check bodies) ≡ flat_map said_by bodies
  chain_says [] check has_ended are = says_none hash Full check has_ended
  chain_says (body ∷ more) check has_ended are =
      let next = next_check hash check body in
      let rest = chain_text hash next more in
      says_whole hash Full check has_ended (record_text hash check body ++ rest) (length body) next
      (read_front check has_ended body rest are.0 are.1) refl
      ∙ rw (read_body check has_ended body rest are.0 are.1, read_after check has_ended body rest are.0 are.1)
      (ap (λ t. said_by body ++ t) (chain_says more next (is_end body) are.2))

pub read_again_law : IsReadAgain
read_again_law hash long bodies are =
    chain_opened hash (chain_text hash first_check bodies) ∙ chain_says hash long bodies first_check false are
