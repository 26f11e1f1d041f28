-- What a look at the bytes ahead says.
use Rattle.std.proofs.Common.{◌≡◌, ◌∙◌, ◌<◌, ◌++◌, ap, append-nil, append_assoc, length, subst, sym}
use Rattle.std.proofs.Common.{ℕ, List, [], arith, inl, inr, length-append, refl, true}
use Rattle.dispatch_room_sockets.specs.declared.lookaheads.Lookahead.{Lookahead}
use Rattle.dispatch_room_sockets.specs.declared.lookaheads.Lookahead.TheVariants as ahead
use Rattle.dispatch_room_sockets.specs.Lookaheads.{LookaheadIs, StaysInFront, may_grow}
use Rattle.room_http_messages.specs.Layouts.{LookIs}
use Rattle.room_http_messages.specs.Messages.{IsPart}
use Rattle.room_http_messages.specs.declared.message_prefixes.MessagePrefix.{MessagePrefix}
use Rattle.room_http_messages.specs.declared.message_prefixes.MessagePrefix.TheVariants.{Needs}

-- what needs more is a part
pub is_part : (bytes : List ℕ) (look : MessagePrefix) (count : ℕ) → LookIs bytes look → look ≡ Needs count
    → IsPart bytes
is_part bytes look count says is =
    let needs = rw is at says in
    let at_end : length (bytes ++ []) < count → IsPart (bytes ++ []) = needs.2 [] in
    subst (λ t. length t < count → IsPart t) (append-nil bytes) at_end needs.0

-- nothing was read
pub none_read : (bytes : List ℕ) → StaysInFront bytes bytes
none_read bytes = record { more = []; grown = sym (append-nil bytes) }

-- what was read stays in front of what is read next
pub read_on : (a b c : List ℕ) → StaysInFront a b → StaysInFront b c → StaysInFront a c
read_on a b c first then = record {
  more = first.more ++ then.more;
  grown = then.grown ∙ ap (λ l. l ++ then.more) first.grown ∙ append_assoc a first.more then.more;
}

-- what had room after a read had room before it
pub few_before : (most : ℕ) (a b : List ℕ) → StaysInFront a b → length b < most → length a < most
few_before most a b front few = omega (arith, few, ap length front.grown ∙ length-append a front.more)

-- what is said where a stream has ended or goes on is said also where that follows from something
pub said_alike : (ended ends on goes : Type 0) (bytes : List ℕ) (seen : Lookahead) → (ended → ends)
    → (may_grow seen ≡ true → on → goes) → LookaheadIs ended on bytes seen → LookaheadIs ends goes bytes seen
said_alike ended ends on goes bytes (ahead.Whole size) end go is = is
said_alike ended ends on goes bytes ahead.Last end go is = elim is [
  | inl refused ↦ inl refused
  | inr last ↦ inr (end last.0, last.1)
]
said_alike ended ends on goes bytes ahead.Part end go is = (go refl is.0, is.1)
said_alike ended ends on goes bytes ahead.Nothing end go is = (go refl is.0, is.1)
said_alike ended ends on goes bytes ahead.End end go is = (end is.0, is.1)
