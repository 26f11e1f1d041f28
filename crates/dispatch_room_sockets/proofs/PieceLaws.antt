-- The pieces of a stream, joined.
use Rattle.std.proofs.Common.{◌≡◌, ◌∙◌, ap, append_assoc, ℕ, List, [], ◌∷◌, ◌++◌, false}
use Rattle.std.proofs.lemmas.List.Elements.{All-head, All-tail}
use Rattle.httparse.specs.Grammar.{RequestHead, print_request}
use Rattle.room_http_messages.specs.Messages.{HasHead, HasMessage, Splits, WholeMessage, closes}
use Rattle.room_http_messages.proofs.LawLemmas.{one_reading_law}
use Rattle.dispatch_room_sockets.specs.Pieces.{AreJoined, StayOpen}

-- a head that begins a stream begins it also where more follows
head_more : (stream : List ℕ) (h : RequestHead) (rest more : List ℕ) → HasHead stream h rest
    → HasHead (stream ++ more) h (rest ++ more)
head_more stream h rest more x = record {
  reads = (x.reads.0, ap (λ s. s ++ more) x.reads.1 ∙ append_assoc (print_request h) rest more);
  few = x.few;
  fits = x.fits;
}

message_more : (stream : List ℕ) (m : WholeMessage) (rest more : List ℕ) → HasMessage stream m rest
    → HasMessage (stream ++ more) m (rest ++ more)
message_more stream m rest more x = record {
  begins = rw (← append_assoc m.body rest more) (head_more stream m.head (m.body ++ rest) more x.begins);
  sound = x.sound;
  size = x.size;
}

pub joined : (piece next rest : List ℕ) (first then : List WholeMessage)
    → Splits piece first [] → StayOpen first → Splits next then rest
    → Splits (piece ++ next) (first ++ then) rest
joined piece next rest [] then x stay y = rw x y
joined piece next rest (m ∷ more) then x stay y =
    let stays = All-head (λ k. closes k.head ≡ false) m more stay in (
      x.0 ++ next,
      message_more piece m x.0 next x.1,
      λ shut. absurd (cc),
      joined x.0 next rest more then x.3 (All-tail (λ k. closes k.head ≡ false) m more stay) y,
    )

pub joined_law : AreJoined
joined_law piece next rest first then x stay y =
    let whole = joined piece next rest first then x stay y in (
      whole,
      λ all left e f split ends end.
          one_reading_law (piece ++ next) all (first ++ then) left rest e f split ends whole end,
    )
