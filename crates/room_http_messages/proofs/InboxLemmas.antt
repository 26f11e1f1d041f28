-- Lemmas on the room of an inbox, of which the first bytes are used.
use Rattle.std.proofs.Common.{◌≡◌, ◌∙◌, refl, ap, sym, ℕ, ◌+◌, ◌-◌, ◌<◌, ◌≤◌, ◌||◌, Bool, true}
use Rattle.std.proofs.Common.{false, Ok, List, ◌++◌, length, take, drop, arith, length-take-le}
use Rattle.std.proofs.Common.{length-drop}
use Rattle.std.specs.List.{copy_within}
use Rattle.std.proofs.lemmas.List.{take_at, drop_at, drop-take, take-append-le}
use Rattle.std.proofs.lemmas.Bool.{lt-ltb}
use Rattle.std.proofs.Math.Seq.{take-add}
use borrow.Rule.Slice.PartMut.{put_mid, post_of}
use Rattle.room_http_messages.specs.Streams.{found_end}

-- bytes that are read to behind the used ones join them
pub used-read : (room piece : List ℕ) (used k n : ℕ) → used ≤ length room → n ≤ length piece
    → take (used + n) (put_mid used k room piece) ≡ take used room ++ take n piece
used-read room piece used k n within fits =
    let front = take used room in
    let after = piece ++ post_of used k room in
    let len : length front ≡ used = length-take-le used room within in
    take-add used n (front ++ after)
    ∙ (rw (
      take_at front after used len,
      drop_at front after used len,
      take-append-le n piece (post_of used k room) fits,
    ) refl)

-- the used ones stay as they are
pub used-kept : (room piece : List ℕ) (used k : ℕ) → used ≤ length room
    → take used (put_mid used k room piece) ≡ take used room
used-kept room piece used k within =
    take_at (take used room) (piece ++ post_of used k room) used (length-take-le used room within)

-- what is left after the first bytes go
pub used-removed : (room : List ℕ) (gone used : ℕ) → gone ≤ used → used ≤ length room
    → take (used - gone) (copy_within room gone used 0) ≡ drop gone (take used room)
used-removed room gone used ordered within =
    let kept = used - gone in
    let sum : used ≡ gone + kept = omega arith in
    let len : length (take kept (drop gone room))
    ≡ kept = length-take-le kept (drop gone room) (rw length-drop (omega arith)) in
    take_at (take kept (drop gone room)) (drop (0 + kept) room) kept len
    ∙ sym (ap (λ j. drop gone (take j room)) sum ∙ drop-take gone kept room)

-- a read that gave nothing, and had room, found the end
pub ended_at_none : (before after : Bool) (n size : ℕ)
    → after ≡ (before || found_end {E = Unit {0}} (Ok n) size) → n ≡ 0 → 0 < size → after ≡ true
ended_at_none true after n size is none room = is
ended_at_none false after n size is none room = is ∙ rw (none, lt-ltb 0 size room) refl
