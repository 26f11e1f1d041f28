-- Lemmas on why a replay stops.
use Rattle.std.proofs.Common.{◌≡◌, ◌∙◌, sym, ap, subst, refl, arith, ℕ, ◌<◌, ◌≢◌, List, [], ◌∷◌}
use Rattle.std.proofs.Common.{◌++◌, length, drop, append-nil, length-drop, Bool, true, false}
use Rattle.std.proofs.Common.{Option, Some, None, Err, inl, inr}
use Rattle.std.specs.Io.KnownBytes.{Consumes}
use Rattle.room_types.specs.declared.refusal_statuses.Refusal.{Refusal}
use Rattle.room_http_messages.specs.declared.messages.Layout.{Layout as MessageLayout}
use Rattle.room_http_messages.specs.declared.message_prefixes.MessagePrefix.{MessagePrefix}
use Rattle.room_http_messages.specs.declared.message_prefixes.MessagePrefix.TheVariants.{Whole}
use Rattle.room_http_messages.specs.declared.message_prefixes.MessagePrefix.TheVariants.{Refused}
use Rattle.room_http_messages.specs.declared.message_prefixes.MessagePrefix.TheVariants.{Needs}
use Rattle.room_http_messages.specs.declared.read_faults.Unread.TheVariants as unread
use Rattle.room_http_messages.specs.Layouts.{IsWhole, LookIs}
use Rattle.room_http_messages.specs.Messages.{IsRefused, IsPart as IsPartOfMessage}
use Rattle.room_http_messages.proofs.LawLemmas.{one_message_law, no_end_law}
use Rattle.room_http.specs.Dialogues.{IsCaused}
use Rattle.room_model.specs.Rooms.{IsUnavailable}
use Rattle.room_model.specs.declared.digests.DigestMismatch.{DigestMismatch}
use Rattle.room_model.specs.declared.digests.DigestMismatch.TheVariants as miss
use Rattle.room_model.specs.declared.digests.StartDigest.{StartDigest}
use Rattle.dispatch_room_journal.specs.declared.entry_reader.EntryFault.{EntryFault}
use Rattle.dispatch_room_journal.specs.declared.entry_reader.EntryFault.TheVariants.{Cut, Foreign}
use Rattle.dispatch_room_journal.specs.declared.entry_reader.EntryFault.TheVariants.{Read}
use Rattle.dispatch_room_journal.specs.Entries.{Entry, message, IsEntry, text_of, texts_of, Begins}
use Rattle.dispatch_room_journal.specs.EntryReadings.{SaysOf, FirstIs}
use Rattle.dispatch_room_journal.specs.declared.replay_faults.ReplayFault.{ReplayFault}
use Rattle.dispatch_room_journal.specs.declared.replay_faults.ReplayFault.TheVariants.{Bad, Differs}
use Rattle.dispatch_room_journal.specs.declared.replay_faults.ReplayFault.TheVariants.{OtherRoom}
use Rattle.dispatch_room_journal.specs.declared.replay_faults.ReplayFault.TheVariants.{ReadFailed}
use Rattle.dispatch_room_journal.specs.declared.replay_faults.ReplayFault.TheVariants.{WriteFailed}
use Rattle.dispatch_room_journal.specs.declared.replay_faults.ReplayFault.TheVariants.{Unavailable}
use Rattle.dispatch_room_journal.specs.declared.replay_faults.Stopped.{Stopped}
use Rattle.dispatch_room_journal.specs.ReplayedTurns.{Open, Turn, BeginsWith}
use Rattle.dispatch_room_journal.specs.Replays.{Unless}
use Rattle.dispatch_room_journal.specs.ReplayFaults.{read_fault, miss_fault, IsBroken, IsNoMessage}
use Rattle.dispatch_room_journal.specs.ReplayFaults.{IsUnavailableFault, IsPlayedFor, IsBad, broken}
use Rattle.dispatch_room_journal.specs.ReplayFaults.{unasked, headless, no_message, broken_after}
use Rattle.dispatch_room_journal.specs.ReplayFaults.{too_many, Explains, IsDueTo, Refuses}

pub not_both : (b : Bool) → b ≡ false → b ≡ true → ⊥
not_both b f t = cc

-- bytes that begin with what is refused, that are a part of a message, or that are more than one,
-- are no message
refused_none : (bytes : List ℕ) (r : Refusal) (head_only : Bool)
    → ((more : List ℕ) → IsRefused (bytes ++ more) r head_only) → IsNoMessage bytes
refused_none bytes r head_only refused m x =
    no_end_law bytes m [] (unread.Refused r head_only) x
    (subst (λ (t : List ℕ). IsRefused t r head_only) (append-nil bytes) (refused []))

part_none : (bytes : List ℕ) (count : ℕ) → length bytes < count
    → ((more : List ℕ) → length (bytes ++ more) < count → IsPartOfMessage (bytes ++ more))
    → IsNoMessage bytes
part_none [] count short parts m x = no_end_law [] m [] unread.End x refl
part_none (byte ∷ more) count short parts m x =
    let same = append-nil (byte ∷ more) in
    let part = subst (λ (t : List ℕ). IsPartOfMessage t) same
    (parts [] (subst (λ (t : List ℕ). length t < count) (sym same) short)) in
    no_end_law (byte ∷ more) m [] unread.Cut x (omega arith, part)

pub longer_none : (bytes : List ℕ) (layout : MessageLayout) → IsWhole bytes layout
    → layout.body.end ≢ length bytes → IsNoMessage bytes
longer_none bytes layout whole longer m x =
    let same = one_message_law bytes m whole.0 [] (drop layout.body.end bytes) x whole.1 in
    let none : 0 ≡ length (drop layout.body.end bytes) = ap length same.1 in
    longer (omega (arith, none, length-drop layout.body.end bytes, whole.3.content.1))

pub look_none : (bytes : List ℕ) (look : MessagePrefix) → LookIs bytes look
    → ((layout : MessageLayout) → look ≢ Whole layout) → IsNoMessage bytes
look_none bytes (Whole layout) is other = absurd (other layout refl)
look_none bytes (Refused r head_only) is other = refused_none bytes r head_only is
look_none bytes (Needs count) is other = part_none bytes count is.0 is.2

-- what is known of the text
pub known_after : (a b : Option (List ℕ)) (bs text : List ℕ) → Consumes a b bs → a ≡ Some text
    → (rest : List ℕ) × (b ≡ Some rest) × (text ≡ bs ++ rest)
known_after None b bs text took is = absurd (cc)
known_after (Some x) None bs text took is = absurd took
known_after (Some x) (Some y) bs text took is = let same : x ≡ text = cc in (y, refl, sym same ∙ took)

pub begins_one : (e : Entry) (text rest : List ℕ) → IsEntry e → text ≡ texts_of (e ∷ []) ++ rest
    → Begins text e rest
begins_one e text rest x is = (x, is ∙ ap (λ t. t ++ rest) (append-nil (text_of e)))

-- what a message is played for
played_more : (E F : Option Open → StartDigest → Type 0) (rest : List ℕ)
    → ((open_ : Option Open) (head : StartDigest) → E open_ head → F open_ head)
    → IsPlayedFor E rest → IsPlayedFor F rest
played_more E F rest e (inl status) = inl status
played_more E F rest e (inr head) = inr (head.0, head.1, head.2, e None head.0 head.3)

-- what explains a fault, explains it where more is known
bad_more : (waits : Bool) (none full other whole : Type 0) (E F : Option Open → StartDigest → Type 0)
    (last : List Turn) (rest : List ℕ) → (none → other) → (full → whole)
    → ((open_ : Option Open) (head : StartDigest) → E open_ head → F open_ head)
    → IsBad waits none full E last rest → IsBad waits other whole F last rest
bad_more waits none full other whole E F last rest n f e (broken few x) = broken few x
bad_more waits none full other whole E F last rest n f e (unasked status more few x) = unasked status more few x
bad_more waits none full other whole E F last rest n f e (headless at sent more few x y) =
    headless at sent more few x (n y)
bad_more waits none full other whole E F last rest n f e (no_message at sent more few x y played) =
    no_message at sent more few x y (λ wait. played_more E F more e (played wait))
bad_more waits none full other whole E F last rest n f e (broken_after at sent more wait few x y) =
    broken_after at sent more wait few x y
bad_more waits none full other whole E F last rest n f e (too_many x) = too_many (f x)

explains_more : (waits : Bool) (none full other whole : Type 0) (E F : Option Open → StartDigest → Type 0)
    (last : List Turn) (fault : ReplayFault) (rest : List ℕ) → (none → other) → (full → whole)
    → ((open_ : Option Open) (head : StartDigest) → E open_ head → F open_ head) → Explains waits none full E last fault rest
    → Explains waits other whole F last fault rest
explains_more waits none full other whole E F last Bad rest n f e x =
    bad_more waits none full other whole E F last rest n f e x
explains_more waits none full other whole E F last Differs rest n f e x = x
explains_more waits none full other whole E F last OtherRoom rest n f e x = (x.0, x.1, x.2, x.3, e x.1 x.2 x.4)
explains_more waits none full other whole E F last ReadFailed rest n f e x = tt
explains_more waits none full other whole E F last WriteFailed rest n f e x = tt
explains_more waits none full other whole E F last (Unavailable r) rest n f e x = tt

pub begins_explain : (left : Option (List ℕ)) (entries : List Entry) (waits : Bool)
    (none full other whole : Type 0) (E F : Option Open → StartDigest → Type 0) (last : List Turn)
    (fault : ReplayFault)
    → (none → other) → (full → whole) → ((open_ : Option Open) (head : StartDigest) → E open_ head → F open_ head)
    → BeginsWith left entries (Explains waits none full E last fault)
    → BeginsWith left entries (Explains waits other whole F last fault)
begins_explain left entries waits none full other whole E F last fault n f e begins text is =
    let x = begins text is in (x.0, x.1, explains_more waits none full other whole E F last fault x.0 n f e x.2)

-- the fault of a read
pub read_explains : (waits : Bool) (none full : Type 0) (E : Option Open → StartDigest → Type 0) (last : List Turn)
    (fault : EntryFault) (text rest : List ℕ) → FirstIs rest (Err fault)
    → (IsBroken rest → IsBad waits none full E last text)
    → Explains waits none full E last (read_fault fault) text
read_explains waits none full E last Cut text rest first bad = bad (inl first)
read_explains waits none full E last Foreign text rest first bad = bad (inr first)
read_explains waits none full E last Read text rest first bad = tt

pub read_due : (kept : List ℕ) (failed ended : Bool) (left : Option (List ℕ)) (fault : EntryFault)
    → SaysOf kept failed ended left (Err fault) → IsDueTo failed false (read_fault fault)
read_due kept failed ended left Cut x = (x.4, refl)
read_due kept failed ended left Foreign x = (x.1, refl)
read_due kept failed ended left Read x = (x, refl)

-- memory or storage is unavailable
pub unavailable_explains : (waits : Bool) (none full : Type 0) (E : Option Open → StartDigest → Type 0) (last : List Turn)
    (fault : ReplayFault) (rest : List ℕ) → IsUnavailableFault fault
    → Explains waits none full E last fault rest
unavailable_explains waits none full E last fault rest x =
    subst (λ (f : ReplayFault). Explains waits none full E last f rest) (sym x.1) tt

pub unavailable_due : (read_failed write_failed : Bool) (fault : ReplayFault) → read_failed ≡ false
    → write_failed ≡ false → IsUnavailableFault fault → IsDueTo read_failed write_failed fault
unavailable_due read_failed write_failed fault read write x =
    subst (λ (f : ReplayFault). IsDueTo read_failed write_failed f) (sym x.1) (read, write, x.2)

-- a message that was not played
pub refuses_explains : (waits : Bool) (none full : Type 0) (E : Option Open → StartDigest → Type 0) (at : ℕ)
    (sent : List ℕ) (fault : ReplayFault) (text rest : List ℕ) → Begins text (message at sent) rest
    → Refuses sent fault → (waits ≡ true → fault ≡ Bad → IsPlayedFor E rest)
    → Explains waits none full E [] fault text
refuses_explains waits none full E at sent fault text rest begins (inl x) played =
    subst (λ (f : ReplayFault). Explains waits none full E [] f text) (sym x.0)
    (no_message at sent rest refl begins x.1 (λ wait. played wait x.0))
refuses_explains waits none full E at sent fault text rest begins (inr x) played =
    unavailable_explains waits none full E [] fault text x

pub refuses_due : (read_failed write_failed : Bool) (sent : List ℕ) (fault : ReplayFault)
    → read_failed ≡ false → write_failed ≡ false → Refuses sent fault
    → IsDueTo read_failed write_failed fault
refuses_due read_failed write_failed sent fault read write (inl x) =
    subst (λ (f : ReplayFault). IsDueTo read_failed write_failed f) (sym x.0) (read, write)
refuses_due read_failed write_failed sent fault read write (inr x) =
    unavailable_due read_failed write_failed fault read write x

-- what a failed write says is said only of the writer
pub due_with : (read_failed write_failed : Bool) (fault : ReplayFault) → write_failed ≡ false
    → IsDueTo read_failed false fault → IsDueTo read_failed write_failed fault
due_with read_failed write_failed fault is x = subst (λ (b : Bool). IsDueTo read_failed b fault) (sym is) x

-- what was kept before, and then unless memory or storage was unavailable
pub unless_after : (fault : ReplayFault) (A B C : Type 0) → (A → B) → Unless fault (B → C)
    → Unless fault (A → C)
unless_after Bad A B C first then = λ a. then (first a)
unless_after Differs A B C first then = λ a. then (first a)
unless_after OtherRoom A B C first then = λ a. then (first a)
unless_after ReadFailed A B C first then = λ a. then (first a)
unless_after WriteFailed A B C first then = λ a. then (first a)
unless_after (Unavailable r) A B C first then = tt

-- what holds whatever the fault is
pub unless_known : (fault : ReplayFault) (P : Type 0) → P → Unless fault P
unless_known Bad P x = x
unless_known Differs P x = x
unless_known OtherRoom P x = x
unless_known ReadFailed P x = x
unless_known WriteFailed P x = x
unless_known (Unavailable r) P x = tt

-- where the replay stopped by this fault
pub stopped_kept : (s : Stopped) (fault : ReplayFault) (number : ℕ) (P : Type 0)
    → s ≡ record { fault = fault; number = number } → Unless fault P → Unless s.fault P
stopped_kept s fault number P is x = subst (λ (t : Stopped). Unless t.fault P) (sym is) x

-- what holds where the room would have come to another digest
pub unless_missed : (m : DigestMismatch) (fault : ReplayFault) (P : Type 0) → fault ≡ miss_fault m
    → (m ≡ miss.OtherDigest → P) → Unless fault P
unless_missed miss.OtherDigest fault P is x = subst (λ (f : ReplayFault). Unless f P) (sym is) (x refl)
unless_missed (miss.Unavailable r) fault P is x = subst (λ (f : ReplayFault). Unless f P) (sym is) tt

-- what is unavailable, whatever caused it
pub caused_unavailable : {failed : Type 0} (r : Refusal) → IsCaused failed r → IsUnavailable r
caused_unavailable r (inl memory) = inl memory
caused_unavailable r (inr storage) = inr storage.0
