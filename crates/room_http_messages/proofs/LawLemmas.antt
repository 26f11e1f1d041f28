-- What the stream decides by itself.
use Rattle.std.proofs.Common.{◌≡◌, ◌∙◌, sym, ap, subst, refl, arith, ℕ, ◌+◌, ◌-◌, ◌<◌, ◌≤◌, List}
use Rattle.std.proofs.Common.{[], ◌∷◌, ◌++◌, length, take, drop, append-nil, length-append, ◌⊎◌}
use Rattle.std.proofs.Common.{inl, inr, Bool, false, None, All}
use Rattle.std.proofs.lemmas.List.{take_at, drop_at, take-append-drop}
use Rattle.std.proofs.lemmas.Bool.{cases_lt}
use Rattle.std.proofs.lemmas.List.Elements.{All-head, All-tail}
use Rattle.std.proofs.Math.Seq.{take-append-add}
use Rattle.httparse.specs.Grammar.{RequestHead, print_request, HasNoRequest}
use Rattle.httparse.proofs.GrammarLemmas.{request_unique}
use Rattle.room_types.specs.declared.refusal_statuses.Refusal.{Refusal}
use Rattle.room_http_messages.specs.declared.limits.TheConstants.{HEAD_LIMIT, FIELD_LIMIT}
use Rattle.room_http_messages.specs.declared.read_faults.Unread.{Unread}
use Rattle.room_http_messages.specs.declared.read_faults.Unread.TheVariants.{End, Cut, ReadFault}
use Rattle.room_http_messages.specs.declared.read_faults.Unread.TheVariants.{ReadsSpent, Refused}
use Rattle.room_http_messages.specs.Laws.{IsOneMessage, IsNoEnd, IsOneSplit, IsOneReading}
use Rattle.room_http_messages.specs.Messages.{WholeMessage, window, HasHead, HasMessage, IsRefused}
use Rattle.room_http_messages.specs.Messages.{no_head, too_long, by_rule, IsPart, in_head, in_body}
use Rattle.room_http_messages.specs.Messages.{EndsWith, Splits, closes}
use Rattle.room_http_messages.proofs.LookLemmas.{head_not_empty}
use Rattle.room_http_messages.specs.Rules.{head_fields, fault_of, body_length}

-- equal lists with parts of one length at the front have equal parts
parts_of : (a b x y : List ℕ) → a ++ x ≡ b ++ y → length a ≡ length b → (a ≡ b) × (x ≡ y)
parts_of a b x y same len = (
  sym (take_at a x (length b) len) ∙ ap (take (length b)) same ∙ take_at b y (length b) refl,
  sym (drop_at a x (length b) len) ∙ ap (drop (length b)) same ∙ drop_at b y (length b) refl,
)

-- messages of equal parts are equal
message_of : (h k : RequestHead) (a b : List ℕ) → h ≡ k → a ≡ b
    → ◌≡◌ {A = WholeMessage} (record { head = h; body = a }) (record { head = k; body = b })
message_of h k a b head body = λ i. record { head = head i; body = body i }

pub one_message_law : IsOneMessage
one_message_law stream m n rest left x y =
    let head = request_unique stream m.head n.head (m.body ++ rest) (n.body ++ left) x.begins.reads y.begins.reads in
    let size : length m.body ≡ length n.body = x.size ∙ ap (λ h. body_length (head_fields h)) head.0 ∙ sym y.size in
    let parts = parts_of m.body n.body rest left head.1 size in
    (message_of m.head n.head m.body n.body head.0 parts.0, parts.1)

message_not_empty : (stream : List ℕ) (m : WholeMessage) (rest : List ℕ) → HasMessage stream m rest
    → ¬ (stream ≡ [])
message_not_empty stream m rest x nothing =
    let size = ap length (sym nothing ∙ x.begins.reads.1) in
    omega (arith, head_not_empty m.head, simp length-append at size)

-- a head within the limit stands in the head's place
in_window : (stream : List ℕ) (h : RequestHead) (rest : List ℕ) → HasHead stream h rest
    → ¬ (HasNoRequest (window stream))
unfolding window
in_window stream h rest has none =
    let over : HEAD_LIMIT
    ≡ length (print_request h) + (HEAD_LIMIT - length (print_request h)) = omega (arith, has.fits) in
    none h (take (HEAD_LIMIT - length (print_request h)) rest) (
      has.reads.0,
      ap (take HEAD_LIMIT) has.reads.1 ∙ ap (λ n. take n (print_request h ++ rest)) over
          ∙ take-append-add (print_request h) rest (HEAD_LIMIT - length (print_request h)),
    )

-- what stands in the head's place begins the stream
window_begins : (stream : List ℕ) → window stream ++ drop HEAD_LIMIT stream ≡ stream
unfolding window
window_begins stream = take-append-drop HEAD_LIMIT stream

not_refused : (stream : List ℕ) (m : WholeMessage) (rest : List ℕ) (r : Refusal) (head_only : Bool)
    → HasMessage stream m rest → ¬ (IsRefused stream r head_only)
not_refused stream m rest r head_only x (no_head none) =
    let few : length m.head.fields ≤ FIELD_LIMIT = x.begins.few in
    let many = none (drop HEAD_LIMIT stream) m.head (m.body ++ rest) (rw (window_begins stream) x.begins.reads) in
    omega (arith, few, many)
not_refused stream m rest r head_only x (too_long long part) =
    in_window stream m.head (m.body ++ rest) x.begins part.none
not_refused stream m rest r head_only x (by_rule h left fault has broken) =
    let head = (request_unique stream m.head h (m.body ++ rest) left x.begins.reads has.reads).0 in
    let sound : fault_of h.minor (head_fields h)
    ≡ None = ap (λ k. fault_of k.minor (head_fields k)) (sym head) ∙ x.sound in
    cc

not_part : (stream : List ℕ) (m : WholeMessage) (rest : List ℕ) → HasMessage stream m rest
    → ¬ (IsPart stream)
not_part stream m rest x (in_head short part) = in_window stream m.head (m.body ++ rest) x.begins part.none
not_part stream m rest x (in_body h part has sound short) =
    let head = request_unique stream m.head h (m.body ++ rest) part x.begins.reads has.reads in
    let size : length m.body ≡ body_length (head_fields h) = x.size ∙ ap (λ k. body_length (head_fields k)) head.0 in
    let long : length m.body + length rest ≡ length part = sym (length-append m.body rest) ∙ ap length head.1 in
    omega (arith, size, long, short)

pub no_end_law : IsNoEnd
no_end_law stream m rest End x nothing = message_not_empty stream m rest x nothing
no_end_law stream m rest Cut x cut = not_part stream m rest x cut.1
no_end_law stream m rest (Refused r head_only) x refused = not_refused stream m rest r head_only x refused
no_end_law stream m rest ReadFault x never = never
no_end_law stream m rest ReadsSpent x never = never

pub one_split_law : IsOneSplit
one_split_law stream [] many rest left x y fewer = (many, refl, rw (← x) y)
one_split_law stream (m ∷ few) [] rest left x y fewer = absurd (omega arith)
one_split_law stream (m ∷ few) (n ∷ many) rest left x y fewer =
    let same = one_message_law stream m n x.0 y.0 x.1 y.1 in
    let tail = one_split_law x.0 few many rest left x.3 (subst (λ (s : List ℕ). Splits s many left) (sym same.1) y.3)
    (omega arith) in
    (tail.0, ap (λ k. k ∷ many) (sym same.0) ∙ ap (λ t. m ∷ t) tail.1, tail.2)

-- a reading that ends has all the messages
longest : (stream : List ℕ) (few many : List WholeMessage) (rest left : List ℕ) (e : Unread)
    → Splits stream few rest → EndsWith rest e
    → Splits stream many left → length few ≤ length many → (few ≡ many) × (rest ≡ left)
longest stream few many rest left e x end y fewer =
    let split = one_split_law stream few many rest left x y fewer in
    go split.0 split.1 split.2
  where
    go : (more : List WholeMessage) → many ≡ few ++ more → Splits rest more left
        → (few ≡ many) × (rest ≡ left)
    go [] is same = (sym (is ∙ append-nil few), same)
    go (m ∷ more) is next = absurd (no_end_law rest m next.0 e next.1 end)

pub one_reading_law : IsOneReading
one_reading_law stream first second rest left e f x x_end y y_end = go (cases_lt (length first) (length second))
  where
    go : (length first < length second) ⊎ (length second ≤ length first)
        → (first ≡ second) × (rest ≡ left)
    go (inl fewer) = longest stream first second rest left e x x_end y (omega arith)
    go (inr fewer) = let same = longest stream second first left rest f y y_end x fewer in (sym same.0, sym same.1)

-- one message more, after messages that don't close
pub Splits-push : (stream : List ℕ) (messages : List WholeMessage) (rest : List ℕ)
    (m : WholeMessage) (next : List ℕ)
    → Splits stream messages rest → All (λ n. closes n.head ≡ false) messages
    → HasMessage rest m next → Splits stream (messages ++ m ∷ []) next
Splits-push stream [] rest m next x stays y = (next, rw x y, λ _. refl, refl)
Splits-push stream (n ∷ more) rest m next x stay y =
    let stays = All-head (λ k. closes k.head ≡ false) n more stay in (
      x.0,
      x.1,
      λ ends. absurd (cc),
      Splits-push x.0 more rest m next x.3 (All-tail (λ k. closes k.head ≡ false) n more stay) y,
    )
