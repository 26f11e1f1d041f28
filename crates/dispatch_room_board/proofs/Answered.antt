-- Lemmas on answers: what stands at the front of what was heard, and what an answer gives.
use Rattle.std.proofs.Common.{◌≡◌, ◌<◌, ◌≤◌, ◌∙◌, refl, sym, ap, ℕ, List, [], ◌++◌, length, map}
use Rattle.std.proofs.Common.{take, drop, take-append-drop, Option, None, Some, arith, inl, inr}
use Rattle.std.proofs.Common.{length-append, length-drop, length-take, ◌-◌}
use Rattle.std.specs.Prelude.{◌≢◌, codes, Err, Ok, Result, MatchResult, ok_or, unwrap_or}
use Rattle.std.specs.Option.{option_zip}
use Rattle.std.specs.List.{IsSplitAt}
use Rattle.std.proofs.lemmas.List.{append-nil, length-map, take_all}
use Rattle.std.proofs.lemmas.Option.{none-some, same_Some}
use Rattle.serde_json.specs.Data.{Data}
use Rattle.httparse.proofs.GrammarLemmas.{response_prefix_free, response_unique}
use Rattle.httparse.specs.Grammar.{HasNoResponse, MayBecomeResponse, ReadsResponse, ResponseHead}
use Rattle.httparse.specs.Spans.{IsResponseOf, ResponseOverflows, header_bytes}
use Rattle.httparse.specs.declared.spans.ResponseSpans.{ResponseSpans}
use Rattle.httparse.specs.declared.spans.HeaderSpan.{HeaderSpan}
use Rattle.room_http_messages.specs.HeadFields.{Fields, values_of}
use Rattle.room_http_messages.specs.declared.limits.TheConstants.{FIELD_LIMIT}
use Rattle.dispatch_room_board.specs.declared.heard_answers.HeardAnswer.{HeardAnswer}
use Rattle.dispatch_room_board.specs.declared.board_errors.BoardError.{BoardError}
use Rattle.dispatch_room_board.specs.declared.board_errors.BoardError.TheVariants.{Unheard, Foreign}
use Rattle.dispatch_room_board.specs.declared.board_errors.BoardError.TheVariants.{Refused}
use Rattle.dispatch_room_board.specs.Boards.{IsHeardAt}
use Rattle.dispatch_room_board.specs.AnswerRows.{Befalls, IsDatedAnswer, IsJson, IsNext, IsNoAnswer}
use Rattle.dispatch_room_board.specs.Members.{IsRead}
use Rattle.dispatch_room_board.specs.HeardAnswers.{Announces, HasNoMessage, IsDated, IsMessage}
use Rattle.dispatch_room_board.specs.HeardAnswers.{IsNoMessage, fields_in}
use Rattle.dispatch_room_board.specs.BoardErrors.{IsErrorIn}

pub no_head : (bytes : List ℕ) → HasNoResponse bytes → MayBecomeResponse bytes
    → IsNoMessage bytes Unheard
no_head bytes none may = (λ m rest is. none is.head _ is.reads, inl may)

pub never_head : (bytes : List ℕ) → ResponseOverflows FIELD_LIMIT bytes → IsNoMessage bytes Foreign
never_head bytes over more m rest is = omega (arith, is.few, over more is.head _ is.reads)

-- a head that is read, and as many bytes behind it as it announces
pub message_read : (bytes rest : List ℕ) (spans : List HeaderSpan) (head : ResponseSpans)
    (m : HeardAnswer) (size : ℕ) → IsResponseOf bytes spans head
    → length spans ≤ FIELD_LIMIT → m.code ≡ head.code
    → IsSplitAt (take (length bytes - head.len) (drop head.len bytes)) size m.content.now rest
    → IsRead (Announces (values_of (codes "content-length")
    (map (header_bytes bytes) (take head.headers spans)))) (Some size)
    → IsRead (IsDated (values_of (codes "date")
    (map (header_bytes bytes) (take head.headers spans)))) m.moment → IsMessage bytes m rest
message_read bytes rest spans head m size of room code split announced dated =
    let whole = take_all (length bytes - head.len) (drop head.len bytes) (omega (arith, length-drop head.len bytes)) in
    let parts : m.content.now ++ rest ≡ drop head.len bytes =
    rw (split.1, split.2) (take-append-drop size (take (length bytes - head.len) (drop head.len bytes)) ∙ whole) in
    record {
      head = of.0;
      reads = rw parts of.1.reads;
      few = omega (arith, room, simp (length-map, length-take) at (ap length of.1.fields));
      code = code ∙ of.1.code;
      size = rw split.3 (rw of.1.fields at announced.is);
      moment = rw of.1.fields at dated;
    }

-- a head without a length, whatever follows it
pub never_long : (bytes rest : List ℕ) (h : ResponseHead) (fields : Fields)
    → ReadsResponse bytes h rest → fields ≡ fields_in h
    → IsRead (Announces (values_of (codes "content-length") fields)) None
    → IsNoMessage bytes Foreign
never_long bytes rest h fields reads are none more m back is =
    let same = (response_prefix_free bytes more h is.head rest (m.content.now ++ back) reads is.reads).0 in
    none.is (length m.content.now) (rw (are, same) is.size)

announced_is_one : (values : List (List ℕ)) (n m : ℕ) → Announces values n → Announces values m
    → n ≡ m
announced_is_one values n m x y =
    let e = same_Some x.0 y.0 (sym x.1 ∙ y.1) in x.3 ∙ rw e (sym y.3)

-- a head with a length, and less behind it
pub cut_short : (bytes rest : List ℕ) (h : ResponseHead) (fields : Fields) (size : ℕ)
    → ReadsResponse bytes h rest → fields ≡ fields_in h
    → IsRead (Announces (values_of (codes "content-length") fields)) (Some size)
    → length rest < size → IsNoMessage bytes Unheard
cut_short bytes rest h fields size reads are announces less =
    (none, inr (h, rest, size, reads, rw are at announces.is, less))
  where
    none : HasNoMessage bytes
    none m back is =
        let same = response_unique bytes h is.head rest (m.content.now ++ back) reads is.reads in
        let long : size ≡ length m.content.now = announced_is_one _ _ _ announces.is (rw (are, same.0) is.size) in
        omega (arith, less, long, ap length same.1, length-append m.content.now back)

-- why there is none now
pub no_message : (bytes : List ℕ) (t : BoardError) → IsNoMessage bytes t → HasNoMessage bytes
no_message bytes Unheard h = h.0
no_message bytes Foreign h = rw append-nil at (h [])
no_message bytes (Refused number name) h = absurd h

pub nothing_heard : (bytes : List ℕ) (t : BoardError) → IsNoMessage bytes t
    → IsRead (IsHeardAt bytes) None
nothing_heard bytes t none = record { is = λ moment h. no_message bytes t none h.0 h.1 h.2 }

pub heard_at : (bytes rest : List ℕ) (m : HeardAnswer) (moment : Option ℕ) → moment ≡ m.moment
    → IsMessage bytes m rest → IsRead (IsHeardAt bytes) moment
heard_at bytes rest m None same is = record { is = not }
  where
    not : (moment : ℕ) → ¬ IsHeardAt bytes moment
    not moment h =
        let heads = (response_unique bytes is.head h.2.head _ _ is.reads h.2.reads).0 in
        let one : IsDated (values_of (codes "date") (fields_in h.2.head)) moment = (rw h.3 at h.2.moment).is in
        (rw (sym same) at is.moment).is moment (rw heads one)
heard_at bytes rest m (Some moment) same is = record { is = (m, rest, is, sym same) }

same_json : (bytes : List ℕ) (d e : Data) → IsJson bytes d → IsJson bytes e → d ≡ e
same_json bytes d e x y = same_Some d e (sym x.1 ∙ y.1)

-- an answer that is no refusal gives what is found in it, if it has a date
pub given_or_not : {T : Type 0} (gives : Data → T → Type 0) (m : HeardAnswer) (d : Data)
    (r : Result (T × ℕ) BoardError) (o : Option T) → r ≡ ok_or (option_zip o m.moment) Foreign
    → m.code ≡ 200 → IsJson m.content.now d → IsRead (gives d) o
    → MatchResult r (IsDatedAnswer gives m) (IsNoAnswer (IsDatedAnswer gives m) m)
given_or_not {T} gives m d r o is ok json found = rw is (either o m.moment refl found)
  where
    either : (o : Option T) (moment : Option ℕ) → moment ≡ m.moment → IsRead (gives d) o
        → MatchResult (ok_or (option_zip o moment) Foreign) (IsDatedAnswer gives m)
        (IsNoAnswer (IsDatedAnswer gives m) m)
    either None moment same found =
        (record { is = λ x h. found.is x.0 (rw (same_json _ d h.0.0 json h.0.2) h.0.3) }, record { is = λ t h. h.1 ok })
    either (Some it) None same found =
        (record { is = λ x h. none-some x.1 (same ∙ h.1) }, record { is = λ t h. h.1 ok })
    either (Some it) (Some moment) same found = ((d, ok, json, found.is), sym same)

-- any other refuses as it says
pub refused_or_not : {T : Type 0} (gives : Data → T → Type 0) (m : HeardAnswer) (d : Data)
    (t : BoardError) (o : Option BoardError)
    → t ≡ unwrap_or o Foreign → m.code ≢ 200 → IsJson m.content.now d → IsRead (IsErrorIn d) o
    → IsNoAnswer (IsDatedAnswer gives m) m t
refused_or_not gives m d t o is bad json found = rw is (either o found)
  where
    either : (o : Option BoardError) → IsRead (IsErrorIn d) o
        → IsNoAnswer (IsDatedAnswer gives m) m (unwrap_or o Foreign)
    either None found =
        (record { is = λ x h. bad h.0.1 }, record { is = λ t h. found.is t (rw (same_json _ d h.0 json h.2) h.3) })
    either (Some Unheard) found = absurd found.is
    either (Some Foreign) found = absurd found.is
    either (Some (Refused number error)) found = (d, bad, json, found.is)

-- what the next answer gives
pub next_given : {T : Type 0} (gives : Data → T → Type 0) (heard rest : List ℕ) (m : HeardAnswer)
    (found : Result (T × ℕ) BoardError) → IsMessage heard m rest
    → MatchResult found (IsDatedAnswer gives m) (IsNoAnswer (IsDatedAnswer gives m) m)
    → MatchResult found (IsNext gives heard rest) (Befalls gives heard rest)
next_given gives heard rest m (Ok it) is h = (m, is, h)
next_given gives heard rest m (Err t) is h = inr (m, is, h)
