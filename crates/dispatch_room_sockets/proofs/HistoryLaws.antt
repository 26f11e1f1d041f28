-- What becomes of all who came, as they are admitted, looked at, given and taken back.
use Rattle.std.proofs.Common.{◌≡◌, ◌∙◌, sym, ap, refl, arith, append_assoc, append-nil, ℕ, ◌+◌, ◌<◌}
use Rattle.std.proofs.Common.{◌==◌, List, [], ◌∷◌, ◌++◌, Bool, true, false, map, filter, length}
use Rattle.std.proofs.Common.{All, Option, None, Some, if◌then◌else◌, nat_lt, option_to_list}
use Rattle.std.proofs.lemmas.List.{map-append}
use Rattle.std.proofs.lemmas.List.Elements.{All-cons, All-head, All-nil, All-tail}
use Rattle.std.specs.Duration.{as_nanos}
use Rattle.std.specs.declared.time.Duration.{Duration}
use Rattle.dispatch_room_sockets.specs.declared.kept_callers.Heard.{Heard}
use Rattle.dispatch_room_sockets.specs.declared.kept_callers.Heard.TheVariants.{Gone, Nothing, Part}
use Rattle.dispatch_room_sockets.specs.declared.kept_callers.Heard.TheVariants.{Whole}
use Rattle.dispatch_room_sockets.specs.declared.kept_callers.Kept.{Kept}
use Rattle.dispatch_room_sockets.specs.declared.kept_callers.Verdict.{Verdict}
use Rattle.dispatch_room_sockets.specs.declared.kept_callers.Verdict.TheVariants.{Closed, Served}
use Rattle.dispatch_room_sockets.specs.declared.kept_callers.Verdict.TheVariants.{Waits}
use Rattle.dispatch_room_sockets.specs.CallerHistories.{AreInTime, ComesBack, GivesNext, History}
use Rattle.dispatch_room_sockets.specs.CallerHistories.{Stands, numbers, tally}
use Rattle.dispatch_room_sockets.specs.Sweeps.{IsAdmitted, IsNoted, IsSwept, Looked, closed_of}
use Rattle.dispatch_room_sockets.specs.Sweeps.{judged, numbered, served_of, waiting_of}
use Rattle.dispatch_room_sockets.specs.Verdicts.{is_closed, is_over, is_served, verdict_on, waits}

pub tally_both : (n : ℕ) (xs ys : List ℕ) → tally n (xs ++ ys) ≡ tally n xs + tally n ys
tally_both n [] ys = omega arith
tally_both n (x ∷ xs) ys = let rest = tally_both n xs ys in omega (arith, rest)

one_by_verdict : (v : Verdict) (size : ℕ)
    → size ≡ (if waits v then size else 0) + (if is_served v then size else 0) + (if is_closed v then size else 0)
one_by_verdict Waits size = omega arith
one_by_verdict Served size = omega arith
one_by_verdict Closed size = omega arith

waiting_in_time : (now until : Duration) (heard : Heard) → waits (verdict_on heard (is_over now until)) ≡ true
    → as_nanos now < as_nanos until
waiting_in_time now until Nothing is = grind arith
waiting_in_time now until Part is = grind arith
waiting_in_time now until Whole is = absurd (cc)
waiting_in_time now until Gone is = absurd (cc)

module _ {C : Type 0} where
  tally_kept : (n : ℕ) (b : Bool) (k : Kept C) (more : List (Looked C)) (l : Looked C) → l.after ≡ k
      → tally n (numbers (map (λ x. x.after) (if b then l ∷ more else more)))
      ≡ (if b then (if n == k.number then 1 else 0) else 0) + tally n (numbers (map (λ x. x.after) more))
  tally_kept n true k more l same =
      ap {B = ℕ} (λ a. (if n == a.number then 1 else 0) + tally n (numbers (map (λ x. x.after) more))) same
  tally_kept n false k more l same = omega arith

  -- each who was looked at waits on, is served or is closed
  pub tally_looks : (n : ℕ) (now patience : Duration) (looks : List (Looked C))
      → All (IsNoted now patience) looks
      → tally n (numbers (map (λ l. l.before) looks))
      ≡ tally n (numbers (waiting_of now looks)) + tally n (numbers (served_of now looks))
      + tally n (numbers (closed_of now looks))
  tally_looks n now patience [] noted = refl
  tally_looks n now patience (l ∷ more) noted =
      let rest = tally_looks n now patience more (All-tail (IsNoted now patience) l more noted) in
      let same = (All-head (IsNoted now patience) l more noted).same in
      let v = judged now l in
      let w = tally_kept n (waits v) l.after (filter (λ x. waits (judged now x)) more) l refl in
      let s = tally_kept n (is_served v) l.after (filter (λ x. is_served (judged now x)) more) l refl in
      let c = tally_kept n (is_closed v) l.after (filter (λ x. is_closed (judged now x)) more) l refl in
      let one = one_by_verdict v (if n == l.after.number then 1 else 0) in
      let number : ◌≡◌ {A = ℕ} (if n == l.before.number then 1 else 0) (if n == l.after.number then 1 else 0) = ap
      {B = ℕ} (λ m. if n == m then 1 else 0) (sym same) in
      omega (arith, rest, w, s, c, one, number)

  pub tally_numbered : (n next : ℕ) (until : Duration) (came : List C)
      → tally n (numbers (numbered next until came)) + (if nat_lt n next then 1 else 0)
      ≡ (if nat_lt n (next + length came) then 1 else 0)
  tally_numbered n next until [] =
      let same : next ≡ next + 0 = omega arith in
      let both = ap {B = ℕ} (λ m. if nat_lt n m then 1 else 0) same in
      omega (arith, both)
  tally_numbered n next until (c ∷ more) =
      let rest = tally_numbered n (next + 1) until more in
      let count : next + 1 + length more ≡ next + length (c ∷ more) = omega arith in
      let step = one_more n next in
      let all = rest ∙ ap {B = ℕ} (λ m. if nat_lt n m then 1 else 0) count in
      omega (arith, all, step)
    where
      one_more : (n next : ℕ)
          → (if n == next then 1 else 0) + (if nat_lt n next then 1 else 0) ≡ (if nat_lt n (next + 1) then 1 else 0)
      one_more n next = grind arith

  pub admitted_stands : (until : Duration) (line longer ready : List (Kept C)) (next after : ℕ)
      (came comes : Option (List C)) (h : History)
      → IsAdmitted until line longer next after came comes → Stands line ready next h
      → Stands longer ready after h
  admitted_stands until line longer ready next after came comes h a s = record {
    order = s.order;
    once = λ n.
        let old = s.once n in
        let new = tally_numbered n next until a.came in
        let parts = ap (λ l. tally n (numbers l)) a.wait
        ∙ ap (tally n) (map-append (λ k. k.number) line (numbered next until a.came))
        ∙ tally_both n (numbers line) (numbers (numbered next until a.came)) in
        let count = ap {B = ℕ} (λ m. if nat_lt n m then 1 else 0) a.count in
        omega (arith, old, new, parts, count);
  }

  pub swept_stands : (now patience : Duration) (line left ready readied : List (Kept C)) (next : ℕ)
      (log logs : Option (List Heard)) (h : History) → (s : IsSwept now patience line left ready readied log logs)
      → Stands line ready next h
      → Stands left readied next (record {
        whole = h.whole ++ numbers (served_of now s.looks);
        given = h.given;
        out = h.out;
        gone = h.gone ++ numbers (closed_of now s.looks);
      })
  swept_stands now patience line left ready readied next log logs h s stood = record {
    order = ap (λ t. t ++ numbers (served_of now s.looks)) stood.order
        ∙ append_assoc h.given (numbers ready) (numbers (served_of now s.looks))
        ∙ ap (λ t. h.given ++ t)
        (sym (map-append (λ k. k.number) ready (served_of now s.looks)) ∙ ap numbers (sym s.serve));
    once = λ n.
        let old = stood.once n in
        let looks = ap (λ l. tally n (numbers l)) s.were ∙ tally_looks n now patience s.looks s.noted in
        let wait = ap (λ l. tally n (numbers l)) s.wait in
        let serve = ap (λ l. tally n (numbers l)) s.serve
        ∙ ap (tally n) (map-append (λ k. k.number) ready (served_of now s.looks))
        ∙ tally_both n (numbers ready) (numbers (served_of now s.looks)) in
        let gone = tally_both n h.gone (numbers (closed_of now s.looks)) in
        omega (arith, old, looks, wait, serve, gone);
  }

  pub looks_in_time : (now : Duration) (looks : List (Looked C)) → AreInTime now (waiting_of now looks)
  looks_in_time now [] = All-nil (λ (k : Kept C). as_nanos now < as_nanos k.until)
  looks_in_time now (l ∷ more) = go (waits (judged now l)) refl (looks_in_time now more)
    where
      go : (b : Bool) → waits (judged now l) ≡ b → AreInTime now (waiting_of now more)
          → AreInTime now (map (λ x. x.after)
          (if b then l ∷ filter (λ x. waits (judged now x)) more else filter (λ x. waits (judged now x)) more))
      go true is rest =
          All-cons (λ (k : Kept C). as_nanos now < as_nanos k.until) l.after _
          (waiting_in_time now l.after.until l.heard is) rest
      go false is rest = rest

  pub nobody_given : (line ready : List (Kept C)) (next : ℕ) → GivesNext line ready next line ready next None
  nobody_given line ready next h s = (
    h,
    record {
      gave = sym (append-nil h.given);
      out = sym (append-nil h.out);
      whole = ([], sym (append-nil h.whole));
      gone = ([], sym (append-nil h.gone));
    },
    s,
  )

  -- nobody was given, and then one was, or nobody
  pub given_after : (line lines liness ready readied readieds : List (Kept C)) (next after afters : ℕ)
      (given : Option (Kept C)) → GivesNext line ready next lines readied after None
      → GivesNext lines readied after liness readieds afters given
      → GivesNext line ready next liness readieds afters given
  given_after line lines liness ready readied readieds next after afters given first second h s =
      let one = first h s in
      let two = second one.0 one.2 in (
        two.0,
        record {
          gave = two.1.gave ∙ ap (λ t. t ++ numbers (option_to_list given)) (one.1.gave ∙ append-nil h.given);
          out = two.1.out ∙ ap (λ t. t ++ numbers (option_to_list given)) (one.1.out ∙ append-nil h.out);
          whole = (
            one.1.whole.0 ++ two.1.whole.0,
            two.1.whole.1 ∙ ap (λ t. t ++ two.1.whole.0) one.1.whole.1
                ∙ append_assoc h.whole one.1.whole.0 two.1.whole.0,
          );
          gone = (
            one.1.gone.0 ++ two.1.gone.0,
            two.1.gone.1 ∙ ap (λ t. t ++ two.1.gone.0) one.1.gone.1 ∙ append_assoc h.gone one.1.gone.0 two.1.gone.0,
          );
        },
        two.2,
      )

  pub looked_given : (now patience : Duration) (line left ready readied : List (Kept C)) (next : ℕ)
      (log logs : Option (List Heard)) → IsSwept now patience line left ready readied log logs
      → GivesNext line ready next left readied next None
  looked_given now patience line left ready readied next log logs s h stood = (
    record {
      whole = h.whole ++ numbers (served_of now s.looks);
      given = h.given;
      out = h.out;
      gone = h.gone ++ numbers (closed_of now s.looks);
    },
    record {
      gave = sym (append-nil h.given);
      out = sym (append-nil h.out);
      whole = (numbers (served_of now s.looks), refl);
      gone = (numbers (closed_of now s.looks), refl);
    },
    swept_stands now patience line left ready readied next log logs h s stood,
  )

  pub admitted_given : (until : Duration) (line longer ready : List (Kept C)) (next after : ℕ)
      (came comes : Option (List C)) → IsAdmitted until line longer next after came comes
      → GivesNext line ready next longer ready after None
  admitted_given until line longer ready next after came comes a h s = (
    h,
    record {
      gave = sym (append-nil h.given);
      out = sym (append-nil h.out);
      whole = ([], sym (append-nil h.whole));
      gone = ([], sym (append-nil h.gone));
    },
    admitted_stands until line longer ready next after came comes h a s,
  )

  pub first_given : (line ready rest : List (Kept C)) (next : ℕ) (k : Kept C) → ready ≡ k ∷ rest
      → GivesNext line ready next line rest next (Some k)
  first_given line ready rest next k is h s = (
    record {
      whole = h.whole;
      given = h.given ++ k.number ∷ [];
      out = h.out ++ k.number ∷ [];
      gone = h.gone;
    },
    record {
      gave = refl;
      out = refl;
      whole = ([], sym (append-nil h.whole));
      gone = ([], sym (append-nil h.gone));
    },
    record {
      order = s.order ∙ ap (λ r. h.given ++ numbers r) is ∙ sym (append_assoc h.given (k.number ∷ []) (numbers rest));
      once = λ n.
          let old = s.once n in
          let one = ap (λ r. tally n (numbers r)) is in
          let out = tally_both n h.out (k.number ∷ []) in
          omega (arith, old, one, out);
    },
  )

  pub back_in_line : (line lines ready : List (Kept C)) (next : ℕ) (k : Kept C) → lines ≡ line ++ k ∷ []
      → ComesBack k.number line lines ready next
  back_in_line line lines ready next k is = record {
    is = λ others h out s. (
      [],
      record {
        order = s.order;
        once = λ n.
            let old = s.once n in
            let longer = ap (λ l. tally n (numbers l)) is ∙ ap (tally n) (map-append (λ x. x.number) line (k ∷ []))
            ∙ tally_both n (numbers line) (k.number ∷ []) in
            let served = ap (tally n) out ∙ tally_both n others (k.number ∷ []) in
            let gone = tally_both n h.gone [] in
            omega (arith, old, longer, served, gone);
      },
    );
  }

  pub back_gone : (line ready : List (Kept C)) (next number : ℕ) → ComesBack number line line ready next
  back_gone line ready next number = record {
    is = λ others h out s. (
      number ∷ [],
      record {
        order = s.order;
        once = λ n.
            let old = s.once n in
            let served = ap (tally n) out ∙ tally_both n others (number ∷ []) in
            let gone = tally_both n h.gone (number ∷ []) in
            omega (arith, old, served, gone);
      },
    );
  }

  pub swept_in_time : (now patience : Duration) (line left ready readied : List (Kept C))
      (log logs : Option (List Heard)) → IsSwept now patience line left ready readied log logs
      → AreInTime now left
  swept_in_time now patience line left ready readied log logs s = rw s.wait (looks_in_time now s.looks)

  pub popped_given : (line ready rest : List (Kept C)) (next : ℕ) (given : Option (Kept C))
      → ready ≡ option_to_list given ++ rest → GivesNext line ready next line rest next given
  popped_given line ready rest next None is = rw is (nobody_given line rest next)
  popped_given line ready rest next (Some k) is = first_given line ready rest next k is
