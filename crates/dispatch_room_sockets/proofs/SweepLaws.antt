-- A look at all who are kept, one after another.
use Rattle.std.proofs.Common.{◌≡◌, ◌∙◌, sym, ap, refl, arith, append_assoc, append-nil}
use Rattle.std.proofs.Common.{length-append, ℕ, ◌+◌, ◌-◌, List, [], ◌∷◌, ◌++◌, Bool, true, false}
use Rattle.std.proofs.Common.{map, filter, length, All, Option, None, Some, if◌then◌else◌}
use Rattle.std.proofs.lemmas.List.{map-append}
use Rattle.std.proofs.lemmas.List.Elements.{All-push, All-nil, filter-append}
use Rattle.std.specs.declared.time.Duration.{Duration}
use Rattle.dispatch_room_sockets.specs.declared.kept_callers.Heard.{Heard}
use Rattle.dispatch_room_sockets.specs.declared.kept_callers.Kept.{Kept}
use Rattle.dispatch_room_sockets.specs.declared.kept_callers.Verdict.{Verdict}
use Rattle.room_http_messages.specs.Streams.{Grows}
use Rattle.dispatch_room_sockets.specs.Sweeps.{IsAdmitted, IsLookedAt, IsNoted, IsSwept, Looked}
use Rattle.dispatch_room_sockets.specs.Sweeps.{judged, numbered, served_of, waiting_of}
use Rattle.dispatch_room_sockets.specs.Verdicts.{is_served, waits}

pub Grows-none : {A : Type 0} (a : Option (List A)) → Grows a a []
Grows-none None = tt
Grows-none (Some xs) = sym (append-nil xs)

pub Grows-more : {A : Type 0} (a b c : Option (List A)) (xs ys : List A) → Grows a b xs → Grows b c ys
    → Grows a c (xs ++ ys)
Grows-more None b c xs ys first second = tt
Grows-more (Some done) None c xs ys first second = absurd first
Grows-more (Some done) (Some more) None xs ys first second = absurd second
Grows-more (Some done) (Some more) (Some most) xs ys first second =
    second ∙ ap (λ t. t ++ ys) first ∙ append_assoc done xs ys

pub map_push : {A B : Type 0} (f : A → B) (xs : List A) (x : A)
    → map f (xs ++ x ∷ []) ≡ map f xs ++ f x ∷ []
map_push f xs x = map-append f xs (x ∷ [])

pub filter_push : {A : Type 0} (p : A → Bool) (xs : List A) (x : A)
    → filter p (xs ++ x ∷ []) ≡ filter p xs ++ (if p x then x ∷ [] else [])
filter_push p xs x = filter-append p xs (x ∷ [])

module _ {C : Type 0} where
  pub numbered_push : (n : ℕ) (until : Duration) (came : List C) (c : C)
      → numbered n until (came ++ c ∷ [])
      ≡ numbered n until came ++ record { number = n + length came; caller = c; has_begun = false; until = until } ∷ []
  numbered_push n until [] c =
      let count : n ≡ n + 0 = omega arith in
      ap (λ k. record { number = k; caller = c; has_begun = false; until = until } ∷ []) count
  numbered_push n until (d ∷ more) c =
      let rest = numbered_push (n + 1) until more c in
      let count : n + 1 + length more ≡ n + length (d ∷ more) = omega arith in
      ap (λ t. record { number = n; caller = d; has_begun = false; until = until } ∷ t)
      (rest
      ∙ ap
      (λ k. numbered (n + 1) until more ++ record { number = k; caller = c; has_begun = false; until = until } ∷ [])
      count)

  -- so far this many were looked at, and the rest are still to be
  pub record IsSweptTo (now patience : Duration) (rest : ℕ) (line left ready readied : List (Kept C))
      (log logs : Option (List Heard)) : Type 0 where
    pub looks : List (Looked C)
    pub unseen : List (Kept C)
    pub noted : All (IsNoted now patience) looks
    pub were : line ≡ map (λ l. l.before) looks ++ unseen
    pub count : length unseen ≡ rest
    pub wait : left ≡ unseen ++ waiting_of now looks
    pub serve : readied ≡ ready ++ served_of now looks
    pub grown : Grows log logs (map (λ l. l.heard) looks)

  pub swept_none : (now patience : Duration) (line ready : List (Kept C)) (log : Option (List Heard))
      (rest : ℕ) → rest ≡ length line → IsSweptTo now patience rest line line ready ready log log
  swept_none now patience line ready log rest all = record {
    looks = [];
    unseen = line;
    noted = All-nil (IsNoted now patience);
    were = refl;
    count = sym all;
    wait = sym (append-nil line);
    serve = sym (append-nil ready);
    grown = Grows-none log;
  }

  pub swept_all : (now patience : Duration) (line left ready readied : List (Kept C))
      (log logs : Option (List Heard)) → IsSweptTo now patience 0 line left ready readied log logs
      → IsSwept now patience line left ready readied log logs
  swept_all now patience line left ready readied log logs s = go s.unseen s.count s.were s.wait
    where
      go : (unseen : List (Kept C)) → length unseen ≡ 0
          → line ≡ map (λ l. l.before) s.looks ++ unseen → left ≡ unseen ++ waiting_of now s.looks
          → IsSwept now patience line left ready readied log logs
      go [] count were wait = record {
        looks = s.looks;
        noted = s.noted;
        were = were ∙ append-nil (map (λ l. l.before) s.looks);
        wait = wait;
        serve = s.serve;
        grown = s.grown;
      }
      go (k ∷ more) count were wait = absurd (omega (arith, count))

  map_kept : (now : Duration) (p : Verdict → Bool) (looks : List (Looked C)) (l : Looked C) (v : Verdict)
      → v ≡ judged now l
      → map (λ x. x.after) (filter (λ x. p (judged now x)) (looks ++ l ∷ []))
      ≡ map (λ x. x.after) (filter (λ x. p (judged now x)) looks) ++ (if p v then l.after ∷ [] else [])
  map_kept now p looks l v same =
      ap (map (λ x. x.after)) (filter_push (λ x. p (judged now x)) looks l)
      ∙ rw same (go (p (judged now l)))
    where
      kept : List (Looked C)
      kept = filter (λ x. p (judged now x)) looks

      go : (b : Bool) → map (λ x. x.after) (kept ++ (if b then l ∷ [] else []))
          ≡ map (λ x. x.after) kept ++ (if b then l.after ∷ [] else [])
      go true = map_push (λ x. x.after) kept l
      go false = ap (map (λ x. x.after)) (append-nil kept) ∙ sym (append-nil (map (λ x. x.after) kept))

  pub swept_more : (now patience : Duration) (rest : ℕ) (line left ready readied : List (Kept C))
      (log logs logged : Option (List Heard)) (k a : Kept C) (others : List (Kept C)) (v : Verdict)
      {lefts served : List (Kept C)}
      → IsSweptTo now patience (rest + 1) line left ready readied log logs
      → left ≡ k ∷ others → IsLookedAt now patience k a logs logged v
      → lefts ≡ others ++ (if waits v then a ∷ [] else [])
      → served ≡ readied ++ (if is_served v then a ∷ [] else [])
      → IsSweptTo now patience rest line lefts ready served log logged
  swept_more now patience rest line left ready readied log logs logged k a others v {lefts} {served} s is looked wait
      serve =
      go s.unseen s.count s.were (sym is ∙ s.wait)
    where
      one : Looked C
      one = record { before = k; heard = looked.heard; after = a }

      go : (unseen : List (Kept C)) → length unseen ≡ rest + 1
          → line ≡ map (λ l. l.before) s.looks ++ unseen
          → k ∷ others ≡ unseen ++ waiting_of now s.looks
          → IsSweptTo now patience rest line lefts ready served log logged
      go [] count were same = absurd (omega (arith, count))
      go (u ∷ more) count were same =
          let first : k ≡ u = cc in
          let others_are : others ≡ more ++ waiting_of now s.looks = cc in
          record {
            looks = s.looks ++ one ∷ [];
            unseen = more;
            noted = All-push (IsNoted now patience) s.looks one s.noted looked.noted;
            were = were ∙ ap (λ x. map (λ l. l.before) s.looks ++ x ∷ more) (sym first)
                ∙ sym (append_assoc (map (λ l. l.before) s.looks) (k ∷ []) more)
                ∙ ap (λ t. t ++ more) (sym (map_push (λ l. l.before) s.looks one));
            count = omega (arith, count);
            wait = wait ∙ ap (λ t. t ++ (if waits v then a ∷ [] else [])) others_are
                ∙ append_assoc more (waiting_of now s.looks) (if waits v then a ∷ [] else [])
                ∙ ap (λ t. more ++ t) (sym (map_kept now waits s.looks one v looked.verdict));
            serve = serve ∙ ap (λ t. t ++ (if is_served v then a ∷ [] else [])) s.serve
                ∙ append_assoc ready (served_of now s.looks) (if is_served v then a ∷ [] else [])
                ∙ ap (λ t. ready ++ t) (sym (map_kept now is_served s.looks one v looked.verdict));
            grown =
                rw (map_push (λ l. l.heard) s.looks one)
                (Grows-more log logs logged (map (λ l. l.heard) s.looks) (looked.heard ∷ []) s.grown looked.grown);
          }

  -- while some are still to be looked at, somebody stands in the line
  pub swept_left : (now patience : Duration) (rest : ℕ) (line left ready readied : List (Kept C))
      (log logs : Option (List Heard)) {others : List (Kept C)}
      → IsSweptTo now patience (rest + 1) line left ready readied log logs
      → left ≡ others → ¬ (length others ≡ 0)
  swept_left now patience rest line left ready readied log logs s is none =
      let size = ap length (sym is ∙ s.wait) ∙ length-append s.unseen (waiting_of now s.looks) in
      omega (arith, size, s.count, none)

  pub admitted_more : (until : Duration) (line longer longest : List (Kept C)) (next after : ℕ)
      (log logs logged : Option (List C)) (c : C) → IsAdmitted until line longer next after log logs
      → Grows logs logged (c ∷ [])
      → longest ≡ longer ++ record { number = after; caller = c; has_begun = false; until = until } ∷ []
      → IsAdmitted until line longest next (after + 1) log logged
  admitted_more until line longer longest next after log logs logged c a grown is = record {
    came = a.came ++ c ∷ [];
    grown = Grows-more log logs logged a.came (c ∷ []) a.grown grown;
    wait = is ∙ rw (a.count, a.wait) (append_assoc line (numbered next until a.came) _)
        ∙ ap (λ t. line ++ t) (sym (numbered_push next until a.came c));
    count = omega (arith, a.count, length-append a.came (c ∷ []));
  }
