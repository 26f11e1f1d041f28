-- Moves made one after another: what one more comes to.
use Rattle.std.proofs.Common.{Err, List, None, Ok, Option, Some, [], ap, inl, inr, refl, subst, sym}
use Rattle.std.proofs.Common.{drop, take, ℕ, ◌+◌, ◌++◌, ◌∙◌, ◌∷◌, ◌≡◌}
use Rattle.std.specs.Prelude.{IfOk, filter_map, ◌≢◌, ◌⊎◌}
use Rattle.std.proofs.lemmas.List.{append-nil, append_assoc, take-append-drop}
use Rattle.room_types.specs.KeyedRows.{listed}
use Rattle.room_types.specs.declared.answers.MoveLine.{MoveLine}
use Rattle.room_types.specs.declared.asks.Ask.{Ask}
use Rattle.room_types.specs.declared.asks.Ask.TheVariants as ask
use Rattle.room_types.specs.declared.asks.Move.{Move}
use Rattle.room_types.specs.declared.asks.Moves.{Moves}
use Rattle.room_types.specs.declared.changes.Change.{Change}
use Rattle.room_types.specs.declared.decisions.Decision.{Decision}
use Rattle.room_types.specs.declared.refusal_statuses.Refusal.{Refusal}
use Rattle.room_types.specs.declared.refusal_statuses.Refusal.TheVariants as refusal
use Rattle.room_model.proofs.KeptAsks.{Kept, mobilise_kept, stand_down_kept}
use Rattle.room_model.proofs.MoveFolds.{apply_both, by_ask}
use Rattle.room_model.specs.Decisions.{Verdict, changes_of}
use Rattle.room_model.specs.Room.{Room, apply}
use Rattle.room_model.specs.RoomAgreements.{IsWellFormed}
use Rattle.room_model.specs.Rooms.{IsUnavailable}
use Rattle.room_model.specs.Step.{Course, and_then, ask_of, course, course_after, line_of}
use Rattle.room_model.specs.Step.{desk_asks, single_asks}
use Rattle.room_store.proofs.Unavailable.{says}
use Rattle.room_store.specs.EventDecisions.{unless_unavailable}
use Rattle.room_store.specs.MoveDecisions.{Comes}
use Rattle.room_store_cache.specs.Cache.{IsCacheOf}
use Rattle.room_store_cache.specs.declared.cache.Cache.{Cache}

abbrev changes_in : Course → List Change
changes_in (Ok x) = x.0
changes_in (Err why) = []

abbrev lines_in : Course → List MoveLine
lines_in (Ok x) = x.1
lines_in (Err why) = []

-- after these changes and lines
abbrev joined : List Change → List MoveLine → Course → Course
joined cs ls (Ok x) = Ok (cs ++ x.0, ls ++ x.1)
joined cs ls (Err why) = Err why

joined_none : (x : Course) → joined [] [] x ≡ x
joined_none (Ok x) = refl
joined_none (Err why) = refl

joined_twice : (cs ds : List Change) (l : MoveLine) (ls : List MoveLine) (x : Course)
    → course_after cs l (joined ds ls x) ≡ joined (cs ++ ds) (l ∷ ls) x
joined_twice cs ds l ls (Ok x) = λ i. Ok (sym (append_assoc cs ds x.0) i, l ∷ ls ++ x.1)
joined_twice cs ds l ls (Err why) = refl

module _ (d at : ℕ) where
  -- the moves before come to this, and the others in the room after them
  abbrev Then : List Move → List Move → Room → List Change → List MoveLine → Type 0
  Then ms ns r cs ls = course d (ms ++ ns) at r ≡ joined cs ls (course d ns at (apply r cs))

  made_then : (m : Move) (ms ns : List Move) (r : Room) (cs : List Change) (ls : List MoveLine)
      (y : Decision) (z : Course)
      → ((ws : List Change) (ks : List MoveLine) → z ≡ Ok (ws, ks) → Then ms ns (apply r y.changes) ws ks)
      → course_after y.changes (line_of m y.answer) z ≡ Ok (cs, ls)
      → course_after y.changes (line_of m y.answer) (course d (ms ++ ns) at (apply r y.changes))
      ≡ joined cs ls (course d ns at (apply r cs))
  made_then m ms ns r cs ls y (Ok w) early g =
      let l = line_of m y.answer in
      ap (course_after y.changes l) (early w.0 w.1 refl)
      ∙ ap (λ s. course_after y.changes l (joined w.0 w.1 (course d ns at s))) (sym (apply_both r y.changes w.0))
      ∙ joined_twice y.changes w.0 l w.1 (course d ns at (apply r (y.changes ++ w.0)))
      ∙ (λ i. joined (ap changes_in g i) (ap lines_in g i) (course d ns at (apply r (ap changes_in g i))))
  made_then m ms ns r cs ls y (Err why) early g = cc

  first_then : (m : Move) (ms ns : List Move) (r : Room) (cs : List Change) (ls : List MoveLine)
      (x : Verdict)
      → ((s : Room) (ws : List Change) (ks : List MoveLine) → course d ms at s ≡ Ok (ws, ks)
      → Then ms ns s ws ks)
      → and_then m x (λ ds. course d ms at (apply r ds)) ≡ Ok (cs, ls)
      → and_then m x (λ ds. course d (ms ++ ns) at (apply r ds))
      ≡ joined cs ls (course d ns at (apply r cs))
  first_then m ms ns r cs ls (Ok y) early g =
      made_then m ms ns r cs ls y (course d ms at (apply r y.changes)) (early (apply r y.changes)) g
  first_then m ms ns r cs ls (Err why) early g = cc

  course_then : (ms ns : List Move) (r : Room) (cs : List Change) (ls : List MoveLine)
      → course d ms at r ≡ Ok (cs, ls) → Then ms ns r cs ls
  course_then [] ns r cs ls e =
      sym (joined_none (course d ns at r))
      ∙ (λ i. joined (ap changes_in e i) (ap lines_in e i) (course d ns at (apply r (ap changes_in e i))))
  course_then (m ∷ ms) ns r cs ls e =
      first_then m ms ns r cs ls (single_asks d (ask_of m) at r) (λ s ws ks. course_then ms ns s ws ks) e

  module _ (ms : List Move) (m : Move) (r : Room) (cs : List Change) (ls : List MoveLine)
      (before : course d ms at r ≡ Ok (cs, ls)) where
    -- one more is made
    course_more : (x : Decision) → single_asks d (ask_of m) at (apply r cs) ≡ Ok x
        → course d (ms ++ m ∷ []) at r ≡ Ok (cs ++ x.changes, ls ++ line_of m x.answer ∷ [])
    course_more x made =
        course_then ms (m ∷ []) r cs ls before
        ∙ ap (λ v. joined cs ls (and_then m v (λ ds. Ok ([], [])))) made
        ∙ (λ i. Ok (cs ++ append-nil x.changes i, ls ++ line_of m x.answer ∷ []))

    -- the next is refused, and so are all
    course_stops : (why : Refusal) (others : List Move)
        → single_asks d (ask_of m) at (apply r cs) ≡ Err why
        → course d (ms ++ m ∷ others) at r ≡ Err why
    course_stops why others refused =
        course_then ms (m ∷ others) r cs ls before
        ∙ ap (λ v. joined cs ls (and_then m v (λ ds. course d others at (apply (apply r cs) ds)))) refused

  -- a move keeps a room well-formed
  single_kept : (m : Move) (r : Room) → IsWellFormed r
      → IsWellFormed (apply r (changes_of (single_asks d (ask_of m) at r)))
  single_kept m r formed =
      by_ask (λ a. (v : IsWellFormed r) → Kept d r v (single_asks d a at r))
      (λ c v. stand_down_kept d r v c at) (λ n c v. mobilise_kept d r v n c at) m formed

  -- by another name for the moves that are made
  pub comes_as : {ms ns : List Move} {r : Room} {known : Cache} {cs : List Change}
      {ls : List MoveLine} → ms ≡ ns → Comes d at ms r known cs ls → Comes d at ns r known cs ls
  comes_as {r = r} {known = known} {cs = cs} {ls = ls} e come =
      subst (λ l. Comes d at l r known cs ls) e come

  -- before the first move
  pub comes_none : (r : Room) (known : Cache) (cs : List Change) (ls : List MoveLine) → cs ≡ []
      → ls ≡ [] → IsWellFormed r → IsCacheOf known r → Comes d at [] r known cs ls
  comes_none r known cs ls no_changes no_lines formed is =
      rw (no_changes, no_lines) (record { made = refl; formed = formed; cache = is })

  -- after one more
  pub comes_more : (ms : List Move) (m : Move) (r : Room) (was known : Cache) (cs all : List Change)
      (ls lines : List MoveLine) (x : Decision) → Comes d at ms r was cs ls
      → single_asks d (ask_of m) at (apply r cs) ≡ Ok x
      → all ≡ cs ++ x.changes → lines ≡ ls ++ line_of m x.answer ∷ []
      → IsCacheOf known (apply (apply r cs) x.changes)
      → Comes d at (ms ++ m ∷ []) r known all lines
  comes_more ms m r was known cs all ls lines x before made more line is =
      let both : apply r all ≡ apply (apply r cs) x.changes = ap (apply r) more ∙ apply_both r cs x.changes in
      record {
        made =
            course_more ms m r cs ls before.made x made
            ∙ (λ i. Ok (sym more i, sym line i));
        formed =
            subst IsWellFormed (sym both)
            (subst (λ v. IsWellFormed (apply (apply r cs) (changes_of v))) made
            (single_kept m (apply r cs) before.formed));
        cache = subst (IsCacheOf known) (sym both) is;
      }

  -- the next is refused, and so are all, whichever follow
  pub comes_stops : (ms others : List Move) (m : Move) (r : Room) (known : Cache) (cs : List Change)
      (ls : List MoveLine) (why : Refusal) → Comes d at ms r known cs ls
      → single_asks d (ask_of m) at (apply r cs) ≡ Err why
      → course d ((ms ++ m ∷ []) ++ others) at r ≡ Err why
  comes_stops ms others m r known cs ls why before refused =
      ap (λ l. course d l at r) (append_assoc ms (m ∷ []) others)
      ∙ course_stops ms m r cs ls before.made why others refused

-- what isn't moves is decided in one step
pub single_is : (d : ℕ) (a : Ask) (at : ℕ) (r : Room) → ((ms : Moves) → a ≢ ask.Moves ms)
    → desk_asks d a at r ≡ single_asks d a at r
single_is d (ask.Moves ms) at r other = absurd (other ms refl)
single_is d a at r other = refl

-- those that are there, of more places
abbrev pub there : List (Option Move) → List Move
there os = filter_map (λ o. o) os

pub there_append : (os ps : List (Option Move)) → there (os ++ ps) ≡ there os ++ there ps
there_append [] ps = refl
there_append (None ∷ os) ps = there_append os ps
there_append (Some m ∷ os) ps = ap (λ l. m ∷ l) (there_append os ps)

there_one : (o : Option Move) → there (o ∷ []) ≡ listed o
there_one None = refl
there_one (Some m) = refl

pub there_more : (os : List (Option Move)) (o : Option Move) → there (os ++ o ∷ []) ≡ there os ++ listed o
there_more os o = there_append os (o ∷ []) ∙ ap (λ l. there os ++ l) (there_one o)

pub there_split : (os : List (Option Move)) (i : ℕ) (o : Option Move)
    → take (i + 1) os ≡ take i os ++ o ∷ []
    → there os ≡ (there (take i os) ++ listed o) ++ there (drop (i + 1) os)
there_split os i o more =
    ap there (sym (take-append-drop (i + 1) os)) ∙ there_append (take (i + 1) os) (drop (i + 1) os)
    ∙ ap (λ l. l ++ there (drop (i + 1) os)) (ap there more ∙ there_more (take i os) o)

-- what is refused is answered so
pub refused_says : (why : Refusal) (P : Verdict → Type 0) → IsUnavailable why ⊎ P (Err why)
    → IfOk (unless_unavailable (Err why)) P
refused_says why P (inl (inl is)) = rw is tt
refused_says why P (inl (inr is)) = rw is tt
refused_says why P (inr p) = says (Err why) P p

-- and so it is what is decided, where that is not unavailable
pub unless_said : (why : Refusal) (P : Verdict → Type 0) {Q : Type 0}
    → IfOk (unless_unavailable (Err why)) P → (P (Err why) → Q) → IsUnavailable why ⊎ Q
unless_said refusal.Memory P is then = inl (inl refl)
unless_said refusal.Storage P is then = inl (inr refl)
unless_said why P is then = inr (then is)
