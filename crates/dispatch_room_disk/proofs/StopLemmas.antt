-- What restores leave of the files beside a path, wherever they are stopped.
use Rattle.std.proofs.Common.{arith, ◌≡◌, ◌∙◌, ap, append_assoc, sym, subst, refl, ℕ, zero, suc}
use Rattle.std.proofs.Common.{List, [], ◌∷◌, ◌++◌, Option, None, Some, true, false, inl, inr, map}
use Rattle.std.specs.Prelude.{◌≢◌, ◌⊎◌, codes}
use Rattle.std.specs.List.{AllByRecursion}
use Rattle.dispatch_room_disk.specs.ReplacingSteps.{Step, compared, copied, distinguished, ends}
use Rattle.dispatch_room_disk.specs.ReplacingSteps.{held, looked, moving, naming, put, removed}
use Rattle.dispatch_room_disk.specs.ReplacingSteps.{replacing, reserved, set_aside, synced, taken}
use Rattle.dispatch_room_disk.specs.StoppedRestores.{Each, Folder, IsBut, IsFree, IsOneRoom, IsRoom}
use Rattle.dispatch_room_disk.specs.StoppedRestores.{IsSafe, IsStopped, AreStopped, Name, aside}
use Rattle.dispatch_room_disk.specs.StoppedRestores.{copy, new, own, text}
use Rattle.dispatch_room_disk.specs.declared.aside_names.Found.{Found}
use Rattle.dispatch_room_disk.specs.declared.aside_names.Found.TheVariants.{Copy, Nothing, Other}

abbrev journal : List ℕ
journal = codes "-journal"

abbrev wal : List ℕ
wal = codes "-wal"

abbrev shm : List ℕ
shm = codes "-shm"

abbrev second : List ℕ → ℕ
second [] = 0
second (first ∷ []) = 0
second (first ∷ it ∷ more) = it

journal_is_not_wal : journal ≢ wal
journal_is_not_wal = λ same. let it : 106 ≡ 119 = ap second same in omega (arith, it)

shm_is_not_wal : shm ≢ wal
shm_is_not_wal = λ same. let it : 115 ≡ 119 = ap second same in omega (arith, it)

journal_is_not_shm : journal ≢ shm
journal_is_not_shm = λ same. let it : 106 ≡ 115 = ap second same in omega (arith, it)

own_apart : (one other : List ℕ) → one ≢ other → own one ≢ own other
own_apart one other apart = λ same. apart (cc same)

aside_apart : (number : ℕ) (one other : List ℕ) → one ≢ other → aside number one ≢ aside number other
aside_apart number one other apart = λ same. apart (cc same)

-- what holds of each end holds of all
every : {P : List ℕ → Type 0} (all : List (List ℕ)) → ((end : List ℕ) → P end) → AllByRecursion P all
every [] holds = tt
every (end ∷ more) holds = (holds end, every more holds)

-- what is the same as what was the same is so
still : {A : Type 0} (f g h : List ℕ → A) (all : List (List ℕ)) → AllByRecursion (λ end. g end ≡ f end) all
    → AllByRecursion (λ end. h end ≡ g end) all → AllByRecursion (λ end. h end ≡ f end) all
still f g h [] one two = tt
still f g h (end ∷ more) one two = (two.0 ∙ one.0, still f g h more one.1 two.1)

back : {A : Type 0} (f g : List ℕ → A) (all : List (List ℕ)) → AllByRecursion (λ end. g end ≡ f end) all
    → AllByRecursion (λ end. f end ≡ g end) all
back f g [] same = tt
back f g (end ∷ more) same = (sym same.0, back f g more same.1)

texts : (f g : List ℕ → Option (List ℕ)) (all : List (List ℕ)) → AllByRecursion (λ end. g end ≡ f end) all
    → AllByRecursion (λ end. text (g end) ≡ text (f end)) all
texts f g [] same = tt
texts f g (end ∷ more) same = (ap text same.0, texts f g more same.1)

-- what lay beside FILE does
abbrev LiesBeside : Folder → Folder → Type 0
LiesBeside old now = AllByRecursion (λ end. text (now (own end)) ≡ text (old (own end))) ends

-- only files of these names were made, changed or removed
abbrev IsOnly : (Name → Type 0) → Folder → Folder → Type 0
IsOnly may old now = (other : Name) → ¬ may other → now other ≡ old other

only_then : (may : Name → Type 0) (a b c : Folder) → IsOnly may a b → IsOnly may b c → IsOnly may a c
only_then may a b c one two = λ other not. two other not ∙ one other not

only_same : (may : Name → Type 0) (a b : Folder) → b ≡ a → IsOnly may a b
only_same may a b same = λ other not. ap (λ f. f other) same

only_one : (may : Name → Type 0) (name : Name) (a b : Folder) → may name → IsBut name a b → IsOnly may a b
only_one may name a b is but = λ other not. but other (λ same. not (subst may (sym same) is))

some_is_there : (folder : Folder) (name : Name) (bytes : List ℕ) → folder name ≡ Some bytes → folder name ≡ None → ⊥
some_is_there folder name bytes there none = cc (there, none)

-- what was done has kept a room, and leaves one in its place
pub record Outcome (old now : Folder) : Type 0 where
  pub safe : IsSafe old now
  pub place : IsOneRoom old now

safe_then : (a b c : Folder) → IsSafe a b → IsSafe b c → IsSafe a c
safe_then a b c one two = record {
  kept =
      λ bytes at. elim (one.kept bytes at) [
        | inl room ↦ elim (two.kept bytes room.0) [
          | inl here ↦ inl (here.0, still (lies a) (lies b) (lies c) ends room.1 here.1)
          | inr (number, here) ↦ inr (
            number,
            (here.0, still (lies a) (lies b) (λ end. text (c (aside number end))) ends room.1 here.1),
          )
        ]
        | inr (number, room) ↦
            let same = two.same number (λ free. some_is_there b (aside number []) bytes room.0 free.0) in
            inr (
              number,
              (
                same.0 ∙ room.0,
                still (lies a) (λ end. text (b (aside number end))) (λ end. text (c (aside number end))) ends room.1
                    (texts (λ end. b (aside number end)) (λ end. c (aside number end)) ends same.1),
              ),
            )
      ];
  same =
      λ number taken.
      let first = one.same number taken in
      let f = λ (end : List ℕ). a (aside number end) in
      let g = λ (end : List ℕ). b (aside number end) in
      let h = λ (end : List ℕ). c (aside number end) in
      still f g h ([] ∷ ends) first
      (two.same number
      (λ free. taken (still (λ end. None) g f ([] ∷ ends) free (back f g ([] ∷ ends) first))));
}
  where
    lies : Folder → List ℕ → List ℕ
    lies folder end = text (folder (own end))

-- FILE.new may come, and an empty log of FILE
abbrev IsQuietly : Name → Type 0
IsQuietly name = (name ≡ new) ⊎ (name ≡ own wal)

record IsQuiet (old now : Folder) : Type 0 where
  pub only : IsOnly IsQuietly old now
  pub log : text (now (own wal)) ≡ text (old (own wal))

quiet_then : (a b c : Folder) → IsQuiet a b → IsQuiet b c → IsQuiet a c
quiet_then a b c one two =
    record { only = only_then IsQuietly a b c one.only two.only; log = two.log ∙ one.log }

quiet_same : (a b : Folder) → b ≡ a → IsQuiet a b
quiet_same a b same =
    record { only = only_same IsQuietly a b same; log = ap (λ f. text (f (own wal))) same }

held_quiet : (a b : Folder) → IsBut (own wal) a b → text (b (own wal)) ≡ text (a (own wal)) → IsQuiet a b
held_quiet a b but log = record { only = only_one IsQuietly (own wal) a b (inr refl) but; log = log }

new_quiet : (a b : Folder) → IsBut new a b → IsQuiet a b
new_quiet a b but = record {
  only = only_one IsQuietly new a b (inl refl) but;
  log = ap text (but (own wal) (λ same. cc same));
}

quiet_aside : (a b : Folder) (number : ℕ) (end : List ℕ) → IsQuiet a b → b (aside number end) ≡ a (aside number end)
quiet_aside a b number end quiet =
    quiet.only (aside number end) (λ is. elim is [ inl same ↦ cc same | inr same ↦ cc same ])

quiet_own : (a b : Folder) (end : List ℕ) → end ≢ wal → IsQuiet a b → b (own end) ≡ a (own end)
quiet_own a b end differs quiet =
    quiet.only (own end) (λ is. elim is [ inl same ↦ cc same | inr same ↦ differs (cc same) ])

-- what was there is there
quiet_room : (a b : Folder) → IsQuiet a b → (b (own []) ≡ a (own [])) × LiesBeside a b
quiet_room a b quiet = (
  quiet_own a b [] (λ same. cc same) quiet,
  (
    ap text (quiet_own a b journal journal_is_not_wal quiet),
    (quiet.log, (ap text (quiet_own a b shm shm_is_not_wal quiet), tt)),
  ),
)

quiet_outcome : (a b : Folder) → IsQuiet a b → Outcome a b
quiet_outcome a b quiet =
    let room = quiet_room a b quiet in record {
      safe =
          record {
            kept = λ bytes at. inl (room.0 ∙ at, room.1);
            same = λ number taken. every ([] ∷ ends) (λ end. quiet_aside a b number end quiet);
          };
      place = inl room;
    }

-- what comes behind a quiet beginning
quiet_first : (a b c : Folder) → IsQuiet a b → Outcome b c → Outcome a c
quiet_first a b c quiet rest =
    let room = quiet_room a b quiet in record {
      safe = safe_then a b c (quiet_outcome a b quiet).safe rest.safe;
      place =
          elim rest.place [
            | inl (file, beside) ↦ inl (
              file ∙ room.0,
              still (λ end. text (a (own end))) (λ end. text (b (own end))) (λ end. text (c (own end))) ends room.1
                  beside,
            )
            | inr (inl none) ↦ inr (inl none)
            | inr (inr (file, beside)) ↦ inr (inr (
              file ∙ quiet.only copy (λ is. elim is [ inl same ↦ cc same | inr same ↦ cc same ]),
              beside,
            ))
          ];
    }

-- names that are taken change nothing
past_taken : (path : List ℕ) (number : ℕ) (rest : List Step) (a b : Folder)
    → IsStopped (taken path number ++ rest) a b → (b ≡ a) ⊎ IsStopped rest a b
past_taken path zero rest a b stopped = inr stopped
past_taken path (suc number) rest a b stopped =
    elim (past_taken path number (reserved path number false ∷ rest) a b
    (subst (λ steps. IsStopped steps a b)
    (append_assoc (taken path number) (reserved path number false ∷ []) rest) stopped)) [
      | inl same ↦ inl same
      | inr (inl same) ↦ inl same
      | inr (inr (next, same, more)) ↦ inr (subst (λ f. IsStopped rest f b) same more)
    ]

-- the names of a number, for a file and those of its database
abbrev IsOf : ℕ → Name → Type 0
IsOf number name = (end : List ℕ) × (name ≡ aside number end)

-- a name was reserved, and nothing is changed but under it
record IsNamed (number : ℕ) (old now : Folder) : Type 0 where
  pub free : IsFree number old
  pub only : IsOnly (IsOf number) old now

named_own : (number : ℕ) (a b : Folder) (end : List ℕ) → IsNamed number a b → b (own end) ≡ a (own end)
named_own number a b end named = named.only (own end) (λ is. cc (is.1))

named_aside : (number : ℕ) (a b : Folder) (other : ℕ) (end : List ℕ) → IsNamed number a b → ¬ IsFree other a
    → b (aside other end) ≡ a (aside other end)
named_aside number a b other end named taken =
    named.only (aside other end)
    (λ is. let same : number ≡ other = cc (is.1) in taken (subst (λ it. IsFree it a) same named.free))

named_then : (number : ℕ) (end : List ℕ) (a b c : Folder) → IsNamed number a b → IsBut (aside number end) b c
    → IsNamed number a c
named_then number end a b c named but = record {
  free = named.free;
  only =
      only_then (IsOf number) a b c named.only
      (only_one (IsOf number) (aside number end) b c (end, refl) but);
}

named_outcome : (number : ℕ) (a b : Folder) → IsNamed number a b → Outcome a b
named_outcome number a b named =
    let beside : LiesBeside a b = every ends (λ end. ap text (named_own number a b end named)) in
    record {
      safe =
          record {
            kept = λ bytes at. inl (named_own number a b [] named ∙ at, beside);
            same = λ other taken. every ([] ∷ ends) (λ end. named_aside number a b other end named taken);
          };
      place = inl (named_own number a b [] named, beside);
    }

-- the room that was there has the name of a number, the copy waits, and nothing has the room's place
record IsGone (number : ℕ) (old now : Folder) : Type 0 where
  pub room : (bytes : List ℕ) → old (own []) ≡ Some bytes
      → IsRoom bytes (λ end. old (own end)) (λ end. now (aside number end))
  pub same : (other : ℕ) → ¬ IsFree other old → Each (λ end. now (aside other end) ≡ old (aside other end))
  pub copied : now new ≡ old copy
  pub none : now (own []) ≡ None

-- all that was set aside is as it was
abbrev IsAside : Folder → Folder → Type 0
IsAside old now = (number : ℕ) (end : List ℕ) → now (aside number end) ≡ old (aside number end)

gone_safe : (number : ℕ) (a b c : Folder) → IsGone number a b → IsAside b c → IsSafe a c
gone_safe number a b c gone is_still = record {
  kept =
      λ bytes at.
      let room = gone.room bytes at in inr (
        number,
        (
          is_still number [] ∙ room.0,
          still (λ end. text (a (own end))) (λ end. text (b (aside number end))) (λ end. text (c (aside number end)))
              ends room.1 (every ends (λ end. ap text (is_still number end))),
        ),
      );
  same =
      λ other taken.
      still (λ end. a (aside other end)) (λ end. b (aside other end)) (λ end. c (aside other end)) ([] ∷ ends)
      (gone.same other taken) (every ([] ∷ ends) (λ end. is_still other end));
}

gone_outcome : (number : ℕ) (a b : Folder) → IsGone number a b → Outcome a b
gone_outcome number a b gone =
    record { safe = gone_safe number a b b gone (λ other end. refl); place = inr (inl gone.none) }

gone_then : (number : ℕ) (end : List ℕ) (a b c : Folder) → end ≢ [] → IsGone number a b → IsBut (own end) b c
    → IsGone number a c
gone_then number end a b c some gone but =
    let safe = gone_safe number a b c gone (λ other it. but (aside other it) (λ same. cc same)) in record {
      room =
          λ bytes at.
          let room = gone.room bytes at in (
            but (aside number []) (λ same. cc same) ∙ room.0,
            still (λ end. text (a (own end))) (λ end. text (b (aside number end)))
                (λ end. text (c (aside number end))) ends room.1
                (every ends (λ end. ap text (but (aside number end) (λ same. cc same)))),
          );
      same = safe.same;
      copied = but new (λ same. cc same) ∙ gone.copied;
      none = but (own []) (λ same. some (cc same)) ∙ gone.none;
    }

-- nothing lies beside FILE
abbrev IsAlone : Folder → Type 0
IsAlone folder = AllByRecursion (λ end. folder (own end) ≡ None) ends

-- the copy gets its name where nothing lies beside it
last_steps : (path : List ℕ) (number : ℕ) (a b c : Folder) → IsGone number a b
    → IsAlone b → IsStopped (put path ∷ synced path ∷ []) b c → Outcome a c
last_steps path number a b c gone alone (inl same) =
    subst (λ f. Outcome a f) (sym same) (gone_outcome number a b gone)
last_steps path number a b c gone alone (inr (next, (file, others), more)) =
    subst (λ f. Outcome a f) (sym last) (record {
      safe = gone_safe number a b next gone (λ other end. others (aside other end) (λ is. cc is) (λ is. cc is));
      place =
          inr (inr (
            file ∙ gone.copied,
            (
              others (own journal) (λ is. cc is) (λ is. cc is) ∙ alone.0,
              (
                others (own wal) (λ is. cc is) (λ is. cc is) ∙ alone.1.0,
                (others (own shm) (λ is. cc is) (λ is. cc is) ∙ alone.1.1.0, tt),
              ),
            ),
          ));
    })
  where
    last : c ≡ next
    last = elim more [ inl same ↦ same | inr (then, same, end) ↦ end ∙ same ]

-- what was beside the room goes, and the copy comes
tail_steps : (path : List ℕ) (number : ℕ) (a b c : Folder) → IsGone number a b
    → IsStopped
    (synced path ∷ map (removed path) ends ++ synced path ∷ put path ∷ synced path ∷ []) b c
    → Outcome a c
tail_steps path number a b c gone (inl same) = subst (λ f. Outcome a f) (sym same) (gone_outcome number a b gone)
tail_steps path number a b c gone (inr (b1, s1, more1)) =
    let gone1 = subst (λ f. IsGone number a f) (sym s1) gone in
    elim more1 [
      | inl same ↦ subst (λ f. Outcome a f) (sym same) (gone_outcome number a b1 gone1)
      | inr (b2, (but2, none2), more2) ↦
          let gone2 = gone_then number journal a b1 b2 (λ is. cc is) gone1 but2 in
          elim more2 [
            | inl same ↦ subst (λ f. Outcome a f) (sym same) (gone_outcome number a b2 gone2)
            | inr (b3, (but3, none3), more3) ↦
                let gone3 = gone_then number wal a b2 b3 (λ is. cc is) gone2 but3 in
                elim more3 [
                  | inl same ↦ subst (λ f. Outcome a f) (sym same) (gone_outcome number a b3 gone3)
                  | inr (b4, (but4, none4), more4) ↦
                      let gone4 = gone_then number shm a b3 b4 (λ is. cc is) gone3 but4 in
                      let alone : IsAlone b4 = (
                        but4 (own journal) (own_apart journal shm journal_is_not_shm)
                            ∙ but3 (own journal) (own_apart journal wal journal_is_not_wal) ∙ none2,
                        (
                          but4 (own wal) (own_apart wal shm (λ same. shm_is_not_wal (sym same))) ∙ none3,
                          (none4, tt),
                        ),
                      ) in
                      elim more4 [
                        | inl same ↦ subst (λ f. Outcome a f) (sym same) (gone_outcome number a b4 gone4)
                        | inr (b5, s5, more5) ↦
                            last_steps path number a b4 c gone4 alone
                            (subst (λ f. IsStopped (put path ∷ synced path ∷ []) f c) s5 more5)
                      ]
                ]
          ]
    ]

-- what is not there is gone
nothing_gone : (a : Folder) → a new ≡ a copy → a (own []) ≡ None → IsGone 0 a a
nothing_gone a waits none = record {
  room = λ bytes at. absurd (some_is_there a (own []) bytes at none);
  same = λ other taken. every ([] ∷ ends) (λ end. refl {A = Option (List ℕ)} {a = a (aside other end)});
  copied = waits;
  none = none;
}

-- what lies beside FILE lies under the name of a number, too
abbrev IsKept : ℕ → Folder → Folder → Type 0
IsKept number old now = AllByRecursion (λ end. text (now (aside number end)) ≡ text (old (own end))) ends

-- the file gets the name beside its log
moved_steps : (path : List ℕ) (number : ℕ) (a b c : Folder) → a new ≡ a copy → IsNamed number a b
    → IsKept number a b
    → IsStopped
    (set_aside path number ∷ synced path ∷ map (removed path) ends ++ synced path ∷ put path ∷ synced path ∷ []) b c
    → Outcome a c
moved_steps path number a b c waits named beside (inl same) =
    subst (λ f. Outcome a f) (sym same) (named_outcome number a b named)
moved_steps path number a b c waits named beside (inr (next, (none, moved, others), more)) =
    tail_steps path number a next c
    (record {
      room = λ bytes at. (
        moved bytes (named_own number a b [] named ∙ at),
        (
          ap text (other_end journal (λ is. cc is)) ∙ beside.0,
          (
            ap text (other_end wal (λ is. cc is)) ∙ beside.1.0,
            (ap text (other_end shm (λ is. cc is)) ∙ beside.1.1.0, tt),
          ),
        ),
      );
      same = λ other taken. every ([] ∷ ends) (λ end. same_at other end taken);
      copied =
          others new (λ is. cc is) (λ is. cc is) ∙ named.only new (λ is. cc (is.1)) ∙ waits;
      none = none;
    }) more
  where
    other_end : (end : List ℕ) → end ≢ [] → next (aside number end) ≡ b (aside number end)
    other_end end some = others (aside number end) (λ is. cc is) (λ is. some (cc is))

    same_at : (other : ℕ) (end : List ℕ) → ¬ IsFree other a → next (aside other end) ≡ a (aside other end)
    same_at other end taken =
        others (aside other end) (λ is. cc is)
        (λ is. let same : number ≡ other = cc is in taken (subst (λ it. IsFree it a) same named.free))
        ∙ named_aside number a b other end named taken

-- a name is reserved, and the room moved there
block_steps : (path : List ℕ) (number : ℕ) (a c : Folder) → a new ≡ a copy
    → IsStopped (reserved path number true ∷ moving path number ++ put path ∷ synced path ∷ []) a c → Outcome a c
block_steps path number a c waits (inl same) = quiet_outcome a c (quiet_same a c same)
block_steps path number a c waits (inr (b1, (free, but1), more1)) =
    let named1 : IsNamed number a b1 = record {
      free = free;
      only = only_one (IsOf number) (aside number []) a b1 ([], refl) but1;
    } in
    elim more1 [
      | inl but ↦ named_outcome number a c (named_then number journal a b1 c named1 but)
      | inr (b2, (but2, text2), more2) ↦
          let named2 = named_then number journal a b1 b2 named1 but2 in
          elim more2 [
            | inl but ↦ named_outcome number a c (named_then number wal a b2 c named2 but)
            | inr (b3, (but3, text3), more3) ↦
                let named3 = named_then number wal a b2 b3 named2 but3 in
                elim more3 [
                  | inl but ↦ named_outcome number a c (named_then number shm a b3 c named3 but)
                  | inr (b4, (but4, text4), more4) ↦
                      let named4 = named_then number shm a b3 b4 named3 but4 in
                      let beside : IsKept number a b4 = (
                        ap text
                            (but4 (aside number journal) (aside_apart number journal shm journal_is_not_shm)
                            ∙ but3 (aside number journal) (aside_apart number journal wal journal_is_not_wal))
                            ∙ text2 ∙ ap text (named_own number a b1 journal named1),
                        (
                          ap text
                              (but4 (aside number wal) (aside_apart number wal shm (λ same. shm_is_not_wal (sym same))))
                              ∙ text3 ∙ ap text (named_own number a b2 wal named2),
                          (text4 ∙ ap text (named_own number a b3 shm named3), tt),
                        ),
                      ) in
                      elim more4 [
                        | inl same ↦
                            subst (λ f. Outcome a f) (sym same) (named_outcome number a b4 named4)
                        | inr (b5, s5, more5) ↦
                            moved_steps path number a b4 c waits named4 beside
                            (subst (λ f. IsStopped (set_aside path number ∷ rest) f c) s5 more5)
                      ]
                ]
          ]
    ]
  where
    rest : List Step
    rest = synced path ∷ map (removed path) ends ++ synced path ∷ put path ∷ synced path ∷ []

-- what every restore begins with
first_steps : (from path : List ℕ) (rest : List Step) (a c : Folder)
    → IsStopped (distinguished from path ∷ held path ∷ rest) a c
    → IsQuiet a c ⊎ ((b : Folder) × IsQuiet a b × IsStopped rest b c)
first_steps from path rest a c (inl same) = inl (quiet_same a c same)
first_steps from path rest a c (inr (b, s, inl (but, log))) =
    inl (quiet_then a b c (quiet_same a b s) (held_quiet b c but log))
first_steps from path rest a c (inr (b, s, inr (d, (but, log), more))) =
    inr (d, quiet_then a b d (quiet_same a b s) (held_quiet b d but log), more)

-- another room was found, and the copy made beside it
copy_steps : (from path : List ℕ) (rest : List Step) (a c : Folder)
    → IsStopped (compared from path false ∷ copied from path ∷ rest) a c
    → IsQuiet a c ⊎ ((b : Folder) × IsQuiet a b × (b new ≡ b copy) × IsStopped rest b c)
copy_steps from path rest a c (inl same) = inl (quiet_same a c same)
copy_steps from path rest a c (inr (b, s, inl but)) = inl (quiet_then a b c (quiet_same a b s) (new_quiet b c but))
copy_steps from path rest a c (inr (b, s, inr (d, (but, is), more))) =
    inr (
      d,
      quiet_then a b d (quiet_same a b s) (new_quiet b d but),
      is ∙ sym (but copy (λ same. cc same)),
      more,
    )

regroup : (first : List Step) (step : Step) (more rest : List Step)
    → ((first ++ (step ∷ [])) ++ more) ++ rest ≡ first ++ (step ∷ (more ++ rest))
regroup first step more rest =
    append_assoc (first ++ (step ∷ [])) more rest ∙ append_assoc first (step ∷ []) (more ++ rest)

regrouped : (path : List ℕ) (number : ℕ)
    → (naming path number ++ moving path number) ++ (put path ∷ synced path ∷ [])
    ≡ taken path number ++ (reserved path number true ∷ (moving path number ++ (put path ∷ synced path ∷ [])))
regrouped path number =
    regroup (taken path number) (reserved path number true) (moving path number) (put path ∷ synced path ∷ [])

-- a restore that was stopped anywhere
pub stopped : (from path : List ℕ) (found : Found) (a c : Folder) → IsStopped (replacing from path found) a c
    → Outcome a c
stopped from path Copy a c run =
    elim (first_steps from path (compared from path true ∷ synced path ∷ []) a c run) [
      | inl quiet ↦ quiet_outcome a c quiet
      | inr (b, quiet, inl same) ↦ quiet_outcome a c (quiet_then a b c quiet (quiet_same b c same))
      | inr (b, quiet, inr (d, s, inl same)) ↦
          quiet_outcome a c (quiet_then a b c quiet (quiet_same b c (same ∙ s)))
      | inr (b, quiet, inr (d, s, inr (e, s2, same))) ↦
          quiet_outcome a c (quiet_then a b c quiet (quiet_same b c (same ∙ s2 ∙ s)))
    ]
stopped from path Nothing a c run =
    elim (first_steps from path
    (compared from path false ∷ copied from path ∷ looked path false ∷ put path ∷ synced path ∷ []) a c run) [
      | inl quiet ↦ quiet_outcome a c quiet
      | inr (b, quiet, more) ↦
          quiet_first a b c quiet
          (elim (copy_steps from path (looked path false ∷ put path ∷ synced path ∷ []) b c more) [
            | inl still ↦ quiet_outcome b c still
            | inr (d, still, waits, inl same) ↦
                quiet_outcome b c (quiet_then b d c still (quiet_same d c same))
            | inr (d, still, waits, inr (e, (s, none), rest)) ↦
                quiet_first b d c still
                (last_steps path 0 d d c (nothing_gone d waits none.0) none.1
                (subst (λ f. IsStopped (put path ∷ synced path ∷ []) f c) s rest))
          ])
    ]
stopped from path (Other number) a c run =
    elim (first_steps from path
    (compared from path false ∷ copied from path ∷ looked path true ∷ (naming path number ++ moving path number)
    ++ put path ∷ synced path ∷ []) a c run) [
      | inl quiet ↦ quiet_outcome a c quiet
      | inr (b, quiet, more) ↦
          quiet_first a b c quiet
          (elim (copy_steps from path
          (looked path true ∷ (naming path number ++ moving path number) ++ put path ∷ synced path ∷ []) b c more) [
            | inl still ↦ quiet_outcome b c still
            | inr (d, still, waits, inl same) ↦
                quiet_outcome b c (quiet_then b d c still (quiet_same d c same))
            | inr (d, still, waits, inr (e, s, rest)) ↦
                quiet_first b d c still
                (elim (past_taken path number
                (reserved path number true ∷ moving path number ++ put path ∷ synced path ∷ [])
                d c (subst (λ steps. IsStopped steps d c) (regrouped path number)
                (subst (λ f. IsStopped ((naming path number ++ moving path number) ++ put path ∷ synced path ∷ []) f c)
                s rest))) [
                  | inl same ↦ quiet_outcome d c (quiet_same d c same)
                  | inr left ↦ block_steps path number d c waits left
                ])
          ])
    ]

-- restores that were stopped anywhere, one after another
pub all_stopped : (from path : List ℕ) (founds : List Found) (a c : Folder) → AreStopped from path founds a c
    → IsSafe a c
all_stopped from path [] a c same = (quiet_outcome a c (quiet_same a c same)).safe
all_stopped from path (found ∷ more) a c (b, run, rest) =
    safe_then a b c (stopped from path found a b run).safe (all_stopped from path more b c rest)
