-- Reads of a connection, one after another.
use Rattle.std.proofs.Common.{Err, Ok, Result, arith, inl, refl, rules}
use Rattle.std.specs.Prelude.{OnErr, OnOk}
use Rattle.std.specs.Result.{IsErr}
use Rattle.sqlite.specs.Held.{Held, state}
use Rattle.sqlite.specs.State.{State, Survives}
use Rattle.sqlite.proofs.Callers.{unchanged_then}
use Rattle.sqlite.proofs.StateLemmas.{survives_then, unchanged}
use Rattle.sqlite_trees.specs.declared.store.Store.{Ghosts}
use Rattle.room_tables_schema.proofs.Refusals.{keeps_then}
use Rattle.room_tables_schema.specs.Outcomes.{ReadsInside, ReadsOnly}
use Rattle.room_tables_schema.specs.FileConnections.{IsClean, StandsOpen}

-- all was read as it was to be
abbrev pub Looked : {S : Type 0} → Ghosts S → Held S → Held S → Type 0
Looked g old new = ReadsOnly {T = Unit {0}} {E = Unit {0}} g old new (Ok tt)

-- a stop leaves what it could before
pub still : {a b c : State} → Survives a b (λ _. ⊥) → Survives b c (λ _. ⊥) → Survives a c (λ _. ⊥)
still one two = survives_then _ _ _ (λ _. ⊥) (λ _. ⊥) (λ _. ⊥) (λ _ db none. none) (λ _ db none. none) one two

none_ok : {T E : Type 0} (P : Type 0) (r : Result T E) → IsErr r → OnOk r P
none_ok P (Ok x) is = absurd (cc)
none_ok P (Err e) is = tt

pub any_err : {T E P : Type 0} (r : Result T E) → P → OnErr r P
any_err (Ok x) p = tt
any_err (Err e) p = p

-- nothing was read yet of an open connection
pub begins : {S : Type 0} {g : Ghosts S} {a : Held S}
    → StandsOpen g a → Looked g a a
begins {g = g} {a = a} open_ =
    let same : Survives (state g a) (state g a) (λ _. ⊥) = search rules in
    record {
      ok = λ clean. unchanged (state g a) (open_ clean);
      err = λ clean. tt;
      mode = λ outside. outside;
      survives = same;
    }

module _ {S : Type 0} {g : Ghosts S} {a b : Held S} where
  pub looked : {T E : Type 0} {x : T} → ReadsOnly {T = T} {E = E} g a b (Ok x) → Looked g a b
  looked h = record { ok = h.ok; err = λ clean. tt; mode = h.mode; survives = h.survives }

  -- what was read has this outcome
  pub succeeds : {T E : Type 0} {x : T} → Looked g a b → ReadsOnly {T = T} {E = E} g a b (Ok x)
  succeeds h = record { ok = h.ok; err = λ clean. tt; mode = h.mode; survives = h.survives }

  -- memory was unavailable after reads
  pub lacks_memory : {T E : Type 0} {r : Result T E} → IsErr r → Looked g a b → ReadsOnly g a b r
  lacks_memory {r = r} is h = record {
    ok = λ clean. none_ok _ r is;
    err = λ clean. any_err r (inl (h.ok clean));
    mode = h.mode;
    survives = h.survives;
  }

  -- a read that failed has this outcome
  pub fails : {T U E F : Type 0} {e : E} {r : Result U F} → IsErr r
      → ReadsOnly {T = T} {E = E} g a b (Err e) → ReadsOnly g a b r
  fails {r = r} is h = record {
    ok = λ clean. none_ok _ r is;
    err = λ clean. any_err r (h.err clean);
    mode = h.mode;
    survives = h.survives;
  }

module _ {S : Type 0} {g : Ghosts S} {a b c : Held S} (before : Looked g a b) where
  -- it was clean before the next read
  pub clean_before : {T E : Type 0} {r : Result T E} → ReadsOnly g b c r → IsClean g c
      → IsClean g b
  clean_before next clean = omega (arith, next.survives.clean)

  -- one read more
  pub and : {T E : Type 0} {x : T} → ReadsOnly {T = T} {E = E} g b c (Ok x) → Looked g a c
  and next = record {
    ok = λ clean. unchanged_then _ _ _ (before.ok (clean_before next clean)) (next.ok clean);
    err = λ clean. tt;
    mode = λ outside. next.mode (before.mode outside);
    survives = still before.survives next.survives;
  }

  -- the next read failed
  pub but : {T U E F : Type 0} {e : E} {r : Result U F} → IsErr r
      → ReadsOnly {T = T} {E = E} g b c (Err e) → ReadsOnly g a c r
  but {r = r} is next = record {
    ok = λ clean. none_ok _ r is;
    err = λ clean. any_err r (keeps_then _ _ _ (before.ok (clean_before next clean)) (next.err clean));
    mode = λ outside. next.mode (before.mode outside);
    survives = still before.survives next.survives;
  }

-- what is made of what was read: it succeeds or fails, and nothing changed
pub ends_any : {S : Type 0} {g : Ghosts S} {a b : Held S} {T E : Type 0} (r : Result T E)
    → Looked g a b → ReadsOnly g a b r
ends_any (Ok x) h = succeeds h
ends_any (Err e) h = lacks_memory refl h

-- the next read succeeds or fails
pub then_any : {S : Type 0} {g : Ghosts S} {a b c : Held S} {T E : Type 0} → Looked g a b
    → (r : Result T E) → ReadsOnly g b c r → ReadsOnly g a c r
then_any before (Ok x) next = succeeds (and before next)
then_any before (Err e) next = but before refl next

-- the same in a transaction
module _ {S : Type 0} {g : Ghosts S} {a b : Held S} {T U E F : Type 0} where
  pub ends_inside : {x : T} (r : Result U F) → ReadsInside {T = T} {E = E} g a b (Ok x)
      → ReadsInside g a b r
  ends_inside (Ok y) h = record { ok = h.ok; err = λ clean. tt; survives = h.survives }
  ends_inside (Err e) h = record { ok = λ clean. tt; err = λ clean. inl (h.ok clean); survives = h.survives }

  pub fails_inside : {e : E} {r : Result U F} → IsErr r → ReadsInside {T = T} {E = E} g a b (Err e)
      → ReadsInside g a b r
  fails_inside {r = r} is h =
      record { ok = λ clean. none_ok _ r is; err = λ clean. any_err r (h.err clean); survives = h.survives }
