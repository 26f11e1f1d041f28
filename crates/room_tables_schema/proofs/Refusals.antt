-- What a query leaves, whether it shows its rows or fails: nothing is written, and nothing more is
-- left to a stop.
use Rattle.std.proofs.Common.{◌≡◌, ◌⊎◌, inl, inr, ℕ, List, sym, subst, ◌∙◌, arith}
use Rattle.sqlite_value.specs.Order.{Row}
use Rattle.sqlite_schema.specs.declared.schema.Schema.{Schema}
use Rattle.sqlite.specs.declared.error.Error.{Error}
use Rattle.sqlite.specs.Clock.{timed}
use Rattle.sqlite.specs.Listing.{understood}
use Rattle.sqlite.specs.State.{State, HasCleanDisk, IsUnchanged, Survives, CommitsShowing}
use Rattle.sqlite.specs.State.{FailsToQuery, FailsToShow, IsNotRun, IsTooLate, KeepsCommit, Shown}
use Rattle.sqlite.specs.State.{ShowsRows}
use Rattle.sqlite.proofs.Callers.{IsPlain, never_commits, unchanged_then}
use Rattle.sqlite.proofs.StateLemmas.{survives_weaker}
use Rattle.room_tables_schema.specs.Outcomes.{Keeps}

-- a text that is plain under a schema is so on a connection of that schema
pub plain_here : (schema here : Schema) (text : List ℕ) → here ≡ schema
    → IsPlain (understood schema text) → IsPlain (understood here text)
plain_here schema here text has = subst (λ z. IsPlain (understood z text)) (sym has)

module _ (text : List ℕ) (params : Row) (old new : State)
    (plain : HasCleanDisk old → IsPlain (understood old.now.schema text)) where
  -- a query commits nothing, so a stop leaves what it could before
  pub query_survives : Survives old new (CommitsShowing text params old) → Survives old new (λ _. ⊥)
  query_survives s =
      survives_weaker old new _ _
      (λ clean db.
      let early : HasCleanDisk old = omega (arith, s.clean) in never_commits text params old db (plain early)) s

  module _ (early : HasCleanDisk old) where
    not_run : (e : Error) → IsNotRun old new text params e → Keeps old new
    unfolding IsNotRun
    not_run e (inl none) = inl none.1
    not_run e (inr fails) = inr fails.3

    -- a query that fails has written nothing
    pub query_failed : (e : Error) → FailsToQuery text params old new e → Keeps old new
    unfolding FailsToQuery
    query_failed e (inl none) = not_run e none
    query_failed e (inr shows) =
        let known = subst IsPlain shows.1.is (plain early) in
        inl (subst (FailsToShow old new text shows.0 (timed params shows.0.formats shows.1.now) e) known.0 shows.2).3

    -- a plain query writes nothing, so it never comes too late
    pub never_late : (e : Error) → FailsToQuery text params old new e
        ⊎ IsTooLate text params old new e → FailsToQuery text params old new e
    never_late e (inl fails) = fails
    never_late e (inr late) =
        let known = subst IsPlain late.1.is (plain early) in
        absurd (let none = rw known.0 at late.2 in cc)

    -- a query that shows its rows has written nothing
    pub query_unchanged : (rows : List Row) → Shown text params old new rows → IsUnchanged old new
    unfolding Shown
    query_unchanged rows h =
        let known = subst IsPlain h.1.is (plain early) in
        (subst (ShowsRows old new text h.0 (timed params h.0.formats h.1.now) rows) known.0 h.2).3

-- what writes nothing commits nothing
pub keeps_commit : (old new : State) → Keeps old new → KeepsCommit old new
keeps_commit old new (inl k) = record { was_open = λ o. k.0.was_open; committed = λ o. k.0.committed_is }
keeps_commit old new (inr k) = record { was_open = k.was_open; committed = λ o. (k.undone o).1 }

-- two calls one after another that write nothing
pub keeps_then : (a b c : State) → IsUnchanged a b → Keeps b c → Keeps a c
keeps_then a b c h (inl k) = inl (unchanged_then a b c h k)
keeps_then a b c h (inr k) = inr (record {
  was_open = λ o. h.0.was_open;
  undone = λ o. let u = k.undone o in (u.0 ∙ h.0.committed_is, u.1 ∙ h.0.committed_is);
  autocommit = k.autocommit;
  unmarked = k.unmarked;
  counts = record { changes = k.counts.changes ∙ h.1.changes; last_rowid = k.counts.last_rowid ∙ h.1.last_rowid };
})
