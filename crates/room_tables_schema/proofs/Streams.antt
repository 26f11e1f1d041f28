-- Rows that a query shows one at a time, from its first on, and what takes them.
use Rattle.std.proofs.Common.{◌≡◌, ◌⊎◌, [], inl, inr, ℕ, List, false, Result, Ok, Err, IfErr}
use Rattle.std.proofs.Common.{IsErrAnd, None, sym, subst, arith, rules}
use Rattle.std.proofs.lemmas.Result.{IfErr-weaker, on_err_weaker, on_ok_weaker}
use Rattle.std.specs.Prelude.{OnOk}
use Rattle.sqlite_value.specs.Order.{Row}
use Rattle.sqlite_trees.specs.declared.store.Store.{Ghosts}
use Rattle.sqlite_resolve.specs.declared.compiled.Compiled.{Compiled}
use Rattle.sqlite.specs.declared.error.Error.{Error}
use Rattle.sqlite.specs.declared.error.Error.TheVariants.{SqliteFailure}
use Rattle.sqlite.specs.declared.error.ErrorCode.TheVariants.{OutOfMemory}
use Rattle.sqlite.specs.Clock.{timed}
use Rattle.sqlite.specs.Effect.{Database, RefusesToRead}
use Rattle.sqlite.specs.Given.{Advances, FailsToAdvance, HasBegun, HasGiven, IsPlain, IsRefused}
use Rattle.sqlite.specs.Held.{Held, state}
use Rattle.sqlite.specs.Listing.{IsSourceOf, reads_listing, understood}
use Rattle.sqlite.specs.State.{CommitsShowing, FailsToQuery, FailsToShow, Fails, IsNotRun}
use Rattle.sqlite.specs.State.{IsStatement, IsUnchanged, Shown, ShowsRows, State, Survives}
use Rattle.sqlite.proofs.Callers.{begun_plain, unchanged_then}
use Rattle.sqlite.proofs.StateLemmas.{unchanged}
use Rattle.sqlite.proofs.StreamLemmas.{fails_since, given_plain}
use Rattle.room_tables_schema.specs.Outcomes.{ReadsOnly}
use Rattle.room_tables_schema.specs.QueryStreams.{ReadsOut, TakesShown}
use Rattle.room_tables_schema.proofs.ReadLaws.{still}
use Rattle.room_tables_schema.proofs.Refusals.{keeps_then, query_failed, query_survives}
use Rattle.room_tables_schema.proofs.Refusals.{query_unchanged}
use Rattle.room_tables_schema.specs.FileConnections.{IsClean}

-- ---- what is said of the state before a call is so of an earlier one, if nothing has changed

module _ (text : List ℕ) (params : Row) (old mid new : State) (same : IsUnchanged old mid)
    (survives : Survives old mid (λ _. ⊥))
    (plain : (c : Compiled) → understood mid.now.schema text ≡ Ok c → c.returning ≡ None) where
  abbrev since : (c : Compiled) → IsStatement mid text params c → IsStatement old text params c
  since c h = record {
    is = subst (λ (d : Database). understood d.schema text ≡ Ok c) same.0.now_is h.is;
    whole = h.whole;
    given = h.given;
    now = h.now;
  }

  source_since : (db : Database) → IsSourceOf (reads_listing mid.now.schema text) mid.now db
      → IsSourceOf (reads_listing old.now.schema text) old.now db
  source_since db = subst (λ (d : Database). IsSourceOf (reads_listing d.schema text) d db) same.0.now_is

  shown_since : (rows : List Row) → Shown text params mid new rows → Shown text params old new rows
  unfolding Shown
  shown_since rows h =
      let none = plain h.0 h.1.is in
      let full = timed params h.0.formats h.1.now in
      let it = subst (ShowsRows mid new text h.0 full rows) none h.2 in (
        h.0,
        since h.0 h.1,
        subst (ShowsRows old new text h.0 full rows) (sym none)
            (it.0, source_since it.0 it.1, it.2, unchanged_then old mid new same it.3),
      )

  failed_since : (e : Error) → FailsToQuery text params mid new e
      → FailsToQuery text params old new e
  unfolding FailsToQuery IsNotRun
  failed_since e (inl (inl h)) = inl (inl (rw (← same.0.now_is) h.0, unchanged_then old mid new same h.1))
  failed_since e (inl (inr h)) = inl (inr (fails_since old mid new same survives.counts e h))
  failed_since e (inr h) =
      let none = plain h.0 h.1.is in
      let full = timed params h.0.formats h.1.now in
      let it = subst (FailsToShow mid new text h.0 full e) none h.2 in
      inr (
        h.0,
        since h.0 h.1,
        subst (FailsToShow old new text h.0 full e) (sym none) (
          it.0,
          source_since it.0 it.1,
          subst (λ l. RefusesToRead l h.0.command it.0 full e) survives.limit it.2,
          unchanged_then old mid new same it.3,
        ),
      )

  shown_since_first : (AreTaken : List Row → Type 0) (result : Result (Unit {0}) Error)
      → TakesShown AreTaken text params mid new result → TakesShown AreTaken text params old new result
  shown_since_first AreTaken result h = record {
    shown = on_ok_weaker result (λ it. (it.0, shown_since it.0 it.1, it.2)) h.shown;
    why =
        IfErr-weaker result _ _ (λ e why. elim why [ inl memory ↦ inl memory | inr fails ↦ inr (failed_since e fails) ])
        h.why;
    kept = on_err_weaker result (keeps_then old mid new same) h.kept;
  }

-- ---- the rows that were given so far

-- after some rows of a query that began here, which are taken
pub record Reads {S : Type 0} (g : Ghosts S) (AreTaken : List Row → Type 0)
    (first now : Held S) : Type 0 where
  pub survives : Survives (state g first) (state g now) (λ _. ⊥)
  pub mode : first.in_transaction ≡ false → now.in_transaction ≡ false
  pub so_far : IsClean g now → (text : List ℕ) (params : Row)
      → HasGiven g text params first []
      → (given : List Row) × HasGiven g text params now given
      × IsUnchanged (state g first) (state g now) × AreTaken given

-- a query runs on an open connection
rests : {S : Type 0} (g : Ghosts S) (text : List ℕ) (params : Row) (now : Held S)
    → HasGiven g text params now [] → IsUnchanged (state g now) (state g now)
unfolding HasGiven
rests g text params now given = unchanged (state g now) given.0.is_open

-- none was read yet
pub begins : {S : Type 0} {g : Ghosts S} {AreTaken : List Row → Type 0} {first : Held S}
    → AreTaken [] → Reads g AreTaken first first
begins {g = g} {first = first} none =
    let same : Survives (state g first) (state g first) (λ _. ⊥) = search rules in
    record {
      survives = same;
      mode = λ outside. outside;
      so_far = λ clean text params begun. ([], begun, rests g text params first begun, none);
    }

module _ {S : Type 0} {g : Ghosts S} {AreTaken : List Row → Type 0} {first mid : Held S}
    (new : Held S) (reads : Reads g AreTaken first mid)
    (survives : Survives (state g mid) (state g new) (λ _. ⊥))
    (mode : mid.in_transaction ≡ false → new.in_transaction ≡ false) where
  -- what the last step says holds of the whole
  out : (result : Result (Unit {0}) Error)
      → (IsClean g new → (text : List ℕ) (params : Row) (given : List Row)
      → HasGiven g text params mid given → AreTaken given
      → TakesShown AreTaken text params (state g mid) (state g new) result)
      → ReadsOut g AreTaken first new result
  out result last = record {
    takes_shown = λ clean text params begun.
        let it = reads.so_far (omega (arith, survives.clean)) text params begun in
        let plain = given_plain g text params mid it.0 it.1 in
        shown_since_first text params (state g first) (state g mid) (state g new) it.2 reads.survives plain AreTaken
        result
        (last clean text params it.0 it.1 it.3);
    mode = λ outside. mode (reads.mode outside);
    survives = still reads.survives survives;
  }

  -- those that were given are all
  pub ends : (IsClean g new → Advances g mid new None)
      → ReadsOut g AreTaken first new (Ok tt)
  ends moves =
      out (Ok tt) (λ clean text params given has are.
      record { shown = (given, moves clean text params given has, are); why = tt; kept = tt })

  -- the next is not given
  pub fails : (e : Error) (result : Result (Unit {0}) Error) → IsErrAnd result (λ why. why ≡ e)
      → (IsClean g new → FailsToAdvance g mid new e)
      → (IsClean g new → Fails (state g mid) (state g new) ⊥ e
      ⊎ IsUnchanged (state g mid) (state g new)) → ReadsOut g AreTaken first new result
  fails e (Ok x) is moves kept = absurd is
  fails e (Err why) is moves kept = rw is (out (Err e) (λ clean text params given has are. record {
    shown = tt;
    why = inr (moves clean text params given has);
    kept = elim (kept clean) [ inl failed ↦ inr failed.3 | inr same ↦ inl same ];
  }))

-- ---- a query that is begun and read out

module _ {S : Type 0} (g : Ghosts S) (text : List ℕ) (params : Row) (old : Held S)
    (plain : IsClean g old → IsPlain (understood (state g old).now.schema text)) where
  -- it doesn't begin
  pub unbegun : {X : Type 0} (new : Held S) (e : Error)
      → IsRefused g {X = X} text params old (Err e) new → ReadsOnly {T = Unit {0}} g old new (Err e)
  unbegun new e h = record {
    ok = λ clean. tt;
    err =
        λ clean.
        let was : IsClean g old = omega (arith, h.survives.clean) in
        query_failed text params _ _ plain was e (h.err clean);
    mode = h.mode;
    survives = query_survives text params _ _ plain h.survives;
  }

  module _ {AreTaken : List Row → Type 0} {mid new : Held S} {result : Result (Unit {0}) Error}
      (begun : IsClean g mid → HasBegun g text params old mid)
      (first : Survives (state g old) (state g mid) (CommitsShowing text params (state g old)))
      (reads : ReadsOut g AreTaken mid new result) where
    was : IsClean g new → IsClean g old
    was clean = omega (arith, first.clean, reads.survives.clean)

    stays : Survives (state g old) (state g mid) (λ _. ⊥)
    stays = query_survives text params _ _ plain first

    -- its rows are all taken, or it is reported why not
    why_or_shown : IsClean g new
        → TakesShown AreTaken text params (state g old) (state g new) result
    why_or_shown clean =
        let at = begun_plain g text params old mid (plain (was clean)) (begun (omega (arith, reads.survives.clean))) in
        shown_since_first text params (state g old) (state g mid) (state g new) at.1 stays
        (given_plain g text params mid [] at.0) AreTaken result (reads.takes_shown clean text params at.0)

    pub shows : IsClean g new
        → OnOk result ((rows : List Row) × Shown text params (state g old) (state g new) rows
        × AreTaken rows)
    shows clean = (why_or_shown clean).shown

    pub because : IsClean g new
        → IfErr result (λ e. (e ≡ SqliteFailure OutOfMemory)
        ⊎ FailsToQuery text params (state g old) (state g new) e)
    because clean = (why_or_shown clean).why

    pub leaves : (old.in_transaction ≡ false → mid.in_transaction ≡ false)
        → ReadsOnly g old new result
    leaves mode = record {
      ok =
          λ clean.
          on_ok_weaker result (λ it. query_unchanged text params _ _ plain (was clean) it.0 it.1)
          (why_or_shown clean).shown;
      err = λ clean. (why_or_shown clean).kept;
      mode = λ outside. reads.mode (mode outside);
      survives = still stays reads.survives;
    }
