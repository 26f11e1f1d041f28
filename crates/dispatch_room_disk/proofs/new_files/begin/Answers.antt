use Rattle.std.proofs.Common.{Err, IfErr, IsTrue, Ok, OnOk, Result, ap, subst₂, false, inl, inr}
use Rattle.std.proofs.Common.{refl, rules, subst, sym, ℕ, ◌∙◌, ◌≡◌}
use Rattle.std.proofs.lemmas.Result.{on_ok_weaker}
use Rattle.sqlite_disk.specs.declared.Disk.{Ghosts}
use Rattle.sqlite_disk.specs.declared.Files.{Files}
use Rattle.sqlite_pages.specs.declared.error.Error.{Error}
use Rattle.sqlite_pages.specs.declared.error.Error.TheVariants.{Corrupt}
use Rattle.sqlite_pages.specs.Outcome.{End}
use Rattle.sqlite_pool.specs.Backing.{FailsUnless}
use Rattle.sqlite_pool.specs.Opening.{IsBlankFile, IsNew, image}
use Rattle.sqlite_pager.specs.Pager.{files as paged}
use Rattle.sqlite_pool.specs.Pool.{state}
use Rattle.sqlite_pool.specs.Stored.{Recovers, used_size}
use Rattle.sqlite_pool.proofs.StateLemmas.{clean_is, may_leave_is, settled}
use Rattle.sqlite_wal.specs.Files.{outcomes, seen_image}
use Rattle.sqlite_wal.specs.PageSize.{bytes_of}
use Rattle.sqlite_wal.specs.Reads.{AreClean}
use Rattle.sqlite_wal.specs.Recovery.{Image}
use Rattle.sqlite.specs.Files.{image_of}
use Rattle.sqlite.proofs.OpenLemmas.{pool_files}
use Rattle.dispatch_room_disk.specs.NewFiles.{IsSpared, small_page}
use Rattle.dispatch_room_disk.proofs.new_files.begin.Goals as goal

-- what is refused only as no new file was made where the file was a new one
once_made : (made : Result Unit Error) (faults : ℕ) (end : End) (New P : Type 0) → IfErr made (λ error. error ≡ Corrupt)
    → IfErr made (FailsUnless faults end New) → New → OnOk made P → P
once_made (Ok done) faults end New P no_other cause new is = is
once_made (Err error) faults end New P no_other cause new is = elim (rw no_other at cause) [
  | inl excused ↦ absurd excused
  | inr refused ↦ absurd (refused.1 new)
]

-- files that were given back are spared
given_back : {D : Type 0} (disk : Ghosts D) (old new : Files D) → ◌≡◌ {A = D × D} (new.log, new.db) (old.log, old.db)
    → IsSpared disk old new
given_back disk old new back =
    let kept = λ (left : Image). subst (λ f. outcomes disk f.0 f.1 left) back in
    record {
      same = λ there. ap (λ f. seen_image disk f.0 f.1) back;
      still = λ there. kept;
      most = λ left leaves. inl (kept left leaves);
    }

pub returns-clause-begun : goal.returns-clause-begun
returns-clause-begun g c clean =
    let disk = g.D.Disk in
    let pool = c.create.new.self in
    let first = c.in-Ok-new.pool in
    let made = c.create.ensures in
    let size : bytes_of c.unwrap-size.result ≡ small_page = search rules in
    let sized : (state first).page_size
    ≡ small_page = c.in-Ok-new.ensures.size ∙ ap (λ n. used_size n false) (c.in-Ok.ensures.size ∙ size) in
    let before : image first
    ≡ image_of disk c.args.files =
    ap (λ f. seen_image disk f.0 f.1) (c.in-Ok-new.ensures.files ∙ c.in-Ok.ensures.files) in
    let kept = subst (λ f. AreClean disk f.0 f.1) c.close-2.ensures clean in
    let sure : IsTrue (state pool).is_clean = clean_is pool ∙ kept in
    on_ok_weaker c.begun-made.result
    (λ no_other blank left leaves.
    let once = λ (P : Type 0) (is : OnOk c.create.result P).
    once_made c.create.result _ _ _ P no_other (made.cause sure) (subst₂ IsBlankFile (sym sized) (sym before) blank)
    is in
    let is_open = (once _ (made.clean sure)).is_open in
    let may = may_leave_is pool left kept (subst (λ f. outcomes disk f.0 f.1 left) c.close-2.ensures leaves) in
    let lasts = (settled pool g.met.D.Disk.seen_may_stay is_open).durable left may in (
      (state pool).committed,
      subst (λ n. Recovers n left (state pool).committed) (made.size ∙ sized) lasts,
      subst (λ n. IsNew n (state pool).committed) sized (once _ (made.made sure)),
    ))
    c.begun-made.ensures.done

pub returns-clause-spared : goal.returns-clause-spared
returns-clause-spared g c clean =
    let disk = g.D.Disk in
    let pool = c.create.new.self in
    let first = c.in-Ok-new.pool in
    let made = c.create.ensures in
    let size : bytes_of c.unwrap-size.result ≡ small_page = search rules in
    let sized : (state first).page_size
    ≡ small_page = c.in-Ok-new.ensures.size ∙ ap (λ n. used_size n false) (c.in-Ok.ensures.size ∙ size) in
    let found = c.in-Ok-new.ensures.files ∙ c.in-Ok.ensures.files in
    let before : image first ≡ image_of disk c.args.files = ap (λ f. seen_image disk f.0 f.1) found in
    let kept = subst (λ f. AreClean disk f.0 f.1) c.close-2.ensures clean in
    let sure : IsTrue (state pool).is_clean = clean_is pool ∙ kept in
    let may = λ (left : Image) (leaves : outcomes disk c.close-2.result.log c.close-2.result.db left).
    may_leave_is pool left kept (subst (λ f. outcomes disk f.0 f.1 left) c.close-2.ensures leaves) in
    let old_left = λ (left : Image) (may : (state first).may_leave left).
    subst (λ f. outcomes disk f.0 f.1 left) found ((pool_files first).2 left may) in
    record {
      same =
          λ there.
          ap (λ f. seen_image disk f.0 f.1) c.close-2.ensures
          ∙ made.there sure (λ blank. there (subst₂ IsBlankFile sized before blank)) ∙ before;
      still =
          λ there left leaves.
          old_left left
          (made.untouched (λ blank. there (subst₂ IsBlankFile sized before blank)) left (may left leaves));
      most = λ left leaves. elim (made.crash left (may left leaves)) [
        | inl was ↦ inl (old_left left was)
        | inr (inl blank) ↦ inr (inl (subst (λ n. IsBlankFile n left) sized blank))
        | inr (inr (pages, recovers, new)) ↦
            inr (inr (pages, subst (λ n. Recovers n left pages) sized recovers, subst (λ n. IsNew n pages) sized new))
      ];
    }

pub returns-in-Err-clause-spared : goal.returns-in-Err-clause-spared
returns-in-Err-clause-spared g c clean =
    let disk = g.D.Disk in
    subst (IsSpared disk c.args.files) (sym c.in-Err.ensures.back) (given_back disk c.args.files c.args.files refl)

pub returns-in-Err-new-clause-spared : goal.returns-in-Err-new-clause-spared
returns-in-Err-new-clause-spared g c clean =
    given_back g.D.Disk _ _ (c.close.ensures ∙ ap (λ it. paged it) c.in-Err-new.ensures.back ∙ c.in-Ok.ensures.files)
