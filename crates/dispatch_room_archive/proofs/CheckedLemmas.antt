-- What was reported of a room's file is what came of looking at it.
use Rattle.std.proofs.Common.{Err, List, Ok, Option, Result, inl, inr, refl, subst, sym, ℕ, ◌≡◌}
use Rattle.std.proofs.Common.{◌⊎◌}
use Rattle.std.specs.Io.KnownBytes.{Appends}
use Rattle.std.specs.Prelude.{IfErr, IfOk, IsSome, OnOk}
use Rattle.jiff.specs.Words.{read_whole}
use Rattle.sqlite.specs.Held.{Held, state}
use Rattle.sqlite_trees.specs.declared.store.Store.{Ghosts}
use Rattle.room_place.specs.Plans.{Layout}
use Rattle.room_store_check_rows.specs.declared.summaries.Summary.{Summary}
use Rattle.room_store_file.specs.ExaminedFile.{ExplainsFile, HasCause, IsSummaryOf}
use Rattle.room_store_file.specs.declared.examined_file.Wrong.{Wrong}
use Rattle.dispatch_room_exit.specs.declared.exit_status.Done.{Done}
use Rattle.dispatch_room_exit.specs.declared.exit_status.Done.TheVariants.{Whole}
use Rattle.dispatch_room_exit.specs.declared.exit_status.Failure.{Failure}
use Rattle.dispatch_room_exit.specs.declared.exit_status.Failure.TheVariants.{File, Network}
use Rattle.dispatch_room_archive.specs.Examination.{HasChecked, PrintsWrong, failure_of}
use Rattle.dispatch_room_archive.specs.Examination.{no_rule_text, summary_text}
use Rattle.room_tables_schema.specs.FileConnections.{IsClean}

module _ {S : Type 0} (g : Ghosts S) (old new : Held S) (before after : Option (List ℕ)) where
  pub room_printed : (plan : Layout) (summary : Summary) (done : Result Done Failure)
      → (IsClean g new → IsSummaryOf (state g old).now.trees plan summary)
      → OnOk done (Appends before after (summary_text summary)) → IfOk done (λ d. d ≡ Whole)
      → OnOk done (IsSome (read_whole plan.zone))
      → IfErr done (λ f. (f ≡ Network) ⊎ ((f ≡ File) × ¬ IsSome (read_whole plan.zone)
      × Appends before after no_rule_text))
      → HasChecked g old new before after done
  room_printed plan summary (Ok d) holds text whole rule fault =
      (whole, record { plan = plan; summary = summary; holds = holds; rule = rule; text = text })
  room_printed plan summary (Err f) holds text whole rule fault =
      elim fault [
        | inl network ↦ inl network
        | inr none ↦
            inr (inr (record {
              failed = none.0;
              plan = plan;
              summary = summary;
              holds = holds;
              no_rule = none.1;
              text = none.2;
            }))
      ]

  pub wrong_printed : (wrong : Wrong) (done : Result Done Failure)
      → (IsClean g new → ExplainsFile (state g old) (state g new) wrong)
      → (IsClean g new → HasCause g old new wrong)
      → ((done ≡ Err (failure_of wrong)) × PrintsWrong before after wrong) ⊎ (done ≡ Err Network)
      → HasChecked g old new before after done
  wrong_printed wrong done explains why stated =
      elim stated [
        | inl is ↦
            subst (HasChecked g old new before after) (sym is.0) (inr (inl (record {
              fault = record { wrong = wrong; failed = refl; explains = explains; why = why };
              text = is.1;
            })))
        | inr is ↦ subst (HasChecked g old new before after) (sym is) (inl refl)
      ]
