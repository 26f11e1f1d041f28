-- What was reported of the lines so far.
use Rattle.std.proofs.Common.{[], List, None, Option, Some, ap, add-one, append_assoc, drop}
use Rattle.std.proofs.Common.{drop-cons, false, get_or, length, refl, suc, sym, true, ℕ, ◌+◌, ◌++◌}
use Rattle.std.proofs.Common.{◌<◌, ◌∙◌, ◌≡◌, ◌∷◌}
use Rattle.std.proofs.KnownBytes.{Appends-nil, Appends-trans}
use Rattle.std.specs.Io.KnownBytes.{Appends}
use Rattle.dispatch_room_exit.specs.declared.exit_status.Done.{Done}
use Rattle.dispatch_room_exit.specs.declared.exit_status.Done.TheVariants.{InPart, Whole}
use Rattle.dispatch_room_csv.specs.declared.fleet_file.FleetLine.{FleetLine}
use Rattle.dispatch_room_csv.specs.declared.fleet_file.FleetLine.TheVariants.{Bad, Row}
use Rattle.room_types.specs.declared.fleet.FleetRow.{FleetRow}
use Rattle.room_types.specs.declared.fleet.RowFate.{RowFate}
use Rattle.dispatch_room_tasks.specs.RowOutcomes.{Outcome, done_by, is_kept, outcome_text, outcomes}
use Rattle.dispatch_room_tasks.specs.RowOutcomes.{text_from}

-- how much is done by lines of which some are reported already
abbrev pub done_after : Done → List Outcome → Done
done_after Whole later = done_by later
done_after InPart later = InPart

-- Of all lines those from this number on are left: what the others say was written, and how much is
-- done is by all.
pub record IsPrinting (before now : Option (List ℕ)) (made : Done) (number : ℕ)
    (all later : List Outcome) : Type 0 where
  pub said : List ℕ
  pub wrote : Appends before now said
  pub text : said ++ text_from number later ≡ text_from 1 all
  pub done : done_after made later ≡ done_by all

pub printing_begins : (bytes : Option (List ℕ)) (all : List Outcome)
    → IsPrinting bytes bytes Whole 1 all all
printing_begins bytes all = record { said = []; wrote = Appends-nil bytes; text = refl; done = refl }

-- the next line is reported
pub printing_more : {before now then : Option (List ℕ)} {made : Done} {number : ℕ}
    {all left : List Outcome} (outcome : Outcome) (later : List Outcome) (more : Done)
    → IsPrinting before now made number all left → left ≡ outcome ∷ later
    → Appends now then (outcome_text number outcome)
    → done_after made (outcome ∷ later) ≡ done_after more later
    → IsPrinting before then more (number + 1) all later
printing_more {before} {now} {then} {made} {number} outcome later more stated next wrote same = record {
  said = stated.said ++ outcome_text number outcome;
  wrote = Appends-trans before now then stated.said (outcome_text number outcome) stated.wrote wrote;
  text =
      append_assoc stated.said (outcome_text number outcome) (text_from (number + 1) later)
      ∙ ap (λ l. stated.said ++ text_from number l) (sym next) ∙ stated.text;
  done = sym same ∙ ap (done_after made) (sym next) ∙ stated.done;
}

-- a line that is bad or refused leaves the import done in part
pub done_less : (made : Done) (outcome : Outcome) (later : List Outcome) → is_kept outcome ≡ false
    → done_after made (outcome ∷ later) ≡ InPart
done_less Whole outcome later e = rw e
done_less InPart outcome later e = refl

-- another line changes nothing of that
pub done_same : (made : Done) (outcome : Outcome) (later : List Outcome) → is_kept outcome ≡ true
    → done_after made (outcome ∷ later) ≡ done_after made later
done_same Whole outcome later e = rw e
done_same InPart outcome later e = refl

next_line : (lines : List FleetLine) (at : ℕ) (line form : FleetLine) → at < length lines
    → line ≡ get_or lines at line → line ≡ form → drop at lines ≡ form ∷ drop (at + 1) lines
next_line lines at line form within is e =
    rw add-one (drop-cons lines at line within ∙ ap (λ l. l ∷ drop (suc at) lines) (sym is ∙ e))

-- the line at an index comes next: a bad one
pub bad_next : (lines : List FleetLine) (at : ℕ) (line : FleetLine) (fates : List RowFate)
    → at < length lines → line ≡ get_or lines at line → line ≡ Bad
    → outcomes (drop at lines) fates ≡ None ∷ outcomes (drop (at + 1) lines) fates
bad_next lines at line fates within is e = ap (λ l. outcomes l fates) (next_line lines at line Bad within is e)

-- a good one, with its fate
pub good_next : (lines : List FleetLine) (at : ℕ) (line : FleetLine) (row : FleetRow)
    (fates others : List RowFate) (fate : RowFate) → at < length lines
    → line ≡ get_or lines at line → line ≡ Row row
    → fates ≡ fate ∷ others → outcomes (drop at lines) fates ≡ Some (row, fate)
    ∷ outcomes (drop (at + 1) lines) others
good_next lines at line row fates others fate within is e f =
    ap (λ l. outcomes l fates) (next_line lines at line (Row row) within is e)
    ∙ ap (outcomes (Row row ∷ drop (at + 1) lines)) f
