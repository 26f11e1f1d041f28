-- What rows that break no rule have in common: one zone, and areas that a plan takes.
use Rattle.std.proofs.Common.{◌≡◌, ◌<◌, ℕ, suc, List, [], ◌∷◌, ◌++◌, length, map, filter_map, Bool}
use Rattle.std.proofs.Common.{true, false, not, None, Result, Ok, Err, IfOk, IfErr, refl, ap, arith}
use Rattle.std.specs.List.{list_any}
use Rattle.std.proofs.Math.Seq.{get_or-append_seam, take-append_seam}
use Rattle.std.proofs.lemmas.Bool.{and_from, and_parts, or_left, or_parts, or_right}
use Rattle.std.proofs.lemmas.List.{append_assoc, length-append}
use Rattle.std.proofs.lemmas.List.Folds.{list_any-append}
use Rattle.room_place.specs.Plans.{are_of_divisions, are_rectangles, has_sound_count, is_zone}
use Rattle.room_place.specs.Plans.{plan_fault}
use Rattle.room_place.specs.declared.plans.Area.{Area}
use Rattle.dispatch_room_csv.specs.PlanRules.{AreKept, area_count, has_zone_and_areas, is_refused}
use Rattle.dispatch_room_csv.specs.PlanRules.{is_rule, is_zone_line}
use Rattle.dispatch_room_csv.specs.PlanLines.{plan_line_of}
use Rattle.dispatch_room_csv.specs.PlanFile.{ExplainsLines, ExplainsPlan, IsPlanOf, IsPlanText}
use Rattle.dispatch_room_csv.specs.PlanFile.{area_in, plan_header, rule_in}
use Rattle.dispatch_room_csv.specs.Records.{Fields, HasRows}
use Rattle.dispatch_room_csv.specs.declared.plan_lines.PlanLine.{PlanLine}
use Rattle.dispatch_room_csv.specs.declared.plan_lines.PlanLine.TheVariants as line
use Rattle.dispatch_room_csv.specs.declared.plan_file.PlanFileFault.{PlanFileFault}
use Rattle.dispatch_room_csv.specs.declared.plan_file.PlanFileFault.TheVariants.{Input, Row, Memory}
use Rattle.dispatch_room_csv.specs.declared.plan_file.PlanFile.{PlanFile}

of_not : (b : Bool) → not b ≡ false → b ≡ true
of_not true h = refl
of_not false h = absurd (cc)

-- no row of the rest breaks a rule, each seen after the earlier ones
abbrev pub AllKept : List PlanLine → List PlanLine → List PlanLine → Type 0
AllKept all earlier [] = Unit {0}
AllKept all earlier (l ∷ rest) = (is_refused all earlier l ≡ false) × AllKept all (earlier ++ l ∷ []) rest

pub all_kept : (all earlier rest : List PlanLine) → all ≡ earlier ++ rest
    → AreKept all (length all) → AllKept all earlier rest
all_kept all earlier [] e kept = tt
all_kept all earlier (l ∷ rest) e kept =
    let within : length earlier < length all = omega (arith, ap length e, length-append earlier (l ∷ rest)) in
    let here = rw (e, take-append_seam earlier (l ∷ rest), get_or-append_seam earlier l rest line.Bad) at
    (kept (length earlier) within) in
    (rw e here, all_kept all (earlier ++ l ∷ []) rest (rw (append_assoc earlier (l ∷ []) rest) e) kept)

-- the areas are as many as the rows for areas, and all sound
pub areas_kept : (all earlier rest : List PlanLine) → AllKept all earlier rest
    → (length (filter_map area_in rest) ≡ area_count rest)
    × (are_of_divisions (filter_map area_in rest) ≡ true)
    × (are_rectangles (filter_map area_in rest) ≡ true)
areas_kept all earlier [] kept = (refl, refl, refl)
areas_kept all earlier (line.Area area ∷ rest) kept =
    let sound = and_parts _ _ (of_not _ kept.0) in
    let others = areas_kept all (earlier ++ line.Area area ∷ []) rest kept.1 in
    (ap suc others.0, and_from _ _ sound.0 others.1, and_from _ _ sound.1 others.2)
areas_kept all earlier (line.Zone rule ∷ rest) kept = areas_kept all (earlier ++ line.Zone rule ∷ []) rest kept.1
areas_kept all earlier (line.Terminal terminal ∷ rest) kept =
    areas_kept all (earlier ++ line.Terminal terminal ∷ []) rest kept.1
areas_kept all earlier (line.BadZone ∷ rest) kept = absurd (cc (kept.0))
areas_kept all earlier (line.BadArea division ∷ rest) kept = absurd (cc (kept.0))
areas_kept all earlier (line.Bad ∷ rest) kept = absurd (cc (kept.0))

-- a zone that was seen is seen with more rows too
seen_before : (earlier more : List PlanLine) → list_any is_zone_line earlier ≡ true
    → list_any is_zone_line (earlier ++ more) ≡ true
seen_before earlier more had = rw (list_any-append is_zone_line earlier more) (or_left _ _ had)

seen_here : (earlier : List PlanLine) (l : PlanLine) → is_zone_line l ≡ true
    → list_any is_zone_line (earlier ++ l ∷ []) ≡ true
seen_here earlier l zone = rw (list_any-append is_zone_line earlier (l ∷ [])) (or_right _ _ (or_left _ _ zone))

-- after a zone comes no other
pub no_more_zones : (all earlier rest : List PlanLine) → AllKept all earlier rest
    → list_any is_zone_line earlier ≡ true → filter_map rule_in rest ≡ []
no_more_zones all earlier [] kept had = refl
no_more_zones all earlier (line.Zone rule ∷ rest) kept had =
    let others = or_parts (not (is_rule rule)) (list_any is_zone_line earlier) kept.0 in
    absurd (cc (had, others.1))
no_more_zones all earlier (line.Area area ∷ rest) kept had =
    no_more_zones all (earlier ++ line.Area area ∷ []) rest kept.1 (seen_before earlier (line.Area area ∷ []) had)
no_more_zones all earlier (line.Terminal terminal ∷ rest) kept had =
    no_more_zones all (earlier ++ line.Terminal terminal ∷ []) rest kept.1
    (seen_before earlier (line.Terminal terminal ∷ []) had)
no_more_zones all earlier (line.BadZone ∷ rest) kept had = absurd (cc (kept.0))
no_more_zones all earlier (line.BadArea division ∷ rest) kept had = absurd (cc (kept.0))
no_more_zones all earlier (line.Bad ∷ rest) kept had = absurd (cc (kept.0))

-- there is one zone, and a plan can have it
pub one_zone : (all earlier rest : List PlanLine) → AllKept all earlier rest
    → list_any is_zone_line rest ≡ true
    → (rule : List ℕ) × (filter_map rule_in rest ≡ rule ∷ []) × (is_zone rule ≡ true)
one_zone all earlier [] kept some = absurd (cc (some))
one_zone all earlier (line.Zone rule ∷ rest) kept some =
    let others = no_more_zones all (earlier ++ line.Zone rule ∷ []) rest kept.1
    (seen_here earlier (line.Zone rule) refl) in
    (rule, ap (λ rules. rule ∷ rules) others, (and_parts _ _ (of_not _ (or_parts _ _ kept.0).0)).0)
one_zone all earlier (line.Area area ∷ rest) kept some = one_zone all (earlier ++ line.Area area ∷ []) rest kept.1 some
one_zone all earlier (line.Terminal terminal ∷ rest) kept some =
    one_zone all (earlier ++ line.Terminal terminal ∷ []) rest kept.1 some
one_zone all earlier (line.BadZone ∷ rest) kept some = absurd (cc (kept.0))
one_zone all earlier (line.BadArea division ∷ rest) kept some = absurd (cc (kept.0))
one_zone all earlier (line.Bad ∷ rest) kept some = absurd (cc (kept.0))

no_fault : (areas : List Area) (rule : List ℕ) → has_sound_count areas ≡ true
    → are_of_divisions areas ≡ true → are_rectangles areas ≡ true
    → is_zone rule ≡ true → plan_fault areas rule ≡ None
no_fault areas rule count divisions rectangles zone = rw (count, divisions, rectangles, zone) refl

-- rows that break no rule have one zone, and a plan takes it with their areas
pub kept_is_plan : (lines : List PlanLine) → has_zone_and_areas lines ≡ true
    → AreKept lines (length lines)
    → (rule : List ℕ) × (filter_map rule_in lines ≡ rule ∷ [])
    × (plan_fault (filter_map area_in lines) rule ≡ None)
kept_is_plan lines counted kept =
    let all = all_kept lines [] lines refl kept in
    let areas = areas_kept lines [] lines all in
    let tests = and_parts _ _ counted in
    let zone = one_zone lines [] lines all tests.0 in
    (zone.0, zone.1, no_fault (filter_map area_in lines) zone.0 (rw areas.0 tests.1) areas.1 areas.2 zone.2)

-- the plan of a text is that of its rows
pub plan_read : (text : List ℕ) (rows : List Fields) (lines : List PlanLine)
    (read : Result PlanFile PlanFileFault) → HasRows plan_header text rows
    → lines ≡ map plan_line_of rows → IfOk read (IsPlanOf lines) → IfOk read (IsPlanText text)
plan_read text rows lines (Ok file) table said made = (rows, table, rw said at made)
plan_read text rows lines (Err fault) table said made = tt

-- what a plan's rows are refused for, the text is refused for
lines_explained : (text : List ℕ) (rows : List Fields) (fault : PlanFileFault)
    → HasRows plan_header text rows
    → ExplainsLines (map plan_line_of rows) fault → ExplainsPlan text fault
lines_explained text rows Input table why = absurd why
lines_explained text rows (Row k) table why = (rows, table, why)
lines_explained text rows Memory table why = tt

pub fault_read : (text : List ℕ) (rows : List Fields) (lines : List PlanLine)
    (read : Result PlanFile PlanFileFault) → HasRows plan_header text rows
    → lines ≡ map plan_line_of rows → IfErr read (ExplainsLines lines)
    → IfErr read (ExplainsPlan text)
fault_read text rows lines (Ok file) table said why = tt
fault_read text rows lines (Err fault) table said why = lines_explained text rows fault table (rw said at why)
