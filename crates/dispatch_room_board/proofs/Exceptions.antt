-- Lemmas on the reports that are asked for and told beside a board.
use Rattle.std.proofs.Common.{[], add-one, ap, append_assoc, arith, drop, drop-cons, eqb-true}
use Rattle.std.proofs.Common.{false, get_or, length, map, refl, suc, sym, take, true, List, Some, ℕ}
use Rattle.std.proofs.Common.{◌+◌, ◌++◌, ◌<◌, ◌∙◌, ◌∷◌, ◌≡◌}
use Rattle.std.proofs.lemmas.List.{map_more}
use Rattle.std.specs.Prelude.{Result, if◌then◌else◌, ◌==◌}
use Rattle.room_types.specs.Texts.{Callsign}
use Rattle.dispatch_room_board.specs.AnswerRows.{IsFound}
use Rattle.dispatch_room_board.specs.Requests.{get, get_reports, last_get, reports_path}
use Rattle.dispatch_room_board.specs.ToldReports.{AreTold, IsReportsAnswer, is_report, report_of}
use Rattle.dispatch_room_board.specs.ToldReports.{told_of, vehicle_out_of_turn, with_vehicle}
use Rattle.dispatch_room_board.specs.ToldReports.{with_vehicles}
use Rattle.dispatch_room_board.specs.declared.board_errors.BoardError.{BoardError}
use Rattle.dispatch_room_board.specs.declared.queue_columns.QueueLine.{QueueLine}
use Rattle.dispatch_room_board.specs.declared.report_lines.VehicleReports.{VehicleReports}
use Rattle.dispatch_room_board.specs.declared.told_reports.ToldReport.{ToldReport}

-- the request for a vehicle's reports, as the last one and before others
pub get_last : (fields c : List ℕ) (others : List (List ℕ)) → length others == 0 ≡ true
    → get_reports fields c others ≡ last_get (reports_path c) fields
get_last fields c [] none = refl
get_last fields c (k ∷ others) none = absurd (omega (arith, eqb-true (length (k ∷ others)) 0 none))

pub get_more : (fields c : List ℕ) (others : List (List ℕ)) → length others == 0 ≡ false
    → get_reports fields c others ≡ get (reports_path c) fields
get_more fields c [] some = cc
get_more fields c (k ∷ others) some = refl

-- the next element of what is left of a list
drop_next : {X : Type 0} (xs : List X) (i : ℕ) (x : X) → i < length xs → x ≡ get_or xs i x
    → drop i xs ≡ x ∷ drop (i + 1) xs
drop_next xs i x below here = rw add-one (drop-cons xs i x below ∙ ap (λ y. y ∷ drop (suc i) xs) (sym here))

-- a list that is mapped element by element
pub mapped_more : {X Y : Type 0} (f : X → Y) (first before after : List Y) (xs : List X) (i : ℕ) (x : X)
    → i < length xs → x ≡ get_or xs i x → before ≡ first ++ map f (take i xs)
    → after ≡ before ++ f x ∷ [] → after ≡ first ++ map f (take (i + 1) xs)
mapped_more f first before after xs i x below here is push =
    rw (map_more f xs i x below, ← here, push, is) (append_assoc first (map f (take i xs)) (f x ∷ []))

-- the report that is looked for, or another one
pub report_found : (c : Callsign) (n : ℕ) (xs : List ToldReport) (x : ToldReport) (i : ℕ) → i < length xs
    → x ≡ get_or xs i x → is_report c n x ≡ true → report_of c n (drop i xs) ≡ Some x.report
report_found c n xs x i below here is =
    ap (report_of c n) (drop_next xs i x below here)
    ∙ ap (λ b. if b then Some x.report else report_of c n (drop (i + 1) xs)) is

pub report_missed : (c : Callsign) (n : ℕ) (xs : List ToldReport) (x : ToldReport) (i : ℕ) → i < length xs
    → x ≡ get_or xs i x → is_report c n x ≡ false
    → report_of c n (drop i xs) ≡ report_of c n (drop (i + 1) xs)
report_missed c n xs x i below here is =
    ap (report_of c n) (drop_next xs i x below here)
    ∙ ap (λ b. if b then Some x.report else report_of c n (drop (i + 1) xs)) is

-- one vehicle more of the queue
pub vehicle_more : (vs ws : List Callsign) (lines : List QueueLine) (line : QueueLine) (i : ℕ)
    → i < length lines → line ≡ get_or lines i line
    → ws ≡ with_vehicle vs (vehicle_out_of_turn line.entry)
    → with_vehicles ws (drop (i + 1) lines) ≡ with_vehicles vs (drop i lines)
vehicle_more vs ws lines line i below here is =
    ap (λ v. with_vehicles v (drop (i + 1) lines)) is
    ∙ sym (ap (with_vehicles vs) (drop_next lines i line below here))

-- what is told of one vehicle, and then of the others
pub told_more : (c : Callsign) (others vs : List Callsign) (told rest : List ℕ)
    (found : Result (VehicleReports × ℕ) BoardError) (old middle new : List ToldReport) → vs ≡ c ∷ others
    → IsFound IsReportsAnswer told rest found → middle ≡ old ++ told_of c found
    → (more : List ToldReport) × AreTold others rest more × (new ≡ middle ++ more)
    → (more : List ToldReport) × AreTold vs told more × (new ≡ old ++ more)
told_more c others vs told rest found old middle new is gives first (more, are, last) = (
  told_of c found ++ more,
  rw is (found, rest, more, gives, are, refl),
  last ∙ (ap (λ xs. xs ++ more) first ∙ append_assoc old (told_of c found) more),
)
