use Rattle.std.proofs.Common.{◌≡◌, ◌∙◌, ap, sym, refl, true, ◌||◌}
use Rattle.std.specs.Prelude.{Some, not, option_map}
use Rattle.room_http_requests.specs.RequestTable.{is_of_history}
use Rattle.room_http_requests.specs.Router.{path_at}
use Rattle.room_http_requests.proofs.RouteLemmas.{by_another, by_taken, no_history, no_parameter}
use Rattle.room_http_requests.proofs.RouteLemmas.{no_path, no_text}
use Rattle.room_http_requests.proofs.router.Routes.route.Goals as goal
use Rattle.room_http_requests.proofs.router.Routes.route.Goals.{else-not-history-via-then-not-history+else-is_of_history}
use Rattle.room_http_requests.proofs.router.Routes.route.Goals.{else-not-history-via-else-not-history}

pub returns-in_default : goal.returns-in_default
returns-in_default c = no_text c.args.history c.args.method.now c.args.target.now (sym c.in_default.ensures)

pub returns-in-Err : goal.returns-in-Err
unfolding path_at
returns-in-Err c =
    no_path c.args.history c.args.method.now c.args.target.now c.in-Some.text.now (sym c.in-Some.ensures)
    (ap (option_map (λ route. route.value)) (rw c.args.self.now.rows at c.in-Err.ensures.missing))

pub returns-then-is_of_history : goal.returns-then-is_of_history
unfolding path_at
returns-then-is_of_history c =
    let found : path_at c.in-Some.text.now ≡ Some c.in-Ok.found.value.now =
    ap (option_map (λ route. route.value)) (rw c.args.self.now.rows at c.in-Ok.ensures.found) in
    rw c.if-not-history.true (no_history c.args.method.now c.args.target.now c.in-Some.text.now c.in-Ok.found.value.now
    (sym c.in-Some.ensures) found (sym c.is_of_history.ensures ∙ c.if-is_of_history.true))

pub returns-in_default-parse : goal.returns-in_default-parse
unfolding path_at
returns-in_default-parse c =
    let found : path_at c.in-Some.text.now ≡ Some c.in-Ok.found.value.now =
    ap (option_map (λ route. route.value)) (rw c.args.self.now.rows at c.in-Ok.ensures.found) in
    no_parameter c.args.history c.args.method.now c.args.target.now c.in-Some.text.now c.in-Ok.found.value.now
    (sym c.in-Some.ensures) found (sym c.in_default-parse.ensures)

pub returns-then-is_allowed : goal.returns-then-is_allowed
unfolding path_at
returns-then-is_allowed c =
    let p = c.in-Ok.found.value.now in
    let found : path_at c.in-Some.text.now ≡ Some p =
    ap (option_map (λ route. route.value)) (rw c.args.self.now.rows at c.in-Ok.ensures.found) in
    let served : (c.args.history || not (is_of_history p)) ≡ true = elim c.else-not-history.branch [
      | else-not-history-via-then-not-history+else-is_of_history w ↦
          rw (w.if-not-history.true, sym w.is_of_history.ensures ∙ w.if-is_of_history.false) refl
      | else-not-history-via-else-not-history w ↦ rw w.if-not-history.false refl
    ] in
    by_taken c.args.history c.args.method.now c.args.target.now c.in-Some.text.now p c.in-Some-parse.target
    c.allow-allow.result
    (sym c.in-Some.ensures) found (sym c.in-Some-parse.ensures) served c.allow-allow.ensures
    (sym c.is_allowed.ensures ∙ c.if-is_allowed.true)

pub returns-else-is_allowed : goal.returns-else-is_allowed
unfolding path_at
returns-else-is_allowed c =
    let p = c.in-Ok.found.value.now in
    let found : path_at c.in-Some.text.now ≡ Some p =
    ap (option_map (λ route. route.value)) (rw c.args.self.now.rows at c.in-Ok.ensures.found) in
    let served : (c.args.history || not (is_of_history p)) ≡ true = elim c.else-not-history.branch [
      | else-not-history-via-then-not-history+else-is_of_history w ↦
          rw (w.if-not-history.true, sym w.is_of_history.ensures ∙ w.if-is_of_history.false) refl
      | else-not-history-via-else-not-history w ↦ rw w.if-not-history.false refl
    ] in
    by_another c.args.history c.args.method.now c.args.target.now c.in-Some.text.now p c.in-Some-parse.target
    c.allow-allow.result
    (sym c.in-Some.ensures) found (sym c.in-Some-parse.ensures) served c.allow-allow.ensures
    (sym c.is_allowed.ensures ∙ c.if-is_allowed.false)
