-- What a request names, found step by step.
use Rattle.std.proofs.Common.{◌≡◌, ◌∙◌, ap, sym, subst, refl, arith, Bool, true, false, ◌||◌, List}
use Rattle.std.proofs.Common.{ℕ}
use Rattle.std.specs.Prelude.{if◌then◌else◌, not, Option, None, Some, Result, Ok, Err}
use Rattle.std.specs.Prelude.{option_and_then, option_map, unwrap_or}
use Rattle.room_types.specs.Texts.{callsign_of}
use Rattle.room_types.specs.declared.asks.Sought.{Sought}
use Rattle.room_types.specs.declared.asks.Sought.TheVariants.{All, Near, Sent}
use Rattle.room_types.specs.declared.refusal_statuses.Allow.{Allow}
use Rattle.room_types.specs.declared.refusal_statuses.Refusal.{Refusal}
use Rattle.room_types.specs.declared.refusal_statuses.Refusal.TheVariants.{NoPath, WrongMethod}
use Rattle.room_types.specs.KeyedRows.{keep}
use Rattle.room_http_time.specs.Dates.{day_of}
use Rattle.room_http_requests.specs.Parameters.{metres_of, number_of, place_of, segment_at, text_of}
use Rattle.room_http_requests.specs.RequestTable.{allow_of, is_of_history, named_by, path_of}
use Rattle.room_http_requests.specs.RequestTable.{search_path, searched}
use Rattle.room_http_requests.specs.Router.{is_allowed, is_served, path_at, routed, target_of}
use Rattle.room_http_requests.specs.declared.request_table.Path.{Path}
use Rattle.room_http_requests.specs.declared.request_table.Path.TheVariants as path
use Rattle.room_http_requests.specs.declared.request_table.Target.{Target}
use Rattle.room_http_requests.specs.declared.request_table.Target.TheVariants as target

-- ---- what is found of what is found first
found_then : {A : Type 0} (P : Target → Type 0) (found : Option A) (next : A → Option Target) (t : Target)
    → option_and_then next found ≡ Some t → ((x : A) → next x ≡ Some t → P t) → P t
found_then P None next t is later = absurd (cc)
found_then P (Some x) next t is later = later x is

found_map : {A : Type 0} (P : Target → Type 0) (found : Option A) (make : A → Target) (t : Target)
    → option_map make found ≡ Some t → ((x : A) → P (make x)) → P t
found_map P None make t is each = absurd (cc)
found_map P (Some x) make t is each = subst (λ u. P (unwrap_or u t)) is (each x)

-- what a search of a day names is of the path of what is sought
search_named : (day first : List ℕ) (sought : Sought) (t : Target) → searched day sought first ≡ Some t
    → path_of t ≡ search_path sought
search_named day first sought t named =
    found_then (λ t. path_of t ≡ search_path sought) (day_of day) _ t named
    (λ d is. found_map (λ t. path_of t ≡ search_path sought) (number_of first)
    (λ n. target.Closed d (record { sought = sought; first = n })) t is (λ n. refl))

-- what a target of a path names is of the path
named_of : (p : Path) (text : List ℕ) (t : Target) → named_by p text ≡ Some t → path_of t ≡ p
named_of path.Clear text t named =
    found_then (λ t. path_of t ≡ path.Clear) (callsign_of (segment_at 2 text)) _ t named
    (λ c is. found_map (λ t. path_of t ≡ path.Clear) (number_of (segment_at 3 text)) (target.Clear c) t is (λ n. refl))
named_of path.Times text t named =
    found_map (λ t. path_of t ≡ path.Times) (day_of (segment_at 2 text)) target.Times t named (λ d. refl)
named_of path.ClassTimes text t named =
    found_map (λ t. path_of t ≡ path.ClassTimes) (day_of (segment_at 2 text)) target.ClassTimes t named (λ d. refl)
named_of path.Closed text t named = search_named (segment_at 2 text) (segment_at 4 text) All t named
named_of path.ClosedBy text t named =
    found_then (λ t. path_of t ≡ path.ClosedBy) (callsign_of (segment_at 4 text)) _ t named
    (λ c is. search_named (segment_at 2 text) (segment_at 6 text) (Sent c) t is)
named_of path.ClosedNear text t named =
    found_then (λ t. path_of t ≡ path.ClosedNear) (place_of (segment_at 4 text)) _ t named
    (λ p found. found_then (λ t. path_of t ≡ path.ClosedNear) (metres_of (segment_at 5 text)) _ t found
    (λ m is. search_named (segment_at 2 text) (segment_at 7 text) (Near p m) t is))
named_of p text t named = grind arith

-- what is no text names nothing
pub no_text : (history : Bool) (method bytes : List ℕ) → text_of bytes ≡ None
    → Err NoPath ≡ routed history method bytes
unfolding target_of
no_text history method bytes none = rw none refl

-- what is found at no path names nothing
pub no_path : (history : Bool) (method bytes text : List ℕ) → text_of bytes ≡ Some text
    → path_at text ≡ None → Err NoPath ≡ routed history method bytes
unfolding target_of
no_path history method bytes text is none = rw (is, none) refl

-- a path of history is none where that is not served
unserved : (p : Path) (found : Option Target) → ((t : Target) → found ≡ Some t → path_of t ≡ p)
    → is_of_history p ≡ true → keep (is_served false) found ≡ None
unserved p None of old = refl
unserved p (Some t) of old = rw (of t refl, old) refl

pub no_history : (method bytes text : List ℕ) (p : Path) → text_of bytes ≡ Some text
    → path_at text ≡ Some p → is_of_history p ≡ true → Err NoPath ≡ routed false method bytes
unfolding target_of
no_history method bytes text p is found old = rw (is, found, unserved p (named_by p text) (named_of p text) old) refl

-- a parameter that is not of its form names nothing
pub no_parameter : (history : Bool) (method bytes text : List ℕ) (p : Path)
    → text_of bytes ≡ Some text → path_at text ≡ Some p → named_by p text ≡ None
    → Err NoPath ≡ routed history method bytes
unfolding target_of
no_parameter history method bytes text p is found none = rw (is, found, none) refl

-- what a path is asked by a method, where it takes the method or not
abbrev chosen : Target → Allow → Bool → Result Target Refusal
chosen t allow taken = if taken then Ok t else Err (WrongMethod allow)

routed_to : (history : Bool) (method bytes text : List ℕ) (p : Path) (t : Target)
    → text_of bytes ≡ Some text → path_at text ≡ Some p → named_by p text ≡ Some t
    → (history || not (is_of_history p)) ≡ true
    → routed history method bytes ≡ chosen t (allow_of p) (is_allowed (allow_of p) method)
unfolding target_of
routed_to history method bytes text p t is found named served =
    let of = named_of p text t named in
    rw (is, found, named, of, served) (ap (λ q. chosen t (allow_of q) (is_allowed (allow_of q) method)) of)

-- by a method that the path takes, and by another
pub by_taken : (history : Bool) (method bytes text : List ℕ) (p : Path) (t : Target) (allow : Allow)
    → text_of bytes ≡ Some text → path_at text ≡ Some p → named_by p text ≡ Some t
    → (history || not (is_of_history p)) ≡ true → allow ≡ allow_of p
    → is_allowed allow method ≡ true → Ok t ≡ routed history method bytes
by_taken history method bytes text p t allow is found named served methods taken =
    sym (routed_to history method bytes text p t is found named served
    ∙ ap (chosen t (allow_of p)) (ap (λ a. is_allowed a method) (sym methods) ∙ taken))

pub by_another : (history : Bool) (method bytes text : List ℕ) (p : Path) (t : Target) (allow : Allow)
    → text_of bytes ≡ Some text → path_at text ≡ Some p → named_by p text ≡ Some t
    → (history || not (is_of_history p)) ≡ true → allow ≡ allow_of p
    → is_allowed allow method ≡ false → Err (WrongMethod allow) ≡ routed history method bytes
by_another history method bytes text p t allow is found named served methods taken =
    sym (routed_to history method bytes text p t is found named served
    ∙ ap (chosen t (allow_of p)) (ap (λ a. is_allowed a method) (sym methods) ∙ taken)
    ∙ ap (λ a. chosen t a false) (sym methods))
