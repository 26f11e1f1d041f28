-- A terminal that is known, by its token.
use Rattle.std.proofs.Common.{Err, List, Ok, Result, get_or, length, subst, sym, ◌<◌, ◌≡◌, ℕ}
use Rattle.std.specs.List.Sorted.{IsBinarySearchResult}
use Rattle.std.specs.Prelude.{HoldsAt, IfOk, Some}
use Rattle.room_types.specs.Texts.{Token}
use Rattle.room_types.specs.declared.fleet.Terminal.{Terminal}
use Rattle.room_model.proofs.EnrolLaws.{exact_tokens}
use Rattle.room_model.specs.FleetRows.{terminal_at, token_cmp}
use Rattle.room_store_cache.specs.KnownTerminals.{AreTerminalsOf, IsOneOf}

-- tokens that compare alike are one and the same
pub has_token : (known : List Terminal) (token : Token) (r : Result ℕ ℕ)
    → IsBinarySearchResult (λ t. token_cmp t.token token) known r
    → IfOk r (HoldsAt (λ t. t.token ≡ token) known)
has_token known token (Ok at) found = λ t. exact_tokens _ token (found t)
has_token known token (Err at) found = tt

-- the terminal of a token that is known is the room's of it
pub known_one : (terminals known : List Terminal) (token : Token) (at : ℕ) (t : Terminal)
    → AreTerminalsOf known terminals → at < length known
    → HoldsAt (λ t. t.token ≡ token) known at → t ≡ get_or known at t
    → terminal_at token terminals ≡ Some t
known_one terminals known token at t all inside has here =
    let one : IsOneOf terminals t = subst (IsOneOf terminals) (sym here) (all at t inside) in
    let key : t.token ≡ token = subst (λ (u : Terminal). u.token ≡ token) (sym here) (has t) in
    subst (λ k. terminal_at k terminals ≡ Some t) key one
