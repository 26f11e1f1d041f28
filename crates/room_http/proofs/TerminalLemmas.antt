-- Lemmas on tokens and terminals.
use Rattle.std.proofs.Common.{◌≡◌, ◌∙◌, ap, sym, refl, ℕ, List, Bool, true, false, Option, Some}
use Rattle.std.proofs.Common.{Err, None, Ok}
use Rattle.std.specs.Prelude.{if◌then◌else◌, IsUtf8, SomeIff, option_map}
use Rattle.room_types.specs.KeyLemmas.{callsigns_total, exact_callsigns}
use Rattle.room_types.specs.Texts.{Token, is_token}
use Rattle.room_types.specs.declared.asks.Who.{Who}
use Rattle.room_types.specs.declared.refusal_statuses.Refusal.{Refusal}
use Rattle.room_types.specs.declared.asks.Who.TheVariants.{Crew, Desk, Position}
use Rattle.room_types.specs.declared.fleet.Terminal.{Terminal}
use Rattle.room_types.proofs.Letters.{token_text}
use Rattle.room_http_requests.specs.RequestTable.{is_known}
use Rattle.room_model.specs.FleetRows.{AreTerminals, terminal_at, terminal_key, token_cmp}
use Rattle.room_model.specs.Queries.{vehicle_at}
use Rattle.room_model.specs.Room.{Room}
use Rattle.room_model.proofs.Tests.{row_key}
use Rattle.room_http.specs.MessageEvents.{token_of}
use Rattle.room_model.specs.Rooms.{who_at}

-- what is no text is no token
pub no_token : (text : List ℕ) → ¬ (IsUtf8 text) → None ≡ token_of (Some text)
no_token text none = go (is_token text) (token_text text)
  where
    go : (b : Bool) → (b ≡ true → IsUtf8 text) → None ≡ (if b then Some text else None)
    go true is = absurd (none (is refl))
    go false is = refl

module _ (field : Option (List ℕ)) (bytes text : List ℕ) (is : field ≡ Some bytes) (same : text ≡ bytes) where
  -- what is read as a token is the field's
  shows_token : (token : Token) → is_token text ≡ true → token ≡ text
      → token_of field ≡ Some token
  shows_token token valid read = ap token_of (is ∙ ap Some (sym same)) ∙ rw valid (ap Some (sym read))

  none_there : (b : Bool) → ¬ (b ≡ true) → (if b then Some text else None) ≡ None
  none_there true not = absurd (not refl)
  none_there false not = refl

  -- and where the text is none, the field has none
  shows_none : ¬ (is_token text ≡ true) → token_of field ≡ None
  shows_none not = ap token_of (is ∙ ap Some (sym same)) ∙ none_there (is_token text) not

  pub read_token : (read : Option Token) → SomeIff read (is_token text ≡ true) text
      → read ≡ token_of field
  read_token (Some token) is = sym (shows_token token is.0 is.1)
  read_token None not = sym (shows_none not)

-- a terminal that is found is known
pub found_known : (room : Room) (terminals : List Terminal) (token : Token) (who : Who)
    → AreTerminals room terminals → Some who ≡ who_at terminals token → is_known who room ≡ true
unfolding vehicle_at
found_known room terminals token who fit is = go (terminal_at token terminals) refl is
  where
    here : (t : Terminal) → terminal_at token terminals ≡ Some t → (w : Who) → t.who ≡ w
        → terminal_at token terminals ≡ Some (record { token = token; who = w })
    here t found w same =
        let key : token
        ≡ t.token = row_key token_cmp terminal_key callsigns_total exact_callsigns terminals token t found in
        found ∙ (λ i. Some (record { token = sym key i; who = same i }))

    known : (t : Terminal) → terminal_at token terminals ≡ Some t → (w : Who) → t.who ≡ w
        → is_known w room ≡ true
    known t found (Desk d) same = fit.desks token d (here t found (Desk d) same)
    known t found (Crew c) same = fit.crews token c (here t found (Crew c) same)
    known t found (Position p) same = refl

    go : (o : Option Terminal) → terminal_at token terminals ≡ o
        → Some who ≡ option_map (λ t. t.who) o → is_known who room ≡ true
    go None found named = absurd (cc)
    go (Some t) found named = let same : t.who ≡ who = cc in known t found who same

-- what was found was not refused
pub not_refused : (who : Who) (why : Refusal) → Ok who ≡ Err why → ⊥
not_refused who why is = absurd (cc)
