-- What is found at a token once the terminals of one who were changed, and that they fit the room.
use Rattle.std.proofs.Common.{Bool, List, None, Option, Some, [], ap, cond, eq-eqb, false, inl, inr}
use Rattle.std.proofs.Common.{is_eq, is_some, not, option_map, refl, subst, sym, true, true≢false}
use Rattle.std.proofs.Common.{◌||◌, ◌∙◌, ◌∷◌, ◌≡◌, ◌⊎◌}
use Rattle.std.proofs.lemmas.Bool.{eqb-true}
use Rattle.std.proofs.lemmas.Cmp.{tied_itself}
use Rattle.std.specs.List.{list_any}
use Rattle.room_tables_schema.proofs.Comparisons.{is_Equal}
use Rattle.room_types.proofs.KeyedLaws.{keyed_filter, keyed_put, row_below, row_filter}
use Rattle.room_types.specs.KeyedRows.{IsBelowAll, IsKeyed, keep, row_at}
use Rattle.room_types.specs.Keys.{callsign_cmp, vehicle_key}
use Rattle.room_types.specs.KeyLemmas.{callsigns_total, exact_callsigns}
use Rattle.room_types.specs.Texts.{Callsign, Token}
use Rattle.room_types.specs.declared.asks.Who.{Who}
use Rattle.room_types.specs.declared.asks.Who.TheVariants.{Crew, Desk, Position}
use Rattle.room_types.specs.declared.fleet.Terminal.{Terminal}
use Rattle.room_model.proofs.EnrolLaws.{exact_tokens, terminals_put, tokens_total}
use Rattle.room_model.proofs.KeptCalls.{row_stays}
use Rattle.room_model.proofs.VehicleRows.{put_here}
use Rattle.room_model.specs.FleetRows.{AreTerminals, terminal_at, terminal_key, token_cmp}
use Rattle.room_model.specs.Room.{Room}
use Rattle.room_store_writes.specs.TerminalChanges.{fault_in, unknown_fault}
use Rattle.room_store_writes.specs.TerminalHolders.{has_terminal, has_token, is_token_of, may_have}
use Rattle.room_store_writes.specs.TerminalHolders.{same_who, terminals_by, with_token, without}
use Rattle.room_store_writes.specs.declared.change_faults.ChangeFault.{ChangeFault}
use Rattle.room_store_writes.specs.declared.change_faults.ChangeFault.TheVariants.{TokenTaken}

-- ---- one who, and another
pub same_itself : (who : Who) → same_who who who ≡ true
same_itself (Desk d) = eq-eqb d d refl
same_itself (Position p) = eq-eqb p p refl
same_itself (Crew c) = ap is_eq (tied_itself callsigns_total c)

same_is : (who other : Who) → same_who who other ≡ true → other ≡ who
same_is (Desk d) (Desk e) h = ap Desk (eqb-true e d h)
same_is (Desk d) (Position q) h = absurd (true≢false (sym h))
same_is (Desk d) (Crew c) h = absurd (true≢false (sym h))
same_is (Position p) (Desk e) h = absurd (true≢false (sym h))
same_is (Position p) (Position q) h = ap Position (eqb-true q p h)
same_is (Position p) (Crew c) h = absurd (true≢false (sym h))
same_is (Crew c) (Desk e) h = absurd (true≢false (sym h))
same_is (Crew c) (Position q) h = absurd (true≢false (sym h))
same_is (Crew c) (Crew k) h = ap Crew (exact_callsigns k c (is_Equal (callsign_cmp k c) h))

-- the terminal of a token and of who
abbrev named : Token → Who → Option Terminal
named k who = Some (record { token = k; who = who })

whos : (k : Token) (one other : Who) → named k one ≡ named k other → one ≡ other
whos k one other e = let some : Some one ≡ Some other = ap (option_map (λ (t : Terminal). t.who)) e in cc

-- ---- what is found where those of who are left out
kept_is : (p : Terminal → Bool) (o : Option Terminal) (t : Terminal) → keep p o ≡ Some t
    → (o ≡ Some t) × (p t ≡ true)
kept_is p None t = λ e. absurd cc
kept_is p (Some x) t =
    (elim (p x) as (λ (b : Bool). p x ≡ b → cond b (Some x) None ≡ Some t → (Some x ≡ Some t) × (p t ≡ true)) [
      | true ↦ λ is e. let same : x ≡ t = cc in (e, ap p (sym same) ∙ is)
      | false ↦ λ is e. absurd cc
    ]) refl

unless : (b : Bool) → not b ≡ true → b ≡ false
unless true h = absurd (true≢false (sym h))
unless false h = refl

module _ (ts : List Terminal) (who : Who) (keyed : IsKeyed token_cmp terminal_key ts) where
  found_in : (k : Token) → terminal_at k (without who ts)
      ≡ keep (λ t. not (same_who who t.who)) (terminal_at k ts)
  found_in k = row_filter token_cmp terminal_key tokens_total (λ t. not (same_who who t.who)) ts k keyed

  -- another's was there
  pub was_there : (k : Token) (other : Who) → terminal_at k (without who ts) ≡ named k other
      → (terminal_at k ts ≡ named k other) × (same_who who other ≡ false)
  was_there k other e =
      let is = kept_is (λ t. not (same_who who t.who)) (terminal_at k ts) (record { token = k; who = other })
      (sym (found_in k) ∙ e) in
      (is.0, unless (same_who who other) is.1)

  -- another's is there
  pub is_there : (k : Token) (other : Who) → same_who who other ≡ false
      → terminal_at k ts ≡ named k other → terminal_at k (without who ts) ≡ named k other
  is_there k other apart e =
      found_in k ∙ ap (keep (λ t. not (same_who who t.who))) e
      ∙ ap (λ (b : Bool). cond (not b) (named k other) None) apart

  -- a token that none has, none has afterwards
  pub absent : (k : Token) → terminal_at k ts ≡ None → terminal_at k (without who ts) ≡ None
  absent k e = found_in k ∙ ap (keep (λ t. not (same_who who t.who))) e

  -- ---- and where who has a new token then
  -- what a token names is who by the new one, or another who was there
  pub found_with : (k : Token) (other : Who) (j : Token)
      → terminal_at j (with_token who k ts) ≡ named j other
      → ((j ≡ k) × (other ≡ who)) ⊎ ((terminal_at j ts ≡ named j other) × (same_who who other ≡ false))
  found_with k other =
      terminals_put
      (λ j o.
      o ≡ named j other
      → ((j ≡ k) × (other ≡ who)) ⊎ ((terminal_at j ts ≡ named j other) × (same_who who other ≡ false)))
      (without who ts) (record { token = k; who = who })
      (λ e. inl (refl, sym (whos k who other e))) (λ j apart e. inr (was_there j other e))

  pub stays_with : (k : Token) (other : Who) (j : Token) → terminal_at k ts ≡ None
      → same_who who other ≡ false → terminal_at j ts ≡ named j other
      → terminal_at j (with_token who k ts) ≡ named j other
  stays_with k other j new apart e =
      row_stays token_cmp terminal_key tokens_total exact_tokens (without who ts) (record { token = k; who = who })
      (record { token = j; who = other }) (absent k new) j (is_there j other apart e)

pub here_with : (ts : List Terminal) (who : Who) (k : Token)
    → terminal_at k (with_token who k ts) ≡ named k who
here_with ts who k =
    put_here token_cmp terminal_key tokens_total (without who ts) (record { token = k; who = who }) k refl

-- ---- a token, and a terminal of who, in the list
none_of_token : (k : Token) (ts : List Terminal) → has_token k ts ≡ false → terminal_at k ts ≡ None
none_of_token k [] = λ h. refl
none_of_token k (t ∷ ts) =
    (elim (is_token_of k
    t) as (λ (b : Bool). (b || list_any (is_token_of k) ts) ≡ false → cond b (Some t) (terminal_at k ts) ≡ None) [
      | true ↦ λ h. absurd (true≢false h)
      | false ↦ λ h. none_of_token k ts h
    ])

past : (k : Token) (x t : Terminal) (ts : List Terminal) → IsBelowAll token_cmp terminal_key x.token ts
    → terminal_at k ts ≡ Some t → is_eq (token_cmp k x.token) ≡ false
past k x t ts below e =
    (elim (is_eq (token_cmp k x.token)) as (λ (b : Bool). is_eq (token_cmp k x.token) ≡ b → b ≡ false) [
      | true ↦ λ is.
          let same : k ≡ x.token = exact_tokens k x.token (is_Equal (token_cmp k x.token) is) in
          let none : terminal_at k ts
          ≡ None = ap (λ j. terminal_at j ts) same ∙ row_below token_cmp terminal_key tokens_total ts x.token below in
          absurd cc
      | false ↦ λ is. refl
    ]) refl

pub one_of : (who : Who) (ts : List Terminal) → IsKeyed token_cmp terminal_key ts
    → has_terminal who ts ≡ true → (k : Token) × (terminal_at k ts ≡ named k who)
one_of who [] keyed = λ h. absurd (true≢false (sym h))
one_of who (t ∷ ts) keyed =
    (elim (same_who who t.who) as (λ (b : Bool).
    same_who who t.who ≡ b → (b || has_terminal who ts) ≡ true → (k : Token) × (terminal_at k (t ∷ ts) ≡ named k who)) [
      | true ↦
          λ is h. (
            t.token,
            ap (λ o. cond (is_eq o) (Some t) (terminal_at t.token ts)) (tied_itself tokens_total t.token)
                ∙ ap (named t.token) (same_is who t.who is),
          )
      | false ↦
          λ is h.
          let later = one_of who ts keyed.1 h in (
            later.0,
            ap (λ (b : Bool). cond b (Some t) (terminal_at later.0 ts))
                (past later.0 t (record { token = later.0; who = who }) ts keyed.0 later.1) ∙ later.1,
          )
    ]) refl

-- ---- they fit
fine : (b c : Bool) (e f : ChangeFault) → cond b (cond c (Some f) None) (Some e) ≡ None
    → (b ≡ true) × (c ≡ false)
fine true true e f h = absurd cc
fine true false e f h = (refl, refl)
fine false c e f h = absurd cc

module _ (r : Room) (ts : List Terminal) (are : AreTerminals r ts) where
  crews_there : (who : Who) (c : Callsign) → may_have r.plan ts who ≡ true → Crew c ≡ who
      → is_some (row_at callsign_cmp vehicle_key r.vehicles c) ≡ true
  crews_there who c may is =
      let one = one_of (Crew c) ts are.keyed (subst (λ w. may_have r.plan ts w ≡ true) (sym is) may) in
      are.crews one.0 c one.1

  given_fit : (who : Who) (k : Token) → may_have r.plan ts who ≡ true → terminal_at k ts ≡ None
      → AreTerminals r (with_token who k ts)
  given_fit who k may new = record {
    keyed =
        keyed_put token_cmp terminal_key tokens_total (without who ts) (record { token = k; who = who })
        (keyed_filter token_cmp terminal_key tokens_total (λ t. not (same_who who t.who)) ts are.keyed);
    has_crew =
        λ c there.
        (elim (same_who who (Crew c)) as (λ (b : Bool).
        same_who who (Crew c) ≡ b → (j : Token) × (terminal_at j (with_token who k ts) ≡ named j (Crew c))) [
          | true ↦ λ is. (k, here_with ts who k ∙ ap (named k) (sym (same_is who (Crew c) is)))
          | false ↦
              λ apart.
              let old = are.has_crew c there in (old.0, stays_with ts who are.keyed k (Crew c) old.0 new apart old.1)
        ]) refl;
    one_crew = λ j l c e f. elim (found_with ts who are.keyed k (Crew c) j e) [
      | inl a ↦ elim (found_with ts who are.keyed k (Crew c) l f) [
        | inl b ↦ a.0 ∙ sym b.0
        | inr b ↦ absurd (true≢false (sym (same_itself who) ∙ ap (same_who who) (sym a.1) ∙ b.1))
      ]
      | inr a ↦ elim (found_with ts who are.keyed k (Crew c) l f) [
        | inl b ↦ absurd (true≢false (sym (same_itself who) ∙ ap (same_who who) (sym b.1) ∙ a.1))
        | inr b ↦ are.one_crew j l c a.0 b.0
      ]
    ];
    crews = λ j c e. elim (found_with ts who are.keyed k (Crew c) j e) [
      | inl a ↦ crews_there who c may a.1
      | inr a ↦ are.crews j c a.0
    ];
    desks = λ j d e. elim (found_with ts who are.keyed k (Desk d) j e) [
      | inl a ↦ subst (λ w. may_have r.plan ts w ≡ true) (sym a.1) may
      | inr a ↦ are.desks j d a.0
    ];
  }

  taken_fit : (who : Who) → ((c : Callsign) → same_who who (Crew c) ≡ false)
      → AreTerminals r (without who ts)
  taken_fit who no_crew = record {
    keyed = keyed_filter token_cmp terminal_key tokens_total (λ t. not (same_who who t.who)) ts are.keyed;
    has_crew =
        λ c there.
        let old = are.has_crew c there in (old.0, is_there ts who are.keyed old.0 (Crew c) (no_crew c) old.1);
    one_crew =
        λ j l c e f.
        are.one_crew j l c (was_there ts who are.keyed j (Crew c) e).0 (was_there ts who are.keyed l (Crew c) f).0;
    crews = λ j c e. are.crews j c (was_there ts who are.keyed j (Crew c) e).0;
    desks = λ j d e. are.desks j d (was_there ts who are.keyed j (Desk d) e).0;
  }

  pub fit : (who : Who) (token : Option Token) → fault_in r.plan ts who token ≡ None
      → AreTerminals r (terminals_by who token ts)
  fit who (Some k) h =
      let both = fine (may_have r.plan ts who) (has_token k ts) (unknown_fault who) TokenTaken h in
      given_fit who k both.0 (none_of_token k ts both.1)
  fit (Desk d) None h = taken_fit (Desk d) (λ c. refl)
  fit (Position p) None h = taken_fit (Position p) (λ c. refl)
  fit (Crew c) None h = absurd cc

  pub others_stay : (who other : Who) (token : Option Token) (k : Token)
      → fault_in r.plan ts who token ≡ None → same_who who other ≡ false
      → terminal_at k ts ≡ named k other → terminal_at k (terminals_by who token ts) ≡ named k other
  others_stay who other (Some new) k h apart e =
      let both = fine (may_have r.plan ts who) (has_token new ts) (unknown_fault who) TokenTaken h in
      stays_with ts who are.keyed new other k (none_of_token new ts both.1) apart e
  others_stay who other None k h apart e = is_there ts who are.keyed k other apart e

  pub others_were : (who other : Who) (token : Option Token) (k : Token)
      → same_who who other ≡ false → terminal_at k (terminals_by who token ts) ≡ named k other
      → terminal_at k ts ≡ named k other
  others_were who other (Some new) k apart e = elim (found_with ts who are.keyed new other k e) [
    | inl a ↦ absurd (true≢false (sym (same_itself who) ∙ ap (same_who who) (sym a.1) ∙ apart))
    | inr a ↦ a.0
  ]
  others_were who other None k apart e = (was_there ts who are.keyed k other e).0

  pub none_left : (who : Who) (k : Token) → terminal_at k (without who ts) ≡ named k who → ⊥
  none_left who k e = true≢false (sym (same_itself who) ∙ (was_there ts who are.keyed k who e).1)

  pub one_left : (who : Who) (j k : Token) → terminal_at j (with_token who k ts) ≡ named j who
      → j ≡ k
  one_left who j k e = elim (found_with ts who are.keyed k who j e) [
    | inl a ↦ a.0
    | inr a ↦ absurd (true≢false (sym (same_itself who) ∙ a.1))
  ]
