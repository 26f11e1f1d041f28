-- The terminals of a list take the place of those of all that it names, and fit the room.
use Rattle.std.proofs.Common.{Bool, List, None, Option, Some, [], ap, arith, cond, false, filter}
use Rattle.std.proofs.Common.{inl, inr, is_some, length, not, option_map, refl, subst, sym, take}
use Rattle.std.proofs.Common.{true, ◌&&◌, ◌++◌, ◌<◌, ◌∙◌, ◌∷◌, ◌≡◌, ◌||◌, ◌⊎◌, true≢false}
use Rattle.std.proofs.Math.Seq.{get_or-append_seam, take-append_seam}
use Rattle.std.proofs.lemmas.Bool.{eqb-true, or_left, or_parts, or_right}
use Rattle.std.proofs.lemmas.List.{append_assoc, append-nil, length-append}
use Rattle.std.proofs.lemmas.List.Folds.{list_any-append}
use Rattle.std.specs.List.{list_any}
use Rattle.sqlite_trees.specs.Tree.{Trees}
use Rattle.room_place.specs.Plans.{Layout}
use Rattle.room_tables_schema.proofs.Comparisons.{is_Equal}
use Rattle.room_types.proofs.KeyedLaws.{keyed_filter, keyed_put, row_filter}
use Rattle.room_types.specs.KeyedRows.{IsKeyed, keep, put_row, row_at}
use Rattle.room_types.specs.Keys.{callsign_cmp, vehicle_key}
use Rattle.room_types.specs.KeyLemmas.{exact_callsigns}
use Rattle.room_types.specs.Texts.{Callsign, Token}
use Rattle.room_types.specs.declared.asks.Who.{Who}
use Rattle.room_types.specs.declared.asks.Who.TheVariants.{Crew, Desk, Position}
use Rattle.room_types.specs.declared.fleet.Terminal.{Terminal}
use Rattle.room_model.proofs.EnrolLaws.{exact_tokens, terminals_put, tokens_total}
use Rattle.room_model.proofs.KeptCalls.{row_stays}
use Rattle.room_model.proofs.VehicleRows.{put_here, put_other}
use Rattle.room_model.specs.FleetRows.{AreTerminals, terminal_at, terminal_key, token_cmp}
use Rattle.room_model.specs.Room.{Room}
use Rattle.room_store_check_tables.specs.HeldRooms.{IsPlanOf}
use Rattle.room_store_writes.specs.Configurations.{config_of}
use Rattle.room_store_writes.specs.NewRoom.{put_all}
use Rattle.dispatch_room_tasks.specs.ReplacedTerminals.{AreFree, KeepsRoom, Replaces, is_kept}
use Rattle.dispatch_room_tasks.specs.ReplacedTerminals.{is_listed, is_second, kept_beside, no_row}
use Rattle.dispatch_room_tasks.specs.ReplacedTerminals.{replaced_by, row_fault, unknown_fault}
use Rattle.room_store_writes.specs.TerminalHolders.{has_token, is_token_of, may_have, same_who}
use Rattle.dispatch_room_tasks.specs.declared.replacement_faults.RowFault.{RowFault}
use Rattle.dispatch_room_tasks.specs.declared.replacement_faults.RowFault.TheVariants.{SecondToken}
use Rattle.dispatch_room_tasks.specs.declared.replacement_faults.RowFault.TheVariants.{TokenTaken}
use Rattle.room_store_writes.proofs.FitLaws.{one_of, same_itself}

same_is : (who other : Who) → same_who who other ≡ true → other ≡ who
same_is (Desk d) (Desk e) h = ap Desk (eqb-true e d h)
same_is (Desk d) (Position q) h = absurd (true≢false (sym h))
same_is (Desk d) (Crew c) h = absurd (true≢false (sym h))
same_is (Position p) (Desk e) h = absurd (true≢false (sym h))
same_is (Position p) (Position q) h = ap Position (eqb-true q p h)
same_is (Position p) (Crew c) h = absurd (true≢false (sym h))
same_is (Crew c) (Desk e) h = absurd (true≢false (sym h))
same_is (Crew c) (Position q) h = absurd (true≢false (sym h))
same_is (Crew c) (Crew k) h = ap Crew (exact_callsigns k c (is_Equal (callsign_cmp k c) h))

-- the terminal of a token and of who
abbrev named : Token → Who → Option Terminal
named k who = Some (record { token = k; who = who })

kept_is : (p : Terminal → Bool) (o : Option Terminal) (t : Terminal) → keep p o ≡ Some t
    → (o ≡ Some t) × (p t ≡ true)
kept_is p None t = λ e. absurd cc
kept_is p (Some x) t =
    (elim (p x) as (λ (b : Bool). p x ≡ b → cond b (Some x) None ≡ Some t → (Some x ≡ Some t) × (p t ≡ true)) [
      | true ↦ λ is e. let same : x ≡ t = cc in (e, ap p (sym same) ∙ is)
      | false ↦ λ is e. absurd cc
    ]) refl

unless : (b : Bool) → not b ≡ true → b ≡ false
unless true h = absurd (true≢false (sym h))
unless false h = refl

none_of_token : (k : Token) (ts : List Terminal) → has_token k ts ≡ false → terminal_at k ts ≡ None
none_of_token k [] = λ h. refl
none_of_token k (t ∷ ts) =
    (elim (is_token_of k
    t) as (λ (b : Bool). (b || list_any (is_token_of k) ts) ≡ false → cond b (Some t) (terminal_at k ts) ≡ None) [
      | true ↦ λ h. absurd (true≢false h)
      | false ↦ λ h. none_of_token k ts h
    ])

-- ---- whom a list names
ends_named : (t : Terminal) (who : Who) → is_listed (t ∷ []) who ≡ same_who t.who who
ends_named t who = (elim (same_who t.who who) as (λ (b : Bool). (b || false) ≡ b) [
  | true ↦ refl
  | false ↦ refl
])

more_named : (earlier : List Terminal) (t : Terminal) (who : Who)
    → is_listed (earlier ++ t ∷ []) who ≡ (is_listed earlier who || same_who t.who who)
more_named earlier t who =
    list_any-append (λ x. same_who x.who who) earlier (t ∷ [])
    ∙ ap (λ (b : Bool). is_listed earlier who || b) (ends_named t who)

named_last : (earlier : List Terminal) (t : Terminal) → is_listed (earlier ++ t ∷ []) t.who ≡ true
named_last earlier t = more_named earlier t t.who ∙ or_right _ _ (same_itself t.who)

named_still : (earlier more : List Terminal) (who : Who) → is_listed earlier who ≡ true
    → is_listed (earlier ++ more) who ≡ true
named_still earlier more who is = list_any-append (λ x. same_who x.who who) earlier more ∙ or_left _ _ is

-- who is named with one more row, and not without it, is who that row names
other_side : (a b : Bool) → (a || b) ≡ true → a ≡ false → b ≡ true
other_side true b h none = absurd (true≢false none)
other_side false b h none = h

last_named : (earlier : List Terminal) (t : Terminal) (who : Who)
    → is_listed (earlier ++ t ∷ []) who ≡ true → is_listed earlier who ≡ false → who ≡ t.who
last_named earlier t who is none =
    same_is t.who who
    (other_side (is_listed earlier who) (same_who t.who who) (sym (more_named earlier t who) ∙ is) none)

-- ---- a token that no terminal has that stays
and_true : (b : Bool) → (b && true) ≡ b
and_true true = refl
and_true false = refl

and_false : (b : Bool) → (b && false) ≡ false
and_false true = refl
and_false false = refl

any_kept : (p q : Terminal → Bool) (ts : List Terminal)
    → list_any p (filter q ts) ≡ list_any (λ t. p t && q t) ts
any_kept p q [] = refl
any_kept p q (t ∷ ts) =
    (elim (q t) as (λ (b : Bool).
    list_any p (cond b (t ∷ filter q ts) (filter q ts)) ≡ ((p t && b) || list_any (λ t. p t && q t) ts)) [
      | true ↦
          ap (λ (b : Bool). b || list_any p (filter q ts)) (sym (and_true (p t)))
          ∙ ap (λ (b : Bool). (p t && true) || b) (any_kept p q ts)
      | false ↦ any_kept p q ts ∙ ap (λ (b : Bool). b || list_any (λ t. p t && q t) ts) (sym (and_false (p t)))
    ])

none_kept : (listed ts : List Terminal) (k : Token) → is_kept listed ts k ≡ false
    → terminal_at k (kept_beside listed ts) ≡ None
none_kept listed ts k none =
    none_of_token k (kept_beside listed ts) (any_kept (is_token_of k) (λ t. not (is_listed listed t.who)) ts ∙ none)

-- ---- what a row that is not refused says
clear : (m a b s : Bool) (n : RowFault)
    → cond m (cond (a || b) (Some TokenTaken) (cond s (Some SecondToken) None)) (Some n) ≡ None
    → (m ≡ true) × (a ≡ false) × (b ≡ false) × (s ≡ false)
clear true false false false n h = (refl, refl, refl, refl)
clear true false false true n h = absurd cc
clear true false true s n h = absurd cc
clear true true b s n h = absurd cc
clear false a b s n h = absurd cc

who_is : (t : Terminal) (k : Token) (who : Who) → Some t ≡ named k who → t.who ≡ who
who_is t k who e = let some : Some t.who ≡ Some who = ap (option_map (λ (x : Terminal). x.who)) e in cc

second_crew : (earlier : List Terminal) (who : Who) (c : Callsign) → Crew c ≡ who
    → is_second earlier who ≡ is_listed earlier (Crew c)
second_crew earlier who c is = subst (λ w. is_second earlier w ≡ is_listed earlier (Crew c)) is refl

module _ (r : Room) (ts listed : List Terminal) (are : AreTerminals r ts) where
  -- the vehicle is there of a crew that may have a terminal
  crew_there : (c : Callsign) → may_have r.plan ts (Crew c) ≡ true
      → is_some (row_at callsign_cmp vehicle_key r.vehicles c) ≡ true
  crew_there c may = let one = one_of (Crew c) ts are.keyed may in are.crews one.0 c one.1

  -- no row of the rest is refused, each beside those before it
  abbrev pub AllFree : List Terminal → List Terminal → Type 0
  AllFree earlier [] = Unit {0}
  AllFree earlier (t ∷ rest) = (row_fault r.plan ts listed earlier t ≡ None) × AllFree (earlier ++ t ∷ []) rest

  all_free : (earlier rest : List Terminal) → listed ≡ earlier ++ rest
      → AreFree r.plan ts listed (length listed) → AllFree earlier rest
  all_free earlier [] e free = tt
  all_free earlier (t ∷ rest) e free =
      let within : length earlier < length listed = omega (arith, ap length e, length-append earlier (t ∷ rest)) in
      let here = rw (e, take-append_seam earlier (t ∷ rest), get_or-append_seam earlier t rest no_row) at
      (free (length earlier) within) in
      (rw e here, all_free (earlier ++ t ∷ []) rest (rw (append_assoc earlier (t ∷ []) rest) e) free)

  -- Some rows have their terminals, and of those whom the list names nobody has another.
  record IsPartly (earlier now : List Terminal) : Type 0 where
    pub keyed : IsKeyed token_cmp terminal_key now
    pub found : (k : Token) (who : Who) → terminal_at k now ≡ named k who
        → ((is_listed earlier who ≡ true) × (may_have r.plan ts who ≡ true))
        ⊎ ((terminal_at k ts ≡ named k who) × (is_listed listed who ≡ false))
    pub stays : (k : Token) (who : Who) → terminal_at k ts ≡ named k who
        → is_listed listed who ≡ false → terminal_at k now ≡ named k who
    pub here : (who : Who) → is_listed earlier who ≡ true
        → (k : Token) × (terminal_at k now ≡ named k who)
    pub one : (j l : Token) (c : Callsign) → is_listed earlier (Crew c) ≡ true
        → terminal_at j now ≡ named j (Crew c) → terminal_at l now ≡ named l (Crew c) → j ≡ l
    pub absent : (k : Token) → terminal_at k (kept_beside listed ts) ≡ None
        → has_token k earlier ≡ false → terminal_at k now ≡ None

  kept_at : (k : Token) → terminal_at k (kept_beside listed ts)
      ≡ keep (λ t. not (is_listed listed t.who)) (terminal_at k ts)
  kept_at k = row_filter token_cmp terminal_key tokens_total (λ t. not (is_listed listed t.who)) ts k are.keyed

  begins : IsPartly [] (kept_beside listed ts)
  begins = record {
    keyed = keyed_filter token_cmp terminal_key tokens_total (λ t. not (is_listed listed t.who)) ts are.keyed;
    found =
        λ k who e.
        let is = kept_is (λ t. not (is_listed listed t.who)) (terminal_at k ts) (record { token = k; who = who })
        (sym (kept_at k) ∙ e) in
        inr (is.0, unless (is_listed listed who) is.1);
    stays =
        λ k who e apart.
        kept_at k ∙ ap (keep (λ t. not (is_listed listed t.who))) e
        ∙ ap (λ (b : Bool). cond (not b) (named k who) None) apart;
    here = λ who is. absurd (true≢false (sym is));
    one = λ j l c is e f. absurd (true≢false (sym is));
    absent = λ k e none. e;
  }

  module _ (earlier rest now : List Terminal) (t : Terminal) (split : listed ≡ earlier ++ t ∷ rest)
      (partly : IsPartly earlier now) (free : row_fault r.plan ts listed earlier t ≡ None) where
    parts : (may_have r.plan ts t.who ≡ true) × (is_kept listed ts t.token ≡ false)
        × (has_token t.token earlier ≡ false) × (is_second earlier t.who ≡ false)
    parts = clear _ _ _ _ (unknown_fault t.who) free

    is_new : terminal_at t.token now ≡ None
    is_new = partly.absent t.token (none_kept listed ts t.token parts.1) parts.2

    abbrev after : List Terminal
    after = put_row token_cmp terminal_key now t

    so_far : (who : Who) → is_listed (earlier ++ t ∷ []) who ≡ true → is_listed listed who ≡ true
    so_far who is =
        subst (λ l. is_listed l who ≡ true) (append_assoc earlier (t ∷ []) rest ∙ sym split)
        (named_still (earlier ++ t ∷ []) rest who is)

    came : (k : Token) (who : Who) → terminal_at k after ≡ named k who
        → ((k ≡ t.token) × (who ≡ t.who)) ⊎ (terminal_at k now ≡ named k who)
    came k who =
        terminals_put (λ j o. o ≡ named j who → ((j ≡ t.token) × (who ≡ t.who)) ⊎ (terminal_at j now ≡ named j who)) now
        t
        (λ e. inl (refl, sym (who_is t t.token who e))) (λ j apart e. inr e) k

    still : (k : Token) (who : Who) → terminal_at k now ≡ named k who → terminal_at k after ≡ named k who
    still k who =
        row_stays token_cmp terminal_key tokens_total exact_tokens now t (record { token = k; who = who }) is_new k

    put_last : (who : Who) → who ≡ t.who → terminal_at t.token after ≡ named t.token who
    put_last who is = put_here token_cmp terminal_key tokens_total now t t.token refl ∙ ap (named t.token) (sym is)

    -- the crew of this row had no terminal yet
    had_none : (k : Token) (c : Callsign) → Crew c ≡ t.who → terminal_at k now ≡ named k (Crew c) → ⊥
    had_none k c is e = elim (partly.found k (Crew c) e) [
      | inl x ↦ true≢false (sym x.0 ∙ sym (second_crew earlier t.who c is) ∙ parts.3)
      | inr x ↦
          true≢false (sym
          (so_far (Crew c) (subst (λ w. is_listed (earlier ++ t ∷ []) w ≡ true) (sym is) (named_last earlier t))) ∙ x.1)
    ]

    had_one : (j l : Token) (c : Callsign) → is_listed (earlier ++ t ∷ []) (Crew c) ≡ true
        → terminal_at j now ≡ named j (Crew c) → terminal_at l now ≡ named l (Crew c) → j ≡ l
    had_one j l c is e f = elim (partly.found j (Crew c) e) [
      | inl x ↦ partly.one j l c x.0 e f
      | inr x ↦ absurd (true≢false (sym (so_far (Crew c) is) ∙ x.1))
    ]

    one_more : IsPartly (earlier ++ t ∷ []) after
    one_more = record {
      keyed = keyed_put token_cmp terminal_key tokens_total now t partly.keyed;
      found = λ k who e. elim (came k who e) [
        | inl new ↦
            inl (
              subst (λ w. is_listed (earlier ++ t ∷ []) w ≡ true) (sym new.1) (named_last earlier t),
              subst (λ w. may_have r.plan ts w ≡ true) (sym new.1) parts.0,
            )
        | inr old ↦ elim (partly.found k who old) [
          | inl x ↦ inl (named_still earlier (t ∷ []) who x.0, x.1)
          | inr x ↦ inr x
        ]
      ];
      stays = λ k who e apart. still k who (partly.stays k who e apart);
      here =
          λ who is.
          (elim (is_listed earlier
          who) as (λ (b : Bool). is_listed earlier who ≡ b → (k : Token) × (terminal_at k after ≡ named k who)) [
            | true ↦ λ was. let old = partly.here who was in (old.0, still old.0 who old.1)
            | false ↦ λ was. (t.token, put_last who (last_named earlier t who is was))
          ]) refl;
      one = λ j l c is e f. elim (came j (Crew c) e) [
        | inl a ↦ elim (came l (Crew c) f) [
          | inl b ↦ a.0 ∙ sym b.0
          | inr b ↦ absurd (had_none l c a.1 b)
        ]
        | inr a ↦ elim (came l (Crew c) f) [
          | inl b ↦ absurd (had_none j c b.1 a)
          | inr b ↦ had_one j l c is a b
        ]
      ];
      absent = λ k e none.
          let both = or_parts _ _ (sym (list_any-append (is_token_of k) earlier (t ∷ [])) ∙ none) in
          put_other token_cmp terminal_key tokens_total now t k (or_parts _ _ both.1).0 ∙ partly.absent k e both.0;
    }

  all_put : (earlier rest now : List Terminal) → listed ≡ earlier ++ rest → AllFree earlier rest
      → IsPartly earlier now → IsPartly listed (put_all now rest)
  all_put earlier [] now e free partly = subst (λ l. IsPartly l now) (sym (e ∙ append-nil earlier)) partly
  all_put earlier (t ∷ rest) now e free partly =
      all_put (earlier ++ t ∷ []) rest (put_row token_cmp terminal_key now t)
      (e ∙ sym (append_assoc earlier (t ∷ []) rest)) free.1 (one_more earlier rest now t e partly free.0)

  module _ (free : AreFree r.plan ts listed (length listed)) where
    put : IsPartly listed (replaced_by listed ts)
    put = all_put [] listed (kept_beside listed ts) refl (all_free [] listed refl free) begins

    was : (k : Token) (who : Who) → is_listed listed who ≡ false
        → terminal_at k (replaced_by listed ts) ≡ named k who → terminal_at k ts ≡ named k who
    was k who apart e = elim (put.found k who e) [
      | inl x ↦ absurd (true≢false (sym x.0 ∙ apart))
      | inr x ↦ x.0
    ]

    pub replaced_fit : AreTerminals r (replaced_by listed ts)
    replaced_fit = record {
      keyed = put.keyed;
      has_crew =
          λ c there.
          (elim (is_listed listed (Crew c)) as (λ (b : Bool).
          is_listed listed (Crew c) ≡ b → (k : Token) × (terminal_at k (replaced_by listed ts) ≡ named k (Crew c))) [
            | true ↦ λ is. put.here (Crew c) is
            | false ↦ λ apart. let old = are.has_crew c there in (old.0, put.stays old.0 (Crew c) old.1 apart)
          ]) refl;
      one_crew =
          λ j l c e f. (elim (is_listed listed (Crew c)) as (λ (b : Bool). is_listed listed (Crew c) ≡ b → j ≡ l) [
            | true ↦ λ is. put.one j l c is e f
            | false ↦ λ apart. are.one_crew j l c (was j (Crew c) apart e) (was l (Crew c) apart f)
          ]) refl;
      crews = λ j c e. elim (put.found j (Crew c) e) [
        | inl x ↦ crew_there c x.1
        | inr x ↦ are.crews j c x.0
      ];
      desks = λ j d e. elim (put.found j (Desk d) e) [
        | inl x ↦ x.1
        | inr x ↦ are.desks j d x.0
      ];
    }

    pub unlisted_stay : (k : Token) (who : Who) → is_listed listed who ≡ false
        → terminal_at k ts ≡ named k who → terminal_at k (replaced_by listed ts) ≡ named k who
    unlisted_stay k who apart e = put.stays k who e apart

    pub unlisted_were : (k : Token) (who : Who) → is_listed listed who ≡ false
        → terminal_at k (replaced_by listed ts) ≡ named k who → terminal_at k ts ≡ named k who
    unlisted_were k who apart e = was k who apart e

pub keeps_room : (before after : Trees) (plan : Layout) (listed : List Terminal)
    (Settled : Type 0) → IsPlanOf before plan → Replaces plan.areas listed before after × Settled
    → (terminals : List Terminal) × (room : Room)
    × KeepsRoom before after plan listed terminals room × Settled
keeps_room before after plan listed Settled it made =
    let done = made.0 (config_of plan it.0) it.1 it.5 in
    let free : AreFree it.1.plan it.0 listed (length listed) = rw it.4 done.0 in (
      it.0,
      it.1,
      record {
        formed = it.2;
        planned = it.4;
        fitted = it.3;
        stood = it.5;
        none_refused = free;
        fit = replaced_fit it.1 it.0 listed it.3 free;
        stands = done.1;
      },
      made.1,
    )
