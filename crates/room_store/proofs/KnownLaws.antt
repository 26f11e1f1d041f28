-- What a store knows beside its tables: terminals, and that they stay; and what else it knows, which
-- may be nothing.
use Rattle.std.proofs.Common.{List, Some, [], false, refl, subst, sym, true, ◌∙◌, ◌≡◌}
use Rattle.std.proofs.lemmas.List.Elements.{All-nil, All-same, All-weaker}
use Rattle.std.specs.Prelude.{All, IfSome}
use Rattle.room_types.proofs.EachRow.{row_key}
use Rattle.room_types.specs.Texts.{Token}
use Rattle.room_types.specs.declared.fleet.FleetRow.{FleetRow}
use Rattle.room_types.specs.declared.fleet.RowFate.{RowFate}
use Rattle.room_types.specs.declared.fleet.RowFate.TheVariants.{Added, Refused, Same}
use Rattle.room_types.specs.declared.fleet.Terminal.{Terminal}
use Rattle.room_model.proofs.EnrolLaws.{exact_tokens, is_added, tokens_total}
use Rattle.room_model.proofs.KeptCalls.{row_stays}
use Rattle.room_model.specs.FleetRows.{fate_of, new_terminal, terminal_at, terminal_key}
use Rattle.room_model.specs.FleetRows.{terminals_by, terminals_enrolled, token_cmp}
use Rattle.room_model.specs.Room.{Room}
use Rattle.room_store_cache.specs.Cache.{IsCacheOf, KnowsNothing}
use Rattle.room_store_cache.specs.QueueViews.{IsQueueViewOf}
use Rattle.room_store_cache.specs.IncidentViews.{IsIncidentViewOf}
use Rattle.room_store_cache.specs.ShownLists.{IsShownListOf}
use Rattle.room_store_cache.specs.declared.cache.Cache.{Cache}
use Rattle.room_store_cache.specs.KnownTerminals.{AreTerminalsOf, IsOneOf}

-- where none is kept, nothing is asked of any
none_kept : {A : Type 0} (P : A → Type 0) (xs : List A) → xs ≡ [] → All P xs
none_kept P xs none = All-same P xs [] none (All-nil P)

-- where nothing is known, nothing is asked of it
pub knows_nothing : (cache : Cache) (room : Room) → KnowsNothing cache → IsCacheOf cache room
knows_nothing cache room nothing = record {
  fleet = λ is. let never : false ≡ true = sym nothing.fleet ∙ is in cc;
  queue_views = none_kept (λ x. IsQueueViewOf x room) cache.queue_views.kept.items nothing.queue_views;
  incident_views = none_kept (λ x. IsIncidentViewOf x room) cache.incident_views.kept.items nothing.incident_views;
  recent_incidents = rw nothing.recent_incidents tt;
  shown_lists = none_kept (λ x. IsShownListOf x room) cache.shown_lists.kept.items nothing.shown_lists;
}

-- a store that begins knows no terminal
pub knows_none : (terminals known : List Terminal) → known ≡ [] → AreTerminalsOf known terminals
knows_none terminals known none = none_kept (IsOneOf terminals) known none

-- a terminal that was looked up is one of these
pub looked_up : (terminals : List Terminal) (token : Token) (t : Terminal)
    → Some t ≡ terminal_at token terminals → IsOneOf terminals t
looked_up terminals token t is =
    let key : t.token
    ≡ token =
    subst (λ o. IfSome o (λ u. u.token ≡ token)) (sym is)
    (row_key token_cmp terminal_key tokens_total exact_tokens terminals token) in
    subst (λ k. terminal_at k terminals ≡ Some t) (sym key) (sym is)

module _ (room : Room) (terminals : List Terminal) (row : FleetRow) where
  -- a terminal stays one of them when a row is enrolled, since the row's token was free
  stays : (fate : RowFate) → fate_of room terminals row ≡ fate → (t : Terminal)
      → IsOneOf terminals t → IsOneOf (terminals_by fate row terminals) t
  stays Added is t one =
      row_stays token_cmp terminal_key tokens_total exact_tokens terminals (new_terminal row) t
      (is_added room terminals row is).new_token t.token one
  stays Same is t one = one
  stays (Refused why) is t one = one

  pub still_known : (known : List Terminal) → AreTerminalsOf known terminals
      → AreTerminalsOf known (terminals_enrolled room terminals row)
  still_known known =
      All-weaker (IsOneOf terminals) (IsOneOf (terminals_enrolled room terminals row))
      (stays (fate_of room terminals row) refl) known
