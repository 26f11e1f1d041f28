-- A call that the room has not kept, decided on rows of its division.
use Rattle.std.proofs.Common.{Bool, None, Some, ap, inl, inr, sym, ℕ, ◌∙◌, ◌≡◌}
use Rattle.room_place.specs.Plans.{division_of}
use Rattle.room_types.proofs.KeyedLaws.{row_filter}
use Rattle.room_types.specs.KeyedRows.{keep, row_at}
use Rattle.room_types.specs.Keys.{call_key, pair_cmp}
use Rattle.room_types.specs.KeyLemmas.{pairs_total}
use Rattle.room_types.specs.declared.asks.Ask.TheVariants as ask
use Rattle.room_types.specs.declared.asks.CallForm.{CallForm}
use Rattle.room_types.specs.declared.asks.NewCall.{NewCall}
use Rattle.room_types.specs.declared.tables.Call.{Call}
use Rattle.room_incident.proofs.CallLaws.{taken_in}
use Rattle.room_model.proofs.CallsApart.{call_by_share, call_by_working, call_equal}
use Rattle.room_model.specs.Calls.{call_in, new_call, take_call}
use Rattle.room_model.specs.Queries.{kept_call}
use Rattle.room_model.specs.Room.{Room}
use Rattle.room_model.specs.Shares.{own}
use Rattle.room_model.specs.RoomAgreements.{IsWellFormed}
use Rattle.room_model.specs.WorkingRows.{working}
use Rattle.room_core.specs.DecisionRows.{AreRead}

module _ (d p : ℕ) (f : CallForm) (at : ℕ) (r : Room) (formed : IsWellFormed r)
    (none : kept_call p f.serial r ≡ None) (placed : division_of r.plan f.place ≡ Some d) where
  -- nor is it among some of the calls
  not_among : (q : Call → Bool) → keep q (row_at pair_cmp call_key r.calls (p, f.serial)) ≡ None
  unfolding kept_call
  not_among q = ap (keep q) none

  -- by the rows that it reads it is decided as a call in its division
  by_work : take_call (new_call p f at) r
      ≡ call_in d (new_call p f at) (working d (ask.Call f) at r)
  unfolding kept_call
  by_work =
      sym (call_by_working d r formed p f at none placed)
      ∙ taken_in d (new_call p f at) (working d (ask.Call f) at r)
      (row_filter pair_cmp call_key pairs_total _ r.calls (p, f.serial) formed.order.calls ∙ not_among _) placed

  -- and so by all of its division's
  by_share : take_call (new_call p f at) r ≡ call_in d (new_call p f at) (own d r)
  unfolding kept_call
  by_share =
      sym (call_by_share d r formed p f at none placed)
      ∙ taken_in d (new_call p f at) (own d r)
      (row_filter pair_cmp call_key pairs_total _ r.calls (p, f.serial) formed.order.calls ∙ not_among _) placed

  by_read : (rows : Room) → AreRead d (ask.Call f) at rows r
      → take_call (new_call p f at) r ≡ call_in d (new_call p f at) rows
  by_read rows read = elim read [
    | inl e ↦ by_work ∙ sym (ap (call_in d (new_call p f at)) e)
    | inr e ↦ by_share ∙ sym (ap (call_in d (new_call p f at)) e)
  ]

-- the same of a call that is of this form
pub decided_by : (d : ℕ) (new : NewCall) (r : Room) (f : CallForm) (rows : Room) → IsWellFormed r
    → new ≡ new_call new.position f new.at → kept_call new.position f.serial r ≡ None
    → division_of r.plan f.place ≡ Some d → AreRead d (ask.Call f) new.at rows r
    → take_call new r ≡ call_in d new rows
decided_by d new r f rows formed same none placed read =
    ap (λ n. take_call n r) same ∙ by_read d new.position f new.at r formed none placed rows read
    ∙ ap (λ n. call_in d n rows) (sym same)

-- and in another room with an equal share it is decided alike
pub decided_apart : (d : ℕ) (new : NewCall) (r other : Room) (f : CallForm) → IsWellFormed r
    → IsWellFormed other → new ≡ new_call new.position f new.at → own d r ≡ own d other
    → kept_call new.position f.serial r ≡ None → kept_call new.position f.serial other ≡ None
    → division_of r.plan f.place ≡ Some d → take_call new r ≡ take_call new other
decided_apart d new r other f formed good same shares none nor placed =
    ap (λ n. take_call n r) same ∙ call_equal d new.position f new.at r other formed good shares none nor placed
    ∙ sym (ap (λ n. take_call n other) same)
