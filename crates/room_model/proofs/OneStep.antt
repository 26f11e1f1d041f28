-- An event is decided alike in two rooms that agree on the rows of who asks.
use Rattle.std.proofs.Common.{ap, sym, ◌∙◌}
use Rattle.std.specs.Prelude.{None, Option, Some, refl, ℕ, ◌≡◌}
use Rattle.room_place.specs.Plans.{division_of}
use Rattle.room_types.specs.declared.asks.Ask.{Ask}
use Rattle.room_types.specs.declared.asks.CallForm.{CallForm}
use Rattle.room_types.specs.declared.asks.Event.{Event}
use Rattle.room_types.specs.declared.asks.Who.{Who}
use Rattle.room_types.specs.declared.asks.Who.TheVariants.{Crew, Desk, Position}
use Rattle.room_types.specs.declared.tables.Call.{Call}
use Rattle.room_model.proofs.CallsApart.{call_equal}
use Rattle.room_model.proofs.CrewLaws.{crew_alike}
use Rattle.room_model.proofs.OwnDesk.{desk_equal}
use Rattle.room_model.specs.Calls.{call_kept, call_somewhere, new_call, take_call}
use Rattle.room_model.specs.Decisions.{show}
use Rattle.room_model.specs.Queries.{kept_call}
use Rattle.room_model.specs.Room.{Room}
use Rattle.room_model.specs.Shares.{AgreeOn, AgreeOnCall}
use Rattle.room_model.specs.Step.{decided, who_asks}
use Rattle.room_model.specs.RoomAgreements.{IsWellFormed}
use Rattle.room_types.specs.declared.answers.Answer.TheVariants as answer
use Rattle.room_types.specs.declared.asks.Ask.TheVariants as ask

module _ (r s : Room) (w : IsWellFormed r) (v : IsWellFormed s) where
  placed_alike : (p : ℕ) (f : CallForm) (at : ℕ) → AgreeOnCall p f r s
      → kept_call p f.serial r ≡ None → (o : Option ℕ) → division_of r.plan f.place ≡ o
      → take_call (new_call p f at) r ≡ take_call (new_call p f at) s
  placed_alike p f at agree none None outside =
      ap (λ k. call_kept k (new_call p f at) r) none ∙ ap (λ o. call_somewhere o (new_call p f at) r) outside
      ∙ sym (ap (λ k. call_kept k (new_call p f at) s) (sym agree.kept ∙ none)
      ∙ ap (λ o. call_somewhere o (new_call p f at) s)
      (ap (λ plan. division_of plan f.place) (sym agree.plan) ∙ outside))
  placed_alike p f at agree none (Some d) inside =
      call_equal d p f at r s w v (agree.share d inside) none (sym agree.kept ∙ none) inside

  kept_alike : (p : ℕ) (f : CallForm) (at : ℕ) → AgreeOnCall p f r s → (o : Option Call)
      → kept_call p f.serial r ≡ o → take_call (new_call p f at) r ≡ take_call (new_call p f at) s
  kept_alike p f at agree None none = placed_alike p f at agree none (division_of r.plan f.place) refl
  kept_alike p f at agree (Some k) there =
      ap (λ o. call_kept o (new_call p f at) r) there
      ∙ sym (ap (λ o. call_kept o (new_call p f at) s) (sym agree.kept ∙ there))

  who_alike : (who : Who) (a : Ask) (at : ℕ) → AgreeOn who a r s
      → who_asks who a at r ≡ who_asks who a at s
  who_alike (Desk d) a at agree = desk_equal d a at r s w.order v.order agree
  who_alike (Crew c) a at agree = crew_alike c r s w.order v.order a at agree
  who_alike (Position p) (ask.Call f) at agree = kept_alike p f at agree (kept_call p f.serial r) refl
  who_alike (Position p) ask.Last at agree = ap (λ n. show (answer.LastSerial n)) agree
  who_alike (Position p) a at agree = refl

  pub decided_alike : (e : Event) → AgreeOn e.who e.ask r s → decided e r ≡ decided e s
  decided_alike e agree = who_alike e.who e.ask e.at agree
