-- What is decided where a list may lack memory, and where nothing can.
use Rattle.std.proofs.Common.{Err, Ok, Result, false, inl, sym, true, ◌≡◌}
use Rattle.std.proofs.lemmas.Bool.{false≢true}
use Rattle.room_types.specs.declared.decisions.Decision.{Decision}
use Rattle.room_types.specs.declared.refusal_statuses.Refusal.{Refusal}
use Rattle.room_model.specs.Decisions.{Decides, Verdict}

pub decides : (verdict : Verdict) (result : Result Decision Refusal) → result ≡ verdict
    → Decides verdict result
decides verdict (Ok x) same = sym same
decides verdict (Err e) same = inl (sym same)

pub exact : (verdict : Verdict) (result : Result Decision Refusal) → result ≡ verdict
    → Decides verdict result × (false ≡ false → result ≡ verdict)
exact verdict result same = (decides verdict result same, λ _. same)

pub listed : (verdict : Verdict) (result : Result Decision Refusal) → Decides verdict result
    → Decides verdict result × (true ≡ false → result ≡ verdict)
listed verdict result decided = (decided, λ never. absurd (false≢true (sym never)))
