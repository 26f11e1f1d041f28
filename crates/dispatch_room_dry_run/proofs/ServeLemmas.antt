-- A connection that was served, described only by the room at its beginning.
use Rattle.std.proofs.Common.{◌≡◌, ℕ, List, [], inl, inr}
use Rattle.std.specs.Prelude.{⊤}
use Rattle.room_types.specs.declared.fleet.Terminal.{Terminal}
use Rattle.room_types.specs.declared.refusal_statuses.Refusal.{Refusal}
use Rattle.room_model.specs.Room.{Room}
use Rattle.room_http.specs.ReplyMessages.{fixed_bytes}
use Rattle.room_http.specs.declared.settings.HttpSettings.{HttpSettings}
use Rattle.room_model.specs.Rooms.{Step}
use Rattle.room_http.specs.declared.session.ServeEnd.{ServeEnd}
use Rattle.room_http.specs.declared.session.ServeEnd.TheVariants.{Closed, Cut, ReadFault}
use Rattle.room_http.specs.declared.session.ServeEnd.TheVariants.{WriteFault, ClockFault}
use Rattle.room_http.specs.declared.session.ServeEnd.TheVariants.{JournalFailed, ReadsSpent, Memory}
use Rattle.room_http.specs.Arrivals.{Arrival, is_head_only}
use Rattle.room_http.specs.Session.{Sides, Finish, Answered, HasActed, Unserved, Unwritten, Broken}
use Rattle.room_http.specs.Session.{Untimed, ServeIs}
use Rattle.dispatch_room_dry_run.specs.Example.{unstated}
use Rattle.room_http.specs.ServedTrace.{ServedTrace}
use Rattle.room_http.specs.Dialogues.{Timed, IsCaused, IsFront, BreaksOff, WritesDialogue}

module _ (step : Step) (setting : HttpSettings) (old : Sides) (new : Finish) (trusted : Type 0)
    (trust : trusted) (stood stands : List Terminal → Room → Type 0)
    (unserved : Timed → List Terminal → Room → Type 0) (failed : Type 0) (asked : List Terminal → Room → Type 0)
    (is : (terminals : List Terminal) (room : Room) → asked terminals room → stood terminals room) where
  -- what is written is the dialogue of each room that the one at the beginning was asked to be
  dialogues : (outs : List Timed) (says less : List Terminal → Room → List ℕ → Type 0)
      → ((terminals : List Terminal) (room : Room) (tail : List ℕ) → says terminals room tail
      → less terminals room tail)
      → WritesDialogue step setting trusted stood old.held new.held outs says
      → WritesDialogue step setting ⊤ asked old.held new.held outs less
  dialogues outs says less states dialogue _ terminals room begins =
      let x = dialogue trust terminals room (is terminals room begins) in
      (x.0, x.1, x.2, x.3, states terminals x.0 x.2 x.4, x.5)

  answered : (outs : List Timed) (follows : List ℕ → Type 0)
      → Answered step setting old new trusted stood stands outs follows
      → Answered step setting old new ⊤ asked unstated outs follows
  answered outs follows a = record {
    begins = a.begins;
    timed = a.timed;
    dialogue =
        dialogues outs (λ terminals after tail. stands terminals after × (tail ≡ []))
        (λ terminals after tail. unstated terminals after × (tail ≡ []))
        (λ terminals after tail said. (tt, said.1)) a.dialogue;
  }

  some : (r : Refusal) → IsCaused failed r → IsCaused ⊤ r
  some r (inl memory) = inl memory
  some r (inr storage) = inr (storage.0, tt)

  unserved_at : (outs : List Timed) (x : Timed) (so_much : List ℕ → List ℕ → Type 0)
      → Unserved step setting old new trusted stood stands unserved failed outs x so_much
      → Unserved step setting old new ⊤ asked unstated (λ y. unstated) ⊤ outs x so_much
  unserved_at outs x so_much w = record {
    begins = w.begins;
    timed = w.timed;
    next = w.next;
    refusal = w.refusal;
    caused = some w.refusal w.caused;
    dialogue =
        dialogues outs
        (λ terminals after tail. unserved x terminals after × so_much tail (fixed_bytes w.refusal (is_head_only x.0)))
        (λ terminals after tail. unstated terminals after × so_much tail (fixed_bytes w.refusal (is_head_only x.0)))
        (λ terminals after tail said. (tt, said.1)) w.dialogue;
  }

  broken : (outs : List Timed) (x : Timed) → Broken step setting old new trusted stood stands outs x
      → Broken step setting old new ⊤ asked unstated outs x
  broken outs x b = record {
    begins = b.begins;
    timed = b.timed;
    dialogue =
        dialogues outs (λ terminals after tail. BreaksOff step setting terminals stands after x tail)
        (λ terminals after tail. BreaksOff step setting terminals unstated after x tail)
        (λ terminals after tail said. (said.0, said.1, said.2, tt, said.4)) b.dialogue;
  }

  untimed : (outs : List Timed) (o : Arrival)
      → Untimed step setting old new trusted stood stands outs o
      → Untimed step setting old new ⊤ asked unstated outs o
  untimed outs o u = record {
    begins = u.begins;
    timed = u.timed;
    clock = u.clock;
    dialogue =
        dialogues outs (λ terminals after tail. stands terminals after × (tail ≡ []))
        (λ terminals after tail. unstated terminals after × (tail ≡ []))
        (λ terminals after tail said. (tt, said.1)) u.dialogue;
  }

  unwritten : (outs : List Timed) (x : Timed) (says less : List Terminal → Room → Type 0)
      → ((terminals : List Terminal) (room : Room) → says terminals room → less terminals room)
      → Unwritten step setting old new trusted stood stands outs x says
      → Unwritten step setting old new ⊤ asked unstated outs x less
  unwritten outs x says less states u = record {
    begins = u.begins;
    next = u.next;
    timed = u.timed;
    dialogue =
        dialogues outs (λ terminals after tail. says terminals after × (tail ≡ []))
        (λ terminals after tail. less terminals after × (tail ≡ []))
        (λ terminals after tail said. (states terminals after said.0, said.1)) u.dialogue;
  }

  -- however it ended
  pub serves : (course : ServedTrace) (budget : ℕ) (end : ServeEnd)
      → ServeIs step setting old new trusted stood stands unserved failed course budget end
      → ServeIs step setting old new ⊤ asked unstated (λ x. unstated) ⊤ course budget end
  serves course budget Closed (inl ended) =
      inl ((ended.0.0, answered course.outs (λ rest. rest ≡ []) ended.0.1), ended.1)
  serves course budget Closed (inr (inl closed)) =
      inr (inl ((closed.0.0, answered course.outs (λ rest. ⊤) closed.0.1), closed.1))
  serves course budget Closed (inr (inr cause)) =
      inr (inr (cause.0, cause.1, unserved_at course.outs cause.0 (λ tail fixed. tail ≡ fixed) cause.2))
  serves course budget Cut cut = ((cut.0.0, answered course.outs _ cut.0.1), cut.1)
  serves course budget ReadFault fault = ((fault.0.0, answered course.outs (λ rest. ⊤) fault.0.1), fault.1)
  serves course budget WriteFault fault = (
    (
      fault.0.0,
      fault.0.1,
      elim fault.0.2 [
        | inl b ↦ inl (broken course.outs fault.0.0 b)
        | inr w ↦ inr (unserved_at course.outs fault.0.0 IsFront w)
      ],
    ),
    fault.1,
  )
  serves course budget JournalFailed cut = (
    (
      cut.0.0,
      cut.0.1,
      elim cut.0.2 [
        | inl u ↦ inl (unwritten course.outs cut.0.0 stands unstated (λ terminals room is_so. tt) u)
        | inr u ↦
            inr (unwritten course.outs cut.0.0 (HasActed step setting old new trusted stood stands cut.0.0)
            (HasActed step setting old new ⊤ asked unstated cut.0.0)
            (λ terminals room acted. (acted.0, acted.1, acted.2, tt, acted.4)) u)
      ],
    ),
    cut.1,
  )
  serves course budget ClockFault none = (none.0, (none.1.0, untimed course.outs none.1.0 none.1.1))
  serves course budget ReadsSpent used = ((used.0.0, answered course.outs (λ rest. ⊤) used.0.1), used.1)
  serves course budget Memory refused =
      (refused.0, (refused.1.0, answered course.outs (λ rest. ⊤) refused.1.1), refused.2)
