-- Lemmas on dialogues, one after another.
use Rattle.std.proofs.Common.{◌≡◌, ◌∙◌, ap, sym, refl, ℕ, List, [], ◌∷◌, ◌++◌, append-nil}
use Rattle.std.proofs.Common.{append_assoc, Option}
use Rattle.std.specs.Io.KnownBytes.{Appends}
use Rattle.room_types.specs.declared.fleet.Terminal.{Terminal}
use Rattle.room_model.specs.Room.{Room}
use Rattle.room_http_messages.proofs.StreamLemmas.{Appends-more, Appends-none}
use Rattle.room_http.specs.declared.settings.HttpSettings.{HttpSettings}
use Rattle.room_model.specs.Rooms.{Step}
use Rattle.room_http.specs.Dialogues.{Timed, IsReplyTo, IsDialogue, WritesDialogue}

module _ (step : Step) (setting : HttpSettings) (terminals : List Terminal) where
  pub IsDialogue-append : (room mid after : Room) (xs ys : List Timed) (bytes more : List ℕ)
      → IsDialogue step setting terminals room xs mid bytes → IsDialogue step setting terminals mid ys after more
      → IsDialogue step setting terminals room (xs ++ ys) after (bytes ++ more)
  IsDialogue-append room mid after [] ys bytes more first second = rw (← first.0, first.1) second
  IsDialogue-append room mid after (x ∷ xs) ys bytes more first second = (
    first.0,
    first.1,
    first.2 ++ more,
    ap (λ t. t ++ more) first.3 ∙ append_assoc first.1 first.2 more,
    first.4,
    IsDialogue-append first.0 mid after xs ys first.2 more first.5 second,
  )

  pub IsDialogue-one : (room after : Room) (x : Timed) (bytes : List ℕ)
      → IsReplyTo step setting terminals room x after bytes
      → IsDialogue step setting terminals room (x ∷ []) after bytes
  IsDialogue-one room after x bytes is = (after, bytes, [], sym (append-nil bytes), is, (refl, refl))

-- what was written, and then more
joined : (a b c : Option (List ℕ)) (first none second tail : List ℕ) → none ≡ []
    → Appends a b (first ++ none) → Appends b c (second ++ tail)
    → Appends a c (first ++ second ++ tail)
joined a b c first none second tail is one two =
    let whole : Appends a b first = rw (is, append-nil) at one in
    rw append_assoc (Appends-more a b c first (second ++ tail) whole two)

module _ (step : Step) (setting : HttpSettings) where
  pub WritesDialogue-none : (trusted : Type 0) (stood stands : List Terminal → Room → Type 0)
      (held : Option (List ℕ)) → ((terminals : List Terminal) (room : Room) → stood terminals room
      → stands terminals room)
      → WritesDialogue step setting trusted stood held held []
      (λ terminals after tail. stands terminals after × (tail ≡ []))
  WritesDialogue-none trusted stood stands held is =
      λ _ terminals room standing. (room, [], [], (refl, refl), (is terminals room standing, refl), Appends-none held)

  -- a dialogue of which less is known before, and less is said
  pub WritesDialogue-as : (trusted : Type 0) (stood knows : List Terminal → Room → Type 0)
      (held holds : Option (List ℕ)) (outs : List Timed)
      (says less : List Terminal → Room → List ℕ → Type 0)
      → ((terminals : List Terminal) (room : Room) → knows terminals room → stood terminals room)
      → (trusted → (terminals : List Terminal) (room : Room) (tail : List ℕ)
      → says terminals room tail → less terminals room tail)
      → WritesDialogue step setting trusted stood held holds outs says
      → WritesDialogue step setting trusted knows held holds outs less
  WritesDialogue-as trusted stood knows held holds outs says less is states dialogue trust terminals room standing =
      let x = dialogue trust terminals room (is terminals room standing) in
      (x.0, x.1, x.2, x.3, states trust terminals x.0 x.2 x.4, x.5)

  -- a dialogue goes on where another one ended
  pub WritesDialogue-append : (early late : Type 0) (stood stays : List Terminal → Room → Type 0)
      (a b c : Option (List ℕ)) (outs more : List Timed)
      (says : List Terminal → Room → List ℕ → Type 0) → (late → early)
      → WritesDialogue step setting early stood a b outs
      (λ terminals after tail. stays terminals after × (tail ≡ []))
      → WritesDialogue step setting late stays b c more says
      → WritesDialogue step setting late stood a c (outs ++ more) says
  WritesDialogue-append early late stood stays a b c outs more says earlier first second trust terminals room
      stood_for =
      let one = first (earlier trust) terminals room stood_for in
      let two = second trust terminals one.0 one.4.0 in (
        two.0,
        one.1 ++ two.1,
        two.2,
        IsDialogue-append step setting terminals room one.0 two.0 outs more one.1 two.1 one.3 two.3,
        two.4,
        joined a b c one.1 one.2 two.1 two.2 one.4.1 one.5 two.5,
      )
