-- How the values in memory are seen as data: their numbers of parts, and what is read from them.
use Rattle.std.proofs.Common.{◌≡◌, ◌≢◌, ◌∙◌, ℕ, ◌==◌, List, [], ◌∷◌, length, refl, sym, ap, arith}
use Rattle.std.proofs.Common.{eq-eqb, Bool, true, false, cond, ◌+◌, ◌<◌, ◌≤◌}
use Rattle.std.proofs.lemmas.Bool.Decides.{nat_tests}
use Rattle.std.specs.List.{find}
use Rattle.std.specs.Prelude.{String, Option, Some, None, IsUtf8, bytes_eq, if◌then◌else◌, nat_le}
use Rattle.std.specs.declared.alloc.Global.{Global}
use Rattle.std.proofs.lemmas.Str.{utf8_valid_len-IsUtf8}
use Rattle.std.proofs.lemmas.Slice.Eq.{bytes_eq-Decides}
use Rattle.serde_json.specs.Data.{Data}
use Rattle.serde_json.specs.Find.{as_array, get}
use Rattle.serde_json.specs.Read.{read}
use Rattle.serde_json.specs.View.{items_view, members_view}
use Rattle.serde_json.specs.declared.value.Value.{Value}
use Rattle.room_types.specs.Codes.{Decodes, button_name}
use Rattle.room_types.specs.declared.codes.Button.{Button}
use Rattle.room_types.specs.declared.codes.Button.TheVariants.{Position, Mobile, Scene, Leave}
use Rattle.room_types.specs.declared.codes.Button.TheVariants.{Hospital, Return, Home}
use Rattle.room_http_requests.specs.BodyFields.{button_of, buttons, few_at, fields_of, items_count}
use Rattle.room_http_requests.specs.BodyFields.{members_count, needs_at, needs_of}

-- the members of a map are as many as its entries
pub members_count-view : (entries : List (String Global × Value))
    → members_count (members_view entries) ≡ length entries
members_count-view [] = refl
members_count-view (e ∷ es) = rw (members_count-view es) (omega arith)

-- an array that is not of three is no needs
pub not_three : (values : List Value) → length values ≢ 3 → needs_of (items_view values) ≡ None
unfolding needs_of
not_three [] other = refl
not_three (a ∷ []) other = refl
not_three (a ∷ b ∷ []) other = refl
not_three (a ∷ b ∷ c ∷ []) other = absurd (other refl)
not_three (a ∷ b ∷ c ∷ d ∷ more) other = refl

-- an array under a name that is not of three says no needs
pub no_needs : (name : List ℕ) (fields value : Data) (values : List Value)
    → get name fields ≡ Some value → as_array value ≡ Some (items_view values)
    → length values ≢ 3 → None ≡ needs_at name fields
unfolding needs_at
no_needs name fields value values under array other = rw (under, array) (sym (not_three values other))

-- the fields of a body that is not empty are what is read
pub fields_of-read : (body : List ℕ) (fields : Data) → (length body == 0) ≡ false → IsUtf8 body
    → read body ≡ Some fields → fields_of body ≡ Some fields
unfolding fields_of
fields_of-read [] fields some utf8 was_read = cc
fields_of-read (b ∷ bs) fields some utf8 was_read = rw (eq-eqb _ _ (utf8_valid_len-IsUtf8 (b ∷ bs) utf8)) was_read

-- the button of its own name
own_name : (button : Button) → button_of (button_name button) ≡ Some button
unfolding button_of
own_name Position = refl
own_name Mobile = refl
own_name Scene = refl
own_name Leave = refl
own_name Hospital = refl
own_name Return = refl
own_name Home = refl

-- what is found passes the test
found_passes : {A : Type 0} (test : A → Bool) (x y : A) (rest : Option A) (passes : Bool)
    → test x ≡ passes → cond passes (Some x) rest ≡ Some y
    → (rest ≡ Some y → test y ≡ true) → test y ≡ true
found_passes test x y rest true is found later = let same : x ≡ y = cc in rw (← same) is
found_passes test x y rest false is found later = later found

find_passes : {A : Type 0} (test : A → Bool) (xs : List A) (y : A) → find test xs ≡ Some y
    → test y ≡ true
find_passes test [] y found = cc
find_passes test (x ∷ xs) y found = found_passes test x y (find test xs) (test x) refl found (find_passes test xs y)

-- the button found by a name has it
has_name : (name : List ℕ) (button : Button) → button_of name ≡ Some button
    → button_name button ≡ name
unfolding button_of
has_name name button found =
    (bytes_eq-Decides (button_name button) name).0
    (find_passes (λ b. bytes_eq (button_name b) name) buttons button found)

-- where a name decodes to none, none is found by it
none_is : (name : List ℕ) (found : Option Button) → button_of name ≡ found
    → Decodes button_name name None → None ≡ found
none_is name None is decodes = refl
none_is name (Some button) is decodes = decodes.only_one button (has_name name button is)

-- what a name decodes to is the button found by it
pub decodes_to : (name : List ℕ) (decoded : Option Button) → Decodes button_name name decoded
    → decoded ≡ button_of name
decodes_to name (Some button) decodes = sym (own_name button) ∙ ap button_of decodes.has_it
decodes_to name None decodes = none_is name (button_of name) refl decodes

-- an array has as many items as values
items_count-view : (values : List Value) → items_count (items_view values) ≡ length values
items_count-view [] = refl
items_count-view (v ∷ vs) = rw (items_count-view vs) (omega arith)

-- of an array under a name, the items are given where they are few enough
module _ (most : ℕ) (name : List ℕ) (fields value : Data) (values : List Value)
    (under : get name fields ≡ Some value) (array : as_array value ≡ Some (items_view values)) where
  few_if : few_at most name fields
      ≡ (if nat_le (length values) most then Some (items_view values) else None)
  unfolding few_at
  few_if =
      rw (under, array)
      (ap (λ (n : ℕ). if nat_le n most then Some (items_view values) else None) (items_count-view values))

  pub few_enough : length values ≤ most → Some (items_view values) ≡ few_at most name fields
  few_enough h =
      let is : nat_le (length values) most ≡ true = grind (arith, nat_tests) in
      sym (few_if ∙ ap (λ (b : Bool). if b then Some (items_view values) else None) is)

  pub too_many : most < length values → None ≡ few_at most name fields
  too_many h =
      let is : nat_le (length values) most ≡ false = grind (arith, nat_tests) in
      sym (few_if ∙ ap (λ (b : Bool). if b then Some (items_view values) else None) is)
