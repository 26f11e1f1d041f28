-- Parts that fit their forms, seen from the parts that are left, and the first of some indexes.
use Rattle.std.proofs.Common.{◌≡◌, ◌↔◌, ◌⊎◌, ℕ, List, [], ◌∷◌, map, length, subst, sym, take, ap}
use Rattle.std.proofs.Common.{◌∙◌, arith, refl, inl, inr}
use Rattle.std.proofs.lemmas.List.{take-map}
use Rattle.sqlite_schema.specs.declared.schema.Index.{Index}
use Rattle.sqlite_schema.specs.declared.schema.Schema.{Schema}
use Rattle.sqlite_schema.specs.declared.schema.Table.{Table}
use Rattle.room_tables_schema.specs.Forms.{IndexForm, index_as, indexes_as}

module _ {F T : Type 0} (meant : F → T) (whole : Type 0) where
  -- the whole fits where what is left does
  pub record Waits (forms : List F) (parts : List T) : Type 0 where
    pub long : length forms ≡ length parts
    pub same : whole ↔ (parts ≡ map meant forms)

  module _ (forms more : List F) (parts rest : List T) (form : F) (part : T)
      (waits : Waits forms parts) (f : forms ≡ form ∷ more) (p : parts ≡ part ∷ rest) where
    pub fits : whole → part ≡ meant form
    fits w = let both : part ∷ rest ≡ meant form ∷ map meant more = sym p ∙ waits.same.0 w ∙ ap (map meant) f in cc

    pub goes_on : part ≡ meant form → Waits more rest
    goes_on fit = record {
      long =
          let both : length (form ∷ more) ≡ length (part ∷ rest) = sym (ap length f) ∙ waits.long ∙ ap length p in
          omega (arith, both);
      same = (
        λ w. let both : part ∷ rest ≡ meant form ∷ map meant more = sym p ∙ waits.same.0 w
            ∙ ap (map meant) f in cc,
        λ same. let both : part ∷ rest ≡ meant form
            ∷ map meant more = cc in waits.same.1 (p ∙ both ∙ sym (ap (map meant) f)),
      );
    }

  pub ends : (forms : List F) (parts : List T) → Waits forms parts → (forms ≡ []) ⊎ (parts ≡ [])
      → whole
  ends [] [] waits none = waits.same.1 refl
  ends [] (p ∷ ps) waits none = absurd (omega (arith, waits.long))
  ends (f ∷ fs) [] waits none = absurd (omega (arith, waits.long))
  ends (f ∷ fs) (p ∷ ps) waits none = elim none [ inl e ↦ absurd (let a = e in cc) | inr e ↦ absurd (let a = e in cc) ]

-- a schema has the indexes of the first forms where it has the first indexes of all
abbrev Has : Type 0 → Schema → List Table → List Index → Type 0
Has Yes schema tables indexes = Yes ↔ (schema ≡ record { tables = tables; indexes = indexes; views = [] })

pub first_of : (Yes : Type 0) (schema : Schema) (tables : List Table) (n : ℕ)
    (forms : List IndexForm) → Has Yes schema tables (indexes_as (take n forms))
    → Has Yes schema tables (take n (indexes_as forms))
first_of Yes schema tables n forms = subst (Has Yes schema tables) (sym (take-map index_as n forms))
