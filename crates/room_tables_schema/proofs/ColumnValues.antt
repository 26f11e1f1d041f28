-- What a column keeps of a value, and what a program reads of it.
use Rattle.std.proofs.Common.{◌≡◌, ◌≢◌, ℕ, ℤ, zero, suc, pos, length, MatchOption, List, [], ◌∷◌}
use Rattle.std.proofs.Common.{cond, Bool, true, false, Option, Some, None, refl, sym, ap, subst}
use Rattle.std.proofs.Common.{◌∙◌}
use Rattle.sqlite_value.specs.declared.value.Value.{Value}
use Rattle.sqlite_value.specs.declared.value.Value.TheVariants.{Null, Int}
use Rattle.sqlite_value.specs.Order.{Row, column}
use Rattle.sqlite_sql.specs.Ops.{unary}
use Rattle.sqlite_schema.specs.declared.schema.Column.{Column}
use Rattle.sqlite_schema.specs.declared.schema.Kind.TheVariants.{Integer}
use Rattle.sqlite_rules.specs.Cast.{cast, cast_all}
use Rattle.sqlite.specs.Values.{bound_value}
use Rattle.room_tables_schema.specs.TypedRows.{number, number_or_null}

-- ---- a column of numbers keeps numbers and NULL (columns of texts and of blobs keep theirs by computation)

cond-same : (b : Bool) (x : Value) → cond b x x ≡ x
cond-same true x = refl
cond-same false x = refl

pub cast-Null : cast Integer Null ≡ Null
unfolding unary
cast-Null = cond-same _ Null

pub cast-Int : (n : ℤ) → cast Integer (Int n) ≡ Int n
unfolding unary
cast-Int n = cond-same _ (Int n)

pub cast-number_or_null : (o : Option ℕ) → cast Integer (number_or_null o) ≡ number_or_null o
cast-number_or_null None = cast-Null
cast-number_or_null (Some n) = cast-Int (pos n)

-- each value is kept by its column
abbrev pub AreKept : List Column → Row → Type 0
AreKept [] row = Unit {0}
AreKept (c ∷ columns) [] = Unit {0}
AreKept (c ∷ columns) (v ∷ row) = (cast c.kind v ≡ v) × AreKept columns row

pub cast_all-kept : (columns : List Column) (row : Row) → AreKept columns row
    → cast_all columns row ≡ row
cast_all-kept [] row h = refl
cast_all-kept (c ∷ columns) [] h = refl
cast_all-kept (c ∷ columns) (v ∷ row) h = λ i. h.0 i ∷ cast_all-kept columns row h.1 i

-- ---- parameters and reads

-- a parameter that may be absent is bound as it is
pub bound-number_or_null : (o : Option ℕ) → bound_value (number_or_null o) ≡ number_or_null o
bound-number_or_null None = refl
bound-number_or_null (Some n) = refl

-- what is read of a column that may be NULL is what is in it
pub reads-number_or_null : (v : Value) (o : Option ℕ)
    → MatchOption o (v ≡ Null) (λ x. (v ≢ Null) × (v ≡ number x)) → number_or_null o ≡ v
reads-number_or_null v None h = sym h
reads-number_or_null v (Some n) h = sym h.1

-- the columns of a row from one on
abbrev pub columns_from : ℕ → ℕ → Row → Row
columns_from at zero row = []
columns_from at (suc n) row = column row at ∷ columns_from (suc at) n row

-- a row is its columns
pub columns_from-all : (row : Row) → columns_from 0 (length row) row ≡ row
columns_from-all [] = refl
columns_from-all (v ∷ row) = ap (λ l. v ∷ l) (later 0 (length row) ∙ columns_from-all row)
  where
    later : (at n : ℕ) → columns_from (suc at) n (v ∷ row) ≡ columns_from at n row
    later at zero = refl
    later at (suc n) = ap (λ l. column row at ∷ l) (later (suc at) n)

pub columns_are : (n : ℕ) (row : Row) → length row ≡ n → columns_from 0 n row ≡ row
columns_are n row long = subst (λ k. columns_from 0 k row ≡ row) long (columns_from-all row)

-- ---- texts of one length, kept without their zeros
