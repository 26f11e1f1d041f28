-- The last name of a path.
use Rattle.std.proofs.Common.{List, ap, arith, eqb, refl, sym, take, take-append-drop, inl, inr, ℕ}
use Rattle.std.proofs.Common.{◌++◌, ◌∙◌, ◌∷◌}
use Rattle.std.specs.Str.{NoCharPasses}
use Rattle.std.specs.Str.Pattern.{RFindsChar, SplitsAroundMatch}
use Rattle.std.proofs.lemmas.Str.Pattern.{NoCharPasses-char, drop_at_char}
use Rattle.dispatch_room_cli.specs.DatabaseNames.{IsLastName}

-- a path without a slash is a name
pub whole_name : (path : List ℕ) → NoCharPasses (λ d. eqb d 47) path → IsLastName path path
whole_name path none = record {
  last = λ k within. NoCharPasses-char 47 path k none (omega arith) within;
  behind = inl refl;
}

-- what stands behind the last slash is one
pub split_name : (path folder name : List ℕ) → SplitsAroundMatch (RFindsChar 47) path folder name
    → IsLastName path name
split_name path folder name split = record {
  last = λ k within. NoCharPasses-char 47 name k (rw split.4 split.2.0) (omega arith) within;
  behind = inr (
    take split.0 path,
    sym (take-append-drop split.0 path) ∙ ap (λ t. take split.0 path ++ t)
        (drop_at_char 47 path split.0 split.1 split.2.1 (omega arith) ∙ ap (λ t. 47 ∷ t) (sym split.4)),
  );
}
