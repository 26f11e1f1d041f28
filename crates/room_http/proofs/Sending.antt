-- Lists that are sent.
use Rattle.std.proofs.Common.{◌≡◌, List, [], ◌∷◌, length, map, refl, ap, suc}
use Rattle.serde_json.specs.Data.{Data}
use Rattle.serde_json.specs.Events.{items_len}
use Rattle.serde_json.specs.View.{items_of}

pub items_len-map : {T : Type 0} → (json : T → Data) (xs : List T)
    → items_len (items_of (map json xs)) ≡ length xs
items_len-map json [] = refl
items_len-map json (x ∷ xs) = ap suc (items_len-map json xs)
