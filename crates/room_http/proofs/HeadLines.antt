-- Lines of a head.
use Rattle.std.proofs.Common.{List, append_assoc, codes, IfSome, None, Option, Some, ℕ, ◌++◌, ◌≡◌}
use Rattle.std.specs.Fmt.{AppendsText, ◌++?◌}
use Rattle.room_http.specs.ReplyMessages.{field, line}

pub field_added :
    (head new name : List ℕ) (value : Option (List ℕ))
    → AppendsText head new (Some name ++? Some (codes ": ") ++? value ++? Some (codes "\r\n"))
    → IfSome value (λ text. new ≡ head ++ field name text)
unfolding field line
field_added head new name None added = tt
field_added head new name (Some text) added = rw added (simp append_assoc)

pub status_added : (head new text : List ℕ)
    → AppendsText head new (Some (codes "HTTP/1.1 ") ++? Some text ++? Some (codes "\r\n"))
    → new ≡ head ++ line (codes "HTTP/1.1 " ++ text)
unfolding line
status_added head new text added = rw added (simp append_assoc)
