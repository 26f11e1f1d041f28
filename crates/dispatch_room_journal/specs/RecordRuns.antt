-- Records of one kind, one after another.
use Rattle.std.specs.Prelude.{◌≡◌, ℕ, List, ◌++◌, All, false}
use Rattle.dispatch_room_journal.specs.declared.record_fronts.Link.{Link}
use Rattle.dispatch_room_journal.specs.Chains.{chain_text, first_check, last_check, sha256_digits}
use Rattle.dispatch_room_journal.specs.ChainLaws.{AreBodies}
use Rattle.dispatch_room_journal.specs.PlainTexts.{last_ended}

-- where a chain begins
abbrev pub first_link : Link
first_link = record { check = first_check; has_ended = false }

-- The text that follows a record begins with these records of this kind, and this rest follows
-- them; and how far the chain has come after them.
pub record Runs (Kind : List ℕ → Type 0) (link : Link) (text : List ℕ) (bodies : List (List ℕ))
    (rest : List ℕ) (now : Link) : Type 0 where
  pub are : AreBodies link.has_ended bodies
  pub kinds : All Kind bodies
  pub is : text ≡ chain_text sha256_digits link.check bodies ++ rest
  pub check : now.check ≡ last_check sha256_digits link.check bodies
  pub has_ended : now.has_ended ≡ last_ended link.has_ended bodies
