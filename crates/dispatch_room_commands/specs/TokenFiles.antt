-- The token of a board: a text, or the first line of a file.
use Rattle.std.specs.Prelude.{List, MatchResult, Result, true, ℕ, ◌++◌, ◌∷◌, ◌≡◌, ◌⊎◌}
use Rattle.room_types.specs.Texts.{Token, is_token}
use Rattle.dispatch_room_exit.specs.declared.exit_status.Failure.{Failure}
use Rattle.dispatch_room_exit.specs.declared.exit_status.Failure.TheVariants.{Input}
use Rattle.dispatch_room_journal.specs.TextParts.{Lacks}

-- the first line of a text: what stands before its first line end, or all of it where it has none
-- (10 is the code of a line end)
pub record IsFirstLine (text line : List ℕ) : Type 0 where
  pub lacks : Lacks 10 line
  pub begins : (text ≡ line) ⊎ ((rest : List ℕ) × (text ≡ line ++ 10 ∷ rest))

-- the text is the token, or it is none and refused
abbrev pub IsTokenOf : List ℕ → Result Token Failure → Type 0
IsTokenOf text came = MatchResult came (λ token. (token ≡ text) × (is_token text ≡ true))
    (λ fault. (fault ≡ Input) × (¬ (is_token text ≡ true)))

-- the first line of the text is
abbrev pub IsTokenIn : List ℕ → Result Token Failure → Type 0
IsTokenIn text came = (line : List ℕ) × IsFirstLine text line × IsTokenOf line came
