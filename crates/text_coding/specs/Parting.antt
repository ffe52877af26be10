-- A text that was parted at its first newline.
use Rattle.std.specs.Prelude.{◌≡◌, ◌≢◌, ℕ, List, [], ◌∷◌, ◌++◌, All, chars}
use Rattle.text_coding.specs.declared.lines.Parted.{Parted}

-- no newline stands before it, the line is what stands before it with the newline, and behind that stands the rest
pub record IsParted (parted : Parted) (text : List ℕ) : Type 0 where
  pub plain : All (λ c. c ≢ 10) (chars parted.run.now)
  pub line : chars parted.line.now ≡ chars parted.run.now ++ 10 ∷ []
  pub whole : chars text ≡ chars parted.run.now ++ 10 ∷ chars parted.behind.now
