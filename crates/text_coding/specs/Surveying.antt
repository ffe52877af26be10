-- What is known of the characters of a file once they have been gone over, before the text is made.
use Rattle.std.specs.Prelude.{◌≡◌, ℕ, List, [], ◌∷◌, length}
use Rattle.text_coding.specs.declared.decoding.Survey.{Survey}
use Rattle.text_coding.specs.Coding.{without_returns}

-- the last character; that of none is the one before them
abbrev pub last_of : ℕ → List ℕ → ℕ
last_of before [] = before
last_of before (c ∷ cs) = last_of c cs

-- a survey says how many characters there are, with and without the returns that stand before newlines, and which is the
-- last
pub record IsSurvey (survey : Survey) (cs : List ℕ) : Type 0 where
  pub plain : survey.plain ≡ length cs
  pub short : survey.short ≡ length (without_returns cs)
  pub before : survey.before ≡ last_of 0 cs
