-- Lists of single changes, one after another, and what takes them back.
use Rattle.std.specs.Prelude.{ℕ, ◌-◌, ◌<◌, List, [], ◌∷◌, ◌++◌, length, ⊤}
use Rattle.text_model.specs.Texts.{IsStored}
use Rattle.text_model.specs.Changes.{Change, Insertion, Erasure, changed, inverse, IsChangeInside}

-- how many characters a change puts in or takes out
abbrev pub size : Change → ℕ
size (Insertion p s) = length s
size (Erasure p q) = q - p

-- a change of a text: it lies inside it, puts in or takes out some character, and leaves a text that can be kept
pub record IsStep (text : List ℕ) (c : Change) : Type 0 where
  pub inside : IsChangeInside text c
  pub some : 0 < size c
  pub stored : IsStored (changed text c)

-- changes of a text, one after another
abbrev pub AreSteps : List ℕ → List Change → Type 0
AreSteps text [] = ⊤
AreSteps text (c ∷ cs) = IsStep text c × AreSteps (changed text c) cs

-- what takes changes of a text back: their inverses, from the last to the first
abbrev pub undoing : List ℕ → List Change → List Change
undoing text [] = []
undoing text (c ∷ cs) = undoing (changed text c) cs ++ inverse text c ∷ []
