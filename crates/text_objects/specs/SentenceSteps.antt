-- Steps from a place to its neighbours in one paragraph.
use Rattle.std.specs.Prelude.{◌≡◌, ℕ, ◌+◌, true, List}
use Rattle.text_model.specs.declared.coords.Coord.{Coord}
use Rattle.text_model.specs.Texts.{offset, IsPlace}
use Rattle.text_objects.specs.LineObjects.{is_full}
use Rattle.text_objects.specs.Sentences.{paragraph_begin, paragraph_end}

-- a place right before another one of its paragraph
pub record IsBefore (text : List ℕ) (b at : Coord) : Type 0 where
  pub place : IsPlace text b
  pub next : offset text b + 1 ≡ offset text at
  pub full : is_full text b.line ≡ true
  pub same : paragraph_begin text (offset text b) ≡ paragraph_begin text (offset text at)

-- a place right behind another one of its paragraph
pub record IsNextBehind (text : List ℕ) (b at : Coord) : Type 0 where
  pub place : IsPlace text b
  pub next : offset text b ≡ offset text at + 1
  pub full : is_full text b.line ≡ true
  pub same : paragraph_end text (offset text b) ≡ paragraph_end text (offset text at)
