-- Worked examples of texts behind single changes.
use Rattle.std.specs.Prelude.{◌≡◌, false, List, [], ◌∷◌, take, codes, Some, None}
use Rattle.text_model.specs.Changes.{Change, Insertion}
use Rattle.kak_world.specs.Flat.{Buffer, Flat, opening, made_buffer}
use Rattle.kak_world.specs.Changing.{buffer_edited, buffer_broken_off}
use Rattle.kak_engine.specs.Course.{Began, GoesNormal, GrantsLeave}
use Rattle.step_texts.specs.Texts.{texts_of, texts_changed, HasSameTexts}
use Rattle.step_texts.specs.Courses.{GoThrough, AreTextsLeft}

-- an a goes in before each of two lines
abbrev pub typed : List Change
typed = Insertion 0 (codes "a") ∷ Insertion 3 (codes "a") ∷ []

abbrev pub lines : Buffer
lines = made_buffer (codes "*scratch*") false (codes "x\ny\n")

-- a world with one buffer
abbrev pub holding : Buffer → Flat
holding b = record opening { buffers = Some b ∷ [] }

pub record Examples : Type 0 where
  -- the text that is there first
  pub first : texts_of opening ≡ Some (codes "\n") ∷ []
  -- the texts behind none of the changes, behind the first, and behind both
  pub behind_none : texts_changed 0 (take 0 typed) (texts_of (holding lines)) ≡ Some (codes "x\ny\n") ∷ []
  pub behind_one : texts_changed 0 (take 1 typed) (texts_of (holding lines)) ≡ Some (codes "ax\ny\n") ∷ []
  pub behind_both : texts_changed 0 (take 2 typed) (texts_of (holding lines)) ≡ Some (codes "ax\nay\n") ∷ []
  -- another number's text stays, and no buffer has one
  pub other : texts_changed 1 typed (Some (codes "x\ny\n") ∷ None ∷ []) ≡ Some (codes "x\ny\n") ∷ None ∷ []
  -- a world in which some were made has these texts, behind an edit and behind a move
  pub edited : texts_of (holding (buffer_edited 7 (take 1 typed) lines)) ≡ Some (codes "ax\ny\n") ∷ []
  pub moved : texts_of (holding (buffer_broken_off (take 1 typed) lines)) ≡ Some (codes "ax\ny\n") ∷ []
  -- no task began: the text is the one from before
  pub none_began : AreTextsLeft (HasSameTexts (holding lines)) [] (holding lines)
  -- a client comes to normal mode, and nothing is made of a text
  pub nothing : AreTextsLeft (HasSameTexts (holding lines)) (Began 7 GoesNormal (holding lines) ∷ []) (holding lines)
  -- another text isn't one of that task
  pub another : AreTextsLeft (HasSameTexts (holding lines)) (Began 7 GoesNormal (holding lines) ∷ []) (holding (buffer_edited 7 (take 1 typed) lines)) → ⊥
  -- tasks go on with the texts that the one before them left
  pub goes_on : GoThrough (texts_of (holding lines)) (Began 7 GoesNormal (holding lines) ∷ Began 7 GrantsLeave (holding lines) ∷ []) (texts_of (holding lines))
  pub breaks_off : GoThrough (texts_of (holding lines)) (Began 7 GoesNormal opening ∷ []) (texts_of opening) → ⊥
