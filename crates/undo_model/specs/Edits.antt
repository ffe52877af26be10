-- Edits: replacements at several places of a text, made one after another.
use Rattle.std.specs.Prelude.{ℕ, ◌+◌, ◌-◌, ◌≤◌, Bool, false, nat_lt, ◌||◌, List, [], ◌∷◌, ◌++◌, length}
use Rattle.text_model.specs.declared.TheConstants.{MAX_CHARS}
use Rattle.text_model.specs.Changes.{Change, all_changed, replacement}

-- a replacement: the range between two offsets of the text before the edit, and what takes its place
pub record Splice : Type 0 where
  pub from : ℕ
  pub «to» : ℕ
  pub put : List ℕ

-- replacements in order, of which each begins from a place on at the earliest, and that don't share characters
abbrev pub AreInOrder : ℕ → ℕ → List Splice → Type 0
AreInOrder from last [] = from ≤ last
AreInOrder from last (s ∷ ss) = (from ≤ s.from) × (s.from ≤ s.to) × AreInOrder s.to last ss

-- the single changes of one replacement in a text that had so many characters before the edit: its places have gone as far
-- as the text has grown
abbrev pub splice_changes : ℕ → List ℕ → Splice → List Change
splice_changes before text s = replacement text (s.from + length text - before) (s.to + length text - before) s.put

-- the single changes of an edit, from its first replacement to its last
abbrev pub edit_changes : ℕ → List ℕ → List Splice → List Change
edit_changes before text [] = []
edit_changes before text (s ∷ ss) = splice_changes before text s ++ edit_changes before (all_changed text (splice_changes before text s)) ss

-- whether the text behind one of the replacements is longer than a text may be
abbrev pub is_too_long : ℕ → List ℕ → List Splice → Bool
is_too_long before text [] = false
is_too_long before text (s ∷ ss) =
    nat_lt MAX_CHARS (length (all_changed text (splice_changes before text s))) || is_too_long before (all_changed text (splice_changes before text s)) ss
