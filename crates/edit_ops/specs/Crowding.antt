-- How much the replacements of an edit put in together, and that too much of it makes a text that is too long.
use Rattle.std.specs.Prelude.{◌≡◌, ℕ, zero, suc, ◌+◌, ◌<◌, true, List, [], ◌∷◌, length}
use Rattle.text_model.specs.declared.TheConstants.{MAX_CHARS}
use Rattle.text_model.specs.Texts.{IsStored}
use Rattle.undo_model.specs.Edits.{Splice, AreInOrder, edit_changes, is_too_long}
use Rattle.edit_ops.specs.Putting.{nth_string}

-- how many characters replacements put in together
abbrev pub put_together : List Splice → ℕ
put_together [] = 0
put_together (s ∷ ss) = length s.put + put_together ss

-- how many characters the strings for so many selections have together, from that of one number on
abbrev pub strings_together : List (List ℕ) → ℕ → ℕ → ℕ
strings_together strings n zero = 0
strings_together strings n (suc count) = length (nth_string strings n) + strings_together strings (n + 1) count

-- an edit that puts in more characters than a text may have makes a text that is too long, whatever it takes out; and an edit that
-- makes a text that is too long makes a change
pub record CrowdedEditsAreTooLong : Type 0 where
  pub too_long : (text : List ℕ) (splices : List Splice) → IsStored text → AreInOrder 0 (length text) splices → MAX_CHARS < put_together splices → is_too_long (length text) text splices ≡ true
  pub make_changes : (text : List ℕ) (splices : List Splice) → IsStored text → is_too_long (length text) text splices ≡ true → 0 < length (edit_changes (length text) text splices)
