-- How far the characters of a selection were gone over, with the bytes of UTF-8 that were passed.
use Rattle.std.specs.Prelude.{◌≡◌, ℕ, zero, suc, ◌+◌, ◌*◌, ◌≤◌, List, [], ◌∷◌, length, encode_utf8}
use Rattle.text_model.specs.Texts.{offset, IsPlaceOrEnd}
use Rattle.selection_set.specs.declared.sel.Sel.{Sel}
use Rattle.selection_set.specs.Inside.{range_of}
use Rattle.regex_select.specs.declared.walking.SelectionWalk.{SelectionWalk}
use Rattle.regex_select.specs.Rows.{selected_chars}

-- how many bytes the first so many of some characters have
abbrev pub bytes_of_first : List ℕ → ℕ → ℕ
bytes_of_first cs zero = 0
bytes_of_first [] (suc n) = 0
bytes_of_first (c ∷ cs) (suc n) = length (encode_utf8 c) + bytes_of_first cs n

-- the characters of a selection
abbrev pub own_chars : List ℕ → Sel → List ℕ
own_chars text sel = selected_chars text (range_of text sel)

-- a walk has passed so many characters of a selection, and their bytes
pub record IsWalk (text : List ℕ) (sel : Sel) (w : SelectionWalk) : Type 0 where
  pub place : IsPlaceOrEnd text w.at
  pub reached : offset text w.at ≡ offset text sel.low + w.passed
  pub few : w.passed ≤ length (own_chars text sel)
  pub bytes : w.bytes ≡ bytes_of_first (own_chars text sel) w.passed
  pub small : w.bytes ≤ 4 * w.passed
