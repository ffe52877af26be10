-- The characters that rows are, whichever way they are kept.
use Rattle.std.specs.Prelude.{◌<◌, ◌≤◌, ℕ, List, slice_index}
use Rattle.compact_chars.specs.declared.lent.CharsRef.{CharsRef}
use Rattle.compact_chars.specs.declared.lent.CharsRef.TheVariants as lent
use Rattle.compact_chars.specs.declared.kept.Kept.{Kept}
use Rattle.compact_chars.specs.declared.kept.Kept.TheVariants as kept

-- the characters that are lent; a byte is the character with its number
abbrev pub chars_of : CharsRef → List ℕ
chars_of (lent.Narrow bytes) = bytes.now
chars_of (lent.Wide chars) = chars.now

-- the characters that are kept
abbrev pub chars_kept : Kept → List ℕ
chars_kept (kept.Narrow bytes) = bytes.items
chars_kept (kept.Wide chars) = chars.items

-- characters with numbers below 256
abbrev pub AreNarrow : List ℕ → Type 0
AreNarrow chars = (n : ℕ) → slice_index chars n < 256

-- characters of which one has a number from 256 on
abbrev pub HasWide : List ℕ → Type 0
HasWide chars = (n : ℕ) × (256 ≤ slice_index chars n)
