-- Where a place of a text goes when the text is changed.
use Rattle.std.specs.Prelude.{ℕ, ◌+◌, ◌-◌, min, nat_lt, nat_le, if◌then◌else◌}
use Rattle.text_model.specs.Changes.{Move}

-- through an insertion: what stands before it stays, the rest goes behind it
abbrev pub past_insertion : ℕ → ℕ → ℕ → ℕ
past_insertion p n o = if nat_lt o p then o else o + n

-- through an erasure of the range from p to before q: what stands in it or at its end goes to p
abbrev pub past_erasure : ℕ → ℕ → ℕ → ℕ
past_erasure p q o = if nat_lt o p then o else (if nat_le o q then p else o - (q - p))

-- where an offset goes through a change
abbrev pub moved : Move → ℕ → ℕ
moved m o = if m.insert then past_insertion m.begin (m.end - m.begin) o else past_erasure m.begin m.end o

-- the same, cut to the last character of the new text
abbrev pub shifted : Move → ℕ → ℕ
shifted m o = min (moved m o) m.last
