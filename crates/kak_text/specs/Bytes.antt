-- Places of a line by characters and by the bytes of its UTF-8 form.
use Rattle.std.specs.Prelude.{ℕ, List, take, sum_by}
use Rattle.std.specs.Char.{len_utf8}

-- how many bytes the characters of a line take that stand before a place
abbrev pub bytes_before : List ℕ → ℕ → ℕ
bytes_before line place = sum_by len_utf8 (take place line)
