-- The lines that sum a session up.
use Rattle.std.specs.Prelude.{ℕ, List, ◌++◌, codes, decimal}

-- the first lines: how many entries, characters and lines there are
abbrev pub head_text : ℕ → ℕ → ℕ → List ℕ
head_text entries chars lines =
    codes "entries " ++ (decimal entries ++ (codes "\nchars " ++ (decimal chars ++ (codes "\nlines " ++ (decimal lines ++ codes "\n")))))

-- the line of a client: how many selections it has
abbrev pub sels_line : ℕ → ℕ → List ℕ
sels_line who sels = codes "client" ++ (decimal who ++ (codes " sels " ++ (decimal sels ++ codes "\n")))
