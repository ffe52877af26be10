-- What stands on the screen of a client, as bytes.
use Rattle.std.specs.Prelude.{ℕ, List, encode_utf8_all}
use Rattle.std.specs.List.{flat_map}
use Rattle.text_model.specs.Changes.{ended}
use Rattle.drawings.specs.declared.drawing.Atom.{Atom}
use Rattle.drawings.specs.declared.drawing.DrawnLine.{DrawnLine}

-- the characters of atoms, in order
abbrev pub contents_of : List Atom → List ℕ
contents_of atoms = flat_map (λ atom. atom.contents) atoms

-- a line of the screen: the characters of its atoms, with a newline behind them where they don't end in one
abbrev pub screen_line : DrawnLine → List ℕ
screen_line line = ended (contents_of line.atoms)

-- its bytes
abbrev pub screen_line_bytes : DrawnLine → List ℕ
screen_line_bytes line = encode_utf8_all (screen_line line)

-- the bytes of all lines of a screen, in order
abbrev pub screen_bytes : List DrawnLine → List ℕ
screen_bytes lines = flat_map screen_line_bytes lines
