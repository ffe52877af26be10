-- Searching by the bytes at which matches begin.
use Rattle.std.specs.Prelude.{ℕ, zero, suc, ◌+◌, List, length, Option, encode_utf8_all}
use Rattle.list_model.specs.Ranges.{Range}
use Rattle.regex_ports.specs.declared.pattern.Span.{Span}
use Rattle.regex_ports.specs.Seeking.{first_behind, last_before}
use Rattle.directions.specs.declared.direction.Direction.{Direction}
use Rattle.directions.specs.declared.direction.Direction.TheVariants.{Forward, Backward}
use Rattle.regex_select.specs.Walks.{bytes_of_first}

-- the byte before which a match has to begin that begins before a character: that behind the first byte of the character
-- before it
abbrev pub byte_bound : List ℕ → ℕ → ℕ
byte_bound cs zero = 0
byte_bound cs (suc n) = bytes_of_first cs n + 1

-- which of some matches in the characters of a text is found from a selection
abbrev pub span_sought : Direction → List ℕ → List Span → Range → Option Span
span_sought Forward cs ss r = first_behind (bytes_of_first cs r.high) (length (encode_utf8_all cs)) ss
span_sought Backward cs ss r = last_before (byte_bound cs r.low) (length (encode_utf8_all cs)) ss
