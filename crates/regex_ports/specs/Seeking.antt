-- Which of some matches is found from a byte of a text on. One that begins at the text's end, which is empty, is never found.
use Rattle.std.specs.Prelude.{ℕ, Bool, ◌&&◌, nat_lt, if◌then◌else◌, List, [], ◌∷◌, Option, Some, None}
use Rattle.std.specs.Option.{option_or}
use Rattle.regex_ports.specs.declared.pattern.Span.{Span}

-- the first of some spans that passes a test, and the last one
abbrev pub first_span_where : (Span → Bool) → List Span → Option Span
first_span_where test [] = None
first_span_where test (s ∷ ss) = if test s then Some s else first_span_where test ss

abbrev pub last_where : (Span → Bool) → List Span → Option Span
last_where test [] = None
last_where test (s ∷ ss) = option_or (last_where test ss) (if test s then Some s else None)

-- whether a span begins before a byte
abbrev pub span_begins_before : ℕ → Span → Bool
span_begins_before byte s = nat_lt s.start byte

-- whether a span begins behind a byte, and before the text's end
abbrev pub begins_between : ℕ → ℕ → Span → Bool
begins_between byte end s = nat_lt byte s.start && nat_lt s.start end

-- the first one that begins behind a byte, or, where none does, the first one; the text has `end` bytes
abbrev pub first_behind : ℕ → ℕ → List Span → Option Span
first_behind byte end ss = option_or (first_span_where (begins_between byte end) ss) (first_span_where (span_begins_before end) ss)

-- the last one that begins before a byte, or, where none does, the last one
abbrev pub last_before : ℕ → ℕ → List Span → Option Span
last_before byte end ss = option_or (last_where (span_begins_before byte) ss) (last_where (span_begins_before end) ss)
