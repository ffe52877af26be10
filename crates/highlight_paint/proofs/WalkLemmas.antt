-- Walks over the characters of a line.
use Rattle.std.proofs.Common.{◌≡◌, ℕ, ◌+◌, ◌-◌, ◌<◌, ◌≤◌, List, length, get_or, ap, ◌∙◌, arith}
use Rattle.std.specs.Prelude.{encode_utf8}
use Rattle.regex_ports.specs.Matching.{chars_before}
use Rattle.regex_ports.proofs.CharLemmas.{encode-some, chars-step}
use Rattle.highlight_paint.specs.declared.walking.LineWalk.{LineWalk}
use Rattle.highlight_paint.specs.Walks.{IsLineWalk}

-- a walk of so many characters and bytes
abbrev pub walked : ℕ → ℕ → LineWalk
walked passed bytes = record { passed = passed; bytes = bytes }

pub walk-none : (line : List ℕ) → IsLineWalk line (walked 0 0)
walk-none line = record {
  few = omega arith;
  small = omega arith;
  rest = λ b h. let same : b ≡ b - 0 = omega arith in ap (chars_before line) same ∙ omega arith;
}

pub walk-more : (line : List ℕ) (w : LineWalk) (n m : ℕ) → IsLineWalk line w → w.passed < length line → n ≡ length (encode_utf8 (get_or line w.passed 0)) → n ≤ 4 → m ≡ w.bytes + n → IsLineWalk line (walked (w.passed + 1) m)
walk-more line w n m h inside bytes few is = record {
  few = omega arith;
  small = omega (arith, h.small, few, is);
  rest = λ b le. h.rest b (omega (arith, le, is)) ∙ chars-step line w.passed b w.bytes m inside (omega (arith, le, is, bytes, encode-some (get_or line w.passed 0))) (is ∙ ap (λ k. w.bytes + k) bytes);
}
