-- Lemmas on lines that come one behind another.
use Rattle.std.proofs.Common.{◌≡◌, ℕ, zero, suc, ◌+◌, ◌<◌, ◌≤◌, List, [], ◌∷◌, ◌++◌, length, All, ap, sym, subst, ◌∙◌, append-nil, ◌-◌, length-append, arith}
use Rattle.std.proofs.lemmas.List.Elements.{All-append}
use Rattle.std.specs.Str.{chars, IsUtf8}
use Rattle.std.proofs.lemmas.Str.{length-le-encodes, encodes-chars}
use Rattle.text_model.specs.declared.TheConstants.{MAX_CHARS}
use Rattle.text_model.specs.Texts.{IsLine, joined}
use Rattle.text_model.proofs.LineLemmas.{joined-append}
use Rattle.line_buffer.specs.Buffer.{IsBuffer}
use Rattle.line_buffer.proofs.BufferLemmas.{is_buffer}

-- what is kept with lines that come
abbrev pub AreGrowing : List (List ℕ) → ℕ → Type 0
AreGrowing ls count = All IsLine ls × (count ≡ length (joined ls)) × (count ≤ MAX_CHARS)

pub grown-text : (ls new : List (List ℕ)) (line : List ℕ) → new ≡ ls ++ line ∷ [] → joined new ≡ joined ls ++ line
grown-text ls new line e = ap joined e ∙ joined-append ls (line ∷ []) ∙ ap (λ t. joined ls ++ t) (append-nil line)

one-line : (line : List ℕ) → IsLine line → All IsLine (line ∷ [])
one-line line h zero d lt = h
one-line line h (suc k) d lt = absurd (omega (arith, lt))

pub grown-lines : (ls new : List (List ℕ)) (count now : ℕ) (line : List ℕ) → AreGrowing ls count → IsLine line → new ≡ ls ++ line ∷ [] → now ≡ count + length line → length line ≤ MAX_CHARS - count → AreGrowing new now
grown-lines ls new count now line h l e n room =
    let count-is : length (joined new) ≡ length (joined ls) + length line = ap length (grown-text ls new line e) ∙ length-append (joined ls) line in
    (subst (All IsLine) (sym e) (All-append IsLine ls (line ∷ []) h.0 (one-line line l)), omega (arith, n, h.1, count-is), omega (arith, n, h.2, room))

pub grown-buffer : (ls : List (List ℕ)) (count : ℕ) → AreGrowing ls count → 0 < length (joined ls) → IsBuffer ls count
grown-buffer [] count h some = absurd (omega (arith, some))
grown-buffer (l ∷ ls) count h some = is_buffer (l ∷ ls) count h.0 (omega arith) (omega (arith, h.1, h.2)) h.1

-- a string has no more characters than bytes
pub few_chars : (bytes : List ℕ) → IsUtf8 bytes → length (chars bytes) ≤ length bytes
few_chars bytes utf8 = omega (arith, length-le-encodes (chars bytes), ap length (encodes-chars bytes utf8))
