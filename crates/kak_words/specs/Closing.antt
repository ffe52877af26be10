-- Texts with places, and what stands before a closing mark.
use Rattle.std.specs.Prelude.{ℕ, ◌+◌, ◌-◌, ◌==◌, ◌&&◌, Bool, true, false, List, [], ◌∷◌, map, if◌then◌else◌, Option, Some, None, encode_utf8_all}
use Rattle.kak_words.specs.declared.placed.Placed.{Placed}
use Rattle.kak_words.specs.Characters.{ends_word, is_escapable}

-- the characters of a text, each with its place, of which the first is n
abbrev pub placed_from : ℕ → List ℕ → List Placed
placed_from n [] = []
placed_from n (c ∷ cs) = record { at = n; c = c } ∷ placed_from (n + 1) cs

-- the text of characters with places, in UTF-8
abbrev pub text_of : List Placed → List ℕ
text_of ps = encode_utf8_all (map (λ p. p.c) ps)

-- what stands before a closing mark, and what stands behind it
pub record SplitAtMark : Type 0 where
  pub inside : List Placed
  pub rest : List Placed

-- with one more character before the mark
abbrev pub after_one : Placed → SplitAtMark → SplitAtMark
after_one p s = record { inside = p ∷ s.inside; rest = s.rest }

-- the same where there may be no closing mark
abbrev pub after_one_if : Placed → Option SplitAtMark → Option SplitAtMark
after_one_if p None = None
after_one_if p (Some s) = Some (after_one p s)

-- up to a mark that isn't doubled; of a doubled one, one belongs to what stands before. `pending` says that a mark was
-- read, and not yet whether it is doubled
abbrev pub up_to : ℕ → Bool → List Placed → Option SplitAtMark
up_to mark false [] = None
up_to mark true [] = Some (record { inside = []; rest = [] })
up_to mark false (p ∷ ps) = if p.c == mark then up_to mark true ps else after_one_if p (up_to mark false ps)
up_to mark true (p ∷ ps) =
    if p.c == mark then after_one_if p (up_to mark false ps) else Some (record { inside = []; rest = p ∷ ps })

-- how many brackets of a pair are open behind a character
abbrev pub depth_behind : ℕ → ℕ → ℕ → ℕ → ℕ
depth_behind opening closing depth c =
    if c == opening then depth + 1 else (if c == closing then depth - 1 else depth)

-- up to the bracket that closes, where `depth` more are open
abbrev pub balanced : ℕ → ℕ → ℕ → List Placed → Option SplitAtMark
balanced opening closing depth [] = None
balanced opening closing depth (p ∷ ps) =
    if p.c == closing && depth == 0 then Some (record { inside = []; rest = ps })
    else after_one_if p (balanced opening closing (depth_behind opening closing depth p.c) ps)

-- up to what closes an opening mark: the bracket of its pair for { [ ( <, else the same mark
abbrev pub closed_by : ℕ → List Placed → Option SplitAtMark
closed_by mark ps =
    if mark == 123 then balanced 123 125 0 ps else (if mark == 91 then balanced 91 93 0 ps else
    (if mark == 40 then balanced 40 41 0 ps else (if mark == 60 then balanced 60 62 0 ps else up_to mark false ps)))

-- whether the character behind a backslash stands for itself
abbrev pub escapes : Bool → List Placed → Bool
escapes start [] = false
escapes start (p ∷ ps) = is_escapable start p.c

-- a plain word: up to a blank, a newline or a semicolon; `literal` says that the next character stands for itself
abbrev pub plain : Bool → Bool → List Placed → SplitAtMark
plain start literal [] = record { inside = []; rest = [] }
plain start true (p ∷ ps) = after_one p (plain false false ps)
plain start false (p ∷ ps) =
    if ends_word p.c then record { inside = []; rest = p ∷ ps } else
    (if p.c == 92 && escapes start ps then plain false true ps else after_one p (plain false false ps))
