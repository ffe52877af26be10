-- Where strings are put, and that this keeps the order of selections.
use Rattle.std.proofs.Common.{◌≡◌, ℕ, ◌+◌, ◌<◌, ◌≤◌, Bool, true, false, List, [], length, drop, get_or, ap, arith, inl}
use Rattle.std.specs.Prelude.{if◌then◌else◌, ◌||◌}
use Rattle.std.proofs.lemmas.List.{drop_more}
use Rattle.text_model.specs.declared.coords.Coord.{Coord}
use Rattle.text_model.specs.Texts.{IsPlace, offset, coord_at, lines_of, ends_in_newline}
use Rattle.text_model.proofs.PlaceLemmas.{coord_at-offset, offset-coord_at, IsPlace-coord_at, start-le, start-end, length-lines}
use Rattle.line_buffer.proofs.FlatLemmas.{ordered_lines}
use Rattle.edit_ops.specs.declared.kinds.Put.{Put}
use Rattle.edit_ops.specs.declared.kinds.Put.TheVariants.{Before, After, Over, BeforeCursor}
use Rattle.edit_ops.specs.Putting.{line_begin_of, line_behind, put_at, some_is_line}
use Rattle.edit_ops.proofs.EachLemmas.{KeepsOrder, cursor-in}

-- by coordinates: where the line of a place begins, and the line behind
pub line_begin-at : (text : List ℕ) (at : Coord) → IsPlace text at → line_begin_of text (offset text at) ≡ offset text (record { line = at.line; column = 0 })
line_begin-at text at h = ap (λ (c : Coord). offset text (record { line = c.line; column = 0 })) (coord_at-offset text at h)

pub line_behind-at : (text : List ℕ) (at : Coord) → IsPlace text at → line_behind text (offset text at) ≡ offset text (record { line = at.line + 1; column = 0 })
line_behind-at text at h = ap (λ (c : Coord). offset text (record { line = c.line + 1; column = 0 })) (coord_at-offset text at h)

-- later offsets are on later lines
pub lines-rise : (text : List ℕ) (a b : ℕ) → a ≤ b → b < length text → (coord_at text a).line ≤ (coord_at text b).line
lines-rise text a b h k =
    ordered_lines text (coord_at text a) (coord_at text b) (inl (IsPlace-coord_at text a (omega arith))) (inl (IsPlace-coord_at text b k)) (omega (arith, offset-coord_at text a (omega arith), offset-coord_at text b (omega arith)))

pub line_begin-rises : (text : List ℕ) (a b : ℕ) → a ≤ b → b < length text → line_begin_of text a ≤ line_begin_of text b
line_begin-rises text a b h k = omega (arith, start-le (lines_of text) (coord_at text a).line (coord_at text b).line (lines-rise text a b h k))

pub line_behind-rises : (text : List ℕ) (a b : ℕ) → a ≤ b → b < length text → line_behind text a ≤ line_behind text b
line_behind-rises text a b h k = omega (arith, start-le (lines_of text) ((coord_at text a).line + 1) ((coord_at text b).line + 1) (omega (arith, lines-rise text a b h k)))

pub line_begin-le : (text : List ℕ) (o : ℕ) → o < length text → line_begin_of text o ≤ o
line_begin-le text o h = omega (arith, offset-coord_at text o (omega arith))

pub line_behind-le : (text : List ℕ) (o : ℕ) → o < length text → line_behind text o ≤ length text
line_behind-le text o h =
    omega (arith, start-le (lines_of text) ((coord_at text o).line + 1) (length (lines_of text)) (omega (arith, (IsPlace-coord_at text o h).on_line)), start-end (lines_of text), length-lines text)

before-keeps : (text : List ℕ) (whole : Bool) (string : ℕ → List ℕ) → KeepsOrder (length text) (λ n r. put_at text whole Before (string n) r)
before-keeps text true string = record {
  ordered = λ n r o h. omega arith;
  ends = λ n r o h. omega (arith, line_begin-le text r.low (omega arith));
  apart = λ m n r s o h p l. line_begin-rises text r.low s.low (omega arith) (omega arith);
}
before-keeps text false string = record {
  ordered = λ n r o h. omega arith;
  ends = λ n r o h. omega arith;
  apart = λ m n r s o h p l. omega arith;
}

after-keeps : (text : List ℕ) (whole : Bool) (string : ℕ → List ℕ) → KeepsOrder (length text) (λ n r. put_at text whole After (string n) r)
after-keeps text true string = record {
  ordered = λ n r o h. omega arith;
  ends = λ n r o h. line_behind-le text r.high h;
  apart = λ m n r s o h p l. line_behind-rises text r.high s.high (omega arith) l;
}
after-keeps text false string = record {
  ordered = λ n r o h. omega arith;
  ends = λ n r o h. omega arith;
  apart = λ m n r s o h p l. omega arith;
}

pub puts-keep : (text : List ℕ) (whole : Bool) (how : Put) (string : ℕ → List ℕ) → KeepsOrder (length text) (λ n r. put_at text whole how (string n) r)
puts-keep text whole Before string = before-keeps text whole string
puts-keep text whole After string = after-keeps text whole string
puts-keep text whole Over string = record {
  ordered = λ n r o h. omega arith;
  ends = λ n r o h. omega arith;
  apart = λ m n r s o h p l. omega arith;
}
puts-keep text whole BeforeCursor string = record {
  ordered = λ n r o h. omega arith;
  ends = λ n r o h. let c = cursor-in r o in omega (arith, c.1);
  apart = λ m n r s o h p l. let c = cursor-in r o in let d = cursor-in s p in omega (arith, c.1, d.0);
}

-- a choice that was made
pub chosen : (b : Bool) (x a e : ℕ) → b ≡ true → x ≡ a → x ≡ (if b then a else e)
chosen true x a e h k = k
chosen false x a e h k = absurd (let n : false ≡ true = h in cc)

-- whether some string is a line, from one on
pub some_is_line-found : (strings : List (List ℕ)) (n : ℕ) → n < length strings → some_is_line (drop n strings) ≡ ends_in_newline (get_or strings n []) || some_is_line (drop (n + 1) strings)
some_is_line-found strings n h = ap some_is_line (drop_more strings n [] h)
