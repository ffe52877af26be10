-- The examples hold by computation, with the table of widths open.
use Rattle.std.proofs.Common.{◌≡◌, [], ◌∷◌, refl, arith}
use Rattle.std.specs.Prelude.{decimal}
use Rattle.std.proofs.lemmas.Fmt.{decimal_digit}
use Rattle.unicode_width.proofs.Computing.{unicode_width}
use Rattle.line_painting.specs.Examples.{CharExamples, SignExamples, SignLineExamples, GroundExamples, NumberExamples, LineExamples, TabExamples, SeenExamples, ListExamples}
use Rattle.line_painting.proofs.laws.worked_examples.Goals as goal

chars : CharExamples
chars = search

signs : SignExamples
signs = search

sign_lines : SignLineExamples
unfolding unicode_width
sign_lines = search

grounds : GroundExamples
unfolding unicode_width
grounds = search

numbered : NumberExamples
unfolding unicode_width
numbered =
    let one : decimal 1 ≡ 49 ∷ [] = decimal_digit 1 (omega arith) in
    let two : decimal 2 ≡ 50 ∷ [] = decimal_digit 2 (omega arith) in
    record {
      part = refl;
      no_part_left = refl;
      no_numbers = refl;
      marked_line = rw (one, two) refl;
      unmarked_line = rw (one) refl;
      two_rows = rw (one) refl;
      not_cut = rw (one) refl;
      text_cut_whole = rw (one, two) refl;
      from_the_top = rw (two) refl;
    }

cells : LineExamples
unfolding unicode_width
cells = search

tabs : TabExamples
unfolding unicode_width
tabs = search

seen : SeenExamples
unfolding unicode_width
seen = search

lists : ListExamples
unfolding unicode_width
lists = search

pub returns : goal.returns
unfolding unicode_width
returns c = record {
  chars = chars;
  signs = signs;
  sign_lines = sign_lines;
  grounds = grounds;
  numbered = numbered;
  cells = cells;
  tabs = tabs;
  seen = seen;
  lists = lists;
  cursor_in_the_middle = refl;
  turned_selection = refl;
  two_selections = refl;
  cut_at_both_sides = refl;
  cut_whole = refl;
  from_the_top = refl;
  below_the_end = refl;
}
