-- Worked examples of edits that go by lines, which hold by computation.
use Rattle.std.specs.Prelude.{◌≡◌, ℕ, List, [], ◌∷◌, codes}
use Rattle.list_model.specs.Ranges.{Range, only}
use Rattle.edit_ops.specs.declared.kinds.Indent.{Indent}
use Rattle.edit_ops.specs.declared.kinds.Indent.TheVariants.{More, Less}
use Rattle.edit_ops.specs.Samples.{straight, turned}
use Rattle.edit_ops.specs.Joining.{joins}
use Rattle.edit_ops.specs.Indenting.{indents}
use Rattle.edit_ops.specs.Leaving.{edited_text}

-- a text whose lines were joined
abbrev pub text_joined : List ℕ → List Range → List ℕ
text_joined text rs = edited_text text (joins text rs)

-- a text whose lines were indented, where tabs reach each eighth column
abbrev pub indented : List ℕ → Indent → ℕ → List Range → List ℕ
indented text how width rs = edited_text text (indents text how width 8 rs)

pub record JoinExamples : Type 0 where
  pub two_lines : text_joined (codes "a\nb\n") (straight 0 3 ∷ []) ≡ codes "a b\n"
  pub each_newline_becomes_a_space : text_joined (codes "a\n\nb\n") (straight 0 4 ∷ []) ≡ codes "a  b\n"
  pub blanks_go : text_joined (codes "a\n  b\n") (only 0 ∷ []) ≡ codes "a b\n"
  pub tabs_go_too : text_joined (codes "a\n\t b\n") (only 1 ∷ []) ≡ codes "a b\n"
  pub wide_spaces_go_too : text_joined (97 ∷ 10 ∷ 0x3000 ∷ 98 ∷ 10 ∷ []) (only 0 ∷ []) ≡ codes "a b\n"
  pub line_of_blanks : text_joined (codes "a\n  \nb\n") (only 0 ∷ []) ≡ codes "a \nb\n"
  pub and_the_next : text_joined (codes "a\n  \n b\n") (straight 0 5 ∷ []) ≡ codes "a  b\n"
  pub last_line_has_no_next : text_joined (codes "a\nb\n") (straight 2 3 ∷ []) ≡ codes "a\nb\n"
  pub last_newline_stays : text_joined (codes "a\n") (straight 0 1 ∷ []) ≡ codes "a\n"
  pub last_touched_line_stays : text_joined (codes "a\nb\nc\n") (straight 0 2 ∷ []) ≡ codes "a b\nc\n"
  pub turned_counts_the_same : text_joined (codes "a\nb\nc\n") (turned 0 2 ∷ []) ≡ codes "a b\nc\n"
  pub its_newline_is_on_a_line : text_joined (codes "a\nb\nc\n") (only 1 ∷ []) ≡ codes "a b\nc\n"
  pub two_on_a_line : text_joined (codes "ab\nc\n") (only 0 ∷ only 1 ∷ []) ≡ codes "ab c\n"
  pub and_one_on_the_next : text_joined (codes "a\nb\nc\n") (straight 0 2 ∷ only 3 ∷ []) ≡ codes "a b c\n"
  pub lines_between_stay : text_joined (codes "a\nb\nc\nd\n") (only 0 ∷ only 4 ∷ []) ≡ codes "a b\nc d\n"

pub record IndentExamples : Type 0 where
  pub empty_lines_stay : indented (codes "a\n\nb\n") More 4 (straight 0 4 ∷ []) ≡ codes "    a\n\n    b\n"
  pub a_tab_for_no_width : indented (codes "a\n") More 0 (only 0 ∷ []) ≡ codes "\ta\n"
  pub before_its_blanks : indented (codes " a\n") More 2 (only 2 ∷ []) ≡ codes "   a\n"
  pub line_of_blanks_too : indented (codes " \nb\n") More 2 (only 0 ∷ []) ≡ codes "   \nb\n"
  pub two_on_a_line : indented (codes "ab\nc\n") More 2 (only 0 ∷ only 2 ∷ []) ≡ codes "  ab\nc\n"
  pub once_on_each : indented (codes "ab\nc\n") More 2 (only 0 ∷ straight 1 3 ∷ only 4 ∷ []) ≡ codes "  ab\n  c\n"
  pub turned_counts_the_same : indented (codes "a\nb\nc\n") More 1 (turned 0 3 ∷ []) ≡ codes " a\n b\nc\n"
  pub two_spaces_stay : indented (codes "      a\n") Less 4 (only 6 ∷ []) ≡ codes "  a\n"
  pub fewer_go_all : indented (codes "  a\n") Less 4 (only 0 ∷ []) ≡ codes "a\n"
  pub no_blanks : indented (codes "a b\n") Less 4 (only 0 ∷ []) ≡ codes "a b\n"
  pub wider_tab_stays : indented (codes "\ta\n") Less 4 (only 0 ∷ []) ≡ codes "\ta\n"
  pub tab_goes_for_no_width : indented (codes "\ta\n") Less 0 (only 0 ∷ []) ≡ codes "a\n"
  pub tab_reaches_its_stop : indented (codes "  \ta\n") Less 8 (only 0 ∷ []) ≡ codes "a\n"
  pub spaces_before_a_wider_tab : indented (codes "  \ta\n") Less 4 (only 0 ∷ []) ≡ codes "\ta\n"
  pub wide_space_takes_two : indented (0x3000 ∷ 0x3000 ∷ 97 ∷ 10 ∷ []) Less 3 (only 0 ∷ []) ≡ 0x3000 ∷ 97 ∷ 10 ∷ []
  pub line_of_blanks_keeps_its_newline : indented (codes "  \nb\n") Less 4 (straight 0 2 ∷ []) ≡ codes "\nb\n"
  pub touched_lines_alone : indented (codes " a\n b\n c\n") Less 4 (straight 2 4 ∷ []) ≡ codes "a\nb\n c\n"

-- all of them
pub record LineExamples : Type 0 where
  pub joining : JoinExamples
  pub indenting : IndentExamples
