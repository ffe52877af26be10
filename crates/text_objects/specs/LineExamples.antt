-- Worked examples of the objects that are runs of lines, which hold by computation.
use Rattle.std.specs.Prelude.{◌≡◌, None, Some, codes}
use Rattle.motion_keys.specs.Words.{ends}
use Rattle.text_objects.specs.declared.kinds.Object.TheVariants.{Paragraph, Indent}
use Rattle.text_objects.specs.Objects.{inner, around}

pub record ParagraphExamples : Type 0 where
  pub lines : inner Paragraph (codes "a\n\nb\nc\n\n\nd\n") 3 8 ≡ Some (ends 3 6)
  pub from_a_newline : inner Paragraph (codes "a\n\nb\nc\n\n\nd\n") 4 8 ≡ Some (ends 3 6)
  pub first : inner Paragraph (codes "a\n\nb\nc\n\n\nd\n") 0 8 ≡ Some (ends 0 1)
  pub last : inner Paragraph (codes "a\n\nb\nc\n\n\nd\n") 9 8 ≡ Some (ends 9 10)
  pub not_on_an_empty_line : inner Paragraph (codes "a\n\nb\nc\n\n\nd\n") 2 8 ≡ None
  pub a_line_of_blanks : inner Paragraph (codes "a\n \nb\n") 0 8 ≡ Some (ends 0 5)
  pub empty_lines_behind : around Paragraph (codes "a\n\nb\nc\n\n\nd\n") 5 8 ≡ Some (ends 3 8)
  pub none_behind : around Paragraph (codes "a\n\nb\nc\n\n\nd\n") 10 8 ≡ Some (ends 9 10)
  pub to_the_end : around Paragraph (codes "a\n\n\n") 0 8 ≡ Some (ends 0 3)
  pub not_around_an_empty_line : around Paragraph (codes "a\n\nb\n") 2 8 ≡ None

pub record IndentExamples : Type 0 where
  pub deeper_lines_too : inner Indent (codes "a\n b\n\n  c\nd\n") 3 8 ≡ Some (ends 2 9)
  pub without_empty_ends : inner Indent (codes "a\n b\n\n  c\nd\n") 8 8 ≡ Some (ends 6 9)
  pub with_empty_ends : around Indent (codes "a\n b\n\n  c\nd\n") 8 8 ≡ Some (ends 5 9)
  pub all_lines : inner Indent (codes "a\n b\n\n  c\nd\n") 0 8 ≡ Some (ends 0 11)
  pub not_on_an_empty_line : inner Indent (codes "a\n b\n\n  c\nd\n") 5 8 ≡ None
  pub not_around_an_empty_line : around Indent (codes "a\n b\n\n  c\nd\n") 5 8 ≡ None
  pub several_empty_lines : inner Indent (codes "\n\n a\n\n") 3 8 ≡ Some (ends 2 4)
  pub around_them : around Indent (codes "\n\n a\n\n") 3 8 ≡ Some (ends 0 5)
  pub a_tab_is_eight_blanks : inner Indent (codes "\ta\n        b\n") 11 8 ≡ Some (ends 0 12)
  pub or_four : inner Indent (codes "\ta\n        b\n") 11 4 ≡ Some (ends 3 12)
  pub a_line_of_blanks : inner Indent (codes " a\n \n") 1 8 ≡ Some (ends 0 4)
  pub too_few_blanks : inner Indent (codes "  a\n \n") 2 8 ≡ Some (ends 0 3)

-- all of them
pub record LineExamples : Type 0 where
  pub paragraphs : ParagraphExamples
  pub indents : IndentExamples
