-- Worked examples of sentences, which hold by computation.
use Rattle.std.specs.Prelude.{◌≡◌, None, Some, codes}
use Rattle.motion_keys.specs.Words.{ends}
use Rattle.text_objects.specs.declared.kinds.Object.TheVariants.{Sentence}
use Rattle.text_objects.specs.Objects.{inner, around}

pub record InnerSentences : Type 0 where
  pub to_the_stop : inner Sentence (codes "ab. cd\n") 0 8 ≡ Some (ends 0 2)
  pub from_the_blank_behind : inner Sentence (codes "ab. cd\n") 3 8 ≡ Some (ends 0 2)
  pub to_before_the_newline : inner Sentence (codes "ab. cd\n") 4 8 ≡ Some (ends 4 5)
  pub from_the_newline : inner Sentence (codes "ab. cd\n") 6 8 ≡ Some (ends 4 5)
  pub over_lines : inner Sentence (codes "a\nb. c\n") 0 8 ≡ Some (ends 0 3)
  pub a_stop_at_a_line_end : inner Sentence (codes "a.\nb\n") 3 8 ≡ Some (ends 3 3)
  pub begins_with_its_paragraph : inner Sentence (codes " a. b\n") 1 8 ≡ Some (ends 0 2)
  pub no_blank_behind_the_stop : inner Sentence (codes "3.5 x\n") 0 8 ≡ Some (ends 0 4)
  pub question : inner Sentence (codes "a? b! c; d\n") 0 8 ≡ Some (ends 0 1)
  pub exclamation : inner Sentence (codes "a? b! c; d\n") 3 8 ≡ Some (ends 3 4)
  pub semicolon : inner Sentence (codes "a? b! c; d\n") 7 8 ≡ Some (ends 6 7)
  pub a_stop_alone : inner Sentence (codes "a. . b\n") 3 8 ≡ Some (ends 3 3)
  pub several_stops : inner Sentence (codes "a... b\n") 0 8 ≡ Some (ends 0 3)
  pub not_over_paragraphs : inner Sentence (codes "a.\n\n  b\n") 6 8 ≡ Some (ends 4 6)
  pub not_on_an_empty_line : inner Sentence (codes "ab.\n\ncd\n") 4 8 ≡ None

pub record AroundSentences : Type 0 where
  pub to_the_next : around Sentence (codes "ab. cd\n") 0 8 ≡ Some (ends 0 3)
  pub to_the_end : around Sentence (codes "ab. cd\n") 5 8 ≡ Some (ends 4 6)
  pub over_empty_lines : around Sentence (codes "ab.\n\ncd\n") 0 8 ≡ Some (ends 0 4)
  pub empty_lines_at_the_end : around Sentence (codes "ab\n\n\n") 0 8 ≡ Some (ends 0 4)
  pub blanks_begin_a_paragraph : around Sentence (codes "a.\n\n  b\n") 0 8 ≡ Some (ends 0 3)
  pub not_on_an_empty_line : around Sentence (codes "ab.\n\ncd\n") 4 8 ≡ None

-- all of them
pub record SentenceExamples : Type 0 where
  pub inner : InnerSentences
  pub around : AroundSentences
