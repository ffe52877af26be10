-- Worked examples of the motions by words, which hold by computation.
use Rattle.std.specs.Prelude.{◌≡◌, None, Some, codes}
use Rattle.motion_keys.specs.declared.words.WordKind.TheVariants.{Small, Big}
use Rattle.motion_keys.specs.declared.words.WordMove.TheVariants.{Next, End, Back}
use Rattle.motion_keys.specs.Words.{ends, word_ends}

-- from a cursor to the end of the word, three times
pub record EndExamples : Type 0 where
  pub first_word : word_ends End Small (codes "foo, bar\n") 0 ≡ Some (ends 0 2)
  pub mark : word_ends End Small (codes "foo, bar\n") 2 ≡ Some (ends 3 3)
  pub blank_and_word : word_ends End Small (codes "foo, bar\n") 3 ≡ Some (ends 4 7)
  pub mark_in_big_word : word_ends End Big (codes "foo, bar\n") 0 ≡ Some (ends 0 3)
  pub blanks_at_line_end : word_ends End Small (codes "a  \nb\n") 0 ≡ Some (ends 1 2)
  pub over_newlines : word_ends End Small (codes "a\n\nbc\n") 0 ≡ Some (ends 3 4)
  pub not_at_the_last : word_ends End Small (codes "ab\n") 2 ≡ None
  pub not_before_the_last : word_ends End Small (codes "ab\n") 1 ≡ None

-- to before the next word
pub record NextExamples : Type 0 where
  pub word_and_blank : word_ends Next Small (codes "foo bar\n") 0 ≡ Some (ends 0 3)
  pub last_word : word_ends Next Small (codes "foo bar\n") 3 ≡ Some (ends 4 6)
  pub no_more_words : word_ends Next Small (codes "foo bar\n") 6 ≡ None
  pub word_alone : word_ends Next Small (codes "foo, bar\n") 0 ≡ Some (ends 0 2)
  pub mark_in_big_word : word_ends Next Big (codes "foo, bar\n") 0 ≡ Some (ends 0 4)
  pub blanks_alone : word_ends Next Small (codes "a  b\n") 0 ≡ Some (ends 1 2)
  pub over_newlines : word_ends Next Small (codes "a\n\nb\n") 0 ≡ Some (ends 3 3)
  pub only_newlines : word_ends Next Small (codes "\n\n") 0 ≡ None

-- back to the start of the word
pub record BackExamples : Type 0 where
  pub word : word_ends Back Small (codes "foo, bar\n") 7 ≡ Some (ends 7 5)
  pub blank_and_mark : word_ends Back Small (codes "foo, bar\n") 5 ≡ Some (ends 4 3)
  pub mark_in_big_word : word_ends Back Big (codes "foo, bar\n") 5 ≡ Some (ends 4 0)
  pub blanks_at_text_start : word_ends Back Small (codes "  a\n") 2 ≡ Some (ends 1 0)
  pub blanks_at_line_start : word_ends Back Small (codes "a\n  b\n") 4 ≡ Some (ends 3 2)
  pub over_newlines : word_ends Back Small (codes "ab\n\nc\n") 4 ≡ Some (ends 1 0)
  pub not_at_the_first : word_ends Back Small (codes "ab\n") 0 ≡ None
  pub behind_newlines : word_ends Back Small (codes "\n\na\n") 2 ≡ None

-- all of them
pub record WordExamples : Type 0 where
  pub ends : EndExamples
  pub nexts : NextExamples
  pub backs : BackExamples
