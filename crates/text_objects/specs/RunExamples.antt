-- Worked examples of the objects that are runs of characters, which hold by computation.
use Rattle.std.specs.Prelude.{◌≡◌, None, Some, ◌∷◌, codes}
use Rattle.motion_keys.specs.Words.{ends}
use Rattle.text_objects.specs.declared.kinds.Object.TheVariants.{Word, BigWord, Blanks, Number}
use Rattle.text_objects.specs.Objects.{inner, around}

pub record WordExamples : Type 0 where
  pub word : inner Word (codes "foo, bar\n") 1 8 ≡ Some (ends 0 2)
  pub last_word : inner Word (codes "foo, bar\n") 7 8 ≡ Some (ends 5 7)
  pub not_on_a_mark : inner Word (codes "foo, bar\n") 3 8 ≡ None
  pub not_on_a_blank : inner Word (codes "foo, bar\n") 4 8 ≡ None
  pub not_on_the_newline : inner Word (codes "ab\n") 2 8 ≡ None
  pub without_the_next_line : inner Word (codes "ab\ncd\n") 1 8 ≡ Some (ends 0 1)
  pub blanks_behind : around Word (codes "a  b\n") 0 8 ≡ Some (ends 0 2)
  pub no_blanks_behind : around Word (codes "foo, bar\n") 1 8 ≡ Some (ends 0 2)
  pub no_blanks_before : around Word (codes " a\n") 1 8 ≡ Some (ends 1 1)
  pub no_newline : around Word (codes "ab \ncd\n") 0 8 ≡ Some (ends 0 2)
  pub not_around_a_blank : around Word (codes "a b\n") 1 8 ≡ None
  pub big_word : inner BigWord (codes "foo, bar\n") 3 8 ≡ Some (ends 0 3)
  pub around_big_word : around BigWord (codes "foo, bar\n") 1 8 ≡ Some (ends 0 4)
  pub no_big_word : inner BigWord (codes "foo, bar\n") 4 8 ≡ None

pub record BlankExamples : Type 0 where
  pub blanks : inner Blanks (codes "a \t b\n") 2 8 ≡ Some (ends 1 3)
  pub one_blank : inner Blanks (codes "a \n b\n") 1 8 ≡ Some (ends 1 1)
  pub not_on_a_newline : inner Blanks (codes "a \n b\n") 2 8 ≡ None
  pub not_on_a_word : inner Blanks (codes "a \n b\n") 0 8 ≡ None
  pub newlines_too : around Blanks (codes "a \n b\n") 1 8 ≡ Some (ends 1 3)
  pub from_a_newline : around Blanks (codes "a \n b\n") 2 8 ≡ Some (ends 1 3)
  pub at_the_end : around Blanks (codes "a \n\n") 1 8 ≡ Some (ends 1 3)
  pub not_around_a_word : around Blanks (codes "a \n b\n") 4 8 ≡ None

-- 0x0661 is a digit, but none of ASCII
pub record NumberExamples : Type 0 where
  pub number : inner Number (codes "a-12b\n") 2 8 ≡ Some (ends 2 3)
  pub first_and_last_digit : inner Number (codes "09\n") 1 8 ≡ Some (ends 0 1)
  pub not_on_a_word : inner Number (codes "a-12b\n") 4 8 ≡ None
  pub other_digits : inner Number (0x0661 ∷ codes "1\n") 0 8 ≡ None
  pub with_its_sign : around Number (codes "a-12b\n") 3 8 ≡ Some (ends 1 3)
  pub sign_at_the_start : around Number (codes "-1\n") 1 8 ≡ Some (ends 0 1)
  pub without_a_sign : around Number (codes "+12\n") 2 8 ≡ Some (ends 1 2)
  pub one_sign : around Number (codes "--1\n") 2 8 ≡ Some (ends 1 2)
  pub not_on_the_sign : around Number (codes "-1\n") 0 8 ≡ None

-- all of them
pub record RunExamples : Type 0 where
  pub words : WordExamples
  pub blanks : BlankExamples
  pub numbers : NumberExamples
