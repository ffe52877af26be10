-- Worked examples of pairs of brackets and quotes, which hold by computation.
use Rattle.std.specs.Prelude.{◌≡◌, None, Some, codes}
use Rattle.motion_keys.specs.Words.{ends}
use Rattle.text_objects.specs.declared.kinds.Object.TheVariants.{Round, Curly, Square, Angle, DoubleQuote, Quote, Grave}
use Rattle.text_objects.specs.Objects.{inner, around}

pub record BracketExamples : Type 0 where
  pub between : inner Round (codes "f(a, b)\n") 3 8 ≡ Some (ends 2 5)
  pub with_them : around Round (codes "f(a, b)\n") 3 8 ≡ Some (ends 1 6)
  pub not_before : inner Round (codes "f(a, b)\n") 0 8 ≡ None
  pub not_behind : around Round (codes "f(a, b)\n") 7 8 ≡ None
  pub on_the_first : inner Round (codes "(ab)\n") 0 8 ≡ Some (ends 1 2)
  pub on_the_last : inner Round (codes "(ab)\n") 3 8 ≡ Some (ends 1 2)
  pub innermost : around Round (codes "((a)b)\n") 2 8 ≡ Some (ends 1 3)
  pub behind_an_inner_one : around Round (codes "((a)b)\n") 4 8 ≡ Some (ends 0 5)
  pub on_the_inner_last : around Round (codes "((a)b)\n") 3 8 ≡ Some (ends 1 3)
  pub on_the_outer_first : around Round (codes "((a)b)\n") 0 8 ≡ Some (ends 0 5)
  pub nothing_between : inner Round (codes "()\n") 0 8 ≡ None
  pub around_nothing : around Round (codes "()\n") 1 8 ≡ Some (ends 0 1)
  pub without_an_end : around Round (codes "(a\n") 1 8 ≡ None
  pub without_a_begin : around Round (codes "a)\n") 0 8 ≡ None
  pub one_too_many : around Round (codes "((a)\n") 2 8 ≡ Some (ends 1 3)
  pub on_the_one_too_many : around Round (codes "((a)\n") 0 8 ≡ None
  pub other_kinds_do_not_count : around Round (codes "([)]\n") 1 8 ≡ Some (ends 0 2)
  pub square : around Square (codes "([)]\n") 2 8 ≡ Some (ends 1 3)
  pub curly_over_lines : inner Curly (codes "{\na\n}\n") 2 8 ≡ Some (ends 1 3)
  pub angle : inner Angle (codes "<a>\n") 1 8 ≡ Some (ends 1 1)

pub record QuoteExamples : Type 0 where
  pub between : inner Quote (codes "x'a'y'b'\n") 2 8 ≡ Some (ends 2 2)
  pub with_them : around Quote (codes "x'a'y'b'\n") 2 8 ≡ Some (ends 1 3)
  pub on_the_first : around Quote (codes "x'a'y'b'\n") 1 8 ≡ Some (ends 1 3)
  pub on_the_last : around Quote (codes "x'a'y'b'\n") 3 8 ≡ Some (ends 1 3)
  pub not_between_two_pairs : around Quote (codes "x'a'y'b'\n") 4 8 ≡ None
  pub second_pair : around Quote (codes "x'a'y'b'\n") 6 8 ≡ Some (ends 5 7)
  pub not_paired : around Quote (codes "'a' 'b\n") 5 8 ≡ None
  pub nothing_between : inner Quote (codes "''\n") 0 8 ≡ None
  pub around_nothing : around Quote (codes "''\n") 1 8 ≡ Some (ends 0 1)
  pub not_over_lines : around Quote (codes "'a\n'b'\n") 1 8 ≡ None
  pub each_line_anew : around Quote (codes "'a\n'b'\n") 4 8 ≡ Some (ends 3 5)
  pub double : inner DoubleQuote (codes "\"ab\"\n") 1 8 ≡ Some (ends 1 2)
  pub grave : inner Grave (codes "`ab`\n") 1 8 ≡ Some (ends 1 2)
  pub of_one_kind : around Quote (codes "'\"'\"\n") 3 8 ≡ None

-- all of them
pub record PairExamples : Type 0 where
  pub brackets : BracketExamples
  pub quotes : QuoteExamples
