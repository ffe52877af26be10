-- Worked examples of the motions that search, which hold by computation.
use Rattle.std.specs.Prelude.{◌≡◌, true, false, None, Some, codes}
use Rattle.list_model.specs.Ranges.{only}
use Rattle.selection_set.specs.Listing.{range_between}
use Rattle.motion_keys.specs.Examples.{turned_from}
use Rattle.motion_keys.specs.Jumps.{search_of, to_char, bracket}

-- 97 is a, 98 is b, 10 is the newline
pub record CharExamples : Type 0 where
  pub onto : to_char (codes "abcb\n") (only 0) 98 (search_of true true) ≡ Some (range_between 0 1)
  pub not_the_cursor : to_char (codes "abcb\n") (only 1) 98 (search_of true true) ≡ Some (range_between 1 3)
  pub before : to_char (codes "aaab\n") (only 0) 98 (search_of true false) ≡ Some (range_between 0 2)
  pub before_the_very_next : to_char (codes "abb\n") (only 1) 98 (search_of true false) ≡ Some (range_between 1 1)
  pub over_a_newline : to_char (codes "a\nb\n") (only 0) 98 (search_of true true) ≡ Some (range_between 0 2)
  pub a_newline : to_char (codes "ab\n") (only 0) 10 (search_of true true) ≡ Some (range_between 0 2)
  pub none_later : to_char (codes "ab\n") (only 1) 98 (search_of true true) ≡ None
  pub back : to_char (codes "abab\n") (only 3) 97 (search_of false true) ≡ Some (range_between 3 2)
  pub behind : to_char (codes "abbb\n") (only 3) 97 (search_of false false) ≡ Some (range_between 3 1)
  pub behind_the_very_last : to_char (codes "abab\n") (only 3) 97 (search_of false false) ≡ Some (range_between 3 3)
  pub from_the_cursor : to_char (codes "abab\n") (turned_from 2 4) 97 (search_of false true) ≡ Some (range_between 2 0)
  pub none_earlier : to_char (codes "ab\n") (only 0) 97 (search_of false true) ≡ None

pub record BracketExamples : Type 0 where
  pub at_the_cursor : bracket (codes "(a)\n") (only 0) ≡ Some (range_between 0 2)
  pub behind_the_cursor : bracket (codes "a[b]c\n") (only 0) ≡ Some (range_between 1 3)
  pub not_before_the_cursor : bracket (codes "(a) b\n") (only 4) ≡ None
  pub nested : bracket (codes "{{a}b}\n") (only 0) ≡ Some (range_between 0 5)
  pub inner : bracket (codes "<<a>b>\n") (only 1) ≡ Some (range_between 1 3)
  pub from_one_that_closes : bracket (codes "(a)\n") (only 2) ≡ Some (range_between 2 0)
  pub nested_back : bracket (codes "((a)b)\n") (only 5) ≡ Some (range_between 5 0)
  pub other_kinds_do_not_count : bracket (codes "([)]\n") (only 0) ≡ Some (range_between 0 2)
  pub over_lines : bracket (codes "(\n)\n") (only 0) ≡ Some (range_between 0 2)
  pub not_on_the_next_line : bracket (codes "a\n(b)\n") (only 0) ≡ None
  pub without_a_match : bracket (codes "(a\n") (only 0) ≡ None
  pub the_first_decides : bracket (codes "(a[b]\n") (only 0) ≡ None
