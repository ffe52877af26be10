-- Worked examples of the keys that change the text, which hold by computation.
use Rattle.std.specs.Prelude.{◌≡◌, ℕ, List, [], ◌∷◌, ◌++◌, codes}
use Rattle.key_names.specs.declared.key.Key.{Key}
use Rattle.key_names.specs.declared.key.Base.TheVariants.{Char}
use Rattle.list_model.specs.Ranges.{Selected, only}
use Rattle.kak_world.specs.declared.ask.EditError.TheVariants.{NoSuchRegister, ReadOnlyRegister, SharedLine}
use Rattle.kak_world.specs.Flat.{registers_of}
use Rattle.kak_world.specs.Rows.{Fails, error_text}
use Rattle.kak_registers.specs.Contents.{strings_of}
use Rattle.normal_keys.specs.Examples.{key, alt, keys, client_on, after_keys, text_after_keys, row_after, list_after, all_after, one, listed, straight_range}

-- the text after keys, from one selection
abbrev pub text_behind_keys : List Key → List ℕ → Selected → List ℕ
text_behind_keys ks text sels = text_after_keys ks (client_on text sels 100)

-- what erases
pub record ErasingExamples : Type 0 where
  pub all_but_the_newline : text_behind_keys (keys (codes "%d")) (codes "abc\n") (one (only 1)) ≡ codes "\n"
  pub last_line_goes : text_behind_keys (keys (codes "xd")) (codes "a\nb\n") (one (only 2)) ≡ codes "a\n"
  pub last_character_is_left : list_after (keys (codes "xd")) (codes "a\nb\n") (only 2) ≡ one (only 1)
  pub erased_text_is_kept : strings_of 34 (registers_of (after_keys (keys (codes "d")) (client_on (codes "ab\n") (one (only 1)) 100))) ≡ codes "b" ∷ []
  pub alt_d_keeps_nothing : strings_of 34 (registers_of (after_keys (alt 100 ∷ []) (client_on (codes "ab\n") (one (only 1)) 100))) ≡ []
  pub register_is_chosen : strings_of 97 (registers_of (after_keys (keys (34 ∷ codes "ad")) (client_on (codes "ab\n") (one (only 1)) 100))) ≡ codes "b" ∷ []
  pub read_only_register : row_after (keys (34 ∷ codes "%")) (key (Char 121)) (client_on (codes "ab\n") (one (only 0)) 100) ≡ Fails (error_text (ReadOnlyRegister 37))
  pub erases_nothing_then : text_behind_keys (keys (34 ∷ codes "%d")) (codes "ab\n") (one (only 0)) ≡ codes "ab\n"

-- what puts
pub record PuttingExamples : Type 0 where
  pub p_puts_behind : text_behind_keys (keys (codes "yp")) (codes "ab\n") (one (only 0)) ≡ codes "aab\n"
  pub what_was_put_is_selected : list_after (keys (codes "yp")) (codes "ab\n") (only 0) ≡ one (only 1)
  pub lines_go_below : text_behind_keys (keys (codes "xyp")) (codes "ab\nc\n") (one (only 0)) ≡ codes "ab\nab\nc\n"
  pub capital_puts_lines_above : list_after (keys (codes "xyP")) (codes "ab\nc\n") (only 3) ≡ one (straight_range 3 4)
  pub count_puts_often : text_behind_keys (keys (codes "y3p")) (codes "ab\n") (one (only 0)) ≡ codes "aaaab\n"
  pub count_before_a_register : text_behind_keys (keys (34 ∷ codes "ay3" ++ 34 ∷ codes "ap")) (codes "ab\n") (one (only 0)) ≡ codes "aaaab\n"
  pub count_behind_a_register : text_behind_keys (keys (34 ∷ codes "ay" ++ 34 ∷ codes "a3p")) (codes "ab\n") (one (only 0)) ≡ codes "aaaab\n"
  pub next_key_uses_both_up : text_behind_keys (keys (34 ∷ codes "ay" ++ 34 ∷ codes "alp")) (codes "ab\n") (one (only 0)) ≡ codes "ab\n"
  pub own_text_in_its_place : list_after (keys (codes "%y%R")) (codes "ab\n") (only 0) ≡ one (straight_range 0 2)
  pub each_its_own_string : text_behind_keys (keys (codes "yR")) (codes "abcd\n") (listed (only 0 ∷ straight_range 2 3 ∷ []) 0) ≡ codes "abcd\n"
  pub name_of_the_buffer : text_behind_keys (keys (34 ∷ codes "%p")) (codes "ab\n") (one (only 0)) ≡ codes "anb\n"
  pub no_such_register : row_after (keys (34 ∷ codes "!")) (key (Char 112)) (client_on (codes "ab\n") (one (only 0)) 100) ≡ Fails (error_text (NoSuchRegister 33))

-- what replaces, joins, indents and aligns
pub record ChangingExamples : Type 0 where
  pub r_keeps_the_last_newline : text_behind_keys (keys (codes "%rx")) (codes "ab\n") (one (only 0)) ≡ codes "xxx\n"
  pub and_selects_what_it_put : list_after (keys (codes "%rx")) (codes "ab\n") (only 0) ≡ one (straight_range 0 2)
  pub texts_go_round : text_behind_keys (alt 41 ∷ []) (codes "abc\n") (listed (only 0 ∷ only 2 ∷ []) 1) ≡ codes "cba\n"
  pub lines_are_joined : list_after (keys (codes "%") ++ alt 106 ∷ []) (codes "a\nb\n") (only 0) ≡ one (straight_range 0 3)
  pub with_one_space : text_behind_keys (keys (codes "%") ++ alt 106 ∷ []) (codes "a\n b\n") (one (only 0)) ≡ codes "a b\n"
  pub lines_are_indented : list_after (keys (codes "%>")) (codes "a\n\nb\n") (only 0) ≡ one (straight_range 4 12)
  pub and_less_so : text_behind_keys (keys (codes "<")) (codes "      a\n") (one (only 0)) ≡ codes "  a\n"
  pub cursors_are_aligned : text_behind_keys (keys (codes "&")) (codes "a\nbcd\n") (listed (only 0 ∷ only 4 ∷ []) 0) ≡ codes "  a\nbcd\n"
  pub one_line_is_shared : row_after [] (key (Char 38)) (client_on (codes "ab\n") (listed (only 0 ∷ only 2 ∷ []) 0) 100) ≡ Fails (error_text SharedLine)

-- what enters insert mode
pub record EnteringExamples : Type 0 where
  pub a_goes_behind : list_after (keys (codes "a")) (codes "abc\n") (only 0) ≡ one (straight_range 0 1)
  pub at_the_end_it_makes_room : text_behind_keys (keys (codes "a")) (codes "ab\n") (one (only 2)) ≡ codes "ab\n\n"
  pub neighbours_become_one : all_after (keys (codes "a")) (codes "abc\n") (listed (only 0 ∷ only 1 ∷ []) 0) ≡ one (straight_range 0 2)
  pub capital_i_goes_to_the_text : list_after (keys (codes "I")) (codes "  ab\n") (only 3) ≡ one (only 2)
  pub capital_a_goes_to_the_newline : list_after (keys (codes "A")) (codes "ab\nc\n") (straight_range 0 1) ≡ one (only 2)
  pub o_opens_below : text_behind_keys (keys (codes "o")) (codes "ab\nc\n") (one (only 1)) ≡ codes "ab\n\nc\n"
  pub and_stands_there : list_after (keys (codes "o")) (codes "ab\nc\n") (only 1) ≡ one (only 3)
  pub capital_o_opens_one_for_each : all_after (keys (codes "O")) (codes "ab\n") (listed (only 0 ∷ only 2 ∷ []) 1) ≡ listed (only 0 ∷ only 1 ∷ []) 1
  pub c_erases_first : list_after (keys (codes "xc")) (codes "ab\nc\n") (only 0) ≡ one (only 0)

-- all of them
pub record AllEditExamples : Type 0 where
  pub erasing : ErasingExamples
  pub putting : PuttingExamples
  pub changing : ChangingExamples
  pub entering : EnteringExamples
