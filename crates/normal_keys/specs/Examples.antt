-- Worked examples of normal mode: what a client's list is after keys, which hold by computation.
use Rattle.std.specs.Prelude.{◌≡◌, ℕ, true, false, None, Some, List, [], ◌∷◌, ◌++◌, map, codes}
use Rattle.key_names.specs.declared.key.Key.{Key}
use Rattle.key_names.specs.declared.key.Base.{Base}
use Rattle.key_names.specs.declared.key.Base.TheVariants.{Char, Ret, Esc, Right, Home, PageDown}
use Rattle.list_model.specs.Ranges.{Range, Selected, only}
use Rattle.undo_model.specs.Stories.{opened}
use Rattle.kak_world.specs.declared.ask.EditError.TheVariants.{NothingSelected, NothingToUndo, NothingToRedo, NoSuchNode}
use Rattle.kak_world.specs.declared.own.Mode.{Mode}
use Rattle.kak_world.specs.declared.own.Mode.TheVariants.{Insert, Prompt}
use Rattle.list_shelf.specs.declared.holder.Holder.TheVariants.{Of}
use Rattle.kak_world.specs.Flat.{Flat, between_steps, first_rest, first_scoped, fresh_list, newcomer, text_of, sels_of, mode_of, count_of}
use Rattle.kak_world.specs.Changing.{edited_by, commits}
use Rattle.kak_world.specs.Rows.{Row, Fails, GivesUp, error_text}
use Rattle.normal_keys.specs.Rows.{row_normal}

-- keys: a character or a key with a name, plain, with alt, with control, with shift
abbrev pub key : Base → Key
key base = record { control = false; alt = false; shift = false; base = base }

abbrev pub alt : ℕ → Key
alt c = record { control = false; alt = true; shift = false; base = Char c }

abbrev pub control : ℕ → Key
control c = record { control = true; alt = false; shift = false; base = Char c }

abbrev pub shift : Base → Key
shift base = record { control = false; alt = false; shift = true; base = base }

-- the keys of some characters
abbrev pub keys : List ℕ → List Key
keys cs = map (λ c. key (Char c)) cs

-- the world after client 0 struck keys, one after another; and what comes after the last of them
abbrev pub after_keys : List Key → Flat → Flat
after_keys [] flat = flat
after_keys (k ∷ ks) flat = after_keys ks (row_normal k 0 flat).world

-- client 0 on a text, with a list, and so many units that may still be taken
abbrev pub client_on : List ℕ → Selected → ℕ → Flat
client_on text sels units = record {
  buffers = Some (record { name = codes "n"; is_file = true; story = opened text; lists = record (fresh_list (Of 0)) { sels = sels } ∷ [] }) ∷ [];
  clients = newcomer 0 0 0 ∷ [];
  rest = record first_rest { step = record between_steps { units = units } };
  scoped = first_scoped;
}

-- the client's list after keys, from one selection or from a list
abbrev pub one : Range → Selected
one r = record { list = r ∷ []; main = 0 }

abbrev pub listed : List Range → ℕ → Selected
listed list main = record { list = list; main = main }

abbrev pub list_after : List Key → List ℕ → Range → Selected
list_after ks text r = sels_of 0 (after_keys ks (client_on text (one r) 100))

abbrev pub all_after : List Key → List ℕ → Selected → Selected
all_after ks text sels = sels_of 0 (after_keys ks (client_on text sels 100))

-- the client's mode and its count after keys on a text of one newline
abbrev pub mode_after : List Key → Mode
mode_after ks = mode_of 0 (after_keys ks (client_on (10 ∷ []) (one (only 0)) 100))

abbrev pub count_after : List Key → ℕ
count_after ks = count_of 0 (after_keys ks (client_on (10 ∷ []) (one (only 0)) 100))

-- a straight selection, a turned one, and one with a target
abbrev pub straight_range : ℕ → ℕ → Range
straight_range a b = record { low = a; high = b; turned = false; target = None }

abbrev pub turned : ℕ → ℕ → Range
turned a b = record { low = a; high = b; turned = true; target = None }

abbrev pub aimed : Range → ℕ → Range
aimed r column = record r { target = Some column }

-- moves by one character and by lines
pub record StepExamples : Type 0 where
  pub l_goes_on : list_after (keys (codes "l")) (codes "ab\n") (only 0) ≡ one (only 1)
  pub l_stays_at_the_end : list_after (keys (codes "l")) (codes "ab\n") (only 2) ≡ one (only 2)
  pub h_goes_back : list_after (keys (codes "h")) (codes "ab\n") (only 1) ≡ one (only 0)
  pub h_selects_one_character : list_after (keys (codes "h")) (codes "abcd\n") (straight_range 1 3) ≡ one (only 2)
  pub h_keeps_what_finds_no_place : list_after (keys (codes "h")) (codes "abc\n") (turned 0 2) ≡ one (turned 0 2)
  pub capital_extends : list_after (keys (codes "LL")) (codes "abc\n") (only 0) ≡ one (straight_range 0 2)
  pub capital_goes_round_the_anchor : list_after (keys (codes "HH")) (codes "abcd\n") (straight_range 1 2) ≡ one (turned 0 1)
  pub arrows_are_letters : list_after (key Right ∷ shift Right ∷ []) (codes "abc\n") (only 0) ≡ one (straight_range 1 2)
  pub home_selects_back : list_after (key Home ∷ []) (codes "abc\n") (only 2) ≡ one (turned 0 2)
  pub alt_l_selects_on : list_after (alt 108 ∷ []) (codes "abc\n") (only 1) ≡ one (straight_range 1 2)
  pub x_takes_lines : list_after (keys (codes "x")) (codes "ab\ncd\n") (turned 1 3) ≡ one (turned 0 5)
  pub semicolon_takes_the_cursor : list_after (keys (codes ";")) (codes "abc\n") (aimed (turned 0 2) 5) ≡ one (only 0)
  pub alt_semicolon_turns : list_after (alt 59 ∷ []) (codes "abc\n") (aimed (only 1) 5) ≡ one (aimed (turned 1 1) 5)
  pub alt_colon_straightens : list_after (alt 58 ∷ []) (codes "abc\n") (turned 0 2) ≡ one (straight_range 0 2)
  pub i_turns : list_after (keys (codes "i")) (codes "abc\n") (straight_range 0 2) ≡ one (turned 0 2)
  pub i_leaves_one_straight : list_after (keys (codes "i")) (codes "abc\n") (only 1) ≡ one (only 1)

-- moves to a character, to a place with a name and to a bracket
pub record PlaceExamples : Type 0 where
  pub f_selects_up_to : list_after (keys (codes "fc")) (codes "abc\n") (only 0) ≡ one (straight_range 0 2)
  pub t_stops_before : list_after (keys (codes "tc")) (codes "abc\n") (only 0) ≡ one (straight_range 0 1)
  pub alt_f_selects_back : list_after (alt 102 ∷ key (Char 97) ∷ []) (codes "abc\n") (only 2) ≡ one (turned 0 2)
  pub capital_f_extends : list_after (keys (codes "Fc")) (codes "abc\n") (straight_range 0 1) ≡ one (straight_range 0 2)
  pub return_is_a_newline : list_after (key (Char 102) ∷ key Ret ∷ []) (codes "ab\n") (only 0) ≡ one (straight_range 0 2)
  pub count_is_for_the_character : list_after (keys (codes "2fa")) (codes "bababa\n") (only 0) ≡ one (straight_range 1 3)
  pub escape_ends_the_waiting : list_after (key (Char 102) ∷ key Esc ∷ key (Char 108) ∷ []) (codes "abl\n") (only 0) ≡ one (only 1)
  pub unfit_key_is_used_up : list_after (key (Char 102) ∷ key Right ∷ key (Char 108) ∷ []) (codes "abl\n") (only 0) ≡ one (only 1)
  pub gj_is_the_last_line : list_after (keys (codes "gj")) (codes "ab\ncd\n") (only 0) ≡ one (only 3)
  pub ge_is_the_last_character : list_after (keys (codes "ge")) (codes "ab\ncd\n") (only 0) ≡ one (only 5)
  pub gl_is_the_last_before_the_newline : list_after (keys (codes "gl")) (codes "ab\ncd\n") (only 0) ≡ one (only 1)
  pub capital_g_extends : list_after (keys (codes "Gj")) (codes "ab\ncd\n") (straight_range 0 1) ≡ one (straight_range 0 3)
  pub count_is_a_line : list_after (keys (codes "2g")) (codes "ab\ncd\n") (only 1) ≡ one (only 3)
  pub count_beyond_is_the_last_line : list_after (keys (codes "9g")) (codes "a\nb\n") (only 0) ≡ one (only 2)
  pub m_selects_to_the_match : list_after (keys (codes "m")) (codes "a(b(c))\n") (only 0) ≡ one (straight_range 1 6)

-- counts
pub record CountExamples : Type 0 where
  pub repeats : list_after (keys (codes "2l")) (codes "abcd\n") (only 0) ≡ one (only 2)
  pub is_used_up : list_after (keys (codes "2ll")) (codes "abcde\n") (only 0) ≡ one (only 3)
  pub is_used_up_by_every_key : list_after (keys (codes "2zl")) (codes "abcde\n") (only 0) ≡ one (only 1)
  pub digits_go_on : count_after (keys (codes "407")) ≡ 407
  pub stops : count_after (keys (codes "12345678")) ≡ 999999
  pub zero_is_no_count : list_after (keys (codes "0gk")) (codes "ab\ncd\n") (only 4) ≡ one (only 0)
  pub each_run_takes_a_unit : sels_of 0 (row_normal (key (Char 108)) 0 (after_keys (keys (codes "5")) (client_on (codes "abcdef\n") (one (only 0)) 2))).world ≡ one (only 3)
  pub without_units_it_gives_up : (row_normal (key (Char 108)) 0 (after_keys (keys (codes "5")) (client_on (codes "abcdef\n") (one (only 0)) 2))).row ≡ GivesUp

-- several selections: each goes by itself, and those that come to share characters become one
pub record ListExamples : Type 0 where
  pub each_goes : all_after (keys (codes "l")) (codes "abcdef\n") (listed (only 0 ∷ turned 2 3 ∷ straight_range 4 5 ∷ []) 1) ≡ listed (only 1 ∷ only 3 ∷ only 6 ∷ []) 1
  pub two_become_one : all_after (keys (codes "h")) (codes "abc\n") (listed (only 0 ∷ only 1 ∷ only 3 ∷ []) 2) ≡ listed (only 0 ∷ only 2 ∷ []) 1
  pub they_settle_at_each_run : all_after (keys (codes "2h")) (codes "abcd\n") (listed (only 0 ∷ only 1 ∷ only 4 ∷ []) 2) ≡ listed (only 0 ∷ only 2 ∷ []) 1
  pub each_is_turned : all_after (keys (codes "i")) (codes "abcdef\n") (listed (straight_range 0 1 ∷ only 3 ∷ []) 1) ≡ listed (turned 0 1 ∷ only 3 ∷ []) 1
  pub ends_of_a_line : all_after (key (Char 120) ∷ alt 83 ∷ []) (codes "abc\n") (one (only 0)) ≡ listed (only 0 ∷ only 3 ∷ []) 1
  pub then_one_is_left : all_after (key (Char 120) ∷ alt 83 ∷ keys (codes ";,")) (codes "abc\n") (one (only 0)) ≡ one (only 3)
  pub copy_below : all_after (keys (codes "lC")) (codes "ab\nc\n") (one (only 0)) ≡ listed (only 1 ∷ only 4 ∷ []) 1
  pub split_keeps_the_flag : all_after (key (Char 37) ∷ alt 59 ∷ alt 115 ∷ []) (codes "a\nb\n") (one (only 0)) ≡ listed (turned 0 1 ∷ turned 2 3 ∷ []) 1
  pub main_goes_round : all_after (keys (codes ")")) (codes "abc\n") (listed (only 0 ∷ only 2 ∷ []) 1) ≡ listed (only 0 ∷ only 2 ∷ []) 0
  pub main_goes_as_often_as_the_count : all_after (keys (codes "2(")) (codes "abcde\n") (listed (only 0 ∷ only 2 ∷ only 4 ∷ []) 1) ≡ listed (only 0 ∷ only 2 ∷ only 4 ∷ []) 2
  pub none_is_left : (row_normal (alt 44) 0 (client_on (codes "ab\n") (one (only 1)) 0)).row ≡ Fails (error_text NothingSelected)
  pub and_it_stays : all_after (alt 44 ∷ []) (codes "ab\n") (one (only 1)) ≡ one (only 1)

-- moves by lines, by words, and what is cut by blanks
pub record CellExamples : Type 0 where
  pub j_goes_down : list_after (keys (codes "j")) (codes "ab\ncd\n") (only 1) ≡ one (aimed (only 4) 1)
  pub k_goes_up : list_after (keys (codes "k")) (codes "ab\ncd\n") (only 4) ≡ one (aimed (only 1) 1)
  pub capital_j_extends_and_aims : list_after (keys (codes "J")) (codes "ab\ncd\n") (only 1) ≡ one (aimed (straight_range 1 4) 1)
  pub target_on_the_newline : list_after (keys (codes "llj")) (codes "abc\nab\n") (only 0) ≡ one (aimed (only 6) 2)
  pub target_behind_the_newline : list_after (keys (codes "lllj")) (codes "abcd\nab\n") (only 0) ≡ one (aimed (only 6) 3)
  pub j_joins_from_above : all_after (keys (codes "j")) (codes "ab\ncd\n") (listed (only 0 ∷ only 1 ∷ only 3 ∷ []) 2) ≡ listed (aimed (only 3) 0 ∷ aimed (only 4) 1 ∷ []) 0
  pub j_may_change_the_order : all_after (keys (codes "j")) (codes "ab\ncd\nef\n") (listed (aimed (only 3) 1 ∷ aimed (only 4) 0 ∷ []) 0) ≡ listed (aimed (only 6) 0 ∷ aimed (only 7) 1 ∷ []) 1
  pub page_down_goes_to_the_last_line : list_after (key PageDown ∷ []) (codes "a\nb\nc\n") (only 0) ≡ one (aimed (only 4) 0)
  pub w_goes_to_the_next_word : list_after (keys (codes "w")) (codes "foo bar\n") (only 0) ≡ one (straight_range 0 3)
  pub w_stops_at_the_last : list_after (keys (codes "3w")) (codes "foo bar\n") (only 0) ≡ one (straight_range 4 6)
  pub e_three_times : list_after (keys (codes "3e")) (codes "foo, bar\n") (only 0) ≡ one (straight_range 4 7)
  pub then_b_twice : list_after (keys (codes "3ebb")) (codes "foo, bar\n") (only 0) ≡ one (turned 3 4)
  pub big_words : list_after (alt 119 ∷ []) (codes "a,b c\n") (only 0) ≡ one (straight_range 0 3)
  pub blanks_are_cut : list_after (keys (codes "_")) (codes " ab \n") (straight_range 0 4) ≡ one (straight_range 1 2)

-- client 0 puts characters in at the begin of the text, and they become a node
abbrev pub grown_node : List ℕ → Flat → Flat
grown_node s flat = commits 0 (edited_by (record { from = 0; «to» = 0; put = s } ∷ []) 0 flat)

-- it put in `a`, took that back, and put in `b`
abbrev pub two_nodes : Flat
two_nodes = grown_node (codes "b") (after_keys (keys (codes "u")) (grown_node (codes "a") (client_on (codes "\n") (one (only 0)) 100)))

-- what a client sees after keys, and what comes after the last of them
abbrev pub text_after_keys : List Key → Flat → List ℕ
text_after_keys ks flat = text_of 0 (after_keys ks flat)

abbrev pub row_after : List Key → Key → Flat → Row
row_after ks key flat = (row_normal key 0 (after_keys ks flat)).row

-- moves in the history of the text
pub record HistoryExamples : Type 0 where
  pub u_takes_back : text_after_keys (keys (codes "u")) two_nodes ≡ codes "\n"
  pub capital_u_makes_again : text_after_keys (keys (codes "uU")) two_nodes ≡ codes "b\n"
  pub control_k_goes_to_the_node_below : text_after_keys (control 107 ∷ []) two_nodes ≡ codes "a\n"
  pub both_changes_are_selected : sels_of 0 (after_keys (control 107 ∷ []) two_nodes) ≡ listed (only 0 ∷ only 1 ∷ []) 0
  pub and_then_to_the_first : text_after_keys (control 107 ∷ control 107 ∷ []) two_nodes ≡ codes "\n"
  pub below_it_is_none : row_after (control 107 ∷ control 107 ∷ []) (control 107) two_nodes ≡ Fails (error_text NoSuchNode)
  pub control_j_goes_to_the_node_above : text_after_keys (control 107 ∷ control 107 ∷ control 106 ∷ []) two_nodes ≡ codes "a\n"
  pub count_goes_over_as_many : text_after_keys (keys (codes "2") ++ control 107 ∷ []) two_nodes ≡ codes "\n"
  pub above_the_last_is_none : row_after [] (control 106) two_nodes ≡ Fails (error_text NoSuchNode)
  pub nothing_to_undo : row_after (keys (codes "u")) (key (Char 117)) two_nodes ≡ Fails (error_text NothingToUndo)
  pub nothing_to_redo : row_after [] (key (Char 85)) two_nodes ≡ Fails (error_text NothingToRedo)
  pub count_takes_back_as_many : text_after_keys (keys (codes "2u")) (grown_node (codes "c") two_nodes) ≡ codes "\n"
  pub it_stops_at_the_first : row_after (keys (codes "9")) (key (Char 117)) two_nodes ≡ Fails (error_text NothingToUndo)
  pub what_was_taken_back_stays_so : text_after_keys (keys (codes "9u")) two_nodes ≡ codes "\n"

-- modes
pub record ModeExamples : Type 0 where
  pub i_enters_insert_mode : mode_after (keys (codes "i")) ≡ Insert
  pub colon_opens_the_prompt : mode_after (keys (codes ":")) ≡ Prompt
  pub escape_leaves_the_selections : list_after (key Esc ∷ []) (codes "ab\n") (only 1) ≡ one (only 1)
  pub others_do_nothing : list_after (keys (codes "v")) (codes "ab\n") (only 1) ≡ one (only 1)

-- all of them
pub record Examples : Type 0 where
  pub steps : StepExamples
  pub places : PlaceExamples
  pub counts : CountExamples
  pub lists : ListExamples
  pub cells : CellExamples
  pub history : HistoryExamples
  pub modes : ModeExamples
