-- Worked examples of the rows of prompts, which hold by computation.
use Rattle.std.specs.Prelude.{◌≡◌, ℕ, false, true, Some, [], ◌∷◌, List, codes}
use Rattle.key_names.specs.declared.key.Key.{Key}
use Rattle.key_names.specs.declared.key.Base.{Base}
use Rattle.key_names.specs.declared.key.Base.TheVariants.{Char, Ret, Tab, Backspace, Del, Left, Right, Home, End, Esc}
use Rattle.edit_line.specs.Halves.{empty}
use Rattle.kak_registers.specs.Contents.{strings_of}
use Rattle.kak_world.specs.declared.ask.Ask.TheVariants.{Commands, Make, Nothing}
use Rattle.kak_world.specs.declared.ask.EditError.TheVariants.{NoSuchRegister}
use Rattle.kak_world.specs.declared.own.Mode.TheVariants.{Normal, Prompt}
use Rattle.directions.specs.declared.direction.Direction.TheVariants.{Forward}
use Rattle.kak_world.specs.declared.purpose.Use.{Use}
use Rattle.kak_world.specs.declared.purpose.Wanted.TheVariants.{Selects}
use Rattle.kak_world.specs.declared.purpose.Use.TheVariants.{Select, Split, Keep, Search}
use Rattle.kak_world.specs.declared.purpose.Purpose.TheVariants.{Pattern}
use Rattle.kak_world.specs.Flat.{Flat, first_own, only_at, mode_of, pending_of, prompt_of, registers_of}
use Rattle.kak_world.specs.Rows.{Row, RowEnd, Asks, Fails, error_text}
use Rattle.insert_prompt.specs.Rows.{awaiting, prompt_base, row_prompt}
use Rattle.insert_prompt.specs.Examples.{two_clients}

-- client 0 in a prompt, with this before its cursor and this from it on
abbrev pub prompting : List ℕ → List ℕ → Flat
prompting before behind =
    two_clients (codes "ab\n") (record first_own { mode = Prompt; prompt = record { before = before; behind = behind } }) (only_at 0) (only_at 0)

-- the same, in a prompt for a pattern
abbrev pub seeking : Use → List ℕ → List ℕ → Flat
seeking wanted before behind =
    two_clients (codes "ab\n") (record first_own { mode = Prompt; purpose = Pattern wanted; prompt = record { before = before; behind = behind } }) (only_at 0) (only_at 0)

-- that a pattern is asked for, and a use of it
abbrev pub asking : List ℕ → Use → Row
asking pattern wanted = Asks (Make (record { pattern = pattern; then = Selects wanted }))

-- where register `/` (47) holds strings
abbrev pub looking : List (List ℕ) → Flat → Flat
looking strings flat = record flat { rest = record flat.rest { registers = record { name = 47; values = strings } ∷ [] } }

-- the world behind a key without modifiers there
abbrev pub struck_at_prompt : Base → List ℕ → List ℕ → Flat
struck_at_prompt base before behind = (prompt_base base 0 (prompting before behind)).world

-- keys without modifiers, and with control alone
abbrev pub key_of_base : Base → Key
key_of_base base = record { control = false; alt = false; shift = false; base = base }

abbrev pub control_key : Base → Key
control_key base = record { control = true; alt = false; shift = false; base = base }

-- the same, where register `a` (97) holds strings
abbrev pub holding_register : List (List ℕ) → Flat → Flat
holding_register strings flat = record flat { rest = record flat.rest { registers = record { name = 97; values = strings } ∷ [] } }

-- what a key gives for which `<c-r>` waits
abbrev pub behind_control_r : Base → List (List ℕ) → List ℕ → List ℕ → RowEnd
behind_control_r base strings before behind = row_prompt (key_of_base base) 0 (awaiting (Some (control_key (Char 114))) 0 (holding_register strings (prompting before behind)))

-- characters, and what erases
pub record ErasingExamples : Type 0 where
  pub character_at_the_start : struck_at_prompt (Char 113) [] (codes "ab") ≡ prompting (codes "q") (codes "ab")
  pub character_in_the_middle : struck_at_prompt (Char 113) (codes "a") (codes "b") ≡ prompting (codes "aq") (codes "b")
  pub character_at_the_end : struck_at_prompt (Char 113) (codes "ab") [] ≡ prompting (codes "abq") []
  pub any_character : struck_at_prompt (Char 0x6F22) (codes "a") (codes "b") ≡ prompting (97 ∷ 0x6F22 ∷ []) (codes "b")
  pub backspace_at_the_start : struck_at_prompt Backspace [] (codes "ab") ≡ prompting [] (codes "ab")
  pub backspace_in_the_middle : struck_at_prompt Backspace (codes "ab") (codes "cd") ≡ prompting (codes "a") (codes "cd")
  pub backspace_at_the_end : struck_at_prompt Backspace (codes "ab") [] ≡ prompting (codes "a") []
  pub backspace_in_an_empty_one : struck_at_prompt Backspace [] [] ≡ prompting [] []
  pub del_at_the_start : struck_at_prompt Del [] (codes "ab") ≡ prompting [] (codes "b")
  pub del_in_the_middle : struck_at_prompt Del (codes "ab") (codes "cd") ≡ prompting (codes "ab") (codes "d")
  pub del_at_the_end : struck_at_prompt Del (codes "ab") [] ≡ prompting (codes "ab") []

-- what moves the cursor
pub record MovingExamples : Type 0 where
  pub left_at_the_start : struck_at_prompt Left [] (codes "ab") ≡ prompting [] (codes "ab")
  pub left_in_the_middle : struck_at_prompt Left (codes "ab") (codes "cd") ≡ prompting (codes "a") (codes "bcd")
  pub left_at_the_end : struck_at_prompt Left (codes "ab") [] ≡ prompting (codes "a") (codes "b")
  pub right_at_the_start : struck_at_prompt Right [] (codes "ab") ≡ prompting (codes "a") (codes "b")
  pub right_in_the_middle : struck_at_prompt Right (codes "ab") (codes "cd") ≡ prompting (codes "abc") (codes "d")
  pub right_at_the_end : struck_at_prompt Right (codes "ab") [] ≡ prompting (codes "ab") []
  pub home_from_the_start : struck_at_prompt Home [] (codes "ab") ≡ prompting [] (codes "ab")
  pub home_from_the_middle : struck_at_prompt Home (codes "ab") (codes "cd") ≡ prompting [] (codes "abcd")
  pub home_from_the_end : struck_at_prompt Home (codes "ab") [] ≡ prompting [] (codes "ab")
  pub end_from_the_start : struck_at_prompt End [] (codes "ab") ≡ prompting (codes "ab") []
  pub end_from_the_middle : struck_at_prompt End (codes "ab") (codes "cd") ≡ prompting (codes "abcd") []
  pub end_from_the_end : struck_at_prompt End (codes "ab") [] ≡ prompting (codes "ab") []
  pub tab_does_nothing : struck_at_prompt Tab (codes "a") (codes "b") ≡ prompting (codes "a") (codes "b")

-- what leaves
pub record LeavingExamples : Type 0 where
  pub all_is_run : (prompt_base Ret 0 (prompting (codes "qu") (codes "it"))).row ≡ Asks (Commands (codes "quit"))
  pub all_is_kept : strings_of 58 (registers_of (struck_at_prompt Ret (codes "qu") (codes "it"))) ≡ codes "quit" ∷ []
  pub prompt_is_left : mode_of 0 (struck_at_prompt Ret (codes "qu") (codes "it")) ≡ Normal
  pub prompt_is_emptied : prompt_of 0 (struck_at_prompt Esc (codes "qu") (codes "it")) ≡ empty
  pub escape_runs_nothing : (prompt_base Esc 0 (prompting (codes "qu") (codes "it"))).row ≡ Asks Nothing

-- what leaves a prompt for a pattern
pub record PatternExamples : Type 0 where
  pub pattern_is_asked_for : (prompt_base Ret 0 (seeking Select (codes "x") (codes "y"))).row ≡ asking (codes "xy") Select
  pub and_held : strings_of 47 (registers_of (prompt_base Ret 0 (seeking Select (codes "x") (codes "y"))).world) ≡ codes "xy" ∷ []
  pub no_command_is : strings_of 58 (registers_of (prompt_base Ret 0 (seeking Select (codes "x") (codes "y"))).world) ≡ []
  pub prompt_is_left_first : mode_of 0 (prompt_base Ret 0 (seeking Split (codes "x") [])).world ≡ Normal
  pub empty_one_asks_for_the_last : (prompt_base Ret 0 (looking (codes "a" ∷ codes "b" ∷ []) (seeking (Search Forward) [] []))).row ≡ asking (codes "b") (Search Forward)
  pub which_stays : strings_of 47 (registers_of (prompt_base Ret 0 (looking (codes "a" ∷ codes "b" ∷ []) (seeking (Search Forward) [] []))).world) ≡ codes "a" ∷ codes "b" ∷ []
  pub escape_asks_for_none : (prompt_base Esc 0 (seeking Keep (codes "x") [])).row ≡ Asks Nothing
  pub and_keeps_none : strings_of 47 (registers_of (prompt_base Esc 0 (seeking Keep (codes "x") [])).world) ≡ []

-- what puts registers in
pub record RegisterExamples : Type 0 where
  pub control_r_waits : pending_of 0 (row_prompt (control_key (Char 114)) 0 (prompting (codes "a") (codes "b"))).world ≡ Some (control_key (Char 114))
  pub other_keys_with_control : (row_prompt (control_key (Char 117)) 0 (prompting (codes "a") (codes "b"))).world ≡ prompting (codes "a") (codes "b")
  pub one_string_at_the_start : (behind_control_r (Char 97) (codes "xy" ∷ []) [] (codes "ab")).world ≡ holding_register (codes "xy" ∷ []) (prompting (codes "xy") (codes "ab"))
  pub one_string_in_the_middle : (behind_control_r (Char 97) (codes "xy" ∷ []) (codes "a") (codes "b")).world ≡ holding_register (codes "xy" ∷ []) (prompting (codes "axy") (codes "b"))
  pub two_strings_in_the_middle : (behind_control_r (Char 97) (codes "x" ∷ codes "yz" ∷ []) (codes "a") (codes "b")).world ≡ holding_register (codes "x" ∷ codes "yz" ∷ []) (prompting (codes "ax yz") (codes "b"))
  pub two_strings_at_the_end : (behind_control_r (Char 97) (codes "x" ∷ codes "yz" ∷ []) (codes "ab") []).world ≡ holding_register (codes "x" ∷ codes "yz" ∷ []) (prompting (codes "abx yz") [])
  pub empty_strings_too : (behind_control_r (Char 97) ([] ∷ codes "x" ∷ [] ∷ []) (codes "a") (codes "b")).world ≡ holding_register ([] ∷ codes "x" ∷ [] ∷ []) (prompting (codes "a x ") (codes "b"))
  pub no_strings : (behind_control_r (Char 97) [] (codes "a") (codes "b")).world ≡ holding_register [] (prompting (codes "a") (codes "b"))
  pub text_of_the_selection : (behind_control_r (Char 46) [] (codes "x") []).world ≡ holding_register [] (prompting (codes "xa") [])
  pub no_such_register : (behind_control_r (Char 33) [] (codes "a") (codes "b")).row ≡ Fails (error_text (NoSuchRegister 33))
  pub it_leaves_the_prompt : (behind_control_r (Char 33) [] (codes "a") (codes "b")).world ≡ holding_register [] (prompting (codes "a") (codes "b"))
  pub escape_ends_the_waiting : (behind_control_r Esc [] (codes "a") (codes "b")).world ≡ holding_register [] (prompting (codes "a") (codes "b"))

pub record PromptExamples : Type 0 where
  pub erasing : ErasingExamples
  pub moving : MovingExamples
  pub leaving : LeavingExamples
  pub patterns : PatternExamples
  pub registers : RegisterExamples
