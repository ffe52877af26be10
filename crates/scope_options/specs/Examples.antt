-- The definitions at given options.
use Rattle.std.specs.Prelude.{◌≡◌, pos, negsuc, List, [], ◌∷◌, ◌++◌, true, false, Some, None, Ok, Err, codes}
use Rattle.scope_options.specs.declared.scope.Scope.TheVariants.{Global, Buffer, Window}
use Rattle.scope_options.specs.declared.value.OptionType.TheVariants as kind
use Rattle.scope_options.specs.declared.value.OptionValue.TheVariants as value
use Rattle.scope_options.specs.declared.setting.Setting.{Setting}
use Rattle.scope_options.specs.declared.options.OptionError.TheVariants as error
use Rattle.scope_options.specs.Values.{int_of, read_value}
use Rattle.scope_options.specs.Settings.{given, seen_from, setting, declared_as, cleared}
use Rattle.scope_options.specs.Changes.{declare_in, option_set_in, option_unset_in}

-- buffer 3 has a tabstop of 5, and client 0 has one of 6 in it
abbrev pub inner_scopes : List Setting
inner_scopes = given ++ setting (Buffer 3) (codes "tabstop") (value.Int (pos 5)) ∷ setting (Window 0 3) (codes "tabstop") (value.Int (pos 6)) ∷ []

-- an option of texts, and one of lists
abbrev pub two_options_more : List Setting
two_options_more = declared_as (codes "t") (value.Str (codes "a")) ∷ declared_as (codes "l") (value.StrList (codes "a" ∷ [])) ∷ declared_as (codes "b") (value.Bool true) ∷ declared_as (codes "n") (value.Int (pos 2147483647)) ∷ []

-- the table of examples
pub record WorkedExamples : Type 0 where
  -- numbers
  pub leading_zeros : int_of (codes "007") ≡ Some (pos 7)
  pub minus_zero : int_of (codes "-0") ≡ Some (pos 0)
  pub greatest : int_of (codes "2147483647") ≡ Some (pos 2147483647)
  pub too_great : int_of (codes "2147483648") ≡ None
  pub least : int_of (codes "-2147483648") ≡ Some (negsuc 2147483647)
  pub too_small : int_of (codes "-2147483649") ≡ None
  pub plus : int_of (codes "+1") ≡ None
  pub minus_alone : int_of (codes "-") ≡ None
  pub no_digits : int_of [] ≡ None
  pub letter : int_of (codes "1a") ≡ None
  -- values
  pub no_word : read_value kind.Str [] ≡ None
  pub two_words : read_value kind.Bool (codes "true" ∷ codes "true" ∷ []) ≡ None
  pub yes_is_no_truth : read_value kind.Bool (codes "yes" ∷ []) ≡ None
  pub empty_list : read_value kind.StrList [] ≡ Some (value.StrList [])
  -- the innermost value counts
  pub in_window : seen_from (Window 0 3) (codes "tabstop") inner_scopes ≡ Some (value.Int (pos 6))
  pub in_another_window : seen_from (Window 1 3) (codes "tabstop") inner_scopes ≡ Some (value.Int (pos 5))
  pub in_another_buffer : seen_from (Window 0 4) (codes "tabstop") inner_scopes ≡ Some (value.Int (pos 8))
  pub not_declared : seen_from (Window 0 3) (codes "tab") inner_scopes ≡ None
  pub window_is_gone : seen_from (Window 0 3) (codes "tabstop") (cleared (Window 0 3) inner_scopes) ≡ Some (value.Int (pos 5))
  -- declaring
  pub declared : declare_in kind.Int (codes "x") (codes "3" ∷ []) [] ≡ Ok (declared_as (codes "x") (value.Int (pos 3)) ∷ [])
  pub keeps_its_value : declare_in kind.Int (codes "tabstop") (codes "3" ∷ []) given ≡ Ok given
  pub other_type : declare_in kind.Bool (codes "tabstop") (codes "x" ∷ []) given ≡ Err error.Exists
  pub bad_type : declare_in kind.Bool (codes "x") (codes "1" ∷ []) given ≡ Err error.BadType
  pub bad_type_again : declare_in kind.Int (codes "tabstop") (codes "x" ∷ []) given ≡ Err error.BadType
  -- setting
  pub set_in_buffer : option_set_in (Buffer 3) (codes "tabstop") (codes "5" ∷ []) false given ≡ Ok (given ++ setting (Buffer 3) (codes "tabstop") (value.Int (pos 5)) ∷ [])
  pub no_option : option_set_in Global (codes "y") (codes "x" ∷ []) false given ≡ Err error.NoOption
  pub no_number : option_set_in (Buffer 0) (codes "tabstop") (codes "nine" ∷ []) false given ≡ Err error.BadValue
  pub tabstop_of_none : option_set_in Global (codes "tabstop") (codes "0" ∷ []) false given ≡ Err error.BadValue
  pub tabstop_too_wide : option_set_in Global (codes "tabstop") (codes "65" ∷ []) false given ≡ Err error.BadValue
  pub indentwidth_of_none : seen_from Global (codes "indentwidth") given ≡ Some (value.Int (pos 4))
  pub other_format : option_set_in Global (codes "eolformat") (codes "cr" ∷ []) false given ≡ Err error.BadValue
  pub other_mark : option_set_in Global (codes "BOM") (codes "utf-8" ∷ []) false given ≡ Err error.BadValue
  -- adding to what is seen from the scope outward
  pub sum_in_window : option_set_in (Window 1 3) (codes "tabstop") (codes "-2" ∷ []) true inner_scopes ≡ Ok (inner_scopes ++ setting (Window 1 3) (codes "tabstop") (value.Int (pos 3)) ∷ [])
  pub sum_too_great : option_set_in Global (codes "tabstop") (codes "57" ∷ []) true given ≡ Err error.BadValue
  pub sum_past_32_bits : option_set_in Global (codes "n") (codes "1" ∷ []) true two_options_more ≡ Err error.BadValue
  pub joined : option_set_in (Buffer 0) (codes "t") (codes "b" ∷ []) true two_options_more ≡ Ok (two_options_more ++ setting (Buffer 0) (codes "t") (value.Str (codes "ab")) ∷ [])
  pub appended : option_set_in (Buffer 0) (codes "l") (codes "b" ∷ codes "c" ∷ []) true two_options_more ≡ Ok (two_options_more ++ setting (Buffer 0) (codes "l") (value.StrList (codes "a" ∷ codes "b" ∷ codes "c" ∷ [])) ∷ [])
  pub truth_added : option_set_in Global (codes "b") (codes "true" ∷ []) true two_options_more ≡ Err error.BadValue
  -- unsetting
  pub unset : option_unset_in (Window 0 3) (codes "tabstop") inner_scopes ≡ Ok (given ++ setting (Buffer 3) (codes "tabstop") (value.Int (pos 5)) ∷ [])
  pub unset_no_option : option_unset_in Global (codes "y") inner_scopes ≡ Err error.NoOption
  pub unset_globally : option_unset_in Global (codes "tabstop") inner_scopes ≡ Err error.NoScope
