-- The definitions at given registers.
use Rattle.std.specs.Prelude.{◌≡◌, List, [], ◌∷◌, true, false, Some, None, codes}
use Rattle.kak_registers.specs.declared.row.Register.{Register}
use Rattle.kak_registers.specs.declared.row.TheConstants.{MAX_REGISTER_CHARS}
use Rattle.kak_registers.specs.declared.names.RegisterError.TheVariants.{NoRegister, ReadOnly}
use Rattle.kak_registers.specs.Names.{is_settable, named}
use Rattle.kak_registers.specs.Contents.{strings_of, set_in, nth_of, char_count, row_of_register}
use Rattle.kak_registers.specs.Refusals.{register_refusal}

-- register a holds two strings, and " one
abbrev pub given_registers : List Register
given_registers = row_of_register 97 (codes "one" ∷ codes "two" ∷ []) ∷ row_of_register 34 (codes "x" ∷ []) ∷ []

-- the table of examples
pub record WorkedExamples : Type 0 where
  pub limit : MAX_REGISTER_CHARS ≡ 16777216
  -- names: capitals, digits and other marks are none
  pub letter : is_settable 122 ≡ true
  pub quotes : is_settable 34 ≡ true
  pub capital : is_settable 65 ≡ false
  pub percent_is_read : is_settable 37 ≡ false
  pub one_character : named (codes "z") ≡ Some 122
  pub long_name : named (codes "dquote") ≡ Some 34
  pub long_name_of_one_that_is_read : named (codes "percent") ≡ Some 37
  pub digit : named (codes "3") ≡ None
  pub two_letters : named (codes "ab") ≡ None
  pub no_word : named [] ≡ None
  -- contents
  pub held : strings_of 97 given_registers ≡ codes "one" ∷ codes "two" ∷ []
  pub never_set : strings_of 98 given_registers ≡ []
  pub set_again : strings_of 97 (set_in 97 (codes "new" ∷ []) given_registers) ≡ codes "new" ∷ []
  pub other_stays : strings_of 34 (set_in 97 [] given_registers) ≡ codes "x" ∷ []
  pub set_first : set_in 98 [] given_registers ≡ row_of_register 97 (codes "one" ∷ codes "two" ∷ []) ∷ row_of_register 34 (codes "x" ∷ []) ∷ row_of_register 98 [] ∷ []
  pub underscore_stays_empty : set_in 95 (codes "x" ∷ []) given_registers ≡ given_registers
  -- the n-th string
  pub first : nth_of 0 (codes "one" ∷ codes "two" ∷ []) ≡ codes "one"
  pub second : nth_of 1 (codes "one" ∷ codes "two" ∷ []) ≡ codes "two"
  pub last : nth_of 7 (codes "one" ∷ codes "two" ∷ []) ≡ codes "two"
  pub none : nth_of 7 [] ≡ []
  -- characters are counted, not bytes: é is C3 A9
  pub counted : char_count ((195 ∷ 169 ∷ 97 ∷ []) ∷ codes "bc" ∷ []) ≡ 4
  -- refusals
  pub no_register : register_refusal 51 (codes "x" ∷ []) ≡ Some (NoRegister 51)
  pub read_only : register_refusal 37 [] ≡ Some (ReadOnly 37)
  pub granted : register_refusal 95 (codes "x" ∷ []) ≡ None
