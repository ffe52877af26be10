-- Names of files, as words of a program, and the keys that open a file.
use Rattle.std.specs.Prelude.{ℕ, nat_lt, Bool, ◌&&◌, not, ◌==◌, if◌then◌else◌, List, [], ◌∷◌, ◌++◌, length, map, codes}
use Rattle.std.specs.List.{list_all}
use Rattle.std.specs.Char.{is_control}
use Rattle.key_names.specs.declared.key.Key.{Key}
use Rattle.key_names.specs.declared.key.Base.TheVariants.{Char, Ret}
use Rattle.key_names.specs.Reading.{bare}

-- whether a file can have this name: 1 to 255 characters, none of which is a control character
abbrev pub is_file_name : List ℕ → Bool
is_file_name name = nat_lt 0 (length name) && (nat_lt (length name) 256 && list_all (λ c. not (is_control c)) name)

-- a text with each quote in it doubled
abbrev pub doubled : List ℕ → List ℕ
doubled [] = []
doubled (c ∷ cs) = if c == 39 then 39 ∷ 39 ∷ doubled cs else c ∷ doubled cs

-- the key of a character
abbrev pub typed_key : ℕ → Key
typed_key c = bare (Char c)

-- the keys that open the file of a name: `:edit '<name>'<ret>`, with each quote in the name doubled
abbrev pub edit_keys : List ℕ → List Key
edit_keys name = map typed_key (codes ":edit '" ++ doubled name ++ codes "'") ++ bare Ret ∷ []
