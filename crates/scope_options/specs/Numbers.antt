-- The numbers of options.
use Rattle.std.specs.Prelude.{ℕ, pos, negsuc, ◌&&◌, nat_le, if◌then◌else◌, Option, Some, None, unwrap_or}
use Rattle.scope_options.specs.declared.value.OptionValue.{OptionValue}
use Rattle.scope_options.specs.declared.value.OptionValue.TheVariants.{Int}

-- the number that a value is, where that is none below one and none above another
abbrev pub number_of : ℕ → ℕ → OptionValue → Option ℕ
number_of low high (Int (pos n)) = if nat_le low n && nat_le n high then Some n else None
number_of low high _ = None

-- the number that an option has, where it has such a one, or else another
abbrev pub number_within : ℕ → ℕ → ℕ → Option OptionValue → ℕ
number_within low high otherwise None = otherwise
number_within low high otherwise (Some value) = unwrap_or (number_of low high value) otherwise
