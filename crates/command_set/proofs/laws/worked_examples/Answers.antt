use Rattle.std.proofs.Common.{refl}
use Rattle.std.specs.Char.Unicode.Alphabetic.{is_alphabetic, alphabetic_ranges}
use Rattle.std.specs.Char.Unicode.Numeric.{is_numeric, numeric_ranges}
use Rattle.std.specs.Char.Unicode.Rows.{in_ranges}
use lib.Utf8.{encode}
use Rattle.command_set.proofs.laws.worked_examples.Goals as goal

pub returns : goal.returns
unfolding encode is_alphabetic alphabetic_ranges is_numeric numeric_ranges in_ranges
returns c = record { nothing_is_no_command = refl; unclosed = refl }
