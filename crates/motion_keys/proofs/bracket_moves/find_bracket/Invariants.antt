use Rattle.std.proofs.Common.{◌≡◌}
use Rattle.text_model.specs.Texts.{offset}
use Rattle.motion_keys.specs.Jumps.{first_bracket, bracket_of}
use Rattle.std.specs.Prelude.{is_some}
use Rattle.motion_keys.proofs.LineLemmas.{from_column}
use Rattle.motion_keys.proofs.bracket_moves.find_bracket.Given as goal

abbrev pub invariant-loop-column : goal.invariant-loop-column
invariant-loop-column l = first_bracket l.lines (offset l.lines l.fn.from) ≡ from_column (λ c. is_some (bracket_of c)) l.lines l.from.line l.column
