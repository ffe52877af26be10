use Rattle.std.proofs.Common.{◌≡◌, not}
use Rattle.kak_text.specs.declared.classes.Class.TheVariants.{Blank}
use Rattle.kak_text.specs.Classes.{class_of, is_same}
use Rattle.motion_keys.specs.Landmarks.{first_no_blank}
use Rattle.motion_keys.proofs.LineLemmas.{from_column}
use Rattle.motion_keys.proofs.place_moves.find_text.Given as goal

abbrev pub invariant-loop-column : goal.invariant-loop-column
invariant-loop-column l = first_no_blank l.lines l.n ≡ from_column (λ c. not (is_same (class_of c) Blank)) l.lines l.n l.column
