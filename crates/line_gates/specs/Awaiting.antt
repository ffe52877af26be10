-- What has to be answered before a line may run that is held back.
use Rattle.std.specs.Prelude.{Bool, ◌&&◌, ◌==◌}
use Rattle.line_gates.specs.declared.held.LineOf.{LineOf}
use Rattle.line_gates.specs.declared.held.Awaited.{Awaited}
use Rattle.line_gates.specs.declared.held.Awaited.TheVariants.{Line, AnyOf}

-- whether a line is the one that is awaited, or one of those of which one is
abbrev pub is_met_by : Awaited → LineOf → Bool
is_met_by (Line awaited) line = (awaited.who == line.who) && (awaited.line == line.line)
is_met_by (AnyOf client) line = client == line.who
