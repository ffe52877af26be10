-- What a note says.
use Rattle.ui_board.specs.declared.notes.Note.{Note}
use Rattle.ui_board.specs.declared.notes.Note.TheVariants.{OfDrawing, OfRefusal}
use Rattle.ui_board.specs.Told.{Told, Drawn, Refused}

-- what a note says was told
abbrev pub told_of : Note → Told
told_of (OfDrawing drawing) = Drawn drawing.value
told_of (OfRefusal refusal) = Refused refusal
