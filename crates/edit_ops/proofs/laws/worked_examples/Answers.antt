-- The examples hold by computation, those of display columns with the tables of characters open.
use Rattle.unicode_width.proofs.Computing.{unicode_width}
use Rattle.edit_ops.specs.Examples.{EraseExamples, PutExamples}
use Rattle.edit_ops.specs.TextExamples.{ReadExamples, OpenExamples, RotateExamples, FillExamples}
use Rattle.edit_ops.specs.CrowdingExamples.{CrowdExamples}
use Rattle.edit_ops.specs.AligningExamples.{AlignExamples}
use Rattle.edit_ops.proofs.laws.worked_examples.Goals as goal

erasing : EraseExamples
erasing = search

putting : PutExamples
putting = search

reading : ReadExamples
reading = search

opening : OpenExamples
opening = search

rotating : RotateExamples
rotating = search

filling : FillExamples
filling = search

crowding : CrowdExamples
crowding = search

aligning : AlignExamples
unfolding unicode_width
aligning = search

pub returns : goal.returns
returns c = record { erasing = erasing; putting = putting; reading = reading; opening = opening; rotating = rotating; filling = filling; crowding = crowding; aligning = aligning }
