use Rattle.std.proofs.Common.{◌≡◌, true}
use Rattle.text_model.specs.Texts.{offset, IsPlace}
use Rattle.motion_keys.specs.Extremes.{greatest_below}
use Rattle.text_objects.specs.LineObjects.{is_full}
use Rattle.text_objects.specs.Sentences.{is_solid, paragraph_begin}
use Rattle.text_objects.proofs.sentence_marks.follows_end.Given as goal

abbrev pub invariant-loop-before : goal.invariant-loop-before
invariant-loop-before l = record {
  place : IsPlace l.lines l.place;
  full : is_full l.lines l.place.line ≡ true;
  begin : paragraph_begin l.lines (offset l.lines l.place) ≡ paragraph_begin l.lines (offset l.lines l.fn.at);
  rest : greatest_below (is_solid l.lines) (offset l.lines l.place) ≡ greatest_below (is_solid l.lines) (offset l.lines l.fn.at);
}

abbrev pub decreases-loop-before : goal.decreases-loop-before
decreases-loop-before l = offset l.lines l.place
