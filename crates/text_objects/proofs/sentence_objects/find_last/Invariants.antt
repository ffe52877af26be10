use Rattle.std.proofs.Common.{◌≡◌, ◌-◌, true}
use Rattle.text_model.specs.Texts.{offset, IsPlace}
use Rattle.motion_keys.specs.Extremes.{least_between}
use Rattle.text_objects.specs.LineObjects.{is_full}
use Rattle.text_objects.specs.Sentences.{is_end, paragraph_end}
use Rattle.text_objects.proofs.sentence_objects.find_last.Given as goal

abbrev pub invariant-loop-at : goal.invariant-loop-at
invariant-loop-at l = record {
  place : IsPlace l.lines l.at;
  full : is_full l.lines l.at.line ≡ true;
  end : paragraph_end l.lines (offset l.lines l.at) ≡ paragraph_end l.lines (offset l.lines l.fn.begin);
  rest : least_between (is_end l.lines) (offset l.lines l.at) (paragraph_end l.lines (offset l.lines l.fn.begin)) ≡ least_between (is_end l.lines) (offset l.lines l.fn.begin) (paragraph_end l.lines (offset l.lines l.fn.begin));
}

abbrev pub decreases-loop-at : goal.decreases-loop-at
decreases-loop-at l = paragraph_end l.lines (offset l.lines l.fn.begin) - offset l.lines l.at
