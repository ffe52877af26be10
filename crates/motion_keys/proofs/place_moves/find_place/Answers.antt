use Rattle.std.proofs.Common.{◌≡◌, ℕ, List, Some, sym, ap, subst, ◌∙◌}
use Rattle.text_model.specs.declared.coords.Coord.{Coord}
use Rattle.text_model.specs.Texts.{offset, IsPlace}
use Rattle.text_model.proofs.PlaceLemmas.{coord_at-offset}
use Rattle.motion_keys.specs.Places.{OffsetsAre}
use Rattle.motion_keys.specs.Landmarks.{line_start, line_of, line_last, first_no_blank}
use Rattle.motion_keys.proofs.place_moves.find_place.Goals as goal

-- the line of the cursor's offset is the cursor's
own_line : (text : List ℕ) (at : Coord) → IsPlace text at → line_of text (offset text at) ≡ at.line
own_line text at h = ap (λ (c : Coord). c.line) (coord_at-offset text at h)

pub returns-in-LineStart : goal.returns-in-LineStart
returns-in-LineStart c = record {
  gives = rw c.in-LineStart.is (c.find_start-in-LineStart.ensures.place, ap (λ n. Some (line_start c.args.lines.now n)) (own_line c.args.lines.now c.args.at c.requires) ∙ ap Some (sym c.find_start-in-LineStart.ensures.value));
}

pub returns-in-LineEnd : goal.returns-in-LineEnd
returns-in-LineEnd c = record {
  gives = rw c.in-LineEnd.is (c.find_end.ensures.place, ap (λ n. Some (line_last c.args.lines.now n)) (own_line c.args.lines.now c.args.at c.requires) ∙ ap Some (sym c.find_end.ensures.value));
}

pub returns-in-NonBlank : goal.returns-in-NonBlank
returns-in-NonBlank c = record {
  gives = rw c.in-NonBlank.is (subst (OffsetsAre c.args.lines.now c.find_text.result) (ap (first_no_blank c.args.lines.now) (sym (own_line c.args.lines.now c.args.at c.requires))) c.find_text.ensures.gives);
}
