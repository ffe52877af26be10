use Rattle.text_model.proofs.PlaceLemmas.{offset-coord_at, coord_at-offset_or_end, offset-below, IsPlace-coord_at, coord_at-end, char-at, is_at_most-offset}
use Rattle.text_model.proofs.laws.coordinates_are_inverse.Goals as goal

pub returns : goal.returns
returns c = record {
  offset_of_coordinate = offset-coord_at;
  coordinate_of_offset = coord_at-offset_or_end;
  before_end = offset-below;
  is_place = IsPlace-coord_at;
  is_end = coord_at-end;
  character = λ text at h. char-at text at 0 h;
  order = is_at_most-offset;
}
