-- Places that were found, by coordinates and by offsets.
use Rattle.std.specs.Prelude.{◌≡◌, ℕ, List, None, Some}
use Rattle.std.specs.declared.option.Option.{Option}
use Rattle.text_model.specs.declared.coords.Coord.{Coord}
use Rattle.text_model.specs.Texts.{offset, IsPlace}

-- both found nothing, or the coordinate that was found is the place at the offset
abbrev pub OffsetsAre : List ℕ → Option Coord → Option ℕ → Type 0
OffsetsAre text None o = o ≡ None
OffsetsAre text (Some at) o = IsPlace text at × (o ≡ Some (offset text at))
