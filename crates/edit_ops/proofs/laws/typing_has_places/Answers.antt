use Rattle.edit_ops.proofs.TypingLemmas.{by-offsets, typing-places}
use Rattle.edit_ops.proofs.laws.typing_has_places.Goals as goal

pub returns : goal.returns
returns c = record { by_offsets = by-offsets; places = typing-places }
