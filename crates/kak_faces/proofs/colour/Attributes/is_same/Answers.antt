use Rattle.std.proofs.Common.{◌≡◌, Bool, true, false, refl}
use mathlib.Core.Bool.{beq}
use Rattle.kak_faces.specs.Same.{same_word}
use Rattle.kak_faces.proofs.colour.Attributes.is_same.Goals as goal

same_word-beq : (a b : Bool) → beq a b ≡ same_word a b
same_word-beq true true = refl
same_word-beq true false = refl
same_word-beq false true = refl
same_word-beq false false = refl

pub returns : goal.returns
returns c = simp same_word-beq
