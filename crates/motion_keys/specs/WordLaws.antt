-- A motion by words has no place only where it has no begin: in a text, from each begin there is an end.
use Rattle.std.specs.Prelude.{◌≡◌, ℕ, ◌<◌, List, length, Some, IsSome}
use Rattle.text_model.specs.Texts.{IsText}
use Rattle.motion_keys.specs.declared.words.WordKind.{WordKind}
use Rattle.motion_keys.specs.Words.{begin_ahead, begin_back, last_before_next, last_of_word, first_of_word}

pub record EachBeginHasAnEnd : Type 0 where
  pub next : (kind : WordKind) (text : List ℕ) (o b : ℕ) → IsText text → begin_ahead kind text o ≡ Some b → IsSome (last_before_next kind text b)
  pub «end» : (kind : WordKind) (text : List ℕ) (o b : ℕ) → IsText text → begin_ahead kind text o ≡ Some b → IsSome (last_of_word kind text b)
  pub back : (kind : WordKind) (text : List ℕ) (o b : ℕ) → IsText text → o < length text → begin_back kind text o ≡ Some b → IsSome (first_of_word kind text b)
