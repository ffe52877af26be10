-- The texts of a world, by the numbers of their buffers.
use Rattle.std.specs.Prelude.{◌≡◌, ℕ, zero, suc, List, [], ◌∷◌, map, option_map}
use Rattle.std.specs.declared.option.Option.{Option}
use Rattle.text_model.specs.Changes.{Change, all_changed}
use Rattle.kak_world.specs.Flat.{Buffer, Flat}

-- the text of a buffer
abbrev pub text_in : Buffer → List ℕ
text_in b = b.story.text

-- the texts of some buffers, and none where no buffer has the number
abbrev pub all_texts : List (Option Buffer) → List (Option (List ℕ))
all_texts bs = map (option_map text_in) bs

-- the texts of a world
abbrev pub texts_of : Flat → List (Option (List ℕ))
texts_of flat = all_texts flat.buffers

-- a world has the texts that another one has
abbrev pub HasSameTexts : Flat → Flat → Type 0
HasSameTexts old new = texts_of new ≡ texts_of old

-- texts behind single changes of the one of a number, one after another; all others stay
abbrev pub texts_changed : ℕ → List Change → List (Option (List ℕ)) → List (Option (List ℕ))
texts_changed n cs [] = []
texts_changed zero cs (text ∷ texts) = option_map (λ t. all_changed t cs) text ∷ texts
texts_changed (suc n) cs (text ∷ texts) = text ∷ texts_changed n cs texts
