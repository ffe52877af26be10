use Rattle.std.proofs.Common.{◌≡◌, ℕ, ◌<◌, List, [], ◌∷◌, length, map, string_bytes, None, refl, arith}
use Rattle.program_words.specs.GenWords.{gen_words}
use Rattle.program_words.proofs.generated.read_gen_words.Goals as goal

too-few : {A : Type 0} (bytes : A → List ℕ) (words : List A) → length words < 4 → None ≡ gen_words (map bytes words)
too-few bytes [] h = refl
too-few bytes (a ∷ []) h = refl
too-few bytes (a ∷ b ∷ []) h = refl
too-few bytes (a ∷ b ∷ d ∷ []) h = refl
too-few bytes (a ∷ b ∷ d ∷ e ∷ more) h = absurd (omega (arith, h))

too-many : {A : Type 0} (bytes : A → List ℕ) (words : List A) → 4 < length words → None ≡ gen_words (map bytes words)
too-many bytes [] h = absurd (omega (arith, h))
too-many bytes (a ∷ []) h = absurd (omega (arith, h))
too-many bytes (a ∷ b ∷ []) h = absurd (omega (arith, h))
too-many bytes (a ∷ b ∷ d ∷ []) h = absurd (omega (arith, h))
too-many bytes (a ∷ b ∷ d ∷ e ∷ []) h = absurd (omega (arith, h))
too-many bytes (a ∷ b ∷ d ∷ e ∷ f ∷ more) h = refl

pub returns-in_default-clause-named : goal.returns-in_default-clause-named
returns-in_default-clause-named c = too-few (λ word. string_bytes word) c.args.words.now (omega (arith, c.in_default.len_below))

pub returns-in_default-2-clause-named : goal.returns-in_default-2-clause-named
returns-in_default-2-clause-named c = too-many (λ word. string_bytes word) c.args.words.now (omega (arith, c.in_default.len_at_least))
