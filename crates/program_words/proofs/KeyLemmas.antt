-- The keys of characters, one more at a time.
use Rattle.std.proofs.Common.{◌≡◌, ℕ, Bool, true, false, ◌==◌, List, [], ◌∷◌, ◌++◌, map, refl, sym, ap, ◌∙◌, append_assoc}
use Rattle.std.specs.Prelude.{if◌then◌else◌}
use Rattle.key_names.specs.declared.key.Key.{Key}
use Rattle.program_words.specs.Files.{typed_key, doubled}

typed-append : (a b : List ℕ) → map typed_key (a ++ b) ≡ map typed_key a ++ map typed_key b
typed-append [] b = refl
typed-append (c ∷ a) b = ap (λ r. typed_key c ∷ r) (typed-append a b)

one-more : (t : Bool) (c : ℕ) (x y z : List ℕ) → x ≡ y ++ z → (if t then 39 ∷ 39 ∷ x else c ∷ x) ≡ (if t then 39 ∷ 39 ∷ y else c ∷ y) ++ z
one-more true c x y z e = ap (λ r. 39 ∷ 39 ∷ r) e
one-more false c x y z e = ap (λ r. c ∷ r) e

doubled-append : (a b : List ℕ) → doubled (a ++ b) ≡ doubled a ++ doubled b
doubled-append [] b = refl
doubled-append (c ∷ a) b = one-more (c == 39) c (doubled (a ++ b)) (doubled a) (doubled b) (doubled-append a b)

behind : (start old new : List Key) (a b : List ℕ) → old ≡ start ++ map typed_key a → new ≡ old ++ map typed_key b → new ≡ start ++ map typed_key (a ++ b)
behind start old new a b e f = f ∙ ap (λ r. r ++ map typed_key b) e ∙ append_assoc start (map typed_key a) (map typed_key b) ∙ ap (λ r. start ++ r) (sym (typed-append a b))

-- one more character
pub typed-push : (start old new : List Key) (a : List ℕ) (c : ℕ) → old ≡ start ++ map typed_key a → new ≡ old ++ map typed_key (c ∷ []) → new ≡ start ++ map typed_key (a ++ c ∷ [])
typed-push start old new a c e f = behind start old new a (c ∷ []) e f

-- one more character, with quotes doubled
pub doubled-push : (start old new : List Key) (a : List ℕ) (c : ℕ) → old ≡ start ++ map typed_key (doubled a) → new ≡ old ++ map typed_key (doubled (c ∷ [])) → new ≡ start ++ map typed_key (doubled (a ++ c ∷ []))
doubled-push start old new a c e f = behind start old new (doubled a) (doubled (c ∷ [])) e f ∙ ap (λ r. start ++ map typed_key r) (sym (doubled-append a (c ∷ [])))

-- characters behind one another
pub typed-behind : (start old new : List Key) (a b : List ℕ) → old ≡ start ++ map typed_key a → new ≡ old ++ map typed_key b → new ≡ start ++ map typed_key (a ++ b)
typed-behind start old new a b e f = behind start old new a b e f
