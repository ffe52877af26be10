-- What an iterator of matches still gives, one match on.
use Rattle.std.proofs.Common.{◌≡◌, ℕ, List, [], ◌∷◌, ◌++◌, map, refl, ap, sym, ◌∙◌, append_assoc}
use Rattle.regex.specs.Strings.{spans_left, match_span, placed_span, placed_spans_left, matches_haystack}
use Rattle.regex.specs.declared.string.matcher.Match.{Match}
use Rattle.regex.specs.declared.string.iter.Matches.{Matches}
use Rattle.regex_ports.specs.declared.pattern.Span.{Span}
use Rattle.regex_ports.specs.Matching.{span_of}

-- spans without their text
abbrev pub unplaced : List (List ℕ × (ℕ × ℕ)) → List (ℕ × ℕ)
unplaced [] = []
unplaced (p ∷ ps) = p.1 ∷ unplaced ps

unplaced-placed : (hay : List ℕ) (xs : List (ℕ × ℕ)) → unplaced (map (λ p. (hay, p)) xs) ≡ xs
unplaced-placed hay [] = refl
unplaced-placed hay (x ∷ xs) = ap (λ ys. x ∷ ys) (unplaced-placed hay xs)

pub spans-more : (s t : Matches) (m : Match) → placed_spans_left s ≡ placed_span m ∷ placed_spans_left t → spans_left s ≡ match_span m ∷ spans_left t
spans-more s t m e =
    sym (unplaced-placed (matches_haystack s) (spans_left s)) ∙ ap unplaced e ∙ ap (λ xs. match_span m ∷ xs) (unplaced-placed (matches_haystack t) (spans_left t))

pub spans-end : (s : Matches) → placed_spans_left s ≡ [] → spans_left s ≡ []
spans-end s e = sym (unplaced-placed (matches_haystack s) (spans_left s)) ∙ ap unplaced e

pub found-more : (found now : List Span) (s t : Matches) (m : Match) → now ≡ found ++ span_of (match_span m) ∷ [] → placed_spans_left s ≡ placed_span m ∷ placed_spans_left t → now ++ map span_of (spans_left t) ≡ found ++ map span_of (spans_left s)
found-more found now s t m pushed e =
    ap (λ xs. xs ++ map span_of (spans_left t)) pushed
    ∙ append_assoc found (span_of (match_span m) ∷ []) (map span_of (spans_left t))
    ∙ ap (λ xs. found ++ map span_of xs) (sym (spans-more s t m e))
