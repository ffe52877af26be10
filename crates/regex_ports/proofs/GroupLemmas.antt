-- The groups of matches, as they are gathered one after another.
use Rattle.std.proofs.Common.{◌≡◌, ℕ, zero, suc, ◌+◌, ◌-◌, ◌<◌, ◌≤◌, List, [], ◌∷◌, ◌++◌, map, drop, length, Option, Some, None, option_map, refl, sym, ap, ap₂, ◌∙◌, arith, append_assoc, append-nil}
use Rattle.std.proofs.lemmas.List.{map_push}
use Rattle.std.specs.List.{range_with_len}
use Rattle.std.specs.Prelude.{slice_index_or}
use Rattle.regex.specs.Locations.{location, location_count}
use Rattle.regex.specs.Patterns.{Match, find_all_str, span}
use Rattle.regex.specs.Strings.{match_span, captures_left, IsNextRead}
use Rattle.regex.specs.Writes.{group_of}
use Rattle.regex.specs.declared.locations.CaptureLocations.{CaptureLocations}
use Rattle.regex.specs.declared.string.iter.CaptureMatches.{CaptureMatches}
use Rattle.regex.specs.declared.string.matcher.Match as text_match
use Rattle.regex_syntax.specs.Brackets.{Nested}
use Rattle.regex_syntax.specs.Grammar.{Names}
use Rattle.regex.specs.Patterns.{Re}
use Rattle.regex_ports.specs.declared.pattern.Groups.{Groups}
use Rattle.regex_ports.specs.declared.pattern.Span.{Span}
use Rattle.regex_ports.specs.Grouping.{group_spans, grouped_by, spans_of}
use Rattle.regex_ports.specs.Matching.{span_of, found_by}

pub range-first : (n count : ℕ) → n < count → range_with_len n (count - n) ≡ n ∷ range_with_len (n + 1) (count - (n + 1))
range-first n count lt =
    let more : count - n ≡ suc (count - (n + 1)) = omega (arith, lt) in
    ap (range_with_len n) more

pub located-more : (f : ℕ → Option Span) (done now : List (Option Span)) (n count : ℕ) → n < count → now ≡ done ++ f n ∷ [] → now ++ map f (range_with_len (n + 1) (count - (n + 1))) ≡ done ++ map f (range_with_len n (count - n))
located-more f done now n count lt pushed =
    ap (λ xs. xs ++ map f (range_with_len (n + 1) (count - (n + 1)))) pushed
    ∙ append_assoc done (f n ∷ []) (map f (range_with_len (n + 1) (count - (n + 1))))
    ∙ ap (λ ns. done ++ map f ns) (sym (range-first n count lt))

pub located-all : (f : ℕ → Option Span) (done : List (Option Span)) (n count : ℕ) → count ≤ n → done ++ map f (range_with_len n (count - n)) ≡ done
located-all f done n count le =
    let none : count - n ≡ 0 = omega (arith, le) in
    ap (λ k. done ++ map f (range_with_len n k)) none ∙ append-nil done

same-places : (f g : ℕ → Option Span) (a n : ℕ) → ((k : ℕ) → a ≤ k → k < a + n → f k ≡ g k) → map f (range_with_len a n) ≡ map g (range_with_len a n)
same-places f g a zero h = refl
same-places f g a (suc n) h =
    ap₂ ◌∷◌ (h a (omega arith) (omega arith)) (same-places f g (a + 1) n (λ k low high. h k (omega (arith, low)) (omega (arith, high))))

-- what was written of a match is what its groups span
pub read-groups : (l : CaptureLocations) (m : Match) (count : ℕ) (found : ℕ × ℕ) → location_count l ≡ count → found ≡ span m → ((n : ℕ) → 1 ≤ n → n < location_count l → location l n ≡ group_of m n) →
    Some (span_of found) ∷ map (λ n. option_map span_of (location l n)) (range_with_len 1 (location_count l - 1)) ≡ group_spans count m
read-groups l m count found counted spans rest =
    ap₂ (λ p ns. Some (span_of p) ∷ ns) spans
    (same-places (λ n. option_map span_of (location l n)) (λ n. option_map span_of (group_of m n)) 1 (location_count l - 1) (λ k low high. ap (option_map span_of) (rest k low (omega (arith, low, high))))
    ∙ ap (λ k. map (λ n. option_map span_of (group_of m n)) (range_with_len 1 (k - 1))) counted)

-- what was gathered of a match
pub gathered : (l : CaptureLocations) (x : text_match.Match) (items : List (Option Span)) (a b : ℕ) → a ≡ (match_span x).0 → b ≡ (match_span x).1 →
    items ≡ Some (span_of (a, b)) ∷ map (λ n. option_map span_of (location l n)) (range_with_len 1 (location_count l - 1)) →
    items ≡ Some (span_of (match_span x)) ∷ map (λ n. option_map span_of (location l n)) (range_with_len 1 (location_count l - 1))
gathered l x items a b first last made =
    made ∙ ap₂ (λ p q. Some (span_of (p, q)) ∷ map (λ n. option_map span_of (location l n)) (range_with_len 1 (location_count l - 1))) first last

pub groups-more : (done now : List Groups) (g : Groups) (s t : CaptureMatches) (l : CaptureLocations) (x : text_match.Match) (count : ℕ) → now ≡ done ++ g ∷ [] → location_count l ≡ count →
    spans_of g ≡ Some (span_of (match_span x)) ∷ map (λ n. option_map span_of (location l n)) (range_with_len 1 (location_count l - 1)) →
    IsNextRead s l x → captures_left t ≡ drop 1 (captures_left s) →
    map spans_of now ++ map (group_spans count) (captures_left t) ≡ map spans_of done ++ map (group_spans count) (captures_left s)
groups-more done now g s t l x count pushed counted made (m, left, hay, at) behind =
    let own : spans_of g ≡ group_spans count m = made ∙ read-groups l m count (match_span x) counted left.spans at.1 in
    let first : captures_left s ≡ m ∷ captures_left t = left.first ∙ ap (λ ms. m ∷ ms) (sym (behind ∙ ap (drop 1) left.first)) in
    ap (λ gs. map spans_of gs ++ map (group_spans count) (captures_left t)) pushed
    ∙ ap (λ xs. xs ++ map (group_spans count) (captures_left t)) (map_push spans_of done g)
    ∙ append_assoc (map spans_of done) (spans_of g ∷ []) (map (group_spans count) (captures_left t))
    ∙ ap (λ xs. map spans_of done ++ xs ∷ map (group_spans count) (captures_left t)) own
    ∙ ap (λ ms. map spans_of done ++ map (group_spans count) ms) (sym first)

heads : (count : ℕ) (ms : List Match) → map (λ spans. slice_index_or spans 0 None) (map (group_spans count) ms) ≡ map Some (map span_of (map span ms))
heads count [] = refl
heads count (m ∷ ms) = ap₂ ◌∷◌ refl (heads count ms)

pub match-at-0 : (o : Option (Nested Re × Names)) (text : List ℕ) → map (λ spans. slice_index_or spans 0 None) (grouped_by o text) ≡ map Some (found_by o text)
match-at-0 None text = refl
match-at-0 (Some (re, names)) text = heads (length names) (find_all_str re.value text)
