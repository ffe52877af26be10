-- Matches one behind the other, and the groups that took part in them.
use Rattle.std.proofs.Common.{◌≡◌, ℕ, zero, suc, ◌+◌, ◌-◌, ◌<◌, ◌≤◌, ◌==◌, true, false, cond, List, [], ◌∷◌, ◌++◌, map, length, Option, Some, None, option_map, refl, sym, ap, ap₂, ◌∙◌, arith, append_assoc, append-nil}
use Rattle.std.specs.Prelude.{flat_map}
use Rattle.std.specs.List.{AllByRecursion, range_with_len}
use Rattle.regex.specs.Locations.{location, location_count}
use Rattle.regex.specs.Patterns.{Re, Match, find_str, find_all_str, span}
use Rattle.regex.specs.Strings.{regex_pattern, regex_source, regex_config, group_count, IsReadFromSource}
use Rattle.regex.specs.declared.locations.CaptureLocations.{CaptureLocations}
use Rattle.regex.specs.declared.string.regex.Regex.{Regex}
use Rattle.regex_hir.specs.Find.{find_after, first_from, matches_from}
use Rattle.regex_hir.specs.Text.{is_some_and}
use Rattle.regex_ports.specs.declared.pattern.GroupSpan.{GroupSpan}
use Rattle.regex_ports.specs.declared.pattern.Span.{Span}
use Rattle.regex_ports.specs.Grouping.{group_spans, numbered_from, groups_found}
use Rattle.regex_ports.specs.Matching.{options, span_of}
use Rattle.regex_ports.specs.Searching.{found_span, taking_part, AreLocated}
use Rattle.regex_ports.specs.Series.{AreBytes}
use Rattle.regex_ports.proofs.GroupLemmas.{range-first, read-groups}
use Rattle.regex_ports.proofs.RegularLemmas.{groups-read}

-- nothing begins behind the end
pub past-end : (re : Re) (text : List ℕ) (e : ℕ) → length text ≤ e → find_str re text (e + 1) ≡ None
unfolding find_str first_from
past-end re text e h = let z : length text + 1 - (e + 1) ≡ 0 = omega arith in rw z refl

-- none was found
pub none-found : (o : Option Match) → None ≡ option_map found_span o → o ≡ None
none-found None e = refl
none-found (Some m) e = absurd (let no : None ≡ Some (found_span m) = e in cc)

pub none-located : (o : Option Match) (l : CaptureLocations) → o ≡ None → AreLocated o l
none-located o l none m e = absurd (let no : None ≡ Some m = sym none ∙ e in cc)

pub other-located : (o p : Option Match) (l : CaptureLocations) → p ≡ o → AreLocated o l → AreLocated p l
other-located o p l same at m e = at m (sym same ∙ e)

-- what is found behind a match that was found, or wasn't
module _ (search : ℕ → Option Match) (i : ℕ) where
  pub after-none : search i ≡ None → find_after search i ≡ None
  after-none e = ap (λ o. cond (is_some_and o (λ m. m.trace.end == i)) (search (i + 1)) o) e

  pub after-same : (o : Option Match) (f : Span) → search i ≡ o → Some f ≡ option_map found_span o → (f.end == i) ≡ true → find_after search i ≡ search (i + 1)
  after-same None f e is ends = absurd (let no : Some f ≡ None = is in cc)
  after-same (Some m) f e is ends =
      let own : f ≡ found_span m = cc in
      let at : (m.trace.end == i) ≡ true = sym (ap (λ (x : Span). x.end == i) own) ∙ ends in
      ap (λ o. cond (is_some_and o (λ m. m.trace.end == i)) (search (i + 1)) o) e ∙ ap (λ b. cond b (search (i + 1)) (Some m)) at

  pub after-other : (o : Option Match) (f : Span) → search i ≡ o → Some f ≡ option_map found_span o → (f.end == i) ≡ false → find_after search i ≡ search i
  after-other None f e is ends = absurd (let no : Some f ≡ None = is in cc)
  after-other (Some m) f e is ends =
      let own : f ≡ found_span m = cc in
      let at : (m.trace.end == i) ≡ false = sym (ap (λ (x : Span). x.end == i) own) ∙ ends in
      ap (λ o. cond (is_some_and o (λ m. m.trace.end == i)) (search (i + 1)) o) e ∙ ap (λ b. cond b (search (i + 1)) (Some m)) at ∙ sym e

-- ranges by numbers, the first of them and the others
pub numbered-first : (n : ℕ) (s : Option Span) (ss : List (Option Span)) → numbered_from n (s ∷ ss) ≡ numbered_from n (s ∷ []) ++ numbered_from (n + 1) ss
numbered-first n None ss = refl
numbered-first n (Some s) ss = refl

pub numbered-more : (f : ℕ → Option Span) (done now : List GroupSpan) (n count : ℕ) → n < count → now ≡ done ++ numbered_from n (f n ∷ []) →
    now ++ numbered_from (n + 1) (map f (range_with_len (n + 1) (count - (n + 1)))) ≡ done ++ numbered_from n (map f (range_with_len n (count - n)))
numbered-more f done now n count lt pushed =
    let rest = map f (range_with_len (n + 1) (count - (n + 1))) in
    ap (λ xs. xs ++ numbered_from (n + 1) rest) pushed
    ∙ append_assoc done (numbered_from n (f n ∷ [])) (numbered_from (n + 1) rest)
    ∙ ap (λ xs. done ++ xs) (sym (numbered-first n (f n) rest))
    ∙ ap (λ ns. done ++ numbered_from n (map f ns)) (sym (range-first n count lt))

pub numbered-all : (f : ℕ → Option Span) (done : List GroupSpan) (n count : ℕ) → count ≤ n → done ++ numbered_from n (map f (range_with_len n (count - n))) ≡ done
numbered-all f done n count le =
    let none : count - n ≡ 0 = omega (arith, le) in
    ap (λ k. done ++ numbered_from n (map f (range_with_len n k))) none ∙ append-nil done

pub numbered-begun : (f : ℕ → Option Span) (s : Span) (done now : List GroupSpan) (count : ℕ) → now ≡ done ++ numbered_from 0 (Some s ∷ []) →
    now ++ numbered_from 1 (map f (range_with_len 1 (count - 1))) ≡ done ++ numbered_from 0 (Some s ∷ map f (range_with_len 1 (count - 1)))
numbered-begun f s done now count pushed =
    let rest = map f (range_with_len 1 (count - 1)) in
    ap (λ xs. xs ++ numbered_from 1 rest) pushed
    ∙ append_assoc done (numbered_from 0 (Some s ∷ [])) (numbered_from 1 rest)
    ∙ ap (λ xs. done ++ xs) (sym (numbered-first 0 (Some s) rest))

-- what was added of a match that was found, by the locations of its groups
pub taken-part : (o : Option Match) (m : Match) (l : CaptureLocations) (count : ℕ) (f : Span) → location_count l ≡ count → o ≡ Some m → f ≡ found_span m → AreLocated o l →
    numbered_from 0 (Some f ∷ map (λ n. option_map span_of (location l n)) (range_with_len 1 (location_count l - 1))) ≡ taking_part count m
taken-part o m l count f counted is own at =
    ap (λ (s : Span). numbered_from 0 (Some s ∷ map (λ n. option_map span_of (location l n)) (range_with_len 1 (location_count l - 1)))) own
    ∙ ap (numbered_from 0) (read-groups l m count (span m) counted refl (at m is).1)

module _ (s : ℕ → Option Match) (count : ℕ) where
  from-zero : (o : Option Match) → matches_from s 0 o ≡ []
  unfolding matches_from
  from-zero o = refl

  from-none : (n : ℕ) → matches_from s n None ≡ []
  unfolding matches_from
  from-none zero = refl
  from-none (suc n) = refl

  from-some : (n : ℕ) (m : Match) → matches_from s (suc n) (Some m) ≡ m ∷ matches_from s n (find_after s m.trace.end)
  unfolding matches_from
  from-some n m = refl

  rest-some : (n : ℕ) (m : Match) → taking_part count m ++ flat_map (taking_part count) (matches_from s n (find_after s m.trace.end)) ≡ flat_map (taking_part count) (matches_from s (suc n) (Some m))
  rest-some n m = ap (flat_map (taking_part count)) (sym (from-some n m))

  -- none is left
  pub none-left : (n : ℕ) (o : Option Match) (next : Option Span) (out all : List GroupSpan) → next ≡ option_map found_span o → next ≡ None → out ++ flat_map (taking_part count) (matches_from s n o) ≡ all → out ≡ all
  none-left n None next out all e h r = sym (append-nil out) ∙ ap (λ ms. out ++ flat_map (taking_part count) ms) (sym (from-none n)) ∙ r
  none-left n (Some m) next out all e h r = absurd (let no : None ≡ Some (found_span m) = sym h ∙ e in cc)

  -- one is added
  pub one-more : (n k : ℕ) (o : Option Match) (f : Span) (l : CaptureLocations) (out new all : List GroupSpan) → Some f ≡ option_map found_span o → n ≡ suc k → location_count l ≡ count → AreLocated o l
      → new ≡ out ++ numbered_from 0 (Some f ∷ map (λ i. option_map span_of (location l i)) (range_with_len 1 (location_count l - 1))) → out ++ flat_map (taking_part count) (matches_from s n o) ≡ all
      → new ++ flat_map (taking_part count) (matches_from s k (find_after s f.end)) ≡ all
  one-more n k None f l out new all e h c a p r = absurd (let no : Some f ≡ None = e in cc)
  one-more n k (Some m) f l out new all e h c a p r =
      let is : f ≡ found_span m = cc in
      let behind : find_after s f.end ≡ find_after s m.trace.end = ap (λ (g : Span). find_after s g.end) is in
      ap (λ xs. xs ++ flat_map (taking_part count) (matches_from s k (find_after s f.end))) (p ∙ ap (λ gs. out ++ gs) (taken-part (Some m) m l count f c refl is a))
      ∙ append_assoc out (taking_part count m) (flat_map (taking_part count) (matches_from s k (find_after s f.end)))
      ∙ ap (λ o. out ++ (taking_part count m ++ flat_map (taking_part count) (matches_from s k o))) behind
      ∙ ap (λ gs. out ++ gs) (rest-some k m)
      ∙ ap (λ i. out ++ flat_map (taking_part count) (matches_from s i (Some m))) (sym h)
      ∙ r

  pub last-one : (n : ℕ) (o : Option Match) (f : Span) (l : CaptureLocations) (out new all : List GroupSpan) → Some f ≡ option_map found_span o → n ≡ 1 → location_count l ≡ count → AreLocated o l
      → new ≡ out ++ numbered_from 0 (Some f ∷ map (λ i. option_map span_of (location l i)) (range_with_len 1 (location_count l - 1))) → out ++ flat_map (taking_part count) (matches_from s n o) ≡ all
      → new ≡ all
  last-one n o f l out new all e h c a p r =
      sym (append-nil new) ∙ ap (λ ms. new ++ flat_map (taking_part count) ms) (sym (from-zero (find_after s f.end))) ∙ one-more n 0 o f l out new all e h c a p r

-- the groups that took part, gathered match by match
gathered-all : (count : ℕ) (ms : List Match) → flat_map (taking_part count) ms ≡ flat_map (numbered_from 0) (map (group_spans count) ms)
gathered-all count [] = refl
gathered-all count (m ∷ ms) = ap (λ gs. taking_part count m ++ gs) (gathered-all count ms)

pub all-gathered : (r : Regex) (source : List ℕ) → regex_source r ≡ source → regex_config r ≡ options → IsReadFromSource r → (texts : List (List ℕ)) → AllByRecursion AreBytes texts →
    map (λ text. flat_map (taking_part (group_count r)) (find_all_str (regex_pattern r) text)) texts ≡ map (groups_found source) texts
all-gathered r source is_source is_config is_read [] bytes = refl
all-gathered r source is_source is_config is_read (text ∷ texts) bytes =
    ap₂ ◌∷◌
    (gathered-all (group_count r) (find_all_str (regex_pattern r) text) ∙ ap (flat_map (numbered_from 0)) (groups-read r source text is_source is_config is_read bytes.0))
    (all-gathered r source is_source is_config is_read texts bytes.1)
