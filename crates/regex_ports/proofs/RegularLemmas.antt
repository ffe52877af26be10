-- A regular expression finds what the text that it was made of is read as.
use Rattle.std.proofs.Common.{◌≡◌, ℕ, suc, ◌+◌, ◌-◌, ◌*◌, ◌<◌, true, List, [], ◌∷◌, map, length, get_or, Option, Some, None, is_some, option_map, string_bytes, refl, sym, ap, ap₂, ◌∙◌, arith}
use Rattle.std.proofs.lemmas.List.{length-map}
use Rattle.std.specs.List.{AllByRecursion, range_with_len}
use Rattle.std.specs.Str.{chars}
use Rattle.regex.specs.Patterns.{Re, Match, Reads, find_str, find_all_str, span}
use Rattle.regex.specs.Names.{names_of}
use Rattle.regex.specs.Strings.{regex_pattern, regex_source, regex_config, regex_names, group_count, IsReadFromSource}
use Rattle.regex.specs.Writes.{both}
use Rattle.regex.specs.declared.string.regex.Regex.{Regex}
use Rattle.regex.proofs.ForCallers.{IsNamedAs, spans, spans_alike, is_match_alike, find_all_alike, alike_as_written, names_as_written}
use Rattle.regex_hir.specs.Find.{matches_from}
use Rattle.regex_syntax.specs.Brackets.{Nested}
use Rattle.regex_syntax.specs.Grammar.{Names, read}
use Rattle.regex_syntax.proofs.TreeLaws.{same_refl}
use Rattle.regex_syntax.proofs.Written.{IsReadAs}
use Rattle.regex_ports.specs.declared.pattern.Span.{Span}
use Rattle.regex_ports.specs.Grouping.{group_spans, grouped_by, groups_of}
use Rattle.regex_ports.specs.Matching.{options, span_of, found_by, matches_of, is_some_span, is_found_in}
use Rattle.regex_ports.specs.Series.{AreBytes}

-- there is a first match exactly where there are some
some-first : (search : ℕ → Option Match) (n : ℕ) (o : Option Match) → is_some o ≡ is_some_span (map span_of (map span (matches_from search (suc n) o)))
unfolding matches_from
some-first search n None = refl
some-first search n (Some m) = refl

some-found : (re : Re) (text : List ℕ) → is_some (find_str re text 0) ≡ is_some_span (map span_of (map span (find_all_str re text)))
some-found re text =
    let more : suc (length text) ≡ length text + 1 = omega arith in
    some-first (find_str re text) (length text) (find_str re text 0) ∙ ap (λ n. is_some_span (map span_of (map span (matches_from (find_str re text) n (find_str re text 0))))) more

-- the ranges of a match and its groups, by where it starts and ends and by what its slots hold
abbrev seen_spans : ℕ → ℕ × ℕ × (ℕ → Option ℕ) → List (Option Span)
seen_spans count (start, end, slots) = Some (span_of (start, end)) ∷ map (λ n. option_map span_of (both (slots (2 * n)) (slots (2 * n + 1)))) (range_with_len 1 (count - 1))

by-slots : (count : ℕ) (ms : List Match) → map (group_spans count) ms ≡ map (seen_spans count) (map spans ms)
by-slots count [] = refl
by-slots count (m ∷ ms) = ap₂ ◌∷◌ refl (by-slots count ms)

counted : (r : Regex) → group_count r ≡ length (regex_names r)
counted r = omega (arith, r.pattern.names.ok.0, length-map r.pattern.names.items (option_map string_bytes))

module _ (r : Regex) (source text : List ℕ) (is_source : regex_source r ≡ source) (is_config : regex_config r ≡ options) (is_read : IsReadFromSource r) (bytes : (k : ℕ) → get_or text k 0 < 256) where
  reads-some : read options (chars source) ≡ None → ⊥
  unfolding Reads
  reads-some e =
      let reads : Reads options source r.pattern.program.hir (names_of r.pattern.names.items) = rw (is_source, is_config) at is_read in
      rw e at reads

  spans-by : (o : Option (Nested Re × Names)) → read options (chars source) ≡ o → map span_of (map span (find_all_str (regex_pattern r) text)) ≡ found_by o text
  spans-by None e = absurd (reads-some e)
  spans-by (Some (re, names)) e =
      let written : IsReadAs options source re.value = rw e (same_refl re.value) in
      ap (map span_of) (spans_alike (alike_as_written r options source is_source is_config is_read re.value written) text bytes true)

  pub matches-read : map span_of (map span (find_all_str (regex_pattern r) text)) ≡ matches_of source text
  matches-read = spans-by (read options (chars source)) refl

  found-by : (o : Option (Nested Re × Names)) → read options (chars source) ≡ o → is_some (find_str (regex_pattern r) text 0) ≡ is_some_span (found_by o text)
  found-by None e = absurd (reads-some e)
  found-by (Some (re, names)) e =
      let written : IsReadAs options source re.value = rw e (same_refl re.value) in
      is_match_alike (alike_as_written r options source is_source is_config is_read re.value written) text bytes true 0 ∙ some-found re.value text

  pub found-read : is_some (find_str (regex_pattern r) text 0) ≡ is_found_in source text
  found-read = found-by (read options (chars source)) refl

  groups-by : (o : Option (Nested Re × Names)) → read options (chars source) ≡ o → map (group_spans (group_count r)) (find_all_str (regex_pattern r) text) ≡ grouped_by o text
  groups-by None e = absurd (reads-some e)
  groups-by (Some (re, names)) e =
      let written : IsReadAs options source re.value = rw e (same_refl re.value) in
      let named : IsNamedAs options source names = rw e refl in
      let count : group_count r ≡ length names = counted r ∙ ap length (names_as_written r options source is_source is_config is_read names named) in
      ap (λ n. map (group_spans n) (find_all_str (regex_pattern r) text)) count
      ∙ by-slots (length names) (find_all_str (regex_pattern r) text)
      ∙ ap (map (seen_spans (length names))) (find_all_alike (alike_as_written r options source is_source is_config is_read re.value written) text bytes true)
      ∙ sym (by-slots (length names) (find_all_str re.value text))

  pub groups-read : map (group_spans (group_count r)) (find_all_str (regex_pattern r) text) ≡ groups_of source text
  groups-read = groups-by (read options (chars source)) refl

pub all-found : (r : Regex) (source : List ℕ) → regex_source r ≡ source → regex_config r ≡ options → IsReadFromSource r → (texts : List (List ℕ)) → AllByRecursion AreBytes texts →
    map (λ text. is_some (find_str (regex_pattern r) text 0)) texts ≡ map (is_found_in source) texts
all-found r source is_source is_config is_read [] bytes = refl
all-found r source is_source is_config is_read (text ∷ texts) bytes =
    ap₂ ◌∷◌ (found-read r source text is_source is_config is_read bytes.0) (all-found r source is_source is_config is_read texts bytes.1)
