-- Worked examples of the keys that handle patterns, which hold by computation.
use Rattle.std.specs.Prelude.{◌≡◌, ℕ, List, [], ◌∷◌, ◌++◌, codes}
use Rattle.key_names.specs.declared.key.Key.{Key}
use Rattle.key_names.specs.declared.key.Base.TheVariants.{Char}
use Rattle.list_model.specs.Ranges.{Range, only}
use Rattle.kak_registers.specs.Contents.{strings_of}
use Rattle.kak_world.specs.declared.own.Mode.TheVariants.{Prompt}
use Rattle.kak_world.specs.declared.ask.Ask.TheVariants.{Make}
use Rattle.directions.specs.declared.direction.Direction.TheVariants.{Forward, Backward}
use Rattle.kak_world.specs.declared.purpose.Use.{Use}
use Rattle.kak_world.specs.declared.purpose.Wanted.TheVariants.{Selects}
use Rattle.kak_world.specs.declared.purpose.Use.TheVariants.{Select, Split, Keep, Drop, Search, Reach, Step, Add}
use Rattle.kak_world.specs.declared.purpose.Purpose.{Purpose}
use Rattle.kak_world.specs.declared.purpose.Purpose.TheVariants.{Pattern}
use Rattle.kak_world.specs.Flat.{Flat, purpose_of, registers_of}
use Rattle.kak_world.specs.Rows.{Row, Asks}
use Rattle.normal_keys.specs.Examples.{key, alt, keys, client_on, after_keys, mode_after, row_after, one, straight_range}

-- a text with one selection, where register `/` (47) holds strings
abbrev pub looking : List (List ℕ) → List ℕ → Range → Flat
looking strings text r =
    let flat : Flat = client_on text (one r) 100 in
    record flat { rest = record flat.rest { registers = record { name = 47; values = strings } ∷ [] } }

-- what a prompt is for that a key opens
abbrev pub opened_by : Key → Purpose
opened_by k = purpose_of 0 (after_keys (k ∷ []) (client_on (codes "ab\n") (one (only 0)) 100))

-- that a pattern is asked for, and a use of it
abbrev pub asking : List ℕ → Use → Row
asking pattern wanted = Asks (Make (record { pattern = pattern; then = Selects wanted }))

-- what register `/` holds behind keys
abbrev pub looked_for : List Key → List ℕ → Range → List (List ℕ)
looked_for ks text r = strings_of 47 (registers_of (after_keys ks (client_on text (one r) 100)))

-- prompts for patterns
pub record PromptingExamples : Type 0 where
  pub small_s_selects : opened_by (key (Char 115)) ≡ Pattern Select
  pub capital_s_splits : opened_by (key (Char 83)) ≡ Pattern Split
  pub alt_k_keeps : opened_by (alt 107) ≡ Pattern Keep
  pub alt_capital_k_drops : opened_by (alt 75) ≡ Pattern Drop
  pub slash_searches : opened_by (key (Char 47)) ≡ Pattern (Search Forward)
  pub with_alt_it_searches_back : opened_by (alt 47) ≡ Pattern (Search Backward)
  pub question_mark_reaches : opened_by (key (Char 63)) ≡ Pattern (Reach Forward)
  pub with_alt_it_reaches_back : opened_by (alt 63) ≡ Pattern (Reach Backward)
  pub it_is_a_prompt : mode_after (keys (codes "s")) ≡ Prompt

-- the pattern that was looked for last
pub record AgainExamples : Type 0 where
  pub n_asks_for_it : row_after [] (key (Char 110)) (looking (codes "b" ∷ []) (codes "ab\n") (only 0)) ≡ asking (codes "b") (Step Forward 0)
  pub count_asks_more_often : row_after (keys (codes "3")) (key (Char 110)) (looking (codes "b" ∷ []) (codes "ab\n") (only 0)) ≡ asking (codes "b") (Step Forward 2)
  pub alt_n_asks_back : row_after [] (alt 110) (looking (codes "b" ∷ []) (codes "ab\n") (only 0)) ≡ asking (codes "b") (Step Backward 0)
  pub capital_n_adds : row_after (keys (codes "2")) (key (Char 78)) (looking (codes "b" ∷ []) (codes "ab\n") (only 0)) ≡ asking (codes "b") (Add Forward 1)
  pub alt_capital_n_adds_back : row_after [] (alt 78) (looking (codes "b" ∷ []) (codes "ab\n") (only 0)) ≡ asking (codes "b") (Add Backward 0)
  pub last_string_is_meant : row_after [] (key (Char 110)) (looking (codes "a" ∷ codes "b" ∷ []) (codes "ab\n") (only 0)) ≡ asking (codes "b") (Step Forward 0)
  pub none_is_the_empty_one : row_after [] (key (Char 110)) (looking [] (codes "ab\n") (only 0)) ≡ asking [] (Step Forward 0)

-- the main selection's text
pub record RememberingExamples : Type 0 where
  pub alt_star_takes_the_text : looked_for (alt 42 ∷ []) (codes "ab cd\n") (straight_range 0 1) ≡ codes "ab" ∷ []
  pub star_takes_the_ends_of_words : looked_for (keys (codes "*")) (codes "ab cd\n") (straight_range 0 1) ≡ codes "\\bab\\b" ∷ []
  pub but_not_within_one : looked_for (keys (codes "*")) (codes "abc\n") (straight_range 1 1) ≡ codes "b" ∷ []
  pub at_its_begin : looked_for (keys (codes "*")) (codes "abc\n") (straight_range 0 1) ≡ codes "\\bab" ∷ []
  pub at_its_end : looked_for (keys (codes "*")) (codes "abc\n") (straight_range 1 2) ≡ codes "bc\\b" ∷ []
  pub blanks_have_none : looked_for (keys (codes "*")) (codes "a b\n") (only 1) ≡ codes " " ∷ []
  pub numbers_are_word_characters : looked_for (keys (codes "*")) (97 ∷ 0xbd ∷ 10 ∷ []) (straight_range 0 1) ≡ (codes "\\ba" ++ 0xc2 ∷ 0xbd ∷ codes "\\b") ∷ []
  pub special_ones_are_escaped : looked_for (alt 42 ∷ []) (codes "a.b+c\n") (straight_range 0 4) ≡ codes "a\\.b\\+c" ∷ []

pub record PatternExamples : Type 0 where
  pub prompts : PromptingExamples
  pub again : AgainExamples
  pub remembering : RememberingExamples
