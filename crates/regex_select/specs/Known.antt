-- What is known of the matches of a pattern in a text.
use Rattle.std.specs.Prelude.{◌≡◌, ℕ, Bool, not, List}
use Rattle.text_model.specs.Coords.{is_at_most}
use Rattle.selection_set.specs.declared.sel.Sel.{Sel}
use Rattle.selection_set.specs.Listing.{AreInside, ranges_of}
use Rattle.directions.specs.declared.direction.Direction.{Direction}
use Rattle.directions.specs.declared.direction.Direction.TheVariants.{Forward, Backward}
use Rattle.regex_select.specs.declared.known.Stage.{Stage}
use Rattle.regex_select.specs.declared.known.Stage.TheVariants.{Noted, All, TooMany}
use Rattle.regex_select.specs.Searching.{all_matches}

-- the text that a pattern was made of, how far its matches are known, and the matches, where all are
pub record Known : Type 0 where
  pub source : List ℕ
  pub stage : Stage
  pub list : List Sel

-- selections are all matches of a pattern in a text, in order
pub record AreAllMatches (source text : List ℕ) (list : List Sel) : Type 0 where
  pub inside : AreInside text list
  pub ranges : ranges_of text list ≡ all_matches source text

-- where all are known they are all matches of that pattern in the text; else nothing is said of the text
abbrev pub AreKnownAt : Stage → List ℕ → List ℕ → List Sel → Type 0
AreKnownAt Noted source text list = Unit {0}
AreKnownAt All source text list = AreAllMatches source text list
AreKnownAt TooMany source text list = Unit {0}

-- what is known is true of a text
abbrev pub AreMatchesIn : List ℕ → Known → Type 0
AreMatchesIn text known = AreKnownAt known.stage known.source text known.list

-- whether a match stands before the place of a text at which a search from a selection parts its matches: forward those that
-- begin at the selection's end or before it, which aren't ahead, and backward those that begin before the selection, which are
abbrev pub stands_before : Direction → Sel → Sel → Bool
stands_before Forward s m = is_at_most m.low s.high
stands_before Backward s m = not (is_at_most s.low m.low)
