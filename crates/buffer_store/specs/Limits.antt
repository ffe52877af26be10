-- How the length of a text is followed through the replacements of an edit, before any of them is made.
use Rattle.std.specs.Prelude.{◌≡◌, ℕ, ◌<◌, ◌≤◌, Bool, true, false, if◌then◌else◌, List, [], ◌∷◌, length, MatchOption}
use Rattle.std.specs.declared.option.Option.{Option}
use Rattle.text_model.specs.declared.TheConstants.{MAX_CHARS}
use Rattle.text_model.specs.Texts.{IsStored, IsPlaceOrEnd, offset, coord_at, ends_in_newline}
use Rattle.text_model.specs.Changes.{ended, begins_line, all_changed}
use Rattle.selection_map.specs.Premises.{IsTied}
use Rattle.undo_model.specs.Edits.{splice_changes}
use Rattle.buffer_store.specs.declared.edits.Splice.{Splice as CodeSplice}
use Rattle.buffer_store.specs.declared.limits.PassedText.{PassedText}
use Rattle.buffer_store.specs.Buffers.{flat_splice}

-- how many characters a replacement adds beside those that it takes: at the end of the text a newline is put in where it
-- lacks, or the last one stays where none would be left
abbrev pub added : List ℕ → Bool → Bool → ℕ
added s false begins = length s
added [] true begins = if begins then 0 else 1
added (c ∷ cs) true begins = length (ended (c ∷ cs))

-- whether a line begins behind characters that are put in where a line begins, or where none does
abbrev pub begins_behind : List ℕ → Bool → Bool
begins_behind [] begins = begins
begins_behind (c ∷ cs) begins = ends_in_newline (c ∷ cs)

-- what is known of the text behind the replacements so far, the last of which ends at an offset of the old text
pub record IsPassed (old now : List ℕ) (f : ℕ) (w : PassedText) : Type 0 where
  pub t : ℕ
  pub stored : IsStored now
  pub tied : IsTied old now f t
  pub behind_is : w.behind ≡ coord_at old f
  pub begins_is : w.begins ≡ begins_line now t
  pub chars_is : w.chars ≡ length now

-- there is such a text, and the next replacement comes behind those
pub record CanPass (old : List ℕ) (w : PassedText) (s : CodeSplice) : Type 0 where
  pub now : List ℕ
  pub f : ℕ
  pub stored : IsStored old
  pub passed : IsPassed old now f w
  pub from : IsPlaceOrEnd old s.from
  pub «to» : IsPlaceOrEnd old s.to
  pub behind : f ≤ offset old s.from
  pub ordered : offset old s.from ≤ offset old s.to

-- the text behind one replacement more, as it is known then; or that text would be too long
abbrev pub IsPassedTo : List ℕ → List ℕ → CodeSplice → Option PassedText → Type 0
IsPassedTo old now s result =
    MatchOption result
    (MAX_CHARS < length (all_changed now (splice_changes (length old) now (flat_splice old s))))
    (λ w. (length (all_changed now (splice_changes (length old) now (flat_splice old s))) ≤ MAX_CHARS) × IsPassed old (all_changed now (splice_changes (length old) now (flat_splice old s))) (offset old s.to) w)
