-- Worked examples of what a buffer keeps, which hold by computation.
use Rattle.std.specs.Prelude.{◌≡◌, ℕ, List, true, false, [], ◌∷◌, Some, None, codes}
use Rattle.text_model.specs.declared.coords.Coord.{Coord}
use Rattle.text_model.specs.declared.coords.Shift.{Shift}
use Rattle.text_model.specs.Changes.{Insertion, Erasure}
use Rattle.selection_set.specs.declared.sel.Sel.{Sel}
use Rattle.change_list.specs.declared.change.Change.{Change as Kept}
use Rattle.undo_model.specs.declared.travel.Travel.TheVariants.{Node}
use Rattle.undo_model.specs.Moves.{forgotten}
use Rattle.undo_model.specs.Stories.{is_modified}
use Rattle.undo_model.specs.Named.{undone}
use Rattle.undo_model.specs.Examples.{typed_at_begin, empty_story, one_node, two_children, at_the_first}
use Rattle.buffer_store.specs.Stored.{flats, made, backs, change_shifts}
use Rattle.buffer_store.specs.declared.edits.Splice.{Splice}
use Rattle.buffer_store.specs.declared.errors.MoveError.TheVariants.{NoNode}
use Rattle.buffer_store.specs.Seen.{Branch, story_kept}
use Rattle.buffer_store.specs.Traces.{trace, trace_after}
use Rattle.buffer_store.specs.Walks.{way_changes, aimed_over}
use Rattle.buffer_store.specs.Buffers.{changes_of, refusal_of}
use Rattle.buffer_store.specs.Limits.{added}

abbrev pub at : ℕ → ℕ → Coord
at line column = record { line = line; column = column }

-- one character typed at the begin of an empty text, as it is kept
abbrev pub kept_letter : ℕ → Kept
kept_letter c = record { shift = record { insert = true; begin = at 0 0; «end» = at 0 1; last = at 0 1 }; chars = c ∷ [] }

-- the second line of a text of two taken out, as it is kept
abbrev pub line_kept : Kept
line_kept = record { shift = record { insert = false; begin = at 1 0; «end» = at 2 0; last = at 0 1 }; chars = codes "b\n" }

-- a branch of one typed character, from the root
abbrev pub typed_branch : ℕ → Branch
typed_branch c = record { parent = 0; heir = None; changes = kept_letter c ∷ [] }

-- the root's branch
abbrev pub root_branch : Branch
root_branch = record { parent = 0; heir = None; changes = [] }

-- the root's branch, with an heir
abbrev pub root_with : ℕ → Branch
root_with n = record { parent = 0; heir = Some n; changes = [] }

-- the first character taken out, so that the line is empty, and put in there
abbrev pub first_taken : Shift
first_taken = record { insert = false; begin = at 0 0; «end» = at 0 1; last = at 0 0 }

abbrev pub first_put : Shift
first_put = record { insert = true; begin = at 0 0; «end» = at 0 1; last = at 0 1 }

-- the selection of the first character
abbrev pub first_alone : Sel
first_alone = record { low = at 0 0; high = at 0 0; turned = false; target = None }

-- a replacement on the first line, between two columns
abbrev pub splice : ℕ → ℕ → List ℕ → Splice
splice from to put = record { from = at 0 from; «to» = at 0 to; text = put }

-- the second line of a text of two replaced
abbrev pub line_splice : List ℕ → Splice
line_splice put = record { from = at 1 0; «to» = at 2 0; text = put }

pub record Examples : Type 0 where
  pub line_by_offsets : flats (codes "a\nb\n") (line_kept ∷ []) ≡ Erasure 2 4 ∷ []
  pub line_taken : made (codes "a\nb\n") (line_kept ∷ []) ≡ codes "a\n"
  pub line_back : backs (codes "a\n") (line_kept ∷ []) ≡ Insertion 2 (codes "b\n") ∷ []
  pub shift_back : change_shifts (codes "a\n") (Insertion 2 (codes "b\n") ∷ []) ≡ record { insert = true; begin = at 1 0; «end» = at 2 0; last = at 1 1 } ∷ []
  pub last_back_first : backs (codes "ba\n") (kept_letter 97 ∷ kept_letter 98 ∷ []) ≡ Erasure 0 1 ∷ Erasure 0 1 ∷ []
  pub pending_told : story_kept (codes "a\n") (root_branch ∷ []) 0 0 (Some (record { owner = 0; changes = kept_letter 97 ∷ [] })) ≡ typed_at_begin 0 97 empty_story
  pub node_told : story_kept (codes "a\n") (root_branch ∷ typed_branch 97 ∷ []) 1 0 None ≡ one_node
  pub undo_told : story_kept (codes "\n") (root_with 1 ∷ typed_branch 97 ∷ []) 0 0 None ≡ undone one_node
  pub two_told : story_kept (codes "b\n") (root_with 1 ∷ typed_branch 97 ∷ typed_branch 98 ∷ []) 2 0 None ≡ two_children
  pub way_told : story_kept (codes "a\n") (root_with 1 ∷ typed_branch 97 ∷ typed_branch 98 ∷ []) 1 0 None ≡ at_the_first
  pub way_back_and_on : way_changes (root_with 1 ∷ typed_branch 97 ∷ typed_branch 98 ∷ []) (codes "b\n") (2 ∷ []) (1 ∷ []) ≡ Erasure 0 1 ∷ Insertion 0 (codes "a") ∷ []
  pub last_heir_stays : aimed_over (root_branch ∷ typed_branch 97 ∷ typed_branch 98 ∷ []) (2 ∷ 1 ∷ []) ≡ root_with 1 ∷ typed_branch 97 ∷ typed_branch 98 ∷ []
  pub both_noted : trace_after (trace (codes "b\n") [] []) (Erasure 0 1 ∷ Insertion 0 (codes "a") ∷ []) ≡ trace (codes "a\n") (first_taken ∷ first_put ∷ []) (first_alone ∷ first_alone ∷ [])
  pub by_coordinates : changes_of (codes "ab\ncd\n") (splice 0 1 (codes "xy") ∷ splice 1 1 (codes "\n") ∷ line_splice [] ∷ []) ≡ Erasure 0 1 ∷ Insertion 0 (codes "xy") ∷ Insertion 2 (codes "\n") ∷ Erasure 5 8 ∷ []
  pub nothing_is_no_change : changes_of (codes "ab\n") (splice 1 1 [] ∷ []) ≡ []
  pub stays_in_its_place : changes_of (codes "a\nb\n") (line_splice (codes "\n") ∷ []) ≡ Erasure 2 3 ∷ []
  pub lost_history_is_modified : is_modified (forgotten (codes "a\n")) ≡ true
  pub lost_history_leads_nowhere : (undone (forgotten (codes "a\n"))).text ≡ codes "a\n"
  pub no_such_node : refusal_of (Node 3) ≡ NoNode 3
  pub newline_that_stays_is_added : added [] true false ≡ 1
  pub newline_that_lacks_is_added : added (codes "x") true true ≡ 2
  pub no_newline_is_added_inside : added (codes "x") false false ≡ 1
