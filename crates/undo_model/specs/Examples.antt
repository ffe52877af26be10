-- Worked examples of undo trees, which hold by computation.
use Rattle.std.specs.Prelude.{◌≡◌, ℕ, true, false, [], ◌∷◌, Some, None, codes, List}
use Rattle.text_model.specs.Changes.{Insertion, Erasure, all_changed}
use Rattle.list_model.specs.Ranges.{Selected, only}
use Rattle.undo_model.specs.Steps.{undoing}
use Rattle.undo_model.specs.Tree.{node_at}
use Rattle.undo_model.specs.Stories.{Story, opened, committed, committed_by, edited, is_undo_full, changes_to, heir_of, is_modified, marked_saved, nodes_due}
use Rattle.undo_model.specs.declared.travel.Travel.TheVariants.{Undo, Redo, Node}
use Rattle.undo_model.specs.Ways.{leaving, entering, crossed}
use Rattle.undo_model.specs.Moves.{target_of, moved_by, move_changes, forgotten}
use Rattle.undo_model.specs.Named.{moved_to, undone, redone}
use Rattle.undo_model.specs.Edits.{Splice, edit_changes}
use Rattle.undo_model.specs.Marks.{marks, left_by}

-- a client types a character at the begin of the text
abbrev pub typed_at_begin : ℕ → ℕ → Story → Story
typed_at_begin who c s = edited who (Insertion 0 (c ∷ []) ∷ []) s

-- an empty buffer
abbrev pub empty_story : Story
empty_story = opened (codes "\n")

-- client 0 typed `a`, and ended insert mode
abbrev pub one_node : Story
one_node = committed_by 0 (typed_at_begin 0 97 empty_story)

-- it took that back, and typed `b` in its place
abbrev pub two_children : Story
two_children = committed_by 0 (typed_at_begin 0 98 (undone one_node))

-- and went back to the first child
abbrev pub at_the_first : Story
at_the_first = moved_to 1 two_children

-- client 0 has typed `a`, and then client 1 `b`, both in insert mode
abbrev pub two_typing : Story
two_typing = typed_at_begin 1 98 (typed_at_begin 0 97 empty_story)

-- the first character
abbrev pub first_only : Selected
first_only = record { list = only 0 ∷ []; main = 0 }

abbrev pub offset_splice : ℕ → ℕ → List ℕ → Splice
offset_splice from to put = record { from = from; «to» = to; put = put }

pub record TreeExamples : Type 0 where
  pub opened_at_the_root : empty_story.current ≡ 0
  pub nothing_to_undo : undone empty_story ≡ empty_story
  pub nothing_to_redo : redone empty_story ≡ empty_story
  pub typing_is_pending : (typed_at_begin 0 97 empty_story).nodes ≡ empty_story.nodes
  pub a_group_becomes_a_node : one_node.current ≡ 1
  pub its_text : one_node.text ≡ codes "a\n"
  pub undo_takes_it_back : (undone one_node).text ≡ codes "\n"
  pub undo_is_remembered : heir_of (undone one_node) ≡ Some 1
  pub redo_makes_it_again : (redone (undone one_node)).text ≡ codes "a\n"
  pub a_second_child : two_children.current ≡ 2
  pub its_parent : (node_at two_children.nodes 2).parent ≡ 0
  pub over_the_ancestor : changes_to 1 two_children ≡ Erasure 0 1 ∷ Insertion 0 (codes "a") ∷ []
  pub steps_of_that : crossed 3 two_children.nodes 2 1 ≡ record { parent = 0; child = 2 } ∷ record { parent = 0; child = 1 } ∷ []
  pub to_the_first : at_the_first.text ≡ codes "a\n"
  pub heir_is_the_last_gone_to : heir_of (undone at_the_first) ≡ Some 1
  pub redo_goes_to_the_heir : (redone (undone two_children)).current ≡ 2
  pub no_such_node : moved_to 3 two_children ≡ two_children
  pub where_it_is : (moved_to 2 two_children).nodes ≡ two_children.nodes
  pub from_the_last_back : undoing (codes "ab\n") (Erasure 0 1 ∷ Insertion 1 (codes "x") ∷ []) ≡ Erasure 1 2 ∷ Insertion 0 (codes "a") ∷ []

pub record GroupExamples : Type 0 where
  pub own_changes_are_one_group : (committed (typed_at_begin 0 98 (typed_at_begin 0 97 empty_story))).current ≡ 1
  pub and_go_back_together : (undone (typed_at_begin 0 98 (typed_at_begin 0 97 empty_story))).text ≡ codes "\n"
  pub others_are_committed_first : two_typing.current ≡ 1
  pub the_first_alone_stands : (node_at two_typing.nodes 1).text ≡ codes "a\n"
  pub undo_takes_what_is_pending : (undone two_typing).text ≡ codes "a\n"
  pub no_change_commits_nothing : edited 1 [] (typed_at_begin 0 97 empty_story) ≡ typed_at_begin 0 97 empty_story
  pub others_end_nothing : committed_by 1 (typed_at_begin 0 97 empty_story) ≡ typed_at_begin 0 97 empty_story
  pub pending_counts_as_a_node : nodes_due two_typing ≡ 3
  pub there_is_room : is_undo_full 0 (Insertion 0 (codes "c") ∷ []) two_typing ≡ false
  pub pending_is_modified : is_modified (typed_at_begin 0 97 empty_story) ≡ true
  pub a_new_node_is_modified : is_modified one_node ≡ true
  pub undone_is_as_it_was_saved : is_modified (undone one_node) ≡ false
  pub saving_commits : (marked_saved (typed_at_begin 0 97 empty_story)).current ≡ 1
  pub saved_is_not_modified : is_modified (marked_saved (typed_at_begin 0 97 empty_story)) ≡ false
  pub undone_is_modified_then : is_modified (undone (marked_saved (typed_at_begin 0 97 empty_story))) ≡ true

pub record EditExamples : Type 0 where
  pub places_move_along : edit_changes 4 (codes "abc\n") (offset_splice 0 1 (codes "xy") ∷ offset_splice 2 3 [] ∷ []) ≡ Erasure 0 1 ∷ Insertion 0 (codes "xy") ∷ Erasure 3 4 ∷ []
  pub one_place_twice : edit_changes 2 (codes "a\n") (offset_splice 0 0 (codes "x") ∷ offset_splice 0 0 (codes "y") ∷ []) ≡ Insertion 0 (codes "x") ∷ Insertion 1 (codes "y") ∷ []
  pub the_end_twice : edit_changes 2 (codes "a\n") (offset_splice 2 2 (codes "x") ∷ offset_splice 2 2 (codes "y") ∷ []) ≡ Insertion 2 (codes "x\n") ∷ Insertion 4 (codes "y\n") ∷ []
  pub and_all_lines : all_changed (codes "a\n") (edit_changes 2 (codes "a\n") (offset_splice 2 2 (codes "x") ∷ offset_splice 2 2 (codes "y") ∷ [])) ≡ codes "a\nx\ny\n"
  pub last_newline_stays : edit_changes 3 (codes "ab\n") (offset_splice 1 3 [] ∷ offset_splice 3 3 (codes "x") ∷ []) ≡ Erasure 1 2 ∷ Insertion 2 (codes "x\n") ∷ []

pub record MarkExamples : Type 0 where
  pub both_sides_of_the_way : marks (codes "b\n") [] (Erasure 0 1 ∷ Insertion 0 (codes "a") ∷ []) ≡ only 1 ∷ only 0 ∷ []
  pub last_change_is_main : left_by (codes "b\n") (Erasure 0 1 ∷ Insertion 0 (codes "a") ∷ []) first_only ≡ record { list = only 0 ∷ only 1 ∷ []; main = 0 }
  pub no_change_leaves_the_list : left_by (codes "b\n") [] first_only ≡ first_only
  pub what_was_put_in : marks (codes "\n") [] (Insertion 0 (codes "abc") ∷ []) ≡ record { low = 0; high = 2; turned = false; target = None } ∷ []
  pub end_means_the_last : marks (codes "a\nb\n") [] (Erasure 2 4 ∷ []) ≡ only 1 ∷ []

pub record MoveExamples : Type 0 where
  pub undo_to_the_parent : target_of Undo two_children ≡ Some 0
  pub the_root_has_none : target_of Undo empty_story ≡ None
  pub redo_to_the_heir : target_of Redo (undone two_children) ≡ Some 2
  pub a_leaf_has_none : target_of Redo two_children ≡ None
  pub to_a_number : target_of (Node 1) two_children ≡ Some 1
  pub to_where_it_is : target_of (Node 2) two_children ≡ Some 2
  pub to_no_number : target_of (Node 3) two_children ≡ None
  pub pending_is_a_node_first : target_of Undo (typed_at_begin 0 97 empty_story) ≡ Some 0
  pub and_may_be_the_target : target_of (Node 1) (typed_at_begin 0 97 empty_story) ≡ Some 1
  pub and_has_no_heir : target_of Redo (typed_at_begin 0 98 (undone one_node)) ≡ None
  pub over_the_ancestor : moved_by (Node 1) two_children ≡ at_the_first
  pub its_changes : move_changes (Node 1) two_children ≡ Erasure 0 1 ∷ Insertion 0 (codes "a") ∷ []
  pub undo_by_name : move_changes Undo two_children ≡ Erasure 0 1 ∷ []
  pub redo_by_name : move_changes Redo (undone two_children) ≡ Insertion 0 (codes "b") ∷ []
  pub no_changes_to_itself : move_changes (Node 2) two_children ≡ []
  pub no_changes_to_nowhere : move_changes Redo two_children ≡ []
  pub refused_commits : moved_by Redo (typed_at_begin 0 97 empty_story) ≡ committed (typed_at_begin 0 97 empty_story)
  pub left_for_its_parent : leaving 3 two_children.nodes 2 1 ≡ 2 ∷ []
  pub gone_to_from_its_parent : entering 3 two_children.nodes 2 1 ≡ 1 ∷ []
  pub two_up : leaving 2 (committed two_typing).nodes 2 0 ≡ 2 ∷ 1 ∷ []
  pub two_down : entering 2 (committed two_typing).nodes 0 2 ≡ 1 ∷ 2 ∷ []
  pub nothing_to_undo_when_forgotten : (undone (forgotten (codes "a\n"))).text ≡ codes "a\n"
  pub forgotten_is_one_node : (forgotten (codes "a\n")).nodes ≡ (opened (codes "a\n")).nodes
  pub forgotten_is_modified : is_modified (forgotten (codes "a\n")) ≡ true

-- all of them
pub record WorkedExamples : Type 0 where
  pub trees : TreeExamples
  pub groups : GroupExamples
  pub moves : MoveExamples
  pub edits : EditExamples
  pub marks_of_moves : MarkExamples
