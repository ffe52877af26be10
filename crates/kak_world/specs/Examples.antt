-- Worked examples of the flat world, which hold by computation.
use Rattle.std.specs.Prelude.{◌≡◌, ℕ, true, false, None, Some, [], ◌∷◌, List, length, codes, map}
use Rattle.list_model.specs.Ranges.{Range, Selected, only, cursor}
use Rattle.text_model.specs.Changes.{Erasure}
use Rattle.undo_model.specs.declared.travel.Travel.TheVariants.{Undo, Redo, Node}
use Rattle.undo_model.specs.Stories.{opened}
use Rattle.list_shelf.specs.declared.holder.Holder.TheVariants.{Of}
use Rattle.list_shelf.specs.Shelves.{Held}
use Rattle.kak_world.specs.Flat.{Flat, opening, first_rest, first_scoped, is_joined, acts, takes_turn, step_ended, name_of, text_of, sels_of, tabstop_of, story_of, node_number_of, joined_by, left_by_client, buffer_at, numbers_of, fresh_list, newcomer}
use Rattle.kak_world.specs.declared.ask.EditError.TheVariants.{NothingToUndo, NothingToRedo, NoSuchNode}
use Rattle.kak_world.specs.Changing.{changed_in, buffer_edited, edited_by, traveled_by, commits}
use Rattle.kak_world.specs.Rows.{Fails, error_text}
use Rattle.kak_world.specs.Editing.{travel_row}

-- a straight selection, and a turned one
abbrev pub straight : ℕ → ℕ → Range
straight a b = record { low = a; high = b; turned = false; target = None }

abbrev pub turned : ℕ → ℕ → Range
turned a b = record { low = a; high = b; turned = true; target = None }

abbrev pub sels : List Range → ℕ → Selected
sels list main = record { list = list; main = main }

-- one client on an empty text, and then two
abbrev pub one_client : Flat
one_client = joined_by 7 opening

abbrev pub two_joined : Flat
two_joined = joined_by 9 one_client

-- a list of a client
abbrev pub list_for : ℕ → Selected → Held
list_for who s = record (fresh_list (Of who)) { sels = s }

-- clients 7 and 9 on a text, with these selections
abbrev pub on_text : List ℕ → Selected → Selected → Flat
on_text text first second = record {
  buffers = Some (record { name = codes "n"; is_file = true; story = opened text; lists = list_for 7 first ∷ list_for 9 second ∷ [] }) ∷ [];
  clients = newcomer 7 0 0 ∷ newcomer 9 1 0 ∷ [];
  rest = first_rest;
  scoped = first_scoped;
}

abbrev pub only_sel_at : ℕ → Selected
only_sel_at o = sels (only o ∷ []) 0

-- characters of a client before each of its cursors
abbrev pub typed_by : List ℕ → ℕ → Flat → Flat
typed_by s who flat = edited_by (map (λ r. record { from = cursor r; «to» = cursor r; put = s }) (sels_of who flat).list) who flat

-- both type: 7 an x, 9 a y, and 7 a z
abbrev pub both_typed : Flat
both_typed = typed_by (codes "z") 7 (typed_by (codes "y") 9 (typed_by (codes "x") 7 (on_text (codes "ab\n") (only_sel_at 0) (only_sel_at 1))))

-- 9 has two selections, of which the first is turned, and three characters between them and in them go
abbrev pub middle_gone : Flat
middle_gone = changed_in 0 (buffer_edited 7 (Erasure 2 5 ∷ [])) (on_text (codes "abcdefgh\n") (only_sel_at 0) (sels (turned 1 2 ∷ straight 5 6 ∷ []) 1))

pub record ComingExamples : Type 0 where
  pub nobody_is_there : is_joined 7 opening ≡ false
  pub first_comes : is_joined 7 one_client ≡ true
  pub others_are_not_there : is_joined 9 one_client ≡ false
  pub sees_the_scratch_buffer : name_of 7 one_client ≡ codes "*scratch*"
  pub begins_at_the_first_character : sels_of 7 one_client ≡ only_sel_at 0
  pub tab_stops_at_each_eighth : tabstop_of 0 one_client ≡ 8
  pub names_of_two : numbers_of two_joined.clients ≡ 0 ∷ 1 ∷ []
  pub second_stays : is_joined 9 (left_by_client 7 two_joined) ≡ true
  pub first_is_gone : is_joined 7 (left_by_client 7 two_joined) ≡ false
  pub its_list_is_gone : map (λ held. held.holder) (buffer_at 0 (left_by_client 7 two_joined).buffers).lists ≡ Of 9 ∷ []
  pub who_comes_acts_not : acts 7 one_client ≡ false
  pub whose_turn_it_is_acts : acts 9 (takes_turn 9 two_joined) ≡ true
  pub the_other_acts_not : acts 7 (takes_turn 9 two_joined) ≡ false
  pub one_turn_at_once : acts 9 (takes_turn 7 (takes_turn 9 two_joined)) ≡ false
  pub who_is_not_there_acts_not : acts 11 (takes_turn 11 two_joined) ≡ false
  pub step_ends : acts 9 (step_ended (takes_turn 9 two_joined)) ≡ false
  pub freed_name_is_taken_again : numbers_of (joined_by 11 (left_by_client 7 two_joined)).clients ≡ 1 ∷ 0 ∷ []

pub record ChangeExamples : Type 0 where
  pub one_types : text_of 9 (typed_by (codes "x") 7 (on_text (codes "ab\n") (only_sel_at 0) (only_sel_at 1))) ≡ codes "xab\n"
  pub the_other_moves_along : sels_of 9 (typed_by (codes "x") 7 (on_text (codes "ab\n") (only_sel_at 0) (only_sel_at 1))) ≡ only_sel_at 2
  pub both_type : text_of 7 both_typed ≡ codes "xzayb\n"
  pub where_the_first_is : sels_of 7 both_typed ≡ only_sel_at 2
  pub where_the_second_is : sels_of 9 both_typed ≡ only_sel_at 4
  pub at_each_cursor : text_of 7 (typed_by (codes "x") 7 (on_text (codes "ab\n") (sels (only 0 ∷ only 1 ∷ []) 1) (only_sel_at 1))) ≡ codes "xaxb\n"
  pub each_moves_on : sels_of 7 (typed_by (codes "x") 7 (on_text (codes "ab\n") (sels (only 0 ∷ only 1 ∷ []) 1) (only_sel_at 1))) ≡ sels (only 1 ∷ only 3 ∷ []) 1
  pub two_become_one : sels_of 9 middle_gone ≡ sels (turned 1 3 ∷ []) 0
  pub and_shrink : sels_of 9 (changed_in 0 (buffer_edited 7 (Erasure 1 2 ∷ [])) middle_gone) ≡ sels (turned 1 2 ∷ []) 0
  pub other_buffers_stay : text_of 9 (changed_in 1 (buffer_edited 7 (Erasure 0 1 ∷ [])) (on_text (codes "ab\n") (only_sel_at 0) (only_sel_at 1))) ≡ codes "ab\n"

-- 7 takes back what it typed last, where 9 typed in between; and it makes that again
abbrev pub took_back : Flat
took_back = traveled_by Undo 7 (commits 7 both_typed)

abbrev pub made_again : Flat
made_again = traveled_by Redo 9 took_back

pub record HistoryExamples : Type 0 where
  pub each_group_is_a_node : length (story_of 7 (commits 7 both_typed)).nodes ≡ 4
  pub undo_takes_the_last : text_of 7 took_back ≡ codes "xayb\n"
  pub who_undoes_stands_there : sels_of 7 took_back ≡ only_sel_at 1
  pub the_other_moves_along : sels_of 9 took_back ≡ only_sel_at 3
  pub redo_makes_it_again : text_of 9 made_again ≡ codes "xzayb\n"
  pub who_redoes_stands_there : sels_of 9 made_again ≡ only_sel_at 1
  pub the_first_moves_along : sels_of 7 made_again ≡ only_sel_at 2
  pub pending_counts : node_number_of 7 both_typed ≡ 3
  pub to_the_first_node : text_of 7 (traveled_by (Node 1) 7 both_typed) ≡ codes "xab\n"
  pub others_undo_what_is_pending : text_of 9 (traveled_by Undo 9 both_typed) ≡ codes "xayb\n"
  pub leaving_commits : node_number_of 9 (left_by_client 7 both_typed) ≡ 3
  pub and_nothing_is_lost : text_of 9 (left_by_client 7 both_typed) ≡ codes "xzayb\n"
  pub nothing_to_undo : (travel_row Undo 7 one_client).row ≡ Fails (error_text NothingToUndo)
  pub nothing_to_redo : (travel_row Redo 7 one_client).row ≡ Fails (error_text NothingToRedo)
  pub no_such_node : (travel_row (Node 4) 7 both_typed).row ≡ Fails (error_text NoSuchNode)
  pub which_commits_still : story_of 7 (travel_row (Node 4) 7 both_typed).world ≡ story_of 7 (commits 7 both_typed)

-- all of them
pub record Examples : Type 0 where
  pub coming : ComingExamples
  pub changes : ChangeExamples
  pub history : HistoryExamples
