-- The examples hold by computation, with the tables of characters and the rows open.
use Rattle.unicode.proofs.CategoryComputing.{ucd_category}
use Rattle.unicode.proofs.DerivedComputing.{ucd_derived}
use Rattle.unicode_width.proofs.Computing.{unicode_width}
use Rattle.kak_world.specs.Flat.{client_of, shown_of, buffer_of, list_of, own_of, text_of, story_of, node_number_of, sels_of, view_of, tabstop_of, indentwidth_of, with_own, with_list_of, with_sels, rest_of, with_rest}
use Rattle.kak_world.specs.Changing.{changed_in, edited_by, traveled_by, commits}
use Rattle.kak_world.specs.Editing.{travel_row}
use Rattle.normal_keys.specs.Actions.{action_of}
use Rattle.normal_keys.specs.Rows.{row_normal}
use Rattle.normal_keys.specs.Examples.{StepExamples, PlaceExamples, CountExamples, ListExamples, CellExamples, HistoryExamples, ModeExamples}
use Rattle.normal_keys.proofs.laws.worked_examples.Goals as goal

steps : StepExamples
unfolding action_of row_normal client_of shown_of buffer_of list_of own_of text_of sels_of view_of tabstop_of indentwidth_of rest_of with_own with_list_of with_sels with_rest
steps = search

places : PlaceExamples
unfolding action_of row_normal client_of shown_of buffer_of list_of own_of text_of sels_of view_of tabstop_of indentwidth_of rest_of with_own with_list_of with_sels with_rest
places = search

counts : CountExamples
unfolding action_of row_normal client_of shown_of buffer_of list_of own_of text_of sels_of view_of tabstop_of indentwidth_of rest_of with_own with_list_of with_sels with_rest
counts = search

lists : ListExamples
unfolding action_of row_normal client_of shown_of buffer_of list_of own_of text_of sels_of view_of tabstop_of indentwidth_of rest_of with_own with_list_of with_sels with_rest
lists = search

cells : CellExamples
unfolding action_of row_normal client_of shown_of buffer_of list_of own_of text_of sels_of view_of tabstop_of indentwidth_of rest_of with_own with_list_of with_sels with_rest ucd_category ucd_derived unicode_width
cells = search

history : HistoryExamples
unfolding action_of row_normal client_of shown_of buffer_of list_of own_of text_of story_of node_number_of sels_of view_of tabstop_of indentwidth_of rest_of with_own with_list_of with_sels with_rest changed_in edited_by traveled_by commits travel_row
history = search

modes : ModeExamples
unfolding action_of row_normal client_of shown_of buffer_of list_of own_of text_of sels_of view_of tabstop_of indentwidth_of rest_of with_own with_list_of with_sels with_rest
modes = search

pub returns : goal.returns
returns c = record { steps = steps; places = places; counts = counts; lists = lists; cells = cells; history = history; modes = modes }
