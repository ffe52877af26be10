-- The examples hold by computation, with the tables of characters and the rows open.
use Rattle.std.specs.Str.{chars}
use Rattle.unicode.proofs.CategoryComputing.{ucd_category}
use Rattle.unicode.proofs.DerivedComputing.{ucd_derived}
use Rattle.unicode_width.proofs.Computing.{unicode_width}
use Rattle.kak_world.specs.Flat.{client_of, shown_of, buffer_of, list_of, own_of, text_of, story_of, sels_of, view_of, name_of, tabstop_of, indentwidth_of, with_own, with_list_of, with_sels, rest_of, with_rest}
use Rattle.kak_world.specs.Changing.{changed_in, edited_by}
use Rattle.kak_world.specs.Editing.{edit_row, long_refusal}
use Rattle.kak_world.specs.Registers.{set_row}
use Rattle.key_rows.specs.Reading.{strings_read}
use Rattle.key_rows.specs.Edits.{leaving_row}
use Rattle.normal_keys.specs.Actions.{action_of}
use Rattle.normal_keys.specs.Rows.{row_normal}
use Rattle.normal_keys.specs.EditExamples.{ErasingExamples, PuttingExamples, ChangingExamples, EnteringExamples}
use Rattle.normal_keys.proofs.laws.edit_examples.Goals as goal

erasing : ErasingExamples
unfolding action_of row_normal client_of shown_of buffer_of list_of own_of text_of story_of sels_of view_of name_of tabstop_of indentwidth_of rest_of with_own with_list_of with_sels with_rest changed_in edited_by edit_row long_refusal set_row strings_read leaving_row chars lib.Utf8.encode ucd_category ucd_derived unicode_width
erasing = search

putting : PuttingExamples
unfolding action_of row_normal client_of shown_of buffer_of list_of own_of text_of story_of sels_of view_of name_of tabstop_of indentwidth_of rest_of with_own with_list_of with_sels with_rest changed_in edited_by edit_row long_refusal set_row strings_read leaving_row chars lib.Utf8.encode ucd_category ucd_derived unicode_width
putting = search

changing : ChangingExamples
unfolding action_of row_normal client_of shown_of buffer_of list_of own_of text_of story_of sels_of view_of name_of tabstop_of indentwidth_of rest_of with_own with_list_of with_sels with_rest changed_in edited_by edit_row long_refusal set_row strings_read leaving_row chars lib.Utf8.encode ucd_category ucd_derived unicode_width
changing = search

entering : EnteringExamples
unfolding action_of row_normal client_of shown_of buffer_of list_of own_of text_of story_of sels_of view_of name_of tabstop_of indentwidth_of rest_of with_own with_list_of with_sels with_rest changed_in edited_by edit_row long_refusal set_row strings_read leaving_row chars lib.Utf8.encode ucd_category ucd_derived unicode_width
entering = search

pub returns : goal.returns
returns c = record { erasing = erasing; putting = putting; changing = changing; entering = entering }
