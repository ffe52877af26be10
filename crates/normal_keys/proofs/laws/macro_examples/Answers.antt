-- The examples hold by computation, with the tables of characters and the rows open.
use Rattle.std.specs.Str.{chars}
use Rattle.unicode.proofs.CategoryComputing.{ucd_category}
use Rattle.unicode.proofs.DerivedComputing.{ucd_derived}
use Rattle.unicode_width.proofs.Computing.{unicode_width}
use Rattle.kak_world.specs.Flat.{client_of, shown_of, buffer_of, list_of, own_of, text_of, sels_of, name_of, view_of, tabstop_of, indentwidth_of, with_own, with_list_of, with_sels, rest_of, with_rest}
use Rattle.kak_world.specs.Registers.{set_row}
use Rattle.key_rows.specs.Reading.{strings_read}
use Rattle.key_rows.specs.Playing.{row_macro}
use Rattle.normal_keys.specs.Actions.{action_of}
use Rattle.normal_keys.specs.Rows.{row_normal}
use Rattle.normal_keys.specs.MacroExamples.{RecordingExamples, PlayingExamples}
use Rattle.normal_keys.proofs.laws.macro_examples.Goals as goal

recordings : RecordingExamples
unfolding action_of row_normal client_of shown_of buffer_of list_of own_of text_of sels_of name_of view_of tabstop_of indentwidth_of rest_of with_own with_list_of with_sels with_rest set_row strings_read row_macro chars lib.Utf8.encode ucd_category ucd_derived unicode_width
recordings = search

playings : PlayingExamples
unfolding action_of row_normal client_of shown_of buffer_of list_of own_of text_of sels_of name_of view_of tabstop_of indentwidth_of rest_of with_own with_list_of with_sels with_rest set_row strings_read row_macro chars lib.Utf8.encode ucd_category ucd_derived unicode_width
playings = search

pub returns : goal.returns
returns c = record { recordings = recordings; plays = playings }
