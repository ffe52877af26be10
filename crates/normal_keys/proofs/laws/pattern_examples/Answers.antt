-- The examples hold by computation, with the tables of characters and the rows open.
use Rattle.std.specs.Str.{chars}
use Rattle.unicode.proofs.CategoryComputing.{ucd_category}
use Rattle.unicode.proofs.DerivedComputing.{ucd_derived}
use Rattle.unicode_width.proofs.Computing.{unicode_width}
use Rattle.kak_world.specs.Flat.{client_of, shown_of, buffer_of, list_of, own_of, text_of, sels_of, view_of, tabstop_of, indentwidth_of, with_own, with_list_of, with_sels, rest_of, with_rest}
use Rattle.kak_world.specs.Registers.{set_row}
use Rattle.normal_keys.specs.Actions.{action_of}
use Rattle.normal_keys.specs.Rows.{row_normal}
use Rattle.normal_keys.specs.PatternExamples.{PromptingExamples, AgainExamples, RememberingExamples}
use Rattle.normal_keys.proofs.laws.pattern_examples.Goals as goal

prompts : PromptingExamples
unfolding action_of row_normal client_of shown_of buffer_of list_of own_of text_of sels_of view_of tabstop_of indentwidth_of rest_of with_own with_list_of with_sels with_rest set_row chars lib.Utf8.encode ucd_category ucd_derived unicode_width
prompts = search

again : AgainExamples
unfolding action_of row_normal client_of shown_of buffer_of list_of own_of text_of sels_of view_of tabstop_of indentwidth_of rest_of with_own with_list_of with_sels with_rest set_row chars lib.Utf8.encode ucd_category ucd_derived unicode_width
again = search

remembering : RememberingExamples
unfolding action_of row_normal client_of shown_of buffer_of list_of own_of text_of sels_of view_of tabstop_of indentwidth_of rest_of with_own with_list_of with_sels with_rest set_row chars lib.Utf8.encode ucd_category ucd_derived unicode_width
remembering = search

pub returns : goal.returns
returns c = record { prompts = prompts; again = again; remembering = remembering }
