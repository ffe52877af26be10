-- The examples hold by computation, with the tables of characters and the rows open.
use Rattle.unicode.proofs.CategoryComputing.{ucd_category}
use Rattle.unicode.proofs.DerivedComputing.{ucd_derived}
use Rattle.unicode_width.proofs.Computing.{unicode_width}
use Rattle.kak_world.specs.Flat.{client_of, shown_of, buffer_of, list_of, own_of, text_of, sels_of, view_of, tabstop_of, indentwidth_of, with_own, with_list_of, with_sels, rest_of, with_rest}
use Rattle.normal_keys.specs.Actions.{action_of}
use Rattle.normal_keys.specs.Rows.{row_normal}
use Rattle.normal_keys.specs.ObjectExamples.{ObjectExamples}
use Rattle.normal_keys.proofs.laws.object_examples.Goals as goal

objects : ObjectExamples
unfolding action_of row_normal client_of shown_of buffer_of list_of own_of text_of sels_of view_of tabstop_of indentwidth_of rest_of with_own with_list_of with_sels with_rest ucd_category ucd_derived unicode_width
objects = search

pub returns : goal.returns
returns c = objects
