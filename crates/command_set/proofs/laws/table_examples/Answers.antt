-- The examples hold by computation, with the parts of the world open.
use Rattle.std.specs.Str.{chars}
use lib.Utf8.{encode}
use Rattle.kak_world.specs.Flat.{client_of, shown_of, scoped_of, with_scoped}
use Rattle.command_set.specs.Finishing.{row_finish}
use Rattle.command_set.specs.Rows.{row_words}
use Rattle.command_set.specs.TableExamples.{KeyExamples, MapExamples, HookExamples, AliasExamples}
use Rattle.command_set.proofs.laws.table_examples.Goals as goal

keys : KeyExamples
unfolding chars encode
keys = search

maps : MapExamples
unfolding chars encode client_of shown_of
maps = search

hooks : HookExamples
unfolding chars encode row_finish
hooks = search

aliases : AliasExamples
unfolding chars encode client_of shown_of scoped_of with_scoped row_words
aliases = search

pub returns : goal.returns
returns c = record { keys = keys; maps = maps; hooks = hooks; aliases = aliases }
