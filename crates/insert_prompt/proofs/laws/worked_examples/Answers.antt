-- The examples hold by computation, also where a register is set to what was typed.
use Rattle.std.specs.Str.{chars}
use Rattle.std.proofs.Common.{rules}
use Rattle.kak_world.specs.Flat.{client_of, shown_of, buffer_of, list_of, own_of, text_of, sels_of, story_of, with_own, rest_of, with_rest}
use Rattle.kak_world.specs.Changing.{changed_in, edited_by, commits}
use Rattle.kak_world.specs.Editing.{edit_row}
use Rattle.kak_world.specs.Registers.{set_row}
use Rattle.insert_prompt.proofs.laws.worked_examples.Goals as goal

pub returns : goal.returns
unfolding chars client_of shown_of buffer_of list_of own_of text_of sels_of story_of with_own rest_of with_rest changed_in edited_by commits edit_row set_row lib.Utf8.encode
returns c = search rules
