-- The examples hold by computation.
use Rattle.std.specs.Str.{chars}
use Rattle.std.proofs.Common.{rules}
use Rattle.kak_world.specs.Flat.{client_of, shown_of, buffer_of, list_of, own_of, text_of, sels_of, name_of, with_own, rest_of, with_rest}
use Rattle.kak_world.specs.Registers.{set_row}
use Rattle.key_rows.specs.Reading.{strings_read}
use Rattle.insert_prompt.specs.Rows.{row_prompt}
use Rattle.insert_prompt.specs.PromptExamples.{ErasingExamples, MovingExamples, LeavingExamples, PatternExamples, RegisterExamples}
use Rattle.insert_prompt.proofs.laws.prompt_examples.Goals as goal

erasing : ErasingExamples
unfolding chars client_of shown_of buffer_of list_of own_of text_of sels_of name_of with_own rest_of with_rest set_row strings_read row_prompt lib.Utf8.encode
erasing = search rules

moving : MovingExamples
unfolding chars client_of shown_of buffer_of list_of own_of text_of sels_of name_of with_own rest_of with_rest set_row strings_read row_prompt lib.Utf8.encode
moving = search rules

leaving : LeavingExamples
unfolding chars client_of shown_of buffer_of list_of own_of text_of sels_of name_of with_own rest_of with_rest set_row strings_read row_prompt lib.Utf8.encode
leaving = search rules

patterns : PatternExamples
unfolding chars client_of shown_of buffer_of list_of own_of text_of sels_of name_of with_own rest_of with_rest set_row strings_read row_prompt lib.Utf8.encode
patterns = search rules

registers : RegisterExamples
unfolding chars client_of shown_of buffer_of list_of own_of text_of sels_of name_of with_own rest_of with_rest set_row strings_read row_prompt lib.Utf8.encode
registers = search rules

pub returns : goal.returns
returns c = record { erasing = erasing; moving = moving; leaving = leaving; patterns = patterns; registers = registers }
