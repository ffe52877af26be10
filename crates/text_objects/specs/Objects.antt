-- The objects at a cursor, by their first and their last offset: the object itself, and the object with what is around
-- it. None where the cursor isn't in one.
use Rattle.std.specs.Prelude.{ℕ, true, false, List}
use Rattle.std.specs.declared.option.Option.{Option}
use Rattle.motion_keys.specs.Words.{Ends}
use Rattle.text_objects.specs.declared.kinds.Object.{Object}
use Rattle.text_objects.specs.declared.kinds.Object.TheVariants.{Word, BigWord, Paragraph, Sentence, Blanks, Indent, Number, Round, Curly, Square, Angle, DoubleQuote, Quote, Grave}
use Rattle.text_objects.specs.RunObjects.{inner_word, around_word, inner_blanks, around_blanks, inner_number, around_number}
use Rattle.text_objects.specs.LineObjects.{inner_paragraph, around_paragraph, inner_indent, around_indent}
use Rattle.text_objects.specs.Sentences.{inner_sentence, around_sentence}
use Rattle.text_objects.specs.Pairs.{inner_brackets, around_brackets, inner_quotes, around_quotes}

-- the object that holds an offset of a text, with a tab stop at each so many columns. The brackets are ( 40 and ) 41,
-- { 123 and } 125, [ 91 and ] 93, < 60 and > 62; the quotes are " 34, ' 39 and the grave mark 96
abbrev pub inner : Object → List ℕ → ℕ → ℕ → Option Ends
inner Word text o tabstop = inner_word false text o
inner BigWord text o tabstop = inner_word true text o
inner Paragraph text o tabstop = inner_paragraph text o
inner Sentence text o tabstop = inner_sentence text o
inner Blanks text o tabstop = inner_blanks text o
inner Indent text o tabstop = inner_indent text o tabstop
inner Number text o tabstop = inner_number text o
inner Round text o tabstop = inner_brackets 40 41 text o
inner Curly text o tabstop = inner_brackets 123 125 text o
inner Square text o tabstop = inner_brackets 91 93 text o
inner Angle text o tabstop = inner_brackets 60 62 text o
inner DoubleQuote text o tabstop = inner_quotes 34 text o
inner Quote text o tabstop = inner_quotes 39 text o
inner Grave text o tabstop = inner_quotes 96 text o

-- the object with the blanks, lines, sign, brackets or quotes that belong to it
abbrev pub around : Object → List ℕ → ℕ → ℕ → Option Ends
around Word text o tabstop = around_word false text o
around BigWord text o tabstop = around_word true text o
around Paragraph text o tabstop = around_paragraph text o
around Sentence text o tabstop = around_sentence text o
around Blanks text o tabstop = around_blanks text o
around Indent text o tabstop = around_indent text o tabstop
around Number text o tabstop = around_number text o
around Round text o tabstop = around_brackets 40 41 text o
around Curly text o tabstop = around_brackets 123 125 text o
around Square text o tabstop = around_brackets 91 93 text o
around Angle text o tabstop = around_brackets 60 62 text o
around DoubleQuote text o tabstop = around_quotes 34 text o
around Quote text o tabstop = around_quotes 39 text o
around Grave text o tabstop = around_quotes 96 text o
