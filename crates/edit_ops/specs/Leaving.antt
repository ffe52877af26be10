-- The list of selections that an edit leaves to the client who makes it.
use Rattle.std.specs.Prelude.{ℕ, ◌+◌, ◌-◌, min, ◌==◌, nat_lt, ◌&&◌, if◌then◌else◌, false, None, List, [], ◌∷◌, length}
use Rattle.text_model.specs.Texts.{ends_in_newline, last_place}
use Rattle.text_model.specs.Changes.{Change, put_in, erased, changed, all_changed, move_of}
use Rattle.text_model.specs.Mapping.{shifted}
use Rattle.list_model.specs.Ranges.{Range, Selected, only}
use Rattle.list_model.specs.Settling.{carried, settled}
use Rattle.undo_model.specs.Edits.{Splice, splice_changes, edit_changes}

-- the text after an edit
abbrev pub edited_text : List ℕ → List Splice → List ℕ
edited_text text ss = all_changed text (edit_changes (length text) text ss)

-- what counts as put in where the range from p to before q is replaced: what is really put in, and with it the last newline
-- of the text where it stays in the place of another
abbrev pub put_for : List ℕ → ℕ → ℕ → List ℕ → List ℕ
put_for text p q s = if nat_lt p q && (q == length text && ends_in_newline s) then s else put_in (erased text p q) p s

-- the range that characters fill from an offset on; without characters, the one character there, where the end means the last
abbrev pub filled : List ℕ → ℕ → List ℕ → Range
filled text p [] = only (min p (last_place text))
filled text p (c ∷ cs) = record { low = p; high = p + length cs; turned = false; target = None }

-- the text behind one replacement of an edit
abbrev pub replaced : ℕ → List ℕ → Splice → List ℕ
replaced before text s = all_changed text (splice_changes before text s)

-- what one replacement of an edit leaves, in the text behind it
abbrev pub edit_mark : ℕ → List ℕ → Splice → Range
edit_mark before text s = filled (replaced before text s) (s.from + length text - before) (put_for text (s.from + length text - before) (s.to + length text - before) s.put)

-- a range gone through changes of a text, one after another
abbrev pub gone_through : List ℕ → List Change → Range → Range
gone_through text [] r = r
gone_through text (c ∷ cs) r = gone_through (changed text c) cs (carried (shifted (move_of text c)) r)

-- what each replacement of an edit leaves, gone through the changes of the later ones
abbrev pub ranges_left : ℕ → List ℕ → List Splice → List Range
ranges_left before text [] = []
ranges_left before text (s ∷ ss) =
    gone_through (replaced before text s) (edit_changes before (replaced before text s) ss) (edit_mark before text s) ∷ ranges_left before (replaced before text s) ss

-- the list that an edit leaves, where the main selection was the one with this number
abbrev pub list_left_by : List ℕ → List Splice → ℕ → Selected
list_left_by text ss main = settled (record { list = ranges_left (length text) text ss; main = main })
