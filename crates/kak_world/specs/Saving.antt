-- Buffers by their names, and what would be lost of them.
use Rattle.std.specs.Prelude.{ℕ, ◌+◌, Bool, true, false, ◌&&◌, ◌||◌, nat_eq, if◌then◌else◌, List, [], ◌∷◌, ◌++◌}
use Rattle.std.specs.List.{list_all}
use Rattle.std.specs.Cmp.Lexicographic.{pointwise}
use Rattle.std.specs.declared.option.Option.{Option}
use Rattle.std.specs.Prelude.{Some, None}
use Rattle.undo_model.specs.Stories.{is_modified, marked_saved}
use Rattle.kak_world.specs.declared.clients.Client.{Client}
use Rattle.kak_world.specs.Flat.{Buffer, Flat, is_of}
use Rattle.kak_world.specs.Changing.{changed_in}

-- whether there is a buffer, of that name
abbrev pub is_named : List ℕ → Option Buffer → Bool
is_named name None = false
is_named name (Some b) = pointwise nat_eq b.name name

-- the least number of a buffer of that name, if there is one; the first of these has the number n
abbrev pub buffer_number_from : ℕ → List ℕ → List (Option Buffer) → Option ℕ
buffer_number_from n name [] = None
buffer_number_from n name (b ∷ bs) = if is_named name b then Some n else buffer_number_from (n + 1) name bs

abbrev pub number_named : List ℕ → Flat → Option ℕ
number_named name flat = buffer_number_from 0 name flat.buffers

-- a buffer whose text counts as saved, with what was pending committed; its name is a file's
abbrev pub marked_as_saved : Buffer → Buffer
marked_as_saved b = record b { is_file = true; story = marked_saved b.story }

unfoldable pub saved_in : ℕ → Flat → Flat
saved_in n flat = changed_in n marked_as_saved flat

-- whether what was changed in a buffer would be lost: its name is a file's, and its text may differ from what was saved
abbrev pub is_unsaved : Buffer → Bool
is_unsaved b = b.is_file && is_modified b.story

-- names with one more behind them, and a space (32) between
abbrev pub with_name : List ℕ → Option (List ℕ) → List ℕ
with_name name None = name
with_name name (Some names) = names ++ 32 ∷ name

-- behind some names, those of the buffers of which something would be lost, in order of number; None where there are none
abbrev pub unsaved_behind : Option (List ℕ) → List (Option Buffer) → Option (List ℕ)
unsaved_behind names [] = names
unsaved_behind names (None ∷ bs) = unsaved_behind names bs
unsaved_behind names (Some b ∷ bs) = unsaved_behind (if is_unsaved b then Some (with_name b.name names) else names) bs

abbrev pub unsaved_names : Flat → Option (List ℕ)
unsaved_names flat = unsaved_behind None flat.buffers

-- whether each other client was granted to leave
abbrev pub others_leave : ℕ → Flat → Bool
others_leave who flat = list_all (λ (c : Client). is_of who c || c.own.leaving) flat.clients
