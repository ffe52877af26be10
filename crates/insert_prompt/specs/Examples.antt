-- Worked examples of the rows of insert mode, which hold by computation.
use Rattle.std.specs.Prelude.{◌≡◌, ℕ, true, false, None, Some, [], ◌∷◌, List, length, codes}
use Rattle.key_names.specs.declared.key.Key.{Key}
use Rattle.key_names.specs.declared.key.Base.TheVariants.{Char, Ret, Tab, Esc}
use Rattle.list_model.specs.Ranges.{Range, Selected, only}
use Rattle.undo_model.specs.Stories.{opened}
use Rattle.list_shelf.specs.declared.holder.Holder.TheVariants.{Of}
use Rattle.kak_world.specs.declared.own.Mode.TheVariants.{Normal, Insert}
use Rattle.kak_world.specs.declared.own.Own.{Own}
use Rattle.list_shelf.specs.Shelves.{Held}
use Rattle.kak_world.specs.Flat.{Flat, first_rest, first_scoped, first_own, fresh_list, newcomer, only_at, mode_of, text_of, sels_of, story_of}
use Rattle.insert_prompt.specs.Rows.{insert_base, insert_control}

-- a list of a client
abbrev pub list_for : ℕ → Selected → Held
list_for who sels = record (fresh_list (Of who)) { sels = sels }

-- clients 0 and 1 on a text, the first with this of its own, and both with these selections
abbrev pub two_clients : List ℕ → Own → Selected → Selected → Flat
two_clients text own first second = record {
  buffers = Some (record { name = codes "*scratch*"; is_file = false; story = opened text; lists = list_for 0 first ∷ list_for 1 second ∷ [] }) ∷ [];
  clients = record (newcomer 0 0 0) { own = own } ∷ newcomer 1 1 0 ∷ [];
  rest = first_rest;
  scoped = first_scoped;
}

-- client 0 in insert mode on a text, with these selections, and client 1 on the character at an offset
abbrev pub selecting : List ℕ → List Range → ℕ → Flat
selecting text list other = two_clients text (record first_own { mode = Insert }) (record { list = list; main = 0 }) (only_at other)

-- what both clients see: the text, and their selections
pub record BothSeen : Type 0 where
  pub text : List ℕ
  pub first : Selected
  pub second : Selected

abbrev pub both_seen : Flat → BothSeen
both_seen flat = record { text = text_of 0 flat; first = sels_of 0 flat; second = sels_of 1 flat }

abbrev pub turned : ℕ → ℕ → Range
turned a b = record { low = a; high = b; turned = true; target = None }

abbrev pub control_u : Key
control_u = record { control = true; alt = false; shift = false; base = Char 117 }

pub record Examples : Type 0 where
  pub goes_in_before_the_cursor : both_seen (insert_base (Char 120) 0 (selecting (codes "ab\n") (only 1 ∷ []) 0)).world ≡ both_seen (selecting (codes "axb\n") (only 2 ∷ []) 0)
  -- the other client's selection stays on its character
  pub others_move_along : both_seen (insert_base (Char 120) 0 (selecting (codes "ab\n") (only 1 ∷ []) 2)).world ≡ both_seen (selecting (codes "axb\n") (only 2 ∷ []) 3)
  pub others_on_it_move_along : both_seen (insert_base (Char 120) 0 (selecting (codes "ab\n") (only 1 ∷ []) 1)).world ≡ both_seen (selecting (codes "axb\n") (only 2 ∷ []) 2)
  pub newline_goes_in : both_seen (insert_base Ret 0 (selecting (codes "ab\n") (only 1 ∷ []) 0)).world ≡ both_seen (selecting (codes "a\nb\n") (only 2 ∷ []) 0)
  pub turned_keeps_its_characters : both_seen (insert_base (Char 120) 0 (selecting (codes "abc\n") (turned 0 1 ∷ []) 3)).world ≡ both_seen (selecting (codes "xabc\n") (turned 1 2 ∷ []) 4)
  -- two cursors: the second place is moved on by what went in at the first
  pub at_two_cursors : both_seen (insert_base (Char 120) 0 (selecting (codes "ab\n") (only 0 ∷ only 1 ∷ []) 2)).world ≡ both_seen (selecting (codes "xaxb\n") (only 1 ∷ only 3 ∷ []) 4)
  -- a place stands behind what went in before it, also where the cursors touch or are turned
  pub at_three_cursors : both_seen (insert_base Ret 0 (selecting (codes "abcd\n") (only 0 ∷ turned 1 2 ∷ only 4 ∷ []) 3)).world ≡ both_seen (selecting (codes "\na\nbcd\n\n") (only 1 ∷ turned 3 4 ∷ only 7 ∷ []) 5)
  pub any_character_goes_in : both_seen (insert_base (Char 0x6F22) 0 (selecting (codes "ab\n") (only 1 ∷ []) 0)).world ≡ both_seen (selecting (97 ∷ 0x6F22 ∷ 98 ∷ 10 ∷ []) (only 2 ∷ []) 0)
  pub tab_goes_in : both_seen (insert_base Tab 0 (selecting (codes "ab\n") (only 0 ∷ []) 0)).world ≡ both_seen (selecting (codes "\tab\n") (only 1 ∷ []) 1)
  pub typing_is_pending : length (story_of 0 (insert_base (Char 120) 0 (selecting (codes "ab\n") (only 1 ∷ []) 0)).world).nodes ≡ 1
  pub control_u_commits : length (story_of 0 (insert_control (Char 117) control_u 0 (insert_base (Char 120) 0 (selecting (codes "ab\n") (only 1 ∷ []) 0)).world).world).nodes ≡ 2
  pub escape_leaves : mode_of 0 (insert_base Esc 0 (selecting (codes "ab\n") (only 1 ∷ []) 0)).world ≡ Normal
