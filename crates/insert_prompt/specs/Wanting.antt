-- How far a key of insert mode or of a prompt came for which memory was wanting.
use Rattle.std.specs.Prelude.{◌≡◌, ◌⊎◌, ℕ, true, [], ◌∷◌, map, None, Some}
use Rattle.std.specs.declared.option.Option.{Option}
use Rattle.key_names.specs.declared.key.Key.{Key}
use Rattle.key_names.specs.declared.key.Base.{Base}
use Rattle.key_names.specs.declared.key.Base.TheVariants.{Char, Ret, Tab, Backspace, Del, Esc}
use Rattle.edit_ops.specs.declared.kinds.Erase.{Erase}
use Rattle.edit_ops.specs.declared.kinds.Erase.TheVariants.{BeforeCursor, AtCursor}
use Rattle.edit_ops.specs.declared.kinds.Put.TheVariants.{BeforeCursor as PutBeforeCursor}
use Rattle.edit_ops.specs.Typing.{typed_before}
use Rattle.edit_ops.specs.Erasing.{erasures}
use Rattle.kak_world.specs.declared.own.Mode.TheVariants.{Insert}
use Rattle.kak_world.specs.declared.purpose.Purpose.{Purpose}
use Rattle.kak_world.specs.declared.purpose.Purpose.TheVariants.{Commands, Pattern}
use Rattle.kak_world.specs.Flat.{Flat, sels_of, purpose_of}
use Rattle.kak_world.specs.Events.{has_hooks, mode_left}
use Rattle.kak_world.specs.Registers.{with_register}
use Rattle.key_rows.specs.Naming.{register_named}
use Rattle.key_rows.specs.Reading.{strings_read}
use Rattle.key_rows.specs.Wanting.{IsPartWay, puts_read}
use Rattle.insert_prompt.specs.Rows.{awaiting, typed_strings}

-- a character goes in before some of the cursors, from the first on
abbrev pub is_part_of_typing : ℕ → ℕ → Flat → Flat → Type 0
is_part_of_typing c who old new = IsPartWay (map (typed_before (c ∷ [])) (sels_of who old).list) who old old new

-- characters are erased at some of them
abbrev pub is_part_of_erasing : Erase → ℕ → Flat → Flat → Type 0
is_part_of_erasing what who old new = IsPartWay (erasures what (sels_of who old).list) who old old new

-- strings of a register go in before some of them; without a name nothing does
abbrev pub is_part_of_putting : Option ℕ → ℕ → Flat → Flat → Type 0
is_part_of_putting None who old new = new ≡ old
is_part_of_putting (Some name) who old new = IsPartWay (puts_read PutBeforeCursor (strings_read name who old) who old) who old old new

-- a key without modifiers came part of the way: escape may have been told to hooks, and others that don't change the text leave the
-- world
abbrev pub IsPartOfBase : Base → ℕ → Flat → Flat → Type 0
IsPartOfBase (Char c) who old new = is_part_of_typing c who old new
IsPartOfBase Ret who old new = is_part_of_typing 10 who old new
IsPartOfBase Tab who old new = is_part_of_typing 9 who old new
IsPartOfBase Backspace who old new = is_part_of_erasing BeforeCursor who old new
IsPartOfBase Del who old new = is_part_of_erasing AtCursor who old new
IsPartOfBase Esc who old new = (new ≡ old) ⊎ (new ≡ mode_left Insert who old)
IsPartOfBase _ who old new = new ≡ old

-- a key came part of the way, by the key that waited for it, if one did
abbrev pub IsPartOfInsert : Option Key → Key → ℕ → Flat → Flat → Type 0
IsPartOfInsert None key who old new = IsPartOfBase key.base who old new
IsPartOfInsert (Some waits) key who old new = is_part_of_putting (register_named key) who (awaiting None who old) new

-- a register was to hold what was typed, and the prompt to be left: nothing is done yet; or, where some hook is held, which is to hear
-- that it is left, the register holds it
abbrev pub IsPartOfTyped : ℕ → ℕ → Flat → Flat → Type 0
IsPartOfTyped name who old new = (new ≡ old) ⊎ ((has_hooks new ≡ true) × (new ≡ with_register name (typed_strings who old) old))

-- the register that holds what was typed into a prompt, by what that is for: `:` (58) or `/` (47)
abbrev pub register_for : Purpose → ℕ
register_for Commands = 58
register_for (Pattern wanted) = 47

-- a key of a prompt came part of the way
abbrev pub IsPartOfPrompt : ℕ → Flat → Flat → Type 0
IsPartOfPrompt who old new = IsPartOfTyped (register_for (purpose_of who old)) who old new
