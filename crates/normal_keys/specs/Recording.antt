-- Macros: keys that are recorded, and those that a key runs.
use Rattle.std.specs.Prelude.{ℕ, ◌-◌, false, List, [], ◌∷◌, flat_map, unwrap_or, encode_utf8_all, None, Some}
use Rattle.std.specs.declared.option.Option.{Option}
use Rattle.key_names.specs.declared.key.Key.{Key}
use Rattle.key_names.specs.Printing.{spelling}
use Rattle.kak_world.specs.declared.own.Recording.{Recording}
use Rattle.kak_world.specs.declared.playing.Macro.{Macro}
use Rattle.kak_world.specs.Flat.{Flat, own_of, with_own}
use Rattle.kak_world.specs.Registers.{set_row}
use Rattle.kak_world.specs.Rows.{RowEnd, does}
use Rattle.normal_keys.specs.declared.prefixes.Prefix.{Prefix}

-- the register of a macro: the one that was chosen, or `@` (64)
abbrev pub macro_register : Option ℕ → ℕ
macro_register chosen = unwrap_or chosen 64

-- the macro that a key runs, by what stands before it: once, and so often more as the count says
abbrev pub macro_of : Prefix → Macro
macro_of prefix = record { register = macro_register prefix.register; further = prefix.count - 1 }

-- the keys that a client records, if it does
abbrev pub recording_of : ℕ → Flat → Option Recording
recording_of who flat = (own_of who flat).recording

-- a client that records from now on, for a register, and one that doesn't
abbrev pub recording_begun : Option ℕ → ℕ → Flat → Flat
recording_begun register who flat = with_own who (λ o. record o { recording = Some (record { register = macro_register register; struck = []; listens = false }) }) flat

abbrev pub not_recording : ℕ → Flat → Flat
not_recording who flat = with_own who (λ o. record o { recording = None }) flat

-- the text of keys that were struck
abbrev pub struck_text : List Key → List ℕ
struck_text keys = flat_map spelling keys

-- a register holds what was recorded for it, as one string
abbrev pub recording_kept : Option Recording → Flat → RowEnd
recording_kept None flat = does flat
recording_kept (Some r) flat = set_row r.register (encode_utf8_all (struck_text r.struck) ∷ []) flat

-- a recording is over, and its register holds what was recorded; it is over also where the register can't
abbrev pub recording_ended : Option Recording → ℕ → Flat → RowEnd
recording_ended recording who flat = recording_kept recording (not_recording who flat)

-- a recording begins where none stands, and else it ends
abbrev pub recording_turned : Option Recording → Option ℕ → ℕ → Flat → RowEnd
recording_turned None register who flat = does (recording_begun register who flat)
recording_turned (Some r) register who flat = recording_ended (Some r) who flat
