-- What a register gives doesn't depend on what is a client's own.
use Rattle.std.proofs.Common.{◌≡◌, ℕ, List, [], ◌∷◌, length, refl, sym, ap, ◌∙◌}
use Rattle.std.specs.Prelude.{◌==◌, if◌then◌else◌, encode_utf8_all, Some, None}
use Rattle.std.specs.declared.option.Option.{Option}
use Rattle.list_model.specs.Ranges.{Selected}
use Rattle.edit_ops.specs.Reading.{texts_of}
use Rattle.kak_registers.specs.declared.row.Register.{Register}
use Rattle.kak_registers.specs.Names.{is_settable}
use Rattle.kak_registers.specs.Contents.{strings_of}
use Rattle.kak_world.specs.declared.own.Own.{Own}
use Rattle.kak_world.specs.declared.world.Rest.{Rest}
use Rattle.kak_world.specs.Flat.{Flat, text_of, name_of, sels_of, registers_of, with_own}
use Rattle.kak_world.proofs.WorldLaws.{rest_own, text_own, sels_own, name_own}
use Rattle.key_rows.specs.Reading.{in_bytes, numbers_from, strings_read}

-- by what it does depend on: the registers, the text, the selections, and the buffer's name
abbrev read_by : ℕ → List Register → List ℕ → Selected → List ℕ → Option (List (List ℕ))
read_by name rows text sels buffer =
    if is_settable name then Some (strings_of name rows)
    else (if name == 46 then Some (in_bytes (texts_of text sels.list))
    else (if name == 35 then Some (numbers_from 1 (length sels.list))
    else (if name == 37 then Some (encode_utf8_all buffer ∷ [])
    else None)))

read-by : (name k : ℕ) (flat : Flat) → strings_read name k flat ≡ read_by name (registers_of flat) (text_of k flat) (sels_of k flat) (name_of k flat)
unfolding strings_read
read-by name k flat = refl

pub read-own : (name k who : ℕ) (f : Own → Own) (flat : Flat) → strings_read name k (with_own who f flat) ≡ strings_read name k flat
read-own name k who f flat =
    let w : Flat = with_own who f flat in
    read-by name k w
    ∙ ap (λ (r : Rest). read_by name r.registers (text_of k w) (sels_of k w) (name_of k w)) (rest_own who f flat)
    ∙ ap (λ text. read_by name (registers_of flat) text (sels_of k w) (name_of k w)) (text_own k who f flat)
    ∙ ap (λ sels. read_by name (registers_of flat) (text_of k flat) sels (name_of k w)) (sels_own k who f flat)
    ∙ ap (read_by name (registers_of flat) (text_of k flat) (sels_of k flat)) (name_own k who f flat)
    ∙ sym (read-by name k flat)
