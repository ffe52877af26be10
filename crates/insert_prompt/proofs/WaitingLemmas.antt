-- Registers that go into a prompt: the code lets no key wait only then, which comes to the same.
use Rattle.std.proofs.Common.{◌≡◌, ℕ, true, false, List, refl, sym, ap, ◌∙◌}
use Rattle.std.specs.Prelude.{option_map, is_some, unwrap_or, Some, None}
use Rattle.std.specs.declared.option.Option.{Option}
use Rattle.edit_line.specs.Edits.{put_before_cursor}
use Rattle.kak_world.specs.declared.ask.EditError.TheVariants.{NoSuchRegister}
use Rattle.kak_world.specs.Flat.{Flat}
use Rattle.kak_world.specs.Rows.{does, fails}
use Rattle.kak_world.proofs.WorldLaws.{own_twice}
use Rattle.key_rows.specs.Reading.{strings_read, joined_text}
use Rattle.key_rows.specs.Edits.{with_strings}
use Rattle.key_rows.proofs.OwnLemmas.{read-own}
use Rattle.insert_prompt.specs.Rows.{awaiting, prompt_edited, prompt_register}

-- whether a key waits doesn't change what a register gives
known : (name who : ℕ) (flat : Flat) (o : Option (List ℕ)) → o ≡ option_map joined_text (strings_read name who flat) → o ≡ option_map joined_text (strings_read name who (awaiting None who flat))
known name who flat o e = e ∙ ap (option_map joined_text) (sym (read-own name who who _ flat))

-- a register that is there
pub register-goes-in : (name who : ℕ) (flat mid new : Flat) (text : List ℕ) → Some text ≡ option_map joined_text (strings_read name who flat) → mid ≡ prompt_edited (put_before_cursor text) who flat → new ≡ awaiting None who mid
    → prompt_register name who (awaiting None who flat) ≡ does new
register-goes-in name who flat mid new text e m n =
    by (strings_read name who (awaiting None who flat)) (known name who flat (Some text) e)
    ∙ ap does (own_twice who _ _ flat ∙ sym (own_twice who _ _ flat) ∙ ap (awaiting None who) (sym m) ∙ sym n)
  where
    by : (o : Option (List (List ℕ))) → Some text ≡ option_map joined_text o → with_strings o name (λ strings w. does (prompt_edited (put_before_cursor (joined_text strings)) who w)) (awaiting None who flat) ≡ does (prompt_edited (put_before_cursor text) who (awaiting None who flat))
    by None h = absurd (let no : true ≡ false = ap is_some h in cc)
    by (Some strings) h = let same : text ≡ joined_text strings = ap (λ o. unwrap_or o text) h in ap (λ t. does (prompt_edited (put_before_cursor t) who (awaiting None who flat))) (sym same)

-- and one that isn't
pub register-is-none : (name who : ℕ) (flat new : Flat) → None ≡ option_map joined_text (strings_read name who flat) → new ≡ awaiting None who flat → prompt_register name who (awaiting None who flat) ≡ fails (NoSuchRegister name) new
register-is-none name who flat new e n =
    by (strings_read name who (awaiting None who flat)) (known name who flat None e) ∙ ap (fails (NoSuchRegister name)) (sym n)
  where
    by : (o : Option (List (List ℕ))) → None ≡ option_map joined_text o → with_strings o name (λ strings w. does (prompt_edited (put_before_cursor (joined_text strings)) who w)) (awaiting None who flat) ≡ fails (NoSuchRegister name) (awaiting None who flat)
    by None h = refl
    by (Some strings) h = absurd (let no : false ≡ true = ap is_some h in cc)
