-- A prompt that is accepted: the register is set first, and the prompt is left then, which comes to the same.
use Rattle.std.proofs.Common.{◌≡◌, ℕ, List, [], ◌∷◌, length, refl, sym, ap, ◌∙◌, arith}
use Rattle.std.specs.Prelude.{IfSome, Some, None}
use Rattle.std.specs.declared.option.Option.{Option}
use Rattle.kak_registers.specs.declared.names.RegisterError.{RegisterError}
use Rattle.kak_registers.specs.Refusals.{register_refusal}
use Rattle.kak_world.specs.declared.ask.EditError.{EditError}
use Rattle.kak_world.specs.declared.ask.EditError.TheVariants.{NoMemory, BudgetSpent}
use Rattle.kak_world.specs.declared.world.Rest.{Rest}
use Rattle.kak_world.specs.Flat.{Flat, acts, client_of, shown_of, with_own, rest_of, scoped_of, with_rest}
use Rattle.kak_world.specs.Registers.{set_unless, set_row}
use Rattle.kak_world.specs.declared.ask.Ask.TheVariants.{Nothing}
use Rattle.kak_world.specs.Rows.{Row, RowEnd, Asks, GivesUp, Fails, does, error_text, row_of}
use Rattle.std.specs.Str.{chars}
use Rattle.kak_registers.specs.Contents.{strings_of}
use Rattle.kak_world.specs.declared.ask.Ask.{Ask}
use Rattle.kak_world.specs.declared.purpose.Use.{Use}
use Rattle.kak_world.specs.declared.own.Mode.TheVariants.{Prompt}
use Rattle.kak_world.specs.Events.{mode_left}
use Rattle.kak_world.proofs.WorldLaws.{rest_own, rest_rest}
use Rattle.kak_world.proofs.KeepingLaws.{acts_kept, keeps_set_row}
use Rattle.key_rows.specs.Patterns.{last_string, asks_for, asks_for_last}
use Rattle.key_rows.specs.Sequence.{then_row}
use Rattle.insert_prompt.specs.Rows.{leave_prompt, typed_strings, typed_kept, pattern_typed}

-- a row, in a world in which the prompt is left then
abbrev left_behind : ℕ → RowEnd → RowEnd
left_behind who end = record { world = leave_prompt who end.world; row = end.row }

-- a register is set in a prompt that was left as it is before that
set-left : (name : ℕ) (strings : List (List ℕ)) (who : ℕ) (flat : Flat) → set_row name strings (leave_prompt who flat) ≡ left_behind who (set_row name strings flat)
unfolding set_row rest_of scoped_of with_rest with_own shown_of client_of
set-left name strings who flat = by (register_refusal name strings)
  where
    by : (o : Option RegisterError) → set_unless o name strings (leave_prompt who flat) ≡ left_behind who (set_unless o name strings flat)
    by None = refl
    by (Some refusal) = refl

kept-by : (name who : ℕ) (flat : Flat) (end : RowEnd) → set_row name (typed_strings who flat) flat ≡ end → typed_kept name who flat ≡ left_behind who end
kept-by name who flat end e = set-left name (typed_strings who flat) who flat ∙ ap (left_behind who) e

-- where the register was set
pub kept-set : (name who : ℕ) (flat mid new : Flat) → set_row name (typed_strings who flat) flat ≡ does mid → new ≡ leave_prompt who mid → does new ≡ typed_kept name who flat
kept-set name who flat mid new e n = ap (λ w. does w) n ∙ sym (kept-by name who flat (does mid) e)

-- where it was refused
pub kept-refused : (error : EditError) (name who : ℕ) (flat mid new : Flat) → IfSome (row_of error) (λ row. set_row name (typed_strings who flat) flat ≡ record { world = mid; row = row }) → IfSome (row_of error) (λ row. new ≡ leave_prompt who mid)
    → IfSome (row_of error) (λ row. typed_kept name who flat ≡ record { world = new; row = row })
kept-refused NoMemory name who flat mid new e n = tt
kept-refused BudgetSpent name who flat mid new e n = kept-by name who flat _ e ∙ ap (λ w. let x : RowEnd = record { world = w; row = GivesUp } in x) (sym n)
kept-refused error name who flat mid new e n = kept-by name who flat _ e ∙ ap (λ w. let x : RowEnd = record { world = w; row = Fails (error_text error) } in x) (sym n)

-- a row that is refused ends what would come behind it
pub refused-all : (error : EditError) (end : RowEnd) (new : Flat) (next : Flat → RowEnd) → IfSome (row_of error) (λ row. end ≡ record { world = new; row = row }) → IfSome (row_of error) (λ row. then_row end next ≡ record { world = new; row = row })
refused-all NoMemory end new next e = tt
refused-all BudgetSpent end new next e = ap (λ x. then_row x next) e
refused-all error end new next e = ap (λ x. then_row x next) e

-- where nothing was typed, the pattern that was looked for last is asked for
pub nothing-typed : (typed : List ℕ) (wanted : Use) (who : ℕ) (flat new : Flat) (ask : Ask) → length typed ≡ 0 → asks_for_last wanted flat ≡ record { world = flat; row = Asks ask } → new ≡ leave_prompt who flat
    → pattern_typed typed wanted who flat ≡ record { world = new; row = Asks ask }
nothing-typed (c ∷ cs) wanted who flat new ask e a n = absurd (omega (arith, e))
nothing-typed [] wanted who flat new ask e a n =
    ap (λ (r : Rest). asks_for (chars (last_string (strings_of 47 r.registers))) wanted (leave_prompt who flat)) (rest_own who _ (mode_left Prompt who flat) ∙ rest_rest _ flat)
    ∙ ap (λ r. let x : RowEnd = record { world = leave_prompt who flat; row = r } in x) (ap (λ (x : RowEnd). x.row) a)
    ∙ ap (λ (w : Flat). let x : RowEnd = record { world = w; row = Asks ask } in x) (sym n)

-- a client acts on where a register was refused
pub refused-acts : (error : EditError) (name : ℕ) (strings : List (List ℕ)) (who : ℕ) (flat mid : Flat) → IfSome (row_of error) (λ row. set_row name strings flat ≡ record { world = mid; row = row }) → (error ≡ NoMemory → mid ≡ flat)
    → acts who mid ≡ acts who flat
refused-acts NoMemory name strings who flat mid e w = ap (acts who) (w refl)
refused-acts error name strings who flat mid e w = ap (λ (x : RowEnd). acts who x.world) (sym e) ∙ acts_kept who flat (set_row name strings flat).world (keeps_set_row name strings flat)

refused-by : (o : Option RegisterError) (name : ℕ) (strings : List (List ℕ)) (flat mid : Flat) (row : Row) → (Asks Nothing ≡ row → ⊥) → set_unless o name strings flat ≡ record { world = mid; row = row } → mid ≡ flat
refused-by None name strings flat mid row n e = absurd (n (ap (λ (x : RowEnd). x.row) e))
refused-by (Some refusal) name strings flat mid row n e = sym (ap (λ (x : RowEnd). x.world) e)

-- and the world is as before
pub refused-same : (error : EditError) (name : ℕ) (strings : List (List ℕ)) (flat mid : Flat) → IfSome (row_of error) (λ row. set_row name strings flat ≡ record { world = mid; row = row }) → (error ≡ NoMemory → mid ≡ flat) → mid ≡ flat
unfolding set_row
refused-same NoMemory name strings flat mid e w = w refl
refused-same BudgetSpent name strings flat mid e w = refused-by (register_refusal name strings) name strings flat mid GivesUp (λ n. cc) e
refused-same error name strings flat mid e w = refused-by (register_refusal name strings) name strings flat mid (Fails (error_text error)) (λ n. cc) e
