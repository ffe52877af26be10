use Rattle.std.proofs.Common.{◌≡◌, ℕ, Bool, true, List, ap, sym, ◌∙◌, inr, Some, Ok}
use Rattle.std.specs.Prelude.{if◌then◌else◌}
use Rattle.std.specs.declared.option.Option.{Option}
use Rattle.std.specs.declared.result.Result.{Result}
use Rattle.scope_options.specs.declared.scope.Scope.{Scope}
use Rattle.scope_options.specs.declared.setting.Setting.{Setting}
use Rattle.scope_options.specs.declared.options.OptionError.{OptionError}
use Rattle.scope_options.specs.Changes.{option_set_in}
use Rattle.kak_world.specs.declared.command_error.CommandError.TheVariants.{NoSuchOption}
use Rattle.kak_world.specs.Flat.{Flat, options_of, with_options}
use Rattle.kak_world.specs.Rows.{RowEnd, does}
use Rattle.key_rows.specs.Sequence.{then_row}
use Rattle.command_set.specs.Buffers.{refuses}
use Rattle.command_set.specs.Options.{scope_named, is_declared, options_row, option_modified, set_scoped, set_option_row}
use Rattle.command_set.proofs.NotingLaws.{wants_noted, wants_as}
use Rattle.command_set.proofs.options.set.Goals as goal

-- an option that is set, which hooks hear
row-set : (add : Bool) (word name : List ℕ) (values : List (List ℕ)) (who : ℕ) (flat : Flat) (scope : Scope) (rows : List Setting)
    → is_declared name flat ≡ true → scope_named word who flat ≡ Some scope → option_set_in scope name values add (options_of flat) ≡ Ok rows
    → set_option_row add word name values who flat ≡ does (option_modified scope name who (with_options rows flat))
row-set add word name values who flat scope rows d s o =
    ap (λ t. if t then set_scoped (scope_named word who flat) add word name values who flat else refuses (NoSuchOption name) flat) d
    ∙ ap (λ (x : Option Scope). set_scoped x add word name values who flat) s
    ∙ ap (λ (r : Result (List Setting) OptionError). then_row (options_row name word r flat) (λ w. does (option_modified scope name who w))) o

pub returns-in_err-note_setting-in-Ok-clause-wanting : goal.returns-in_err-note_setting-in-Ok-clause-wanting
returns-in_err-note_setting-in-Ok-clause-wanting g c = λ is.
    let setting = c.args.setting in
    let old : Flat = c.args.world.now.flat in
    let rows : List Setting = options_of c.set_option.new.self.flat in
    let new : Flat = c.note_setting.new.world.flat in
    let declared : is_declared setting.option.name old ≡ true = ap (λ w. is_declared w old) (sym c.as_str.ensures) ∙ sym c.is_declared.ensures ∙ c.if-not-is_declared.false in
    let scoped : scope_named setting.option.scope c.args.who old ≡ Some c.in-Some.scope = ap (λ w. scope_named w c.args.who old) (sym c.as_str-2.ensures) ∙ sym c.scope_named.ensures ∙ c.in-Some.is in
    let sets : option_set_in c.in-Some.scope setting.option.name setting.values setting.add (options_of old) ≡ Ok rows =
    ap (λ w. option_set_in c.in-Some.scope w setting.values setting.add (options_of old)) (sym c.as_str-3.ensures) ∙ c.in-Ok.ensures.sets in
    inr (wants_as (set_option_row setting.add setting.option.scope setting.option.name setting.values c.args.who old).world
    (option_modified c.in-Some.scope setting.option.name c.args.who (with_options rows old)) new
    (ap (λ (x : RowEnd). x.world) (row-set setting.add setting.option.scope setting.option.name setting.values c.args.who old c.in-Some.scope rows declared scoped sets))
    (wants_noted _ (with_options rows old) new c.in_err-note_setting-in-Ok.ensures.held (c.in_err-note_setting-in-Ok.ensures.err ∙ c.in-Ok.ensures.rest)))
