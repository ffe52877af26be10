use Rattle.std.proofs.Common.{◌≡◌, ap, sym, subst, ◌∙◌, chars}
use Rattle.std.proofs.lemmas.Str.{chars_from_encodes}
use Rattle.kak_words.specs.declared.parts.WordError.{WordError}
use Rattle.kak_words.specs.Reading.{commands_of as commands_read}
use Rattle.kak_words.specs.Errors.{IsUnclosed}
use Rattle.command_set.specs.Reading.{told_reading}
use Rattle.command_set.proofs.commands.read.Goals as goal

pub returns-in-Ok-clause-commands : goal.returns-in-Ok-clause-commands
returns-in-Ok-clause-commands c =
    let same : c.args.text.now ≡ chars c.as_str.result.now = chars_from_encodes c.args.text.now c.as_str.result.now c.as_str.utf8 (sym c.in_ok-text.ensures ∙ sym c.as_str.ensures.value) in
    ap told_reading (ap commands_read same ∙ c.in-Ok.ensures.commands)

pub returns-in-Err-Unclosed-clause-why : goal.returns-in-Err-Unclosed-clause-why
returns-in-Err-Unclosed-clause-why c =
    let same : c.args.text.now ≡ chars c.as_str.result.now = chars_from_encodes c.args.text.now c.as_str.result.now c.as_str.utf8 (sym c.in_ok-text.ensures ∙ sym c.as_str.ensures.value) in
    let why = subst (λ (e : WordError). IsUnclosed e (commands_read (chars c.as_str.result.now))) c.in-Err-Unclosed.field-0-is c.in-Err-Unclosed.ensures.unclosed in
    ap told_reading (ap commands_read same ∙ why)
