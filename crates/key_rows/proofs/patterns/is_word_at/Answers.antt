use Rattle.std.proofs.Common.{ap, ◌∙◌}
use Rattle.std.proofs.lemmas.List.{get_or_default}
use Rattle.text_model.specs.Texts.{offset}
use Rattle.text_model.proofs.PlaceLemmas.{offset-below}
use Rattle.kak_text.specs.declared.classes.Class.{Class}
use Rattle.kak_text.specs.declared.classes.Class.TheVariants.{Word}
use Rattle.kak_text.specs.Classes.{class_of, is_same}
use Rattle.key_rows.proofs.patterns.is_word_at.Goals as goal

pub returns : goal.returns
returns c =
    let below = offset-below c.args.lines.now c.args.at c.requires in
    c.is.ensures ∙ ap (λ (k : Class). is_same k Word) (c.class.ensures ∙ ap class_of (c.char_at.ensures ∙ get_or_default c.args.lines.now (offset c.args.lines.now c.args.at) _ 10 below))
