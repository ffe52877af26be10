use Rattle.std.proofs.Common.{[], ◌∷◌, ◌++◌, map, ap, ◌∙◌}
use Rattle.std.specs.Prelude.{codes}
use Rattle.std.specs.Str.{chars}
use Rattle.key_names.specs.Reading.{bare}
use Rattle.key_names.specs.declared.key.Base.TheVariants.{Ret}
use Rattle.program_words.specs.Files.{typed_key, doubled}
use Rattle.program_words.proofs.KeyLemmas.{typed-behind}
use Rattle.program_words.proofs.file.edit_keys.Goals as goal

pub returns : goal.returns
unfolding chars
returns c =
    let start = c.in_ok-push_text.ensures ∙ ap (λ r. r ++ map typed_key (codes ":edit '")) c.new-keys.ensures.items in
    let named = typed-behind [] _ _ (codes ":edit '") (doubled (chars c.args.name.now)) start c.in_ok-push_name.ensures in
    let closed = typed-behind [] _ _ (codes ":edit '" ++ doubled (chars c.args.name.now)) (codes "'") named c.in_ok-push_char.ensures in
    c.in_ok-push.ensures.items ∙ ap (λ r. r ++ bare Ret ∷ []) closed
