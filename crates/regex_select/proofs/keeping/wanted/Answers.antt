use Rattle.std.proofs.Common.{◌++◌, ◌∷◌, [], Bool, false, List, sym, ap₂, ◌∙◌}
use Rattle.std.proofs.lemmas.List.{map_more}
use Rattle.std.specs.Prelude.{not, if◌then◌else◌}
use Rattle.regex_select.proofs.keeping.wanted.Goals as goal

pub loop-has-preserved : goal.loop-has-preserved
loop-has-preserved c =
    let test : Bool → Bool = λ has. if c.args.matching then has else not has in
    c.in_ok-push.ensures.items ∙ ap₂ (λ (l : List Bool) (b : Bool). l ++ b ∷ []) c.loop-has.invariant c.is_wanted.ensures ∙ sym (map_more test c.args.found.now c.loop-has.has-index false c.loop-has-test.true)
