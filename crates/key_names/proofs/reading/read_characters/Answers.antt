use Rattle.std.proofs.Common.{◌≡◌, ℕ, List, [], ◌∷◌, ◌++◌, subst, ◌∙◌, rules, arith}
use Rattle.std.proofs.lemmas.Grind.{common_steps}
use Rattle.key_names.specs.FirstKey.{ReadsFirst}
use Rattle.key_names.proofs.ReadingLemmas.{keys_before-first}
use Rattle.key_names.proofs.SpelledKeys.{all_spelled}
use Rattle.key_names.proofs.reading.read_characters.Goals as goal

pub loop-at-preserved : goal.loop-at-preserved
loop-at-preserved c =
    let first = subst (λ (t : List ℕ). ReadsFirst t c.in-Some.key c.in-Some.len) c.split_at.ensures.back c.in-Some.ensures.key in
    let pushed : c.push.new.self.items ≡ c.loop-at.keys.items ++ c.in-Some.key ∷ [] = search rules in
    (omega (arith, c.in-Some.ensures.moves, c.split_at.ensures.back_len), keys_before-first c.loop-at.keys.items c.push.new.self.items c.in-Some.key c.args.text.now c.loop-at.at c.in-Some.len pushed first ∙ c.loop-at.invariant.1)

pub returns-clause-spelled : goal.returns-clause-spelled
returns-clause-spelled c = all_spelled c.args.text.now c.loop-at.keys.items (grind (arith, common_steps))
