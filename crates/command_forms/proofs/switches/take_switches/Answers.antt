use Rattle.std.proofs.Common.{◌≡◌, true, false, None, Some, map, string_bytes, ◌++◌, ◌∷◌, [], refl, ap, sym, ◌∙◌, rules}
use Rattle.std.specs.Prelude.{codes}
use Rattle.std.specs.Str.{bytes_eq}
use Rattle.command_forms.specs.Switches.{begins_dash, switch_named, takes_word, is_good, taken}
use Rattle.command_forms.proofs.WordLemmas.{switch-word, switch-alone}
use Rattle.command_forms.proofs.switches.take_switches.Goals as goal

pub loop-i-preserved-in-Some : goal.loop-i-preserved-in-Some
loop-i-preserved-in-Some c =
    let w = string_bytes c.index-words-i.result in
    let good : is_good c.in-Some.switch w ≡ true = search rules in
    let pushed : c.push_switch.new.given.items ≡ c.loop-i.given.items ++ record { switch = c.in-Some.switch; word = w } ∷ [] = search rules in
    switch-word (λ w. string_bytes w) c.args.words.now c.loop-i.i c.index-words-i.result w c.args.owner c.loop-i.waiting c.in-Some.switch c.loop-i.given.items c.push_switch.new.given.items (taken c.args.owner None (map (λ w. string_bytes w) c.args.words.now))
    c.loop-i-test.true c.index-words-i.is refl c.in-Some.is good pushed c.loop-i.invariant

pub loop-i-preserved : goal.loop-i-preserved
loop-i-preserved c =
    let w = string_bytes c.index-words-i.result in
    let dash : begins_dash w ≡ true = ap begins_dash (sym c.as_str-in-loop-i.ensures.value) ∙ sym c.begins_dash.ensures ∙ c.if-not-begins_dash.false in
    let goes_on : bytes_eq w (codes "--") ≡ false = search rules in
    let found : switch_named c.args.owner w ≡ Some c.in-Some-switch_named.switch = ap (switch_named c.args.owner) (sym c.as_str-in-loop-i-3.ensures.value) ∙ sym c.switch_named.ensures ∙ c.in-Some-switch_named.is in
    let alone : takes_word c.in-Some-switch_named.switch ≡ false = sym c.takes_word.ensures ∙ c.if-takes_word.false in
    switch-alone (λ w. string_bytes w) c.args.words.now c.loop-i.i c.index-words-i.result w c.args.owner c.loop-i.waiting c.in-Some-switch_named.switch c.loop-i.given.items c.push_switch-in-loop-i.new.given.items (taken c.args.owner None (map (λ w. string_bytes w) c.args.words.now))
    c.loop-i-test.true c.index-words-i.is (search rules) c.in_default.is dash goes_on found alone c.in_ok-push_switch-2.ensures c.loop-i.invariant
