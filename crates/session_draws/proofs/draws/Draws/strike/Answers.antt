use Rattle.std.proofs.Common.{◌%◌, ap, ap₂, ◌∙◌}
use Rattle.std.proofs.lemmas.Nat.{mod_below}
use Rattle.session_draws.specs.Draws.{state_after, drawn, key_numbered}
use Rattle.session_draws.proofs.draws.Draws.strike.Goals as goal

pub returns-clause-state : goal.returns-clause-state
returns-clause-state c = c.draw-2.ensures.state ∙ ap state_after c.draw.ensures.state

pub returns-clause-strike : goal.returns-clause-strike
returns-clause-strike c =
    let key = c.key_numbered-key.ensures ∙ ap (λ n. key_numbered (n % 16)) (c.draw-2.ensures.number ∙ ap drawn c.draw.ensures.state) in
    ap₂ (λ who key. record { who = who; key = key }) (ap (λ n. n % c.args.clients) c.draw.ensures.number) key

pub returns-clause-who : goal.returns-clause-who
returns-clause-who c = mod_below c.draw.result c.args.clients c.requires
