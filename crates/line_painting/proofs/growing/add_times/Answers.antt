use Rattle.std.proofs.Common.{List, ℕ, ◌++◌, replicate, [], ◌∷◌, sym, ap, ◌∙◌, append-nil, append_assoc}
use Rattle.std.proofs.lemmas.List.{replicate_more}
use Rattle.line_painting.proofs.growing.add_times.Goals as goal

pub loop-init : goal.loop-init
loop-init c = sym (append-nil c.args.chars.now)

pub loop-preserved : goal.loop-preserved
loop-preserved c =
    c.in_ok-push.ensures.ok
    ∙ ap (λ (t : List ℕ). t ++ c.args.c ∷ []) c.loop.invariant
    ∙ append_assoc c.args.chars.now (replicate c.loop.counter c.args.c) (c.args.c ∷ [])
    ∙ ap (λ t. c.args.chars.now ++ t) (replicate_more c.loop.counter c.args.c)
