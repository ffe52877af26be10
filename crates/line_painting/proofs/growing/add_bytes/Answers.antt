use Rattle.std.proofs.Common.{◌++◌, take, ap, ◌∙◌, append_assoc}
use Rattle.std.proofs.lemmas.List.{take-append-drop}
use Rattle.line_painting.proofs.growing.add_bytes.Goals as goal

pub loop-rest-preserved : goal.loop-rest-preserved
loop-rest-preserved c =
    let rest = c.loop-rest.rest.now in
    let parts = ap (λ x. x ++ c.split_at.result.1.now) c.split_at.ensures.front ∙ ap (λ x. take 64 rest ++ x) c.split_at.ensures.back ∙ take-append-drop 64 rest in
    ap (λ x. x ++ c.split_at.result.1.now) c.in_ok-add_piece.ensures ∙ append_assoc c.loop-rest.chars c.split_at.result.0.now c.split_at.result.1.now
    ∙ ap (λ x. c.loop-rest.chars ++ x) parts ∙ c.loop-rest.invariant
