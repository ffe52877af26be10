use Rattle.std.proofs.Common.{◌++◌, ap, ◌∙◌}
use Rattle.std.specs.Prelude.{codes}
use Rattle.json_writing.specs.Refusals.{refusal_code, refusal_message}
use Rattle.json_writing.proofs.Bytes.{grows_then, written_three}
use Rattle.json_writing.proofs.Parts.{refusal_bytes-parts}
use Rattle.json_writing.proofs.refusal_bytes.encode_refusal.Goals as goal

pub returns-clause-ok : goal.returns-clause-ok
returns-clause-ok c =
    let old = c.args.out.now.items in
    written_three old c.push_code.new.out.items c.push_message.new.out.items c.push_text.new.out.items
    (codes "{\"error\":{\"code\":" ++ (refusal_code c.args.refusal ++ codes ",\"message\":\"")) (refusal_message c.args.refusal) (codes "\"},\"id\":null,\"jsonrpc\":\"2.0\"}\n")
    c.in_ok-push_code.ensures.ok c.in_ok-push_message.ensures.ok c.in_ok-push_text.ensures.ok
    ∙ ap (λ b. old ++ b) (refusal_bytes-parts c.args.refusal)

pub returns-clause-grows : goal.returns-clause-grows
returns-clause-grows c =
    grows_then _ _ _ c.in_ok-push_code.ensures.grows (grows_then _ _ _ c.in_ok-push_message.ensures.grows (c.in_ok-push_text.ensures.grows))
