use Rattle.std.proofs.Common.{◌≡◌, ◌∷◌, ap, ◌∙◌, arith, encode_utf8_all}
use Rattle.std.specs.Prelude.{decimal}
use Rattle.key_names.specs.Printing.{base_text}
use Rattle.key_names.proofs.PrintingLemmas.{encodes-function_key}
use Rattle.key_names.proofs.printing.push_base.Goals as goal

pub returns-in-F : goal.returns-in-F
returns-in-F c =
    let same : encode_utf8_all (base_text c.args.base) ≡ 70 ∷ decimal c.in-F.n = ap (λ b. encode_utf8_all (base_text b)) c.in-F.is ∙ encodes-function_key c.in-F.n (omega arith) in
    rw same c.write.ensures.bytes
