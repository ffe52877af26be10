use Rattle.std.proofs.Common.{◌≡◌, ◌∷◌, ◌++◌, [], take, chars, sym, ap, ap₂, subst, ◌∙◌, arith}
use Rattle.std.proofs.lemmas.Str.{IsCharBoundary-after_ascii}
use Rattle.text_coding.proofs.FillLemmas.{IsOpen}
use Rattle.text_coding.proofs.LineLemmas.{front-utf8, open-chars, run-at, line-at, whole-at}
use Rattle.text_coding.proofs.lines.parted_at.Goals as goal

pub split_at-requires : goal.split_at-requires
split_at-requires c = IsCharBoundary-after_ascii c.args.text.now c.args.newline c.utf8.text c.requires.inside (omega (arith, c.requires.newline))

pub returns : goal.returns
returns c =
    let text = c.args.text.now in
    let n = c.args.newline in
    let run : c.split_at-2.result.0.now ≡ take n text = run-at text _ _ n c.requires.inside c.split_at.ensures.front c.split_at-2.ensures.front in
    record {
      plain = subst (λ t. IsOpen (chars t)) (sym run) (open-chars (take n text) (front-utf8 text n 10 c.utf8.text c.requires.inside c.requires.newline (omega arith)) c.requires.first);
      line = ap chars c.split_at.ensures.front ∙ line-at text n c.utf8.text c.requires.inside c.requires.newline ∙ ap (λ t. chars t ++ 10 ∷ []) (sym run);
      whole = whole-at text n c.utf8.text c.requires.inside c.requires.newline ∙ ap₂ (λ a b. chars a ++ 10 ∷ chars b) (sym run) (sym c.split_at.ensures.back);
    }
