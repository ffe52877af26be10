use Rattle.std.proofs.Common.{rules, ◌==◌, cond, chars, refl, sym, ap, ◌∙◌}
use Rattle.text_coding.specs.declared.form.Eol.TheVariants.{Lf, Crlf}
use Rattle.text_coding.specs.Surveying.{last_of}
use Rattle.text_coding.proofs.FormLemmas.{last-push, test-false}
use Rattle.text_coding.proofs.ReturnLemmas.{ends-more, ends-plain, ends-all}
use Rattle.text_coding.proofs.lines.eol_of.Goals as goal

pub returns-in_default-before_return : goal.returns-in_default-before_return
returns-in_default-before_return c =
    ends-plain c.loop-parted.newline (chars c.args.text.now) (chars c.in-Some.parted.run.now) (chars c.loop-parted.rest.now) (chars c.in-Some.parted.behind.now) c.loop-parted.invariant.ends c.in-Some.ensures.some.whole c.in-Some.ensures.some.plain
    (test-false (last_of 0 (chars c.in-Some.parted.run.now)) 13 (c.in_default-before_return.ensures.none refl))

pub loop-parted-preserved : goal.loop-parted-preserved
loop-parted-preserved c = record {
  utf8 = search rules;
  ends = ends-more c.loop-parted.newline (chars c.args.text.now) (chars c.in-Some.parted.run.now) (chars c.loop-parted.rest.now) (chars c.in-Some.parted.behind.now) c.loop-parted.invariant.ends c.in-Some.ensures.some.whole c.in-Some.ensures.some.plain
      (ap (λ n. n == 13) (ap (last_of 0) c.in-Some-before_return.ensures.some ∙ last-push 0 (chars c.in-Some-before_return.field-0.now) 13));
}

pub returns-then-newline : goal.returns-then-newline
returns-then-newline c = ap (λ n. cond n Crlf Lf) (sym c.if-newline.true) ∙ ends-all c.loop-parted.newline (chars c.args.text.now) (chars c.loop-parted.rest.now) c.loop-parted.invariant.ends (c.in_default.ensures.none refl)

pub returns-else-newline : goal.returns-else-newline
returns-else-newline c = ap (λ n. cond n Crlf Lf) (sym c.if-newline.false) ∙ ends-all c.loop-parted.newline (chars c.args.text.now) (chars c.loop-parted.rest.now) c.loop-parted.invariant.ends (c.in_default.ensures.none refl)
