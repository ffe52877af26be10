use Rattle.text_model.specs.Texts.{offset}
use Rattle.regex_select.proofs.MatchedLemmas.{between-inside}
use Rattle.regex_select.proofs.PartLemmas.{part-range, no-part}
use Rattle.regex_select.proofs.taking.part.Goals as goal

pub returns-then-first-end-clause-inside : goal.returns-then-first-end-clause-inside
returns-then-first-end-clause-inside c = between-inside c.args.lines.now c.args.sel c.args.first c.args.end _ c.requires.inside c.requires.first c.requires.end c.if-first-end.true c.before-then-first-end.ensures.place c.before-then-first-end.ensures.offset

pub returns-then-first-end-clause-range : goal.returns-then-first-end-clause-range
returns-then-first-end-clause-range c = part-range c.args.lines.now c.args.sel c.args.first c.args.end _ c.requires.first c.requires.end c.if-first-end.true c.before-then-first-end.ensures.offset

pub returns-clause-range : goal.returns-clause-range
returns-clause-range c = no-part (offset c.args.lines.now c.args.sel.low) c.args.first.passed c.args.end.passed c.if-first-end.false
