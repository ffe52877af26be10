use Rattle.std.proofs.Common.{sym, length, ◌∙◌}
use Rattle.text_model.specs.Texts.{offset}
use Rattle.regex_select.specs.Walks.{own_chars}
use Rattle.regex_select.proofs.MatchedLemmas.{walk-inside, walk-over}
use Rattle.regex_select.proofs.PartLemmas.{rest-range, rest-inside, no-part}
use Rattle.regex_select.proofs.taking.rest.Goals as goal

pub returns-then-is_at_most-clause-inside : goal.returns-then-is_at_most-clause-inside
returns-then-is_at_most-clause-inside c = rest-inside c.args.lines.now c.args.sel c.args.first c.requires.inside c.requires.first (walk-inside c.args.lines.now c.args.sel c.args.first c.requires.inside c.requires.first (sym c.is_at_most.ensures ∙ c.if-is_at_most.true))

pub returns-then-is_at_most-clause-range : goal.returns-then-is_at_most-clause-range
returns-then-is_at_most-clause-range c = rest-range c.args.lines.now c.args.sel c.args.first c.requires.inside c.requires.first (walk-inside c.args.lines.now c.args.sel c.args.first c.requires.inside c.requires.first (sym c.is_at_most.ensures ∙ c.if-is_at_most.true))

pub returns-clause-range : goal.returns-clause-range
returns-clause-range c = no-part (offset c.args.lines.now c.args.sel.low) c.args.first.passed (length (own_chars c.args.lines.now c.args.sel)) (walk-over c.args.lines.now c.args.sel c.args.first c.requires.inside c.requires.first (sym c.is_at_most.ensures ∙ c.if-is_at_most.false))
