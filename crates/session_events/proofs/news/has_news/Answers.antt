use Rattle.std.proofs.Common.{sym, ap, ◌∙◌}
use Rattle.std.proofs.lemmas.Bool.{eq-eqb, ne_eqb}
use Rattle.session_events.specs.Missing.{has_news}
use Rattle.session_events.proofs.MissingLemmas.{news-new, news-drawn, news-other}
use Rattle.session_events.proofs.news.has_news.Goals as goal

pub returns-then-not-is_drawing : goal.returns-then-not-is_drawing
returns-then-not-is_drawing c =
    sym (c.loop-entry.invariant ∙ ap (has_news c.args.who) c.in-Some.ensures.cases.0 ∙ news-new c.args.who c.in-Some.before.now c.in-Some.entry.now (sym c.if-not-is_drawing.ensures))

pub returns-then-entry-who : goal.returns-then-entry-who
returns-then-entry-who c =
    sym (c.loop-entry.invariant ∙ ap (has_news c.args.who) c.in-Some.ensures.cases.0 ∙ news-drawn c.args.who c.in-Some.before.now c.in-Some.entry.now (sym c.if-not-is_drawing.ensures) (eq-eqb _ _ c.if-entry-who.true))

pub loop-entry-preserved : goal.loop-entry-preserved
loop-entry-preserved c =
    c.loop-entry.invariant ∙ ap (has_news c.args.who) c.in-Some.ensures.cases.0 ∙ news-other c.args.who c.in-Some.before.now c.in-Some.entry.now (sym c.if-not-is_drawing.ensures) (ne_eqb _ _ c.if-entry-who.false)
