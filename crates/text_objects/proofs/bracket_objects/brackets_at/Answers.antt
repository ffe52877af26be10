use Rattle.std.proofs.Common.{None, Some, eqb-true}
use Rattle.text_model.specs.Texts.{offset}
use Rattle.text_model.proofs.PlaceLemmas.{offset-below}
use Rattle.text_objects.proofs.BracketLemmas.{unclosed-opens, pair-is, pair-nowhere}
use Rattle.text_objects.proofs.InsideLemmas.{nothing-ends}
use Rattle.text_objects.proofs.bracket_objects.brackets_at.Goals as goal

pub returns-in_err-anchor : goal.returns-in_err-anchor
returns-in_err-anchor c = record { gives = nothing-ends c.args.lines.now c.from_residual.result _ c.from_residual.ensures (pair-nowhere c.args.opening c.args.closing c.args.lines.now _ c.requires.apart (offset-below _ _ c.requires.place) c.in_err-anchor.ensures.gives) }

pub match_ahead-requires-clause-own : goal.match_ahead-requires-clause-own
match_ahead-requires-clause-own c = eqb-true _ _ (unclosed-opens c.args.opening c.args.closing c.args.lines.now _ _ c.requires.apart (offset-below _ _ c.requires.place) c.in_ok-anchor.ensures.gives.1)

pub returns-in_err-cursor : goal.returns-in_err-cursor
returns-in_err-cursor c = record { gives = nothing-ends c.args.lines.now c.from_residual-in_err-cursor.result _ c.from_residual-in_err-cursor.ensures (pair-is c.args.opening c.args.closing c.args.lines.now _ _ None c.requires.apart (offset-below _ _ c.requires.place) c.in_ok-anchor.ensures.gives.1 c.in_err-cursor.ensures.gives) }

pub returns : goal.returns
returns c = record { gives = (c.in_ok-anchor.ensures.gives.0, c.in_ok-cursor.ensures.gives.0, pair-is c.args.opening c.args.closing c.args.lines.now _ _ (Some (offset c.args.lines.now c.in_ok-cursor.cursor)) c.requires.apart (offset-below _ _ c.requires.place) c.in_ok-anchor.ensures.gives.1 c.in_ok-cursor.ensures.gives.1) }
