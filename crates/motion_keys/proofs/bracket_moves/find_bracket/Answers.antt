use Rattle.std.proofs.Common.{ℕ, Bool, sym, ap, ◌∙◌, arith}
use Rattle.std.specs.Prelude.{is_some}
use Rattle.text_model.specs.Texts.{offset}
use Rattle.compact_chars.specs.Rows.{chars_of}
use Rattle.motion_keys.specs.Extremes.{least_between}
use Rattle.motion_keys.specs.Jumps.{bracket_of, has_bracket}
use Rattle.motion_keys.proofs.LineLemmas.{line_end-place, line-found, line-passed, line-over}
use Rattle.motion_keys.proofs.bracket_moves.find_bracket.Goals as goal

abbrev is_bracket : ℕ → Bool
is_bracket c = is_some (bracket_of c)

pub loop-column-init : goal.loop-column-init
loop-column-init c = ap (λ n. least_between (has_bracket c.args.lines.now) (offset c.args.lines.now c.args.from) n) (line_end-place c.args.lines.now c.args.from c.requires)

pub returns-then-is_some-clause-gives : goal.returns-then-is_some-clause-gives
returns-then-is_some-clause-gives c = line-found is_bracket c.args.lines.now c.args.from.line c.loop-column.column (chars_of c.line-line.result) c.at.result _ c.requires.on_line c.line-line.ensures.value (omega (arith, c.loop-column-test.true, c.len-column-end.ensures)) c.at.ensures (sym (c.is_some.ensures ∙ ap is_some c.kind_of.ensures) ∙ c.if-is_some.true) c.loop-column.invariant

pub loop-column-preserved : goal.loop-column-preserved
loop-column-preserved c = line-passed is_bracket c.args.lines.now c.args.from.line c.loop-column.column (chars_of c.line-line.result) c.at.result _ c.requires.on_line c.line-line.ensures.value (omega (arith, c.loop-column-test.true, c.len-column-end.ensures)) c.at.ensures (sym (c.is_some.ensures ∙ ap is_some c.kind_of.ensures) ∙ c.if-is_some.false) c.loop-column.invariant

pub returns-clause-gives : goal.returns-clause-gives
returns-clause-gives c = line-over is_bracket c.args.lines.now c.args.from.line c.loop-column.column (chars_of c.line-line.result) _ c.requires.on_line c.line-line.ensures.value (omega (arith, c.loop-column-test.false, c.len-column-end.ensures)) c.loop-column.invariant
