use Rattle.std.proofs.Common.{◌≡◌, ℕ, Bool, not, sym, ap, ◌∙◌, arith}
use Rattle.kak_text.specs.declared.classes.Class.{Class}
use Rattle.kak_text.specs.declared.classes.Class.TheVariants.{Blank}
use Rattle.kak_text.specs.Classes.{class_of, is_same}
use Rattle.compact_chars.specs.Rows.{chars_of}
use Rattle.motion_keys.proofs.LineLemmas.{line-found, line-passed, line-over}
use Rattle.motion_keys.proofs.place_moves.find_text.Goals as goal

abbrev no_blank : ℕ → Bool
no_blank c = not (is_same (class_of c) Blank)

read : (c : ℕ) (own : Class) (b : Bool) → own ≡ class_of c → b ≡ is_same own Blank → no_blank c ≡ not b
read c own b e f = ap not (sym (f ∙ ap (λ (k : Class). is_same k Blank) e))

pub returns-then-not-is : goal.returns-then-not-is
returns-then-not-is c = record { gives = line-found no_blank c.args.lines.now c.args.n c.loop-column.column (chars_of c.line-line.result) c.at.result _ c.requires c.line-line.ensures.value (omega (arith, c.loop-column-test.true, c.len-column-end.ensures)) c.at.ensures (read c.at.result _ _ c.class.ensures c.is.ensures ∙ ap not c.if-not-is.true) c.loop-column.invariant }

pub loop-column-preserved : goal.loop-column-preserved
loop-column-preserved c = line-passed no_blank c.args.lines.now c.args.n c.loop-column.column (chars_of c.line-line.result) c.at.result _ c.requires c.line-line.ensures.value (omega (arith, c.loop-column-test.true, c.len-column-end.ensures)) c.at.ensures (read c.at.result _ _ c.class.ensures c.is.ensures ∙ ap not c.if-not-is.false) c.loop-column.invariant

pub returns : goal.returns
returns c = record { gives = line-over no_blank c.args.lines.now c.args.n c.loop-column.column (chars_of c.line-line.result) _ c.requires c.line-line.ensures.value (omega (arith, c.loop-column-test.false, c.len-column-end.ensures)) c.loop-column.invariant }
