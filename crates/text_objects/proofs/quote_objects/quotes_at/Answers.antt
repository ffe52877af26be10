use Rattle.std.proofs.Common.{◌≡◌, ℕ, ◌+◌, ◌<◌, true, false, length, Option, None, Some, sym, ap, subst, ◌∙◌, arith, eq-eqb, ne_eqb}
use Rattle.text_model.specs.Texts.{offset}
use Rattle.selection_set.specs.declared.sel.Pair.{Pair}
use Rattle.compact_chars.specs.Rows.{chars_of}
use Rattle.motion_keys.specs.Jumps.{holds}
use Rattle.motion_keys.specs.Landmarks.{line_begin}
use Rattle.motion_keys.specs.Words.{EndsAre}
use Rattle.text_objects.specs.Pairs.{around_quotes}
use Rattle.text_objects.proofs.LineOfLemmas.{line_begin-next, char-read}
use Rattle.text_objects.proofs.QuoteLemmas.{ArePaired, on-place, paired-start, paired-pass, paired-open, paired-close, paired-over, paired-end, pair-ends}
use Rattle.text_objects.proofs.quote_objects.quotes_at.Goals as goal

pub loop-column-init : goal.loop-column-init
loop-column-init c =
    let text = c.args.lines.now in
    let s = line_begin text c.args.at.line in
    let same : s ≡ s + 0 = omega arith in
    let P : ℕ → Type 0 = λ x. ArePaired c.args.quote text s (offset text c.args.at) x None in
    subst P same (paired-start c.args.quote text c.args.at.line s (line_begin text (c.args.at.line + 1)) (offset text c.args.at) (on-place text c.args.at c.requires))

pub loop-column-preserved-then-at-quote : goal.loop-column-preserved-then-at-quote
loop-column-preserved-then-at-quote c =
    let text = c.args.lines.now in
    let s = line_begin text c.args.at.line in
    let read = char-read text c.args.at.line c.loop-column.column (chars_of c.line-line.result) c.at.result c.requires.on_line c.line-line.ensures.value (omega (arith, c.loop-column-test.true, c.len-column-end.ensures)) c.at.ensures in
    let other : holds text c.args.quote (s + c.loop-column.column) ≡ false = ne_eqb _ _ (λ e. c.if-at-quote.true (sym read ∙ e)) in
    let inside : s + c.loop-column.column < line_begin text (c.args.at.line + 1) = omega (arith, c.loop-column-test.true, c.len-column-end.ensures, ap length c.line-line.ensures.value, line_begin-next text c.args.at.line c.requires.on_line) in
    let next : s + c.loop-column.column + 1 ≡ s + (c.loop-column.column + 1) = omega arith in
    let P : ℕ → Type 0 = λ x. ArePaired c.args.quote text s (offset text c.args.at) x c.loop-column.unpaired in
    subst P next (paired-pass c.args.quote text c.args.at.line s (line_begin text (c.args.at.line + 1)) (offset text c.args.at) (s + c.loop-column.column) c.loop-column.unpaired (on-place text c.args.at c.requires) (omega arith) inside other c.loop-column.invariant)

pub returns-then-place-column : goal.returns-then-place-column
returns-then-place-column c =
    let text = c.args.lines.now in
    let s = line_begin text c.args.at.line in
    let read = char-read text c.args.at.line c.loop-column.column (chars_of c.line-line.result) c.at.result c.requires.on_line c.line-line.ensures.value (omega (arith, c.loop-column-test.true, c.len-column-end.ensures)) c.at.ensures in
    let own : holds text c.args.quote (s + c.loop-column.column) ≡ true = eq-eqb _ _ (read ∙ c.if-at-quote.false) in
    let P : Option ℕ → Type 0 = λ u. ArePaired c.args.quote text s (offset text c.args.at) (s + c.loop-column.column) u in
    let Q : Pair → Type 0 = λ p. EndsAre text (Some p) (around_quotes c.args.quote text (offset text c.args.at)) in
    record { gives = subst Q (sym c.pair_on.ensures) (pair-ends c.args.quote text c.args.at c.loop-column.column c.in-Some.first (chars_of c.line-line.result) c.requires c.line-line.ensures.value (omega (arith, c.loop-column-test.true, c.len-column-end.ensures)) own c.if-place-column.true (subst P c.in-Some.is c.loop-column.invariant)) }

pub loop-column-preserved-in-Some : goal.loop-column-preserved-in-Some
loop-column-preserved-in-Some c =
    let text = c.args.lines.now in
    let s = line_begin text c.args.at.line in
    let read = char-read text c.args.at.line c.loop-column.column (chars_of c.line-line.result) c.at.result c.requires.on_line c.line-line.ensures.value (omega (arith, c.loop-column-test.true, c.len-column-end.ensures)) c.at.ensures in
    let own : holds text c.args.quote (s + c.loop-column.column) ≡ true = eq-eqb _ _ (read ∙ c.if-at-quote.false) in
    let inside : s + c.loop-column.column < line_begin text (c.args.at.line + 1) = omega (arith, c.loop-column-test.true, c.len-column-end.ensures, ap length c.line-line.ensures.value, line_begin-next text c.args.at.line c.requires.on_line) in
    let next : s + c.loop-column.column + 1 ≡ s + (c.loop-column.column + 1) = omega arith in
    let P : Option ℕ → Type 0 = λ u. ArePaired c.args.quote text s (offset text c.args.at) (s + c.loop-column.column) u in
    let Q : ℕ → Type 0 = λ x. ArePaired c.args.quote text s (offset text c.args.at) x None in
    subst Q next (paired-close c.args.quote text c.args.at.line s (line_begin text (c.args.at.line + 1)) (offset text c.args.at) (s + c.loop-column.column) c.in-Some.first (on-place text c.args.at c.requires) inside own (omega (arith, c.if-place-column.false)) (subst P c.in-Some.is c.loop-column.invariant))

pub returns-then-place-column-2 : goal.returns-then-place-column-2
returns-then-place-column-2 c =
    let text = c.args.lines.now in
    let s = line_begin text c.args.at.line in
    let P : Option ℕ → Type 0 = λ u. ArePaired c.args.quote text s (offset text c.args.at) (s + c.loop-column.column) u in
    record { gives = paired-over c.args.quote text s (offset text c.args.at) (s + c.loop-column.column) (omega (arith, c.if-place-column-2.true)) (subst P c.in_default.is c.loop-column.invariant) }

pub loop-column-preserved : goal.loop-column-preserved
loop-column-preserved c =
    let text = c.args.lines.now in
    let s = line_begin text c.args.at.line in
    let read = char-read text c.args.at.line c.loop-column.column (chars_of c.line-line.result) c.at.result c.requires.on_line c.line-line.ensures.value (omega (arith, c.loop-column-test.true, c.len-column-end.ensures)) c.at.ensures in
    let own : holds text c.args.quote (s + c.loop-column.column) ≡ true = eq-eqb _ _ (read ∙ c.if-at-quote.false) in
    let inside : s + c.loop-column.column < line_begin text (c.args.at.line + 1) = omega (arith, c.loop-column-test.true, c.len-column-end.ensures, ap length c.line-line.ensures.value, line_begin-next text c.args.at.line c.requires.on_line) in
    let next : s + c.loop-column.column + 1 ≡ s + (c.loop-column.column + 1) = omega arith in
    let P : Option ℕ → Type 0 = λ u. ArePaired c.args.quote text s (offset text c.args.at) (s + c.loop-column.column) u in
    let Q : ℕ → Type 0 = λ x. ArePaired c.args.quote text s (offset text c.args.at) x (Some c.loop-column.column) in
    subst Q next (paired-open c.args.quote text c.args.at.line s (line_begin text (c.args.at.line + 1)) (offset text c.args.at) (s + c.loop-column.column) c.loop-column.column (on-place text c.args.at c.requires) (omega arith) inside own (omega (arith, c.if-place-column-2.false)) (subst P c.in_default.is c.loop-column.invariant))

pub returns : goal.returns
returns c =
    let text = c.args.lines.now in
    let s = line_begin text c.args.at.line in
    let over : s + c.loop-column.column ≡ line_begin text (c.args.at.line + 1) = omega (arith, c.loop-column-test.false, c.len-column-end.ensures, c.loop-column.auto.column-end, ap length c.line-line.ensures.value, line_begin-next text c.args.at.line c.requires.on_line) in
    record { gives = paired-end c.args.quote text c.args.at.line s (line_begin text (c.args.at.line + 1)) (offset text c.args.at) (s + c.loop-column.column) c.loop-column.unpaired (on-place text c.args.at c.requires) over c.loop-column.invariant }
