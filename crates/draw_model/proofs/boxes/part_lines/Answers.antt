use Rattle.std.proofs.Common.{◌≡◌, eqb, get_or, eqb-true, sym, ap, ◌∙◌}
use Rattle.std.proofs.lemmas.List.{get_or_read}
use Rattle.draw_model.proofs.BoxLemmas.{parts-none, parts-end, parts-more, parts-last}
use Rattle.draw_model.proofs.boxes.part_lines.Goals as goal

pub loop-i-init : goal.loop-i-init
loop-i-init c = parts-none c.args.face c.args.text.now c.new-lines.result c.new-lines.ensures

pub loop-i-preserved-then-not-is_newline : goal.loop-i-preserved-then-not-is_newline
loop-i-preserved-then-not-is_newline c =
    let read : c.index-text-i.result ≡ get_or c.args.text.now c.loop-i.i 0 = get_or_read c.args.text.now c.loop-i.i c.index-text-i.result c.loop-i-test.true c.index-text-i.is 0 in
    parts-more c.args.face c.args.text.now c.loop-i.lines c.loop-i.from c.loop-i.i c.loop-i.invariant c.loop-i-test.true
    (ap (λ x. eqb x 10) (sym read) ∙ sym c.is_newline.ensures ∙ c.if-not-is_newline.true)

pub loop-i-preserved : goal.loop-i-preserved
loop-i-preserved c =
    let read : c.index-text-i.result ≡ get_or c.args.text.now c.loop-i.i 0 = get_or_read c.args.text.now c.loop-i.i c.index-text-i.result c.loop-i-test.true c.index-text-i.is 0 in
    parts-end c.args.face c.args.text.now c.loop-i.lines c.push.new.self c.loop-i.from c.loop-i.i c.in_ok-run_line.field-0 c.loop-i.invariant c.loop-i-test.true
    (sym read ∙ eqb-true c.index-text-i.result 10 (sym c.is_newline.ensures ∙ c.if-not-is_newline.false)) c.in_ok-run_line.ensures c.in_ok-push.ensures.ok

pub returns : goal.returns
returns c =
    parts-last c.args.face c.args.text.now c.loop-i.lines c.push-2.new.self c.loop-i.from c.loop-i.i c.in_ok-run_line-2.field-0 c.loop-i.invariant c.loop-i-test.false c.in_ok-run_line-2.ensures c.in_ok-push-2.ensures.ok
