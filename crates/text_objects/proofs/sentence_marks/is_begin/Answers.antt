use Rattle.std.proofs.Common.{◌≡◌, not, true, false, sym, ap, ◌∙◌}
use Rattle.std.specs.Prelude.{is_some}
use Rattle.std.proofs.lemmas.Bool.{false≢true}
use Rattle.text_objects.proofs.SentenceLemmas.{begin-empty, begin-paragraph, begin-follows}
use Rattle.text_objects.proofs.sentence_marks.is_begin.Goals as goal

pub returns-then-not-is_full : goal.returns-then-not-is_full
returns-then-not-is_full c = sym (begin-empty c.args.lines.now c.args.at c.requires (sym c.is_full.ensures ∙ c.if-not-is_full.true))

pub returns-then-is_none : goal.returns-then-is_none
returns-then-is_none c =
    let none : is_some c.before_in_paragraph.result ≡ false = c.is_none.ensures ∙ ap not c.if-is_none.true in
    sym (begin-paragraph c.args.lines.now c.args.at c.requires (sym c.is_full.ensures ∙ c.if-not-is_full.false) (c.before_in_paragraph.ensures.none.0 none))

pub returns : goal.returns
returns c =
    let some : is_some c.before_in_paragraph.result ≡ true = c.is_none.ensures ∙ ap not c.if-is_none.false in
    c.follows_end.ensures ∙ sym (begin-follows c.args.lines.now c.args.at c.requires (sym c.is_full.ensures ∙ c.if-not-is_full.false) (λ e. false≢true (sym (c.before_in_paragraph.ensures.none.1 e) ∙ some)))
