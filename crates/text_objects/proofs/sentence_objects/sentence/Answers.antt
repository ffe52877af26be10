use Rattle.std.proofs.Common.{Some, sym, ap, ◌∙◌}
use Rattle.text_model.specs.Texts.{offset}
use Rattle.motion_keys.specs.Words.{ends}
use Rattle.text_objects.specs.Sentences.{sentence_last}
use Rattle.text_objects.proofs.SentenceLemmas.{sentence-none, sentence-is}
use Rattle.text_objects.proofs.sentence_objects.sentence.Goals as goal

pub returns-then-not-is_full : goal.returns-then-not-is_full
returns-then-not-is_full c = record { gives = sentence-none (sentence_last c.args.lines.now) c.args.lines.now c.args.at c.requires (sym c.is_full.ensures ∙ c.if-not-is_full.true) }

pub returns : goal.returns
returns c =
    let text = c.args.lines.now in
    record { gives = (c.in_ok-anchor.ensures.gives.0, c.find_last-cursor.ensures.place, sentence-is (sentence_last text) text c.args.at (Some (offset text c.in_ok-anchor.anchor)) c.requires (sym c.is_full.ensures ∙ c.if-not-is_full.false) c.in_ok-anchor.ensures.gives.1 ∙ ap (λ n. Some (ends (offset text c.in_ok-anchor.anchor) n)) (sym c.find_last-cursor.ensures.value)) }
