use Rattle.std.proofs.Common.{ap, sym, ◌∙◌}
use Rattle.kak_faces.specs.Standard.{no_attributes}
use Rattle.face_texts.specs.Letters.{with_letter}
use Rattle.face_texts.proofs.LetterLemmas.{letters-begin, letter-on}
use Rattle.face_texts.proofs.letters.attributes_at.Goals as goal

pub loop-i-init : goal.loop-i-init
loop-i-init c = letters-begin c.args.letters.now c.args.at no_attributes

pub loop-i-preserved : goal.loop-i-preserved
loop-i-preserved c =
    letter-on c.args.letters.now c.loop-i.i c.index-letters-i.result c.args.at c.loop-i.have c.in-Some.more _ c.loop-i-test.true
    (ap (with_letter c.loop-i.have) (sym c.index-letters-i.is) ∙ sym c.with_letter.ensures ∙ c.in-Some.is) c.loop-i.invariant
