use Rattle.move_marks.proofs.LawLemmas.{settled-before, settled-before-carried}
use Rattle.move_marks.proofs.laws.parts_may_be_settled.Goals as goal

pub returns : goal.returns
returns c = record { before_the_rest_comes = settled-before; before_it_is_carried = λ f k s h l. settled-before-carried f k s h l }
