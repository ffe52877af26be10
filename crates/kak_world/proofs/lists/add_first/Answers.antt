use Rattle.kak_world.proofs.AnswerLemmas.{on-ok}
use Rattle.kak_world.proofs.ListLemmas.{added-first}
use Rattle.kak_world.proofs.lists.add_first.Goals as goal

pub returns-clause-ok : goal.returns-clause-ok
returns-clause-ok c = on-ok c.add_list.result c.add_list.ensures.ok (λ e. added-first c.args.holder c.args.lines.now c.first_character.result c.first.result _ _ c.first_character.ensures.stored c.first_character.ensures.held c.first_character.ensures.first c.first.ensures c.requires e)
