use Rattle.std.proofs.Common.{◌∙◌}
use Rattle.kak_world.proofs.AnswerLemmas.{on-err}
use Rattle.kak_world.proofs.KeepingLaws.{acts_kept}
use Rattle.command_set.proofs.FileLaws.{acts_loaded, there_loaded}
use Rattle.command_set.proofs.WantingLemmas.{part-form, part-unshown, part-unheard}
use Rattle.command_set.proofs.files.load.Goals as goal

pub show-requires-clause-acts : goal.show-requires-clause-acts
show-requires-clause-acts g c = acts_loaded c.args.who _ _ _ _ _ _ _ _ c.requires c.in_ok-n.ensures.ok c.in_ok-set_format.ensures.ok

pub show-requires-clause-there : goal.show-requires-clause-there
show-requires-clause-there g c = there_loaded _ _ _ _ _ _ _ _ c.in_ok-n.ensures.number c.in_ok-n.ensures.ok c.in_ok-set_format.ensures.ok

pub returns-in_err-set_format-clause-err : goal.returns-in_err-set_format-clause-err
returns-in_err-set_format-clause-err g c = on-err c.from_residual-in_err-set_format.result (part-form c.args.name.now c.args.loaded _ _ _ _ c.in_ok-n.ensures.number c.in_ok-n.ensures.ok c.in_err-set_format.ensures.err c.args.who)

pub returns-in_err-show-clause-err : goal.returns-in_err-show-clause-err
returns-in_err-show-clause-err g c = on-err c.from_residual-in_err-show.result (part-unshown c.args.name.now c.args.loaded _ _ _ _ c.in_ok-n.ensures.number c.in_ok-n.ensures.ok (c.in_err-show.ensures.err ∙ c.in_ok-set_format.ensures.ok) c.args.who)

pub note_loaded-requires : goal.note_loaded-requires
note_loaded-requires g c =
    acts_kept c.args.who c.set_format.new.world.flat c.show.new.self.flat c.in_ok-show.ensures.keeps
    ∙ acts_loaded c.args.who _ _ _ _ _ _ _ _ c.requires c.in_ok-n.ensures.ok c.in_ok-set_format.ensures.ok

pub returns-in_err-note_loaded-clause-err : goal.returns-in_err-note_loaded-clause-err
returns-in_err-note_loaded-clause-err g c =
    on-err c.from_residual-in_err-note_loaded.result
    (part-unheard c.args.name.now c.args.loaded c.in_ok-n.n c.args.who c.open.new.world.flat c.set_format.new.world.flat c.show.new.self.flat c.args.world.now.flat c.note_loaded.new.world.flat
    c.in_ok-n.ensures.number c.in_ok-n.ensures.ok c.in_ok-set_format.ensures.ok c.in_ok-show.ensures.ok c.in_err-note_loaded.ensures.err)
