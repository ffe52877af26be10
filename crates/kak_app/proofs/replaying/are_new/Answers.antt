use Rattle.std.proofs.Common.{sym, ◌∙◌}
use Rattle.kak_app.proofs.ReplayLemmas.{all-new, one-told}
use Rattle.kak_app.proofs.replaying.are_new.Goals as goal

pub returns-clause-new : goal.returns-clause-new
returns-clause-new g c = λ e. all-new g.U.Ui.shown c.args.uis.now (sym c.is_each_new.ensures ∙ e)

pub returns-clause-told : goal.returns-clause-told
returns-clause-told g c = λ e. one-told g.U.Ui.shown c.args.uis.now (sym c.is_each_new.ensures ∙ e)
