use Rattle.std.proofs.Common.{◌∙◌}
use Rattle.kak_app.proofs.GenLemmas.{on-err, lost-coming, lost-striking, lost-summing, lost-going, session-summed}
use Rattle.kak_app.proofs.generating.play_session.Goals as goal

pub returns-in_err-come_all-clause-lost : goal.returns-in_err-come_all-clause-lost
returns-in_err-come_all-clause-lost g c =
    on-err c.from_residual.result (lost-coming c.args.session _ _ c.requires.fresh c.in_err-come_all.ensures.lost)

pub returns-in_err-strike_all-clause-lost : goal.returns-in_err-strike_all-clause-lost
returns-in_err-strike_all-clause-lost g c =
    on-err c.from_residual-in_err-strike_all.result (lost-striking c.args.session _ _ _ c.requires.fresh c.in_ok-come_all.ensures.adds c.in_err-strike_all.ensures.lost)

pub returns-in_err-strike_all-clause-honest : goal.returns-in_err-strike_all-clause-honest
returns-in_err-strike_all-clause-honest g c = λ first was. c.strike_all.ensures.honest first (c.come_all.ensures.honest first was)

pub returns-in_err-text-clause-lost : goal.returns-in_err-text-clause-lost
returns-in_err-text-clause-lost g c =
    on-err c.from_residual-in_err-text.result (lost-summing c.args.session _ _ _ c.requires.fresh c.in_ok-come_all.ensures.adds c.in_ok-strike_all.ensures.adds)

pub returns-in_err-text-clause-honest : goal.returns-in_err-text-clause-honest
returns-in_err-text-clause-honest g c = λ first was. c.strike_all.ensures.honest first (c.come_all.ensures.honest first was)

pub returns-in_err-leave_all-clause-lost : goal.returns-in_err-leave_all-clause-lost
returns-in_err-leave_all-clause-lost g c =
    on-err c.from_residual-in_err-leave_all.result (lost-going c.args.session _ _ _ _ c.requires.fresh c.in_ok-come_all.ensures.adds c.in_ok-strike_all.ensures.adds c.in_err-leave_all.ensures.lost)

pub returns-in_err-leave_all-clause-honest : goal.returns-in_err-leave_all-clause-honest
returns-in_err-leave_all-clause-honest g c = λ first was. c.leave_all.ensures.honest first (c.strike_all.ensures.honest first (c.come_all.ensures.honest first was))

pub returns-clause-summed : goal.returns-clause-summed
returns-clause-summed g c = session-summed c.args.session _ _ _ _ _ c.requires.fresh c.in_ok-come_all.ensures.adds c.in_ok-strike_all.ensures.adds c.in_ok-text.ensures c.in_ok-leave_all.ensures.adds

pub returns-clause-whole : goal.returns-clause-whole
returns-clause-whole g c = c.in_ok-leave_all.ensures.whole ∙ c.in_ok-strike_all.ensures.whole ∙ c.in_ok-come_all.ensures.whole ∙ c.requires.whole

pub returns-clause-honest : goal.returns-clause-honest
returns-clause-honest g c = λ first was. c.leave_all.ensures.honest first (c.strike_all.ensures.honest first (c.come_all.ensures.honest first was))
