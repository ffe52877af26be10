use Rattle.std.proofs.Common.{[], ◌∷◌, ◌∙◌}
use Rattle.std.proofs.lemmas.Result.{err_from_is_err_and}
use Rattle.session_turns.specs.Growth.{Whole, Over}
use Rattle.session_replay.proofs.ClientLemmas.{some-line}
use Rattle.session_replay.proofs.LeavingLemmas.{leaves-left}
use Rattle.session_replay.proofs.PlayersLemmas.{concerns-then, client-off, stopped-at, stopped-lost, stop-lines, over-lines, over-told, whole-told, here-now}
use Rattle.session_replay.proofs.players.Players.take_first.Goals as goal

pub returns-in_err-receive-clause-takes : goal.returns-in_err-receive-clause-takes
returns-in_err-receive-clause-takes g c =
    let p = err_from_is_err_and c.from_residual.result c.from_residual.ensures.1 in
    rw (p.1, p.2) (λ kind is. stopped-at _ _ kind c.args.who _ (c.args.line.now ∷ []) _ c.in_err-receive.ensures.comes.boxed (c.in_err-receive.ensures.comes.kind ∙ is) (c.in_err-receive.ensures.comes.report ∙ c.requires.unreported) c.in_err-receive.ensures.comes.at
    (stop-lines _ _ _ _ [] (c.args.line.now ∷ []) _ c.in_err-receive.ensures.comes.got))

pub returns-in_err-dismiss-clause-alone : goal.returns-in_err-dismiss-clause-alone
returns-in_err-dismiss-clause-alone g c = concerns-then _ c.args.who _ _ _ c.in_ok-receive.ensures.alone c.dismiss.ensures.alone

pub returns-in_err-dismiss-clause-takes : goal.returns-in_err-dismiss-clause-takes
returns-in_err-dismiss-clause-takes g c =
    let p = err_from_is_err_and c.from_residual-in_err-dismiss.result c.from_residual-in_err-dismiss.ensures.1 in
    rw (p.1, p.2) (λ kind is. stopped-lost _ _ kind c.args.who _ (c.args.line.now ∷ []) _ _ (c.in_err-dismiss.ensures.stays c.args.who) c.in_ok-receive.ensures.comes.boxed (c.in_ok-receive.ensures.comes.kind ∙ is) (c.in_ok-receive.ensures.comes.report ∙ c.requires.unreported)
    (c.in_err-dismiss.ensures.lost Over (c.args.line.now ∷ []) _ (over-lines _ _ _ [] (c.args.line.now ∷ []) _ (over-told _ _ _ _ _ _ c.if-branch.true c.in_ok-receive.ensures.comes.got))))

pub returns-then-branch-clause-alone : goal.returns-then-branch-clause-alone
returns-then-branch-clause-alone g c = concerns-then _ c.args.who _ _ _ c.in_ok-receive.ensures.alone c.dismiss.ensures.alone

pub returns-then-branch-clause-takes : goal.returns-then-branch-clause-takes
returns-then-branch-clause-takes g c = λ kind is.
    client-off _ kind c.args.who _ (c.args.line.now ∷ []) _ _ c.in_ok-dismiss.ensures.off c.in_ok-receive.ensures.comes.boxed (c.in_ok-receive.ensures.comes.kind ∙ is) (some-line [] c.args.line.now)
    (leaves-left _ Over c.args.who _ _ (c.args.line.now ∷ []) _ c.in_ok-dismiss.ensures.leaves (over-lines _ _ _ [] (c.args.line.now ∷ []) _ (over-told _ _ _ _ _ _ c.if-branch.true c.in_ok-receive.ensures.comes.got)))

pub returns-clause-alone : goal.returns-clause-alone
returns-clause-alone g c = concerns-then _ c.args.who _ _ _ c.in_ok-receive.ensures.alone c.take_next.ensures.alone

pub returns-clause-takes : goal.returns-clause-takes
returns-clause-takes g c = λ kind is.
    c.take_next.ensures.takes kind [] (here-now _ Whole kind c.args.who _ [] _ c.in_ok-receive.ensures.comes.boxed (c.in_ok-receive.ensures.comes.kind ∙ is) (c.in_ok-receive.ensures.comes.report ∙ c.requires.unreported) c.in_ok-receive.ensures.comes.came c.in_ok-receive.ensures.comes.here
    (whole-told _ _ _ _ _ _ c.if-branch.false c.in_ok-receive.ensures.comes.got))
