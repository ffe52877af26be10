use Rattle.std.proofs.Common.{◌≡◌, ◌<◌, ℕ, List, length, get_or, arith}
use Rattle.std.proofs.lemmas.Result.{err_from_is_err_and}
use Rattle.ui_board.specs.declared.ui.Kind.{Kind}
use Rattle.ui_board.specs.declared.ui.Kind.TheVariants.{Silent}
use Rattle.session_replay.specs.Written.{lines_for}
use Rattle.session_replay.proofs.PlayersLemmas.{written-left, written-stayed, written-cut, written-of, written-blank, rest-of}
use Rattle.session_replay.proofs.players.Players.take_written.Goals as goal

below : (who n count : ℕ) (kinds : List Kind) → who < n → n ≡ count → length kinds ≡ count → who < length kinds
below who n count kinds inside counted many = omega arith

pub take_line-requires-clause-client : goal.take_line-requires-clause-client
take_line-requires-clause-client g c =
    let s = c.requires.sound in
    (get_or s.kinds c.in-Of.who Silent, lines_for (length s.kinds) c.in-Of.who s.lines, s.moment.clients c.in-Of.who (below c.in-Of.who _ _ s.kinds c.in-Of.ensures.client c.count.ensures s.many))

pub returns-in_err-take_line-in-Of-clause-takes : goal.returns-in_err-take_line-in-Of-clause-takes
returns-in_err-take_line-in-Of-clause-takes g c =
    let p = err_from_is_err_and c.from_residual.result c.from_residual.ensures.1 in
    rw (p.1, p.2) (λ kinds lines many m.
    written-cut _ _ kinds c.in-Of.who lines c.args.line.now _ _ _ _ _ m c.in_err-take_line-in-Of.ensures.alone.grows
    (below c.in-Of.who _ _ kinds c.in-Of.ensures.client c.count.ensures many)
    (written-of _ _ kinds c.args.line.now _ _ c.in-Of.who c.in-Of.from c.count.ensures many c.read_written.ensures.reading c.in-Of.is (rest-of c.args.line.now c.in-Of.from))
    c.in_err-take_line-in-Of.ensures.alone.others
    (c.in_err-take_line-in-Of.ensures.takes (get_or kinds c.in-Of.who Silent) (lines_for (length kinds) c.in-Of.who lines) (m.clients c.in-Of.who (below c.in-Of.who _ _ kinds c.in-Of.ensures.client c.count.ensures many))))

pub returns-then-branch-clause-takes : goal.returns-then-branch-clause-takes
returns-then-branch-clause-takes g c = λ kinds lines many m.
    written-left _ kinds c.in-Of.who lines c.args.line.now _ _ _ _ _ c.in_ok-take_line-in-Of.field-0 c.if-branch.true m c.in_ok-take_line-in-Of.ensures.alone.grows
    (below c.in-Of.who _ _ kinds c.in-Of.ensures.client c.count.ensures many)
    (written-of _ _ kinds c.args.line.now _ _ c.in-Of.who c.in-Of.from c.count.ensures many c.read_written.ensures.reading c.in-Of.is (rest-of c.args.line.now c.in-Of.from))
    c.in_ok-take_line-in-Of.ensures.alone.others
    (c.in_ok-take_line-in-Of.ensures.takes (get_or kinds c.in-Of.who Silent) (lines_for (length kinds) c.in-Of.who lines) (m.clients c.in-Of.who (below c.in-Of.who _ _ kinds c.in-Of.ensures.client c.count.ensures many)))

pub returns-in-Blank-clause-takes : goal.returns-in-Blank-clause-takes
returns-in-Blank-clause-takes g c = λ kinds lines many m. written-blank _ _ _ kinds lines c.args.line.now _ _ _ c.count.ensures many c.read_written.ensures.reading c.in-Blank.is m

pub returns-else-branch-clause-takes : goal.returns-else-branch-clause-takes
returns-else-branch-clause-takes g c = λ kinds lines many m.
    written-stayed _ kinds c.in-Of.who lines c.args.line.now _ _ _ _ _ c.in_ok-take_line-in-Of.field-0 c.if-branch.false m c.in_ok-take_line-in-Of.ensures.alone.grows
    (below c.in-Of.who _ _ kinds c.in-Of.ensures.client c.count.ensures many)
    (written-of _ _ kinds c.args.line.now _ _ c.in-Of.who c.in-Of.from c.count.ensures many c.read_written.ensures.reading c.in-Of.is (rest-of c.args.line.now c.in-Of.from))
    c.in_ok-take_line-in-Of.ensures.alone.others
    (c.in_ok-take_line-in-Of.ensures.takes (get_or kinds c.in-Of.who Silent) (lines_for (length kinds) c.in-Of.who lines) (m.clients c.in-Of.who (below c.in-Of.who _ _ kinds c.in-Of.ensures.client c.count.ensures many)))
